use Rattle.std.proofs.Common.{sym, ◌∙◌}
use mathlib.Core.List.{reverse}
use Rattle.layout_rules.specs.Lookups.{is_shared}
use Rattle.layout_rules.proofs.CloseLaws.{along_found, along_none}
use Rattle.layout_rules.proofs.sharing.first_shared.Goals as goal

pub returns-then-is_some-clause-value : goal.returns-then-is_some-clause-value
returns-then-is_some-clause-value g c =
    let es = c.args.graph.now.edges in
    along_found (is_shared es c.args.wanted.now) (reverse es) c.loop-place.place c.loop-place.invariant c.shared_at-found.result c.shared_at-found.ensures (sym c.is_some.ensures ∙ c.if-is_some.true)

pub loop-place-preserved : goal.loop-place-preserved
loop-place-preserved g c =
    let es = c.args.graph.now.edges in
    along_none (is_shared es c.args.wanted.now) (reverse es) c.loop-place.place c.loop-place.invariant c.shared_at-found.result c.shared_at-found.ensures (sym c.is_some.ensures ∙ c.if-is_some.false)
