use Rattle.std.proofs.Common.{◌<◌, ℕ, map, sym, subst}
use Rattle.std.specs.Option.{option_copied}
use Rattle.std.proofs.lemmas.List.{length-map}
use Rattle.statements.specs.Views.{op_view}
use Rattle.engine_versions.proofs.CreateLemmas.{plans_built}
use Rattle.engine_versions.proofs.create.plan_edges.Goals as goal

pub returns : goal.returns
returns c =
    let texts = map op_view c.args.texts.now in
    let some = subst (λ (n : ℕ). 0 < n) (sym (length-map c.args.texts.now op_view)) c.requires.some in
    plans_built c.args.graph.now c.args.next c.args.name.now (option_copied c.args.from) texts c.live_operators-live.ensures.graph some c.requires.fit c.in_ok-set.set c.in_ok-set.ensures c.in_ok-check_unused.ensures c.build_edges.result c.build_edges.ensures
