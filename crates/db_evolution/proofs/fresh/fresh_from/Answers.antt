use Rattle.std.proofs.Common.{sym, subst, ◌∙◌, ◌≤◌, ℕ}
use Rattle.std.proofs.lemmas.List.{length-reverse}
use mathlib.Core.List.{reverse}
use Rattle.db_evolution.proofs.FreshLemmas.{all_begun, next_begun}
use Rattle.db_evolution.proofs.fresh.fresh_from.Goals as goal

pub loop-place-preserved : goal.loop-place-preserved
loop-place-preserved g c =
    let xs = reverse c.args.graph.now.edges in
    next_begun xs c.args.first c.loop-place.place c.loop-place.fresh c.push_edge.new.fresh _ c.edge_at.ensures c.loop-place.invariant c.in_ok-push_edge.ensures

pub returns-clause-adds : goal.returns-clause-adds
returns-clause-adds g c =
    let es = c.args.graph.now.edges in
    let past = subst (λ (n : ℕ). n ≤ c.loop-place.place) (c.live_operators-place-end.ensures.count ∙ sym (length-reverse es)) c.loop-place-test.false in
    all_begun (reverse es) c.args.first c.loop-place.place c.loop-place.fresh past c.loop-place.invariant
