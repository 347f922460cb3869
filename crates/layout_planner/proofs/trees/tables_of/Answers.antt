use mathlib.Core.List.{reverse}
use Rattle.layout_rules.proofs.PassLaws.{past_edges}
use Rattle.layout_planner.specs.inner.Walked.{is_walked}
use Rattle.layout_planner.proofs.CostLemmas.{tables_end, tables_step}
use Rattle.layout_planner.proofs.trees.tables_of.Goals as goal

pub loop-place-preserved : goal.loop-place-preserved
loop-place-preserved g c =
    let l = c.loop-place in
    let es = c.args.graph.now.edges in
    tables_step (λ e. is_walked c.args.steps.now e.number) (reverse es) l.place l.made.items _ l.invariant c.in_ok-push_tables.ensures

pub returns : goal.returns
returns g c =
    let l = c.loop-place in
    let es = c.args.graph.now.edges in
    tables_end (λ e. is_walked c.args.steps.now e.number) (reverse es) l.place l.made.items (past_edges es l.place _ c.live_operators-place-end.ensures.count c.loop-place-test.false) l.invariant
