use Rattle.std.proofs.Common.{◌∙◌}
use Rattle.std.proofs.lemmas.Result.{err_from_is_err_and}
use Rattle.migration.specs.Sides.{changing}
use Rattle.migration.proofs.CloseLemmas.{start_kept, start_made, start_refused}
use Rattle.migration.proofs.pending.start_move.Goals as goal

pub returns-in_err-goal-clause-gives : goal.returns-in_err-goal-clause-gives
returns-in_err-goal-clause-gives g c =
    let old = c.args.db.now in
    let p = err_from_is_err_and c.from_residual.result c.from_residual.ensures.1 in
    rw (p.1, p.2) (start_refused c.graph-graph.result.now old.graph c.layout-layout.result.now old.layout c.args.named.now c.graph-graph.ensures.graph c.layout-layout.ensures c.in_err-goal.field-0.0 c.in_err-goal.ensures.computed)

pub returns-clause-gives : goal.returns-clause-gives
returns-clause-gives g c =
    let old = c.args.db.now in
    let is = c.in_ok-changing.ensures ∙ (λ i. changing c.graph-graph.result.now.edges (c.as_slice.ensures i) (c.as_slice-2.ensures i)) in
    start_made c.graph-graph.result.now old.graph c.layout-layout.result.now old.layout c.args.named.now c.graph-graph.ensures.graph c.layout-layout.ensures c.in_ok-goal.goal c.in_ok-changing.field-0 c.in_ok-goal.ensures.computed is

pub returns-clause-pending : goal.returns-clause-pending
returns-clause-pending g c =
    let old = c.args.db.now in
    let is = c.in_ok-changing.ensures ∙ (λ i. changing c.graph-graph.result.now.edges (c.as_slice.ensures i) (c.as_slice-2.ensures i)) in
    start_kept c.graph-graph.result.now old.graph c.layout-layout.result.now old.layout c.args.named.now c.graph-graph.ensures.graph c.layout-layout.ensures c.in_ok-goal.goal c.in_ok-changing.field-0 c.graph-graph.ensures.kept.graph.edges c.graph-graph.ensures.kept.valid c.in_ok-goal.ensures.closes is
