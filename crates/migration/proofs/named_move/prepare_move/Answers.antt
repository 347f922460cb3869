use Rattle.std.proofs.Common.{Ok, Err, sym, ap, ◌∙◌}
use Rattle.std.proofs.lemmas.Result.{err_from_is_err_and}
use Rattle.version_graph.specs.Forest.{forest}
use Rattle.version_graph.proofs.WalkLaws.{is_forest}
use Rattle.layout_rules.specs.Closing.{named_tables, named_trees}
use Rattle.layout_rules.specs.declared.layout.Layout.{Layout}
use Rattle.layout_rules.proofs.NeededLaws.{closed_valid}
use Rattle.migration.specs.Sides.{flip_count}
use Rattle.migration.proofs.CloseLemmas.{closes_into, closes_there, computed_refused, gives_there, move_refused}
use Rattle.migration.proofs.named_move.prepare_move.Goals as goal

pub returns-in_err-goal-clause-prepares : goal.returns-in_err-goal-clause-prepares
returns-in_err-goal-clause-prepares g c =
    let old = c.args.db.now in
    let p = err_from_is_err_and c.from_residual.result c.from_residual.ensures.1 in
    let fault = c.in_err-goal.field-0.0 in
    let closes = closes_there c.graph.result.now old.graph c.layout.result.now old.layout c.args.named.now (Err fault) c.graph.ensures.graph c.layout.ensures c.in_err-goal.ensures.closes in
    rw (p.1, p.2) (move_refused g.O.Operator.meaning old c.args.named.now fault closes)

pub prepare-requires-clause-valid : goal.prepare-requires-clause-valid
prepare-requires-clause-valid g c =
    let old = c.args.db.now in
    let named = c.args.named.now in
    let base = c.graph.ensures.kept in
    let closes = closes_there c.graph.result.now old.graph c.layout.result.now old.layout named (Ok c.in_ok-goal.goal) c.graph.ensures.graph c.layout.ensures c.in_ok-goal.ensures.closes in
    closed_valid (forest old.graph.edges) (is_forest old.graph.edges base.graph.edges) (named_trees old.graph named) (named_tables old.graph named) old.layout.operators c.in_ok-goal.goal.operators base.valid closes.2 closes.1

pub returns-clause-prepares : goal.returns-clause-prepares
returns-clause-prepares g c =
    let old = c.args.db.now in
    let named = c.args.named.now in
    let closes = closes_there c.graph.result.now old.graph c.layout.result.now old.layout named (Ok c.in_ok-goal.goal) c.graph.ensures.graph c.layout.ensures c.in_ok-goal.ensures.closes in (
      closes_into old.graph old.layout.operators named c.in_ok-goal.goal c.in_ok-prepare.field-0.layout (sym c.in_ok-prepare.ensures.layout) closes,
      c.in_ok-prepare.ensures.leads,
      c.in_ok-prepare.ensures.flips ∙ ap (λ (l : Layout). flip_count old.graph.edges old.layout.operators l.operators) (sym c.in_ok-prepare.ensures.layout),
    )

pub returns-in_err-goal-clause-computed : goal.returns-in_err-goal-clause-computed
returns-in_err-goal-clause-computed g c =
    let old = c.args.db.now in
    let p = err_from_is_err_and c.from_residual.result c.from_residual.ensures.1 in
    let fault = c.in_err-goal.field-0.0 in
    let gives = gives_there c.graph.result.now old.graph c.layout.result.now old.layout c.args.named.now (Err fault) c.graph.ensures.graph c.layout.ensures c.in_err-goal.ensures.computed in
    rw (p.1, p.2) (computed_refused old c.args.named.now fault gives)

pub returns-clause-computed : goal.returns-clause-computed
returns-clause-computed g c =
    let old = c.args.db.now in
    let gives = gives_there c.graph.result.now old.graph c.layout.result.now old.layout c.args.named.now (Ok c.in_ok-goal.goal) c.graph.ensures.graph c.layout.ensures c.in_ok-goal.ensures.computed in
    gives ∙ ap (λ (l : Layout). Ok l.operators) (sym c.in_ok-prepare.ensures.layout)
