-- The tables that were read, and then those that are written.
use Rattle.std.specs.Prelude.{filter_map, IfOk}
use Rattle.std.proofs.Common.{◌≡◌, ◌++◌, ℕ, List, map, ap, subst, ◌∙◌}
use Rattle.op_any.specs.Operators.{any_meaning}
use Rattle.statements.specs.Views.{statement_view}
use Rattle.statements.specs.declared.statement.Statement.{Statement}
use Rattle.db_state.specs.Fields.{database_for}
use Rattle.db_state.specs.declared.parts.Parts.{Parts}
use Rattle.op_any.specs.Operators.{AnyView}
use Rattle.layout_planner.specs.declared.planning.TableCount.{TableCount}
use Rattle.engine_sessions.specs.Accesses.{accessed}
use Rattle.engine_transactions.specs.Act.{raised_all}
use Rattle.tx_history.specs.declared.table_read.TableRead.{TableRead}
use Rattle.engine_transactions.proofs.accesses.count_all.Goals as goal

pub returns : goal.returns
returns c =
    let tables = c.as_slice.ensures
    ∙ c.in_ok-push_all_accessed.ensures
    ∙ ap (λ (l : List ℕ). l ++ filter_map (accessed (database_for any_meaning c.database-database.result.now)) (map statement_view c.writes.result.now)) (c.in_ok-tables.ensures ∙ ap (λ (l : List (TableRead × ℕ)). map (λ (r : TableRead × ℕ). r.0.table) l) c.reads.ensures)
    ∙ ap (λ (k : Parts AnyView). map (λ (r : TableRead × ℕ). r.0.table) c.args.transaction.now.reads ++ filter_map (accessed (database_for any_meaning k)) (map statement_view c.writes.result.now)) (c.database-database.ensures.database ∙ c.engine.ensures)
    ∙ ap (λ (l : List Statement). map (λ (r : TableRead × ℕ). r.0.table) c.args.transaction.now.reads ++ filter_map (accessed (database_for any_meaning c.args.sessions.now.mover.database)) (map statement_view l)) c.writes.ensures in
    let all = ap (λ (l : List TableCount). raised_all l c.as_slice.result.now) c.counts.ensures ∙ ap (λ (l : List ℕ). raised_all c.args.sessions.now.counts l) tables in
    subst (λ (end : List TableCount). IfOk c.raise_all.result (λ made. made ≡ end)) all c.raise_all.ensures
