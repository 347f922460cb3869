-- The table of one more write.
use Rattle.std.specs.Prelude.{filter_map}
use Rattle.std.proofs.Common.{◌++◌, [], ◌∷◌, ℕ, List, Option, map, take, sym, ap, append_assoc, ◌∙◌}
use Rattle.std.proofs.lemmas.List.{take_more}
use Rattle.op_any.specs.Operators.{any_meaning}
use Rattle.statements.specs.Views.{StatementView, statement_view}
use Rattle.statements.specs.declared.statement.Statement.{Statement}
use Rattle.db_state.specs.Fields.{database_for}
use Rattle.engine_sessions.specs.Accesses.{accessed}
use Rattle.tx_history.specs.Opens.{one_of}
use Rattle.tx_history.proofs.OpenLaws.{accessed_more}
use Rattle.engine_transactions.proofs.accesses.push_all_accessed.Goals as goal

pub loop-write-preserved : goal.loop-write-preserved
loop-write-preserved c =
    let h : StatementView → Option ℕ = accessed (database_for any_meaning c.args.database.now) in
    let all = c.args.writes.now in
    let at = c.loop-write.write-index in
    let one = c.write-item.result in
    let old = c.args.tables.now in
    let taken = take_more all at one c.loop-write-test.true ∙ ap (λ (x : Statement). take at all ++ x ∷ []) (sym c.write-item.is) in
    c.in_ok-push_accessed.ensures
    ∙ ap (λ (l : List ℕ). l ++ one_of (h (statement_view one))) c.loop-write.invariant
    ∙ append_assoc old (filter_map h (map statement_view (take at all))) (one_of (h (statement_view one)))
    ∙ ap (λ (l : List ℕ). old ++ l) (sym (accessed_more h (take at all) one))
    ∙ ap (λ (l : List Statement). old ++ filter_map h (map statement_view l)) (sym taken)
