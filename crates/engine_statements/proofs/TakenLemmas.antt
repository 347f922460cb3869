-- What an INSERT and an UPDATE make may be written.
use Rattle.std.proofs.Common.{◌≡◌, ℕ, ◌+◌, ◌≤◌, List, ◌++◌, Option, None, Ok, length, sym, ◌∙◌, subst, arith}
use Rattle.std.specs.List.{All}
use Rattle.par_base.specs.declared.value.Value.{Value}
use Rattle.expr_lang.specs.Terms.{Term}
use Rattle.row_store.specs.Rows.{Rows}
use Rattle.statements.specs.Views.{Tree, AssignmentView}
use Rattle.op_any.specs.Operators.{AnyView, any_meaning}
use Rattle.ordinary_table.specs.Laws.{IsTable}
use Rattle.ordinary_table.specs.Written.{SetTerm, inserted, updated}
use Rattle.ordinary_table.proofs.KeptLaws.{insert_keeps, update_keeps}
use Rattle.db_state.specs.Fields.{state_for}
use Rattle.db_state.specs.declared.parts.Parts.{Parts}
use Rattle.version_model.specs.Writes.{MayWrite}
use Rattle.engine_statements.specs.Found.{unknown_in, unknown_in_rows, known_references}
use Rattle.engine_statements.specs.Statements.{right_counts, known_sets, set_values}
use Rattle.engine_statements.specs.Calls.{IsTableOf, RowFits, AssignmentFits, rows_in}
use Rattle.engine_statements.specs.declared.found.FoundTable.{FoundTable}
use Rattle.engine_statements.proofs.IdLemmas.{first_none, known_none, unknown_in-append}
use Rattle.engine_statements.proofs.InsertLemmas.{rows_new}
use Rattle.engine_statements.proofs.ExpressionLemmas.{sets_sound}
use Rattle.engine_statements.proofs.StandLemmas.{may_get}

-- new rows that pass the checks
pub insert_taken : (k : Parts AnyView) (f : FoundTable) (rows : List (List Value)) (n m : ℕ) (made : Rows) → IsTableOf k f → n ≡ k.ids.next → m ≡ n + length rows → 1 ≤ n
    → right_counts (length f.heading.now.columns) rows ≡ Ok tt → unknown_in_rows n rows ≡ None → All RowFits rows → made ≡ inserted (rows_in k f.number) rows n
    → MayWrite k.graph.edges (state_for any_meaning k) f.set f.number made m
insert_taken k f rows n m made table same more some counts known fits is =
    let width = length f.heading.now.columns in
    let stands : IsTable width n (rows_in k f.number) = subst (λ (i : ℕ). IsTable width i (rows_in k f.number)) (sym same) table.stands in
    let whole : IsTable width (n + length rows) made =
    subst (λ (l : Rows). IsTable width (n + length rows) l) (sym is) (insert_keeps width n (rows_in k f.number) rows some stands (rows_new width n rows counts known fits)) in
    may_get k f made m table (subst (λ (i : ℕ). IsTable width i made) (sym more) whole) (omega (arith, same, more))

-- rows with SETs that pass the checks
pub update_taken : (k : Parts AnyView) (f : FoundTable) (assignments : List AssignmentView) (filter : List Tree) (sets : List SetTerm) (condition : Option (Term ℕ)) (n : ℕ) (made : Rows) (u : Unit {0}) → IsTableOf k f → n ≡ k.ids.next
    → known_sets f.heading.now.columns assignments ≡ Ok sets → known_references n (set_values assignments ++ filter) ≡ Ok u → All AssignmentFits assignments → made ≡ updated (rows_in k f.number) sets condition
    → MayWrite k.graph.edges (state_for any_meaning k) f.set f.number made n
update_taken k f assignments filter sets condition n made u table same read known fits is =
    let width = length f.heading.now.columns in
    let all = known_none n (unknown_in n (set_values assignments ++ filter)) u known in
    let both = first_none (unknown_in n (set_values assignments)) (unknown_in n filter) (sym (unknown_in-append n (set_values assignments) filter) ∙ all) in
    let stands : IsTable width n (rows_in k f.number) = subst (λ (i : ℕ). IsTable width i (rows_in k f.number)) (sym same) table.stands in
    let whole : IsTable width n made =
    subst (λ (l : Rows). IsTable width n l) (sym is) (update_keeps width n (rows_in k f.number) sets condition stands (sets_sound n f.heading.now.columns assignments sets both.0 fits read)) in
    may_get k f made n table whole (omega (arith, same))
