-- What an answered INSERT, UPDATE or DELETE makes of its table, by identifier.
use Rattle.std.proofs.Common.{◌≡◌, ℕ, ◌+◌, List, [], ◌∷◌, ◌++◌, length, refl, sym, subst, arith}
use Rattle.std.specs.Prelude.{Option, Some, None, Ok, Err}
use Rattle.std.specs.List.{All}
use Rattle.std.proofs.lemmas.Bool.Decides.{nat_tests}
use Rattle.par_base.specs.Checked.{Checked, ◌then◌}
use Rattle.par_base.specs.declared.value.Value.{Value}
use Rattle.par_base.specs.declared.value.Value.TheVariants.{Null, Int, Text, Reference}
use Rattle.expr_lang.specs.Terms.{Term}
use Rattle.row_store.specs.Rows.{AreBelow, RiseFrom}
use Rattle.op_checks.specs.NameChecks.{known_id, repeated, unrepeated}
use Rattle.ordinary_table.specs.Written.{SetTerm, chosen_count, deleted, inserted, numbered, updated}
use Rattle.ordinary_table.proofs.RowOfLaws.{row_of_deleted, row_of_inserted, row_of_updated}
use Rattle.engine_state.specs.declared.reply.Reply.TheVariants.{Inserted, Updated, Deleted}
use Rattle.engine_statements.specs.Found.{Found, condition_list, found, known_condition, known_references, unknown_in_row, unknown_in_rows, unknown_value}
use Rattle.engine_statements.specs.Laws.{DeletesByIdentifier, DeletesChosen, InsertsByIdentifier, InsertsRows, IsDrawn, UpdatesByIdentifier, UpdatesChosen}
use Rattle.engine_statements.specs.Statements.{Planned, columns_of, ids_of, known_sets, right_counts, rows_of, set_columns, set_values}
use Rattle.engine_statements.proofs.ExpressionLemmas.{all_cons, ok_same}
use Rattle.engine_statements.proofs.IdLemmas.{first_none}

-- where both checks give something, so does the first of them, and then the second
then_ok : {A B : Type 0} (a : Checked A) (f : A → Checked B) (y : B) → (a then f) ≡ Ok y → (x : A) × (a ≡ Ok x) × (f x ≡ Ok y)
then_ok (Ok x) f y e = (x, refl, e)
then_ok (Err r) f y e = absurd cc

-- ---- references of new rows

value_drawn : (next : ℕ) (value : Value) → unknown_value next value ≡ None → IsDrawn next value
value_drawn next Null e = tt
value_drawn next (Int number) e = tt
value_drawn next (Text bytes) e = tt
value_drawn next (Reference id) e = grind (arith, nat_tests)

row_drawn : (next : ℕ) (row : List Value) → unknown_in_row next row ≡ None → All (IsDrawn next) row
unfolding unknown_in_row
row_drawn next [] e = λ k d within. absurd (omega (arith, within))
row_drawn next (value ∷ values) e =
    let both = first_none (unknown_value next value) (unknown_in_row next values) e in
    all_cons (IsDrawn next) value values (value_drawn next value both.0) (row_drawn next values both.1)

rows_drawn : (next : ℕ) (rows : List (List Value)) → unknown_in_rows next rows ≡ None → All (All (IsDrawn next)) rows
unfolding unknown_in_rows
rows_drawn next [] e = λ k d within. absurd (omega (arith, within))
rows_drawn next (row ∷ rows) e =
    let both = first_none (unknown_in_row next row) (unknown_in_rows next rows) e in
    all_cons (All (IsDrawn next)) row rows (row_drawn next row both.0) (rows_drawn next rows both.1)

-- a check of identifiers that gives something found none
none_unknown : (next : ℕ) (unknown : Option ℕ) (u : Unit {0}) → known_id next unknown ≡ Ok u → unknown ≡ None
none_unknown next None u e = refl
none_unknown next (Some id) u e = absurd cc

-- ---- the three statements

pub inserts_rows : InsertsByIdentifier
inserts_rows s name rows p e below =
    let found_it = then_ok (found s name) (λ f.
    right_counts (length (columns_of f)) rows then λ _.
    known_id s.state.next (unknown_in_rows s.state.next rows) then λ _.
    Ok (record { found = f; rows = inserted (rows_of s f) rows s.state.next; next = s.state.next + length rows; reply = Inserted (ids_of (numbered s.state.next rows)) })) p e in
    let f : Found = found_it.0 in
    let made : Planned = record { found = f; rows = inserted (rows_of s f) rows s.state.next; next = s.state.next + length rows; reply = Inserted (ids_of (numbered s.state.next rows)) } in
    let counted = then_ok (right_counts (length (columns_of f)) rows) (λ _. known_id s.state.next (unknown_in_rows s.state.next rows) then λ _. Ok made) p found_it.2 in
    let known = then_ok (known_id s.state.next (unknown_in_rows s.state.next rows)) (λ _. Ok made) p counted.2 in
    let same : made ≡ p = ok_same made p known.2 in
    let none = none_unknown s.state.next (unknown_in_rows s.state.next rows) known.0 known.1 in
    subst (λ (q : Planned). InsertsRows s rows q) same (record {
      drawn = rows_drawn s.state.next rows none;
      rows = λ id. row_of_inserted (rows_of s f) rows s.state.next id (subst (λ (q : Planned). AreBelow (rows_of s q.found) s.state.next) (sym same) below);
      ids = refl;
    })

pub updates_chosen : UpdatesByIdentifier
updates_chosen s name assignments filter p e =
    let make : Found → List SetTerm → Option (Term ℕ) → Planned = λ f sets condition. record { found = f; rows = updated (rows_of s f) sets condition; next = s.state.next; reply = Updated (chosen_count (rows_of s f) condition) } in
    let found_it = then_ok (found s name) (λ f.
    known_sets (columns_of f) assignments then λ sets.
    known_condition (columns_of f) filter then λ condition.
    unrepeated (repeated [] (set_columns assignments)) then λ _.
    known_references s.state.next (set_values assignments ++ condition_list filter) then λ _.
    Ok (make f sets condition)) p e in
    let f : Found = found_it.0 in
    let set_it = then_ok (known_sets (columns_of f) assignments) (λ sets.
    known_condition (columns_of f) filter then λ condition.
    unrepeated (repeated [] (set_columns assignments)) then λ _.
    known_references s.state.next (set_values assignments ++ condition_list filter) then λ _.
    Ok (make f sets condition)) p found_it.2 in
    let read = then_ok (known_condition (columns_of f) filter) (λ condition.
    unrepeated (repeated [] (set_columns assignments)) then λ _.
    known_references s.state.next (set_values assignments ++ condition_list filter) then λ _.
    Ok (make f set_it.0 condition)) p set_it.2 in
    let made : Planned = make f set_it.0 read.0 in
    let once = then_ok (unrepeated (repeated [] (set_columns assignments))) (λ _. known_references s.state.next (set_values assignments ++ condition_list filter) then λ _. Ok made) p read.2 in
    let known = then_ok (known_references s.state.next (set_values assignments ++ condition_list filter)) (λ _. Ok made) p once.2 in
    subst (λ (q : Planned). UpdatesChosen s assignments filter q) (ok_same made p known.2) (record {
      sets = set_it.0;
      condition = read.0;
      known_sets = set_it.1;
      known_condition = read.1;
      rows = λ id. row_of_updated (rows_of s f) set_it.0 read.0 id;
      count = refl;
    })

pub deletes_chosen : DeletesByIdentifier
deletes_chosen s name filter p e rises =
    let make : Found → Option (Term ℕ) → Planned = λ f condition. record { found = f; rows = deleted (rows_of s f) condition; next = s.state.next; reply = Deleted (chosen_count (rows_of s f) condition) } in
    let found_it = then_ok (found s name) (λ f.
    known_condition (columns_of f) filter then λ condition.
    known_references s.state.next (condition_list filter) then λ _.
    Ok (make f condition)) p e in
    let f : Found = found_it.0 in
    let read = then_ok (known_condition (columns_of f) filter) (λ condition. known_references s.state.next (condition_list filter) then λ _. Ok (make f condition)) p found_it.2 in
    let made : Planned = make f read.0 in
    let known = then_ok (known_references s.state.next (condition_list filter)) (λ _. Ok made) p read.2 in
    let same : made ≡ p = ok_same made p known.2 in
    subst (λ (q : Planned). DeletesChosen s filter q) same (record {
      condition = read.0;
      known_condition = read.1;
      rows = λ id. row_of_deleted 0 (rows_of s f) read.0 id (subst (λ (q : Planned). RiseFrom 0 (rows_of s q.found)) (sym same) rises);
      count = refl;
    })
