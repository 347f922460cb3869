-- New rows, and the identifiers that they get.
use Rattle.std.proofs.Common.{◌≡◌, ℕ, ◌+◌, ◌<◌, List, [], ◌∷◌, ◌++◌, Bool, true, false, cond, Ok, Err, None, length, get_or, take, refl, ◌∙◌, ap, arith, eqb}
use Rattle.std.specs.List.{All}
use Rattle.std.proofs.lemmas.Bool.{eqb-true}
use Rattle.std.proofs.lemmas.List.{map-append, take_more, length-take-le}
use Rattle.par_base.specs.declared.value.Value.{Value}
use Rattle.par_base.specs.declared.refusal.Refusal.TheVariants.{WrongCount}
use Rattle.row_store.specs.Rows.{Rows}
use Rattle.par_base.specs.Checked.{Checked}
use Rattle.ordinary_table.specs.Written.{numbered}
use Rattle.ordinary_table.specs.Laws.{IsNewRow}
use Rattle.ordinary_table.proofs.KeptLaws.{all_behind}
use Rattle.engine_statements.specs.Found.{unknown_in_row, unknown_in_rows}
use Rattle.engine_statements.specs.Statements.{ids_of, right_counts, places_from}
use Rattle.engine_statements.specs.Calls.{RowFits}
use Rattle.engine_statements.proofs.IdLemmas.{first_none, row_sound}
use Rattle.engine_statements.proofs.ExpressionLemmas.{all_cons}

-- one row more
numbered-push : (next : ℕ) (rows : List (List Value)) (row : List Value) → numbered next (rows ++ row ∷ []) ≡ numbered next rows ++ (next + length rows, row) ∷ []
unfolding numbered
numbered-push next [] row = ap (λ (n : ℕ). (n, row) ∷ []) (omega arith)
numbered-push next (r ∷ rows) row =
    ap (λ (l : Rows). (next, r) ∷ l) (numbered-push (next + 1) rows row ∙ ap (λ (n : ℕ). numbered (next + 1) rows ++ (n, row) ∷ []) (omega arith))

-- the identifiers of the rows up to a place, and the one there
pub ids_more : (next at : ℕ) (rows : List (List Value)) → at < length rows → ids_of (numbered next (take (at + 1) rows)) ≡ ids_of (numbered next (take at rows)) ++ (next + at) ∷ []
ids_more next at rows within =
    let row = get_or rows at [] in
    ap (λ (l : List (List Value)). ids_of (numbered next l)) (take_more rows at [] within)
    ∙ ap ids_of (numbered-push next (take at rows) row)
    ∙ map-append (λ (r : ℕ × List Value). r.0) (numbered next (take at rows)) ((next + length (take at rows), row) ∷ [])
    ∙ ap (λ (n : ℕ). ids_of (numbered next (take at rows)) ++ (next + n) ∷ []) (length-take-le at rows (omega arith))

-- one name more
places-push : (place : ℕ) (names : List (List ℕ)) (name : List ℕ) → places_from place (names ++ name ∷ []) ≡ places_from place names ++ (place + length names) ∷ []
unfolding places_from
places-push place [] name = ap (λ (n : ℕ). n ∷ []) (omega arith)
places-push place (n ∷ names) name =
    ap (λ (l : List ℕ). place ∷ l) (places-push (place + 1) names name ∙ ap (λ (k : ℕ). places_from (place + 1) names ++ k ∷ []) (omega arith))

-- the places up to one, and that one
pub places_more : (at : ℕ) (names : List (List ℕ)) → at < length names → places_from 0 (take (at + 1) names) ≡ places_from 0 (take at names) ++ at ∷ []
places_more at names within =
    ap (places_from 0) (take_more names at [] within)
    ∙ places-push 0 (take at names) (get_or names at [])
    ∙ ap (λ (n : ℕ). places_from 0 (take at names) ++ n ∷ []) (omega (arith, length-take-le at names (omega arith)))

counted_ok : (b : Bool) (given wanted : ℕ) (rest : Checked (Unit {0})) → cond b rest (Err (WrongCount given wanted)) ≡ Ok tt → (b ≡ true) × (rest ≡ Ok tt)
counted_ok true given wanted rest e = (refl, e)
counted_ok false given wanted rest e = absurd (cc)

-- rows that pass the checks of an INSERT may be put into a table
pub rows_new : (width next : ℕ) (rows : List (List Value)) → right_counts width rows ≡ Ok tt → unknown_in_rows next rows ≡ None → All RowFits rows → All (IsNewRow width next) rows
unfolding right_counts unknown_in_rows
rows_new width next [] counts known fits = λ k d within. absurd (omega (arith, within))
rows_new width next (row ∷ rows) counts known fits =
    let counted = counted_ok (eqb (length row) width) (length row) width (right_counts width rows) counts in
    let both = first_none (unknown_in_row next row) (unknown_in_rows next rows) known in
    let here : IsNewRow width next row = record { wide = eqb-true (length row) width counted.0; sound = row_sound next row both.0 (fits 0 row (omega arith)) } in
    all_cons (IsNewRow width next) row rows here (rows_new width next rows counted.1 both.1 (all_behind RowFits row rows fits))
