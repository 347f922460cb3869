-- New rows that pass the checks of an INSERT may stand.
use Rattle.std.proofs.Common.{◌≡◌, ℕ, zero, suc, List, [], ◌∷◌, Bool, true, false, cond, Option, Some, None, Ok, Err, length, eqb, refl, arith}
use Rattle.std.specs.Prelude.{◌==◌, ◌||◌, nat_le}
use Rattle.std.specs.List.{All}
use Rattle.std.proofs.lemmas.Bool.{leb-false, eqb-false, eqb-true}
use Rattle.par_base.specs.declared.value.Value.{Value}
use Rattle.par_base.specs.declared.value.Value.TheVariants.{Null, Int, Text, Reference}
use Rattle.par_base.specs.declared.refusal.Refusal.TheVariants.{WrongCount}
use Rattle.par_base.specs.Checked.{Checked}
use Rattle.op_law.specs.Sound.{IsBelow, ValueSound, ValuesSound}
use Rattle.op_checks.specs.NameChecks.{known_id}
use Rattle.op_any.specs.Texts.{ValueFits}
use Rattle.ordinary_table.specs.Laws.{IsNewRow}
use Rattle.ordinary_table.proofs.KeptLaws.{all_behind}
use Rattle.engine_sessions.specs.Found.{first_of, unknown_in_row, unknown_in_rows, unknown_value}
use Rattle.engine_sessions.specs.Statements.{right_counts}

pub all_cons : {X : Type 0} (P : X → Type 0) (x : X) (xs : List X) → P x → All P xs → All P (x ∷ xs)
all_cons P x xs here there zero d within = here
all_cons P x xs here there (suc k) d within = there k d (omega arith)

-- where none of two is there, neither is
pub first_none : (a b : Option ℕ) → first_of a b ≡ None → (a ≡ None) × (b ≡ None)
first_none None b e = (refl, e)
first_none (Some id) b e = absurd (let no : ⊥ = cc in no)

pub known_none : (next : ℕ) (o : Option ℕ) (u : Unit {0}) → known_id next o ≡ Ok u → o ≡ None
known_none next (Some id) u e = absurd (let no : ⊥ = cc in no)
known_none next None u e = refl

known_below : (next id : ℕ) (low upper : Bool) → (id == 0) ≡ low → nat_le next id ≡ upper → cond (low || upper) (Some id) None ≡ None → IsBelow next id
known_below next id true upper is over none = absurd (let no : ⊥ = cc in no)
known_below next id false true is over none = absurd (let no : ⊥ = cc in no)
known_below next id false false is over none = (omega (arith, eqb-false id 0 is), omega (arith, leb-false next id over))

value_sound : (next : ℕ) (v : Value) → unknown_value next v ≡ None → ValueFits v → ValueSound next v
value_sound next Null known fits = tt
value_sound next (Int number) known fits = fits
value_sound next (Text bytes) known fits = fits
value_sound next (Reference id) known fits = known_below next id (id == 0) (nat_le next id) refl refl known

-- a row whose references are known may stand
row_sound : (next : ℕ) (row : List Value) → unknown_in_row next row ≡ None → All ValueFits row → ValuesSound next row
unfolding unknown_in_row
row_sound next [] known fits = tt
row_sound next (v ∷ row) known fits =
    let both = first_none (unknown_value next v) (unknown_in_row next row) known in
    (value_sound next v both.0 (fits 0 v (omega arith)), row_sound next row both.1 (all_behind ValueFits v row fits))

counted_ok : (b : Bool) (given wanted : ℕ) (rest : Checked (Unit {0})) (u : Unit {0}) → cond b rest (Err (WrongCount given wanted)) ≡ Ok u → (b ≡ true) × (rest ≡ Ok u)
counted_ok true given wanted rest u e = (refl, e)
counted_ok false given wanted rest u e = absurd (let no : ⊥ = cc in no)

-- rows that pass the checks
pub rows_new : (width next : ℕ) (rows : List (List Value)) (u : Unit {0}) → right_counts width rows ≡ Ok u → unknown_in_rows next rows ≡ None → All (All ValueFits) rows → All (IsNewRow width next) rows
unfolding right_counts unknown_in_rows
rows_new width next [] u counts known fits = λ k d within. absurd (omega (arith, within))
rows_new width next (row ∷ rows) u counts known fits =
    let counted = counted_ok (eqb (length row) width) (length row) width (right_counts width rows) u counts in
    let both = first_none (unknown_in_row next row) (unknown_in_rows next rows) known in
    let here : IsNewRow width next row = record { wide = eqb-true (length row) width counted.0; sound = row_sound next row both.0 (fits 0 row (omega arith)) } in
    all_cons (IsNewRow width next) row rows here (rows_new width next rows u counted.1 both.1 (all_behind (All ValueFits) row rows fits))
