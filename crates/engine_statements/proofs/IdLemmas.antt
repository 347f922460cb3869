-- Unknown references of expressions and of rows.
use Rattle.std.proofs.Common.{◌≡◌, ℕ, List, [], ◌∷◌, ◌++◌, Bool, true, false, cond, Option, Some, None, Ok, refl, ◌∙◌, ap, arith}
use Rattle.std.specs.Prelude.{◌==◌, ◌||◌, nat_le}
use Rattle.std.specs.List.{All}
use Rattle.std.proofs.lemmas.Bool.{leb-false, eqb-false}
use Rattle.par_base.specs.declared.value.Value.{Value}
use Rattle.par_base.specs.declared.value.Value.TheVariants.{Null, Int, Text, Reference}
use Rattle.expr_lang.specs.Resolved.{first_unknown_id}
use Rattle.statements.specs.Views.{Tree}
use Rattle.op_law.specs.Sound.{IsBelow, ValueSound, ValuesSound}
use Rattle.op_checks.specs.NameChecks.{known_id}
use Rattle.op_any.specs.Texts.{ValueFits}
use Rattle.ordinary_table.proofs.KeptLaws.{all_behind}
use Rattle.engine_statements.specs.Found.{first_of, unknown_in, unknown_value, unknown_in_row}

first_of-first : (a b c : Option ℕ) → first_of a (first_of b c) ≡ first_of (first_of a b) c
first_of-first None b c = refl
first_of-first (Some id) b c = refl

-- the expressions of two lists, one after the other
pub unknown_in-append : (next : ℕ) (xs ys : List Tree) → unknown_in next (xs ++ ys) ≡ first_of (unknown_in next xs) (unknown_in next ys)
unfolding unknown_in
unknown_in-append next [] ys = refl
unknown_in-append next (x ∷ xs) ys =
    ap (first_of (first_unknown_id next x)) (unknown_in-append next xs ys) ∙ first_of-first (first_unknown_id next x) (unknown_in next xs) (unknown_in next ys)

-- where none of two is there, neither is
pub first_none : (a b : Option ℕ) → first_of a b ≡ None → (a ≡ None) × (b ≡ None)
first_none None b e = (refl, e)
first_none (Some id) b e = absurd (cc)

pub known_none : (next : ℕ) (o : Option ℕ) (u : Unit {0}) → known_id next o ≡ Ok u → o ≡ None
known_none next (Some id) u e = absurd (cc)
known_none next None u e = refl

known_below : (next id : ℕ) (zero upper : Bool) → (id == 0) ≡ zero → nat_le next id ≡ upper → cond (zero || upper) (Some id) None ≡ None → IsBelow next id
known_below next id true upper is over none = absurd (cc)
known_below next id false true is over none = absurd (cc)
known_below next id false false is over none = (omega (arith, eqb-false id 0 is), omega (arith, leb-false next id over))

value_sound : (next : ℕ) (v : Value) → unknown_value next v ≡ None → ValueFits v → ValueSound next v
value_sound next Null known fits = tt
value_sound next (Int number) known fits = fits
value_sound next (Text bytes) known fits = fits
value_sound next (Reference id) known fits = known_below next id (id == 0) (nat_le next id) refl refl known

-- a row whose references are known may stand
pub row_sound : (next : ℕ) (row : List Value) → unknown_in_row next row ≡ None → All ValueFits row → ValuesSound next row
unfolding unknown_in_row
row_sound next [] known fits = tt
row_sound next (v ∷ row) known fits =
    let both = first_none (unknown_value next v) (unknown_in_row next row) known in
    (value_sound next v both.0 (fits 0 v (omega arith)), row_sound next row both.1 (all_behind ValueFits v row fits))
