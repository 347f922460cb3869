-- Columns of joined rows, and what an equality of two says.
use Rattle.std.proofs.Common.{◌≡◌, ℕ, ℤ, zero, suc, ◌+◌, ◌<◌, ◌==◌, ◌&&◌, List, [], ◌∷◌, Bool, true, false, length, Option, Some, None, refl, ap, sym, ◌∙◌, arith}
use Rattle.std.specs.Prelude.{option_map, IfSome, nat_lt, ◌-◌, ◌||◌, if◌then◌else◌}
use Rattle.std.specs.Ordering.{int_cmp, nat_cmp, is_eq, ordering_then}
use Rattle.std.specs.declared.cmp.Ordering.{Ordering}
use Rattle.std.specs.declared.cmp.Ordering.TheVariants as order
use Rattle.std.proofs.lemmas.Cmp.{ranked, int_ranked}
use Rattle.std.specs.Cmp.Lexicographic.{slice_cmp}
use Rattle.std.proofs.lemmas.Bool.{and_parts, false≢true, ltb-true}
use Rattle.par_base.specs.declared.value.Value.{Value}
use Rattle.par_base.specs.declared.value.Value.TheVariants.{Null, Int, Text, Reference}
use Rattle.expr_lang.specs.Terms.{Term, Literal, Column, Unary, Binary}
use Rattle.expr_lang.specs.Val.{val}
use Rattle.expr_lang.specs.Operations.{compared, is_true, truth}
use Rattle.expr_lang.specs.declared.tree.BinaryOp.{BinaryOp}
use Rattle.expr_lang.specs.declared.tree.BinaryOp.TheVariants as op
use Rattle.row_parts.specs.RowCells.{by_test}
use Rattle.row_parts.specs.Places.{filled, row_of_both as joined_row, value_for, value_of_both}
use Rattle.row_parts.specs.RowCells.{value_or}
use Rattle.row_parts.specs.RowEdits.{value_at}
use Rattle.pair_rows.specs.Shown.{Joining}
use Rattle.equal_columns.specs.Columns.{AreColumns, IsColumn, MakesEqual, both_of, column_at, column_if, columns_at, columns_by, equal_by, equal_in, or_else, place_in, place_named}

-- the values that were filled in
at_filled : (count from place : ℕ) (f : ℕ → Value) → place < count → value_at place (filled count from f) ≡ f (from + place)
at_filled zero from place f h = absurd (omega arith)
at_filled (suc count) from zero f h = ap f (omega arith)
at_filled (suc count) from (suc place) f h = at_filled count (from + 1) place f (omega arith) ∙ ap f (omega arith)

-- a place that isn't in a list has no value there
none_for : (ps : List ℕ) (vs : List Value) (place : ℕ) → place_in ps place ≡ None → value_for ps vs place ≡ None
none_for [] vs place none = refl
none_for (p ∷ ps) [] place none = refl
none_for (p ∷ ps) (v ∷ vs) place none =
    by_test (p == place)
    (λ e. let bad : Some 0 ≡ None = rw e at none in absurd (cc))
    (λ e. let rest : option_map (λ at. suc at) (place_in ps place) ≡ None = rw e at none in rw e (none_for ps vs place (no_more (place_in ps place) rest)))
  where
    no_more : (o : Option ℕ) → option_map (λ (at : ℕ). suc at) o ≡ None → o ≡ None
    no_more None h = refl
    no_more (Some x) h = absurd (cc)

-- past the end of no values
null_past : (place : ℕ) → value_at place [] ≡ Null
null_past zero = refl
null_past (suc place) = refl

-- a place that stands first at one of a list has the value there

further : (ps : List ℕ) (v : Value) (vs : List Value) (place column : ℕ) (o : Option ℕ) → ((k : ℕ) → o ≡ Some k → value_or Null (value_for ps vs place) ≡ value_at k vs)
    → option_map (λ (at : ℕ). suc at) o ≡ Some column → value_or Null (value_for ps vs place) ≡ value_at column (v ∷ vs)
further ps v vs place column None is h = absurd (cc)
further ps v vs place column (Some k) is h = let next : suc k ≡ column = cc in is k refl ∙ ap (λ (i : ℕ). value_at i (v ∷ vs)) next

value_here : (ps : List ℕ) (vs : List Value) (place column : ℕ) → place_in ps place ≡ Some column → value_or Null (value_for ps vs place) ≡ value_at column vs
value_here [] vs place column here = absurd (cc)
value_here (p ∷ ps) [] place column here = sym (null_past column)
value_here (p ∷ ps) (v ∷ vs) place column here =
    by_test (p == place)
    (λ e. let some : Some 0 ≡ Some column = rw e at here in let first : 0 ≡ column = cc in rw e (ap (λ (k : ℕ). value_at k (v ∷ vs)) first))
    (λ e.
    let rest : option_map (λ at. suc at) (place_in ps place) ≡ Some column = rw e at here in
    rw e (further ps v vs place column (place_in ps place) (λ k at. value_here ps vs place k at) rest))

module _ (first second : List ℕ) (place column : ℕ) where
  -- a column of the first table
  pub first_column : IsColumn first second place column → (x y : List Value) → value_at place (joined_row first second x y) ≡ value_at column x
  first_column is x y =
      at_filled (length first + length second) 0 place (value_of_both first second x y) is.within
      ∙ ap (value_of_both first second x y) (omega arith)
      ∙ ap (λ (o : Option Value). value_or (value_or Null o) (value_for first x place)) (none_for second y place is.not_there)
      ∙ value_here first x place column is.here

  -- a column of the second
  pub second_column : IsColumn second first place column → (x y : List Value) → value_at place (joined_row first second x y) ≡ value_at column y
  second_column is x y =
      at_filled (length first + length second) 0 place (value_of_both first second x y) (let h = is.within in omega (arith, h))
      ∙ ap (value_of_both first second x y) (omega arith)
      ∙ ap (λ (o : Option Value). value_or (value_or Null (value_for second y place)) o) (none_for first x place is.not_there)
      ∙ value_here second y place column is.here

-- what is compared as equal is

of_truth : (b : Bool) → is_true (truth b) ≡ true → b ≡ true
of_truth true h = refl
of_truth false h = absurd (false≢true h)

eq_is : (r : Ordering) → is_eq r ≡ true → r ≡ order.Equal
eq_is order.Less h = absurd (false≢true h)
eq_is order.Equal h = refl
eq_is order.Greater h = absurd (false≢true h)

nat_same : (x y : ℕ) → nat_cmp x y ≡ order.Equal → x ≡ y
nat_same x y h = ranked x y order.Equal (sym h)

int_same : (x y : ℤ) → int_cmp x y ≡ order.Equal → x ≡ y
int_same x y h = int_ranked x y order.Equal (sym h)

both_equal : (r s : Ordering) → ordering_then r s ≡ order.Equal → (r ≡ order.Equal) × (s ≡ order.Equal)
both_equal order.Less s h = cc
both_equal order.Equal s h = (refl, h)
both_equal order.Greater s h = cc

bytes_same : (xs ys : List ℕ) → slice_cmp nat_cmp xs ys ≡ order.Equal → xs ≡ ys
bytes_same [] [] h = refl
bytes_same [] (y ∷ ys) h = cc
bytes_same (x ∷ xs) [] h = cc
bytes_same (x ∷ xs) (y ∷ ys) h =
    let both = both_equal (nat_cmp x y) (slice_cmp nat_cmp xs ys) h in
    let first = nat_same x y both.0 in
    let rest = bytes_same xs ys both.1 in
    cc

equal_same : (v w : Value) → is_true (compared is_eq v w) ≡ true → v ≡ w
equal_same Null Null h = refl
equal_same Null (Int y) h = absurd (false≢true h)
equal_same Null (Text b) h = absurd (false≢true h)
equal_same Null (Reference n) h = absurd (false≢true h)
equal_same (Int x) Null h = absurd (false≢true h)
equal_same (Int x) (Int y) h = ap (λ (n : ℤ). Int n) (int_same x y (eq_is (int_cmp x y) (of_truth (is_eq (int_cmp x y)) h)))
equal_same (Int x) (Text b) h = absurd (false≢true h)
equal_same (Int x) (Reference n) h = absurd (false≢true h)
equal_same (Text a) Null h = absurd (false≢true h)
equal_same (Text a) (Int y) h = absurd (false≢true h)
equal_same (Text a) (Text b) h = ap (λ (bs : List ℕ). Text bs) (bytes_same a b (eq_is (slice_cmp nat_cmp a b) (of_truth (is_eq (slice_cmp nat_cmp a b)) h)))
equal_same (Text a) (Reference n) h = absurd (false≢true h)
equal_same (Reference m) Null h = absurd (false≢true h)
equal_same (Reference m) (Int y) h = absurd (false≢true h)
equal_same (Reference m) (Text b) h = absurd (false≢true h)
equal_same (Reference m) (Reference n) h = ap (λ (id : ℕ). Reference id) (nat_same m n (eq_is (nat_cmp m n) (of_truth (is_eq (nat_cmp m n)) h)))

module _ (j : Joining) (p q x y : ℕ) where
  -- an equality of two columns, the first of S
  pub columns_equal : AreColumns j p q x y → MakesEqual j (Binary op.Equal (Column p) (Column q)) x y
  unfolding val
  columns_equal are row other h =
      let r = joined_row j.first j.second row other in
      sym (are.first row other) ∙ equal_same (value_at p r) (value_at q r) h ∙ are.second row other

  -- or the second
  pub columns_turned : AreColumns j q p x y → MakesEqual j (Binary op.Equal (Column p) (Column q)) x y
  unfolding val
  columns_turned are row other h =
      let r = joined_row j.first j.second row other in
      sym (are.first row other) ∙ sym (equal_same (value_at p r) (value_at q r) h) ∙ are.second row other

module _ (j : Joining) (t u : Term ℕ) (x y : ℕ) where
  -- what either of two conditions makes equal both do
  pub and_left : MakesEqual j t x y → MakesEqual j (Binary op.And t u) x y
  unfolding val
  and_left makes row other h =
      let r = joined_row j.first j.second row other in
      makes row other (and_parts (is_true (val t r)) (is_true (val u r)) (of_truth (is_true (val t r) && is_true (val u r)) h)).0

  pub and_right : MakesEqual j u x y → MakesEqual j (Binary op.And t u) x y
  unfolding val
  and_right makes row other h =
      let r = joined_row j.first j.second row other in
      makes row other (and_parts (is_true (val t r)) (is_true (val u r)) (of_truth (is_true (val t r) && is_true (val u r)) h)).1

-- ---- the columns that are found

module _ (own others : List ℕ) (place column : ℕ) where
  in_row : (a b : Bool) → nat_lt place (length own) ≡ a → nat_lt (place - length own) (length others) ≡ b → (a || b) ≡ true → place < length own + length others
  in_row true b one two row = let h = ltb-true place (length own) one in omega (arith, h)
  in_row false true one two row = let h = ltb-true (place - length own) (length others) two in omega (arith, h)
  in_row false false one two row = absurd (false≢true row)

  inside : (b : Bool) → (nat_lt place (length own) || nat_lt (place - length own) (length others)) ≡ b → place_in others place ≡ None → (if b then place_in own place else None) ≡ Some column → IsColumn own others place column
  inside true row none found =
      record {
        here = found;
        not_there = none;
        within = in_row (nat_lt place (length own)) (nat_lt (place - length own) (length others)) refl refl row;
      }
  inside false row none found = absurd (cc)

  alone : (o : Option ℕ) → place_in others place ≡ o → column_if o (if nat_lt place (length own) || nat_lt (place - length own) (length others) then place_in own place else None) ≡ Some column → IsColumn own others place column
  alone None is found = inside (nat_lt place (length own) || nat_lt (place - length own) (length others)) refl is found
  alone (Some other) is found = absurd (cc)

  column_is : column_at own others place ≡ Some column → IsColumn own others place column
  column_is found = alone (place_in others place) refl found

columns_are : (j : Joining) (p q : ℕ) → IfSome (columns_at j p q) (λ both. AreColumns j p q both.0 both.1)
columns_are j p q = both_are (column_at j.first j.second p) (column_at j.second j.first q) refl refl
  where
    both_are : (x y : Option ℕ) → column_at j.first j.second p ≡ x → column_at j.second j.first q ≡ y → IfSome (both_of x y) (λ both. AreColumns j p q both.0 both.1)
    both_are None y first second = tt
    both_are (Some x) None first second = tt
    both_are (Some x) (Some y) first second = record {
      first = first_column j.first j.second p x (column_is j.first j.second p x first);
      second = second_column j.first j.second q y (column_is j.second j.first q y second);
    }

-- of an equality
sides_make : (j : Joining) (t u : Term ℕ) → IfSome (columns_by j (place_named t) (place_named u)) (λ both. MakesEqual j (Binary op.Equal t u) both.0 both.1)
sides_make j (Literal v) u = tt
sides_make j (Unary o t) u = tt
sides_make j (Binary o s t) u = tt
sides_make j (Column p) (Literal v) = tt
sides_make j (Column p) (Unary o u) = tt
sides_make j (Column p) (Binary o t u) = tt
sides_make j (Column p) (Column q) = either (columns_at j p q) (columns_at j q p) (columns_are j p q) (columns_are j q p)
  where
    either : (one two : Option (ℕ × ℕ)) → IfSome one (λ both. AreColumns j p q both.0 both.1) → IfSome two (λ both. AreColumns j q p both.0 both.1)
        → IfSome (or_else one two) (λ both. MakesEqual j (Binary op.Equal (Column p) (Column q)) both.0 both.1)
    either None None are turned = tt
    either None (Some both) are turned = columns_turned j p q both.0 both.1 turned
    either (Some both) other are turned = columns_equal j p q both.0 both.1 are

-- of AND
parts_make : (j : Joining) (t u : Term ℕ) (left right : Option (ℕ × ℕ)) → IfSome left (λ both. MakesEqual j t both.0 both.1) → IfSome right (λ both. MakesEqual j u both.0 both.1)
    → IfSome (or_else left right) (λ both. MakesEqual j (Binary op.And t u) both.0 both.1)
parts_make j t u None None first second = tt
parts_make j t u None (Some both) first second = and_right j t u both.0 both.1 second
parts_make j t u (Some both) other first second = and_left j t u both.0 both.1 first

-- THE COLUMNS THAT ARE FOUND ARE EQUAL wherever the condition holds
pub equal_makes : (j : Joining) (t : Term ℕ) → IfSome (equal_in j t) (λ both. MakesEqual j t both.0 both.1)
equal_makes j (Literal v) = tt
equal_makes j (Column place) = tt
equal_makes j (Unary o t) = tt
equal_makes j (Binary o t u) = by_op o (equal_makes j t) (equal_makes j u)
  where
    by_op : (o : BinaryOp) → IfSome (equal_in j t) (λ both. MakesEqual j t both.0 both.1) → IfSome (equal_in j u) (λ both. MakesEqual j u both.0 both.1)
        → IfSome (equal_by o (columns_by j (place_named t) (place_named u)) (or_else (equal_in j t) (equal_in j u))) (λ both. MakesEqual j (Binary o t u) both.0 both.1)
    by_op op.Equal left right = sides_make j t u
    by_op op.And left right = parts_make j t u (equal_in j t) (equal_in j u) left right
    by_op op.Or left right = tt
    by_op op.NotEqual left right = tt
    by_op op.Less left right = tt
    by_op op.LessOrEqual left right = tt
    by_op op.Greater left right = tt
    by_op op.GreaterOrEqual left right = tt
    by_op op.Add left right = tt
    by_op op.Subtract left right = tt
    by_op op.Concat left right = tt
    by_op op.Multiply left right = tt
    by_op op.Divide left right = tt
    by_op op.Remainder left right = tt
