-- The orders of values and rows are total, and none but itself equals a value or a row.
use Rattle.std.specs.Prelude.{List, [], ◌∷◌, Bool, ◌&&◌, IsTrue, ◌↔◌}
use Rattle.std.specs.Bool.{Decides}
use Rattle.std.specs.Ordering.{nat_cmp, int_cmp, is_eq, eq_by_cmp, ordering_then, ordering_reverse, on, then_cmp}
use Rattle.std.specs.Cmp.{IsTotalOrder, IsEquivalence, IsPartialOrder, decided, po, both_tied, unsigned_ties}
use Rattle.std.specs.Cmp.Lexicographic.{slice_cmp, pointwise, pointwise_decides, texts_ties}
use Rattle.std.proofs.Common.{◌≡◌, ℕ, ℤ, pos, Ordering, Less, Equal, Greater, Some, refl, sym, ap, ◌∙◌}
use Rattle.std.proofs.lemmas.Cmp.{nat_cmp_total, int_cmp_total, nat_list_cmp_total, on_total, then_total, lists_total}
use Rattle.par_base.specs.declared.value.Value.{Value}
use Rattle.par_base.specs.declared.value.Value.TheVariants.{Null, Int, Text, Reference}
use Rattle.par_base.specs.SameRows.{same_value, same_row}
use Rattle.par_base.specs.RowOrder.{kind_of, value_cmp, row_cmp}
use Rattle.par_base.specs.inner.SameLaws.{value_equal, value_same, row_equal, row_same}

abbrev number_of : Value → ℤ
number_of Null = pos 0
number_of (Int number) = number
number_of (Text bytes) = pos 0
number_of (Reference id) = pos 0

abbrev bytes_of : Value → List ℕ
bytes_of Null = []
bytes_of (Int number) = []
bytes_of (Text bytes) = bytes
bytes_of (Reference id) = []

abbrev id_of : Value → ℕ
id_of Null = 0
id_of (Int number) = 0
id_of (Text bytes) = 0
id_of (Reference id) = id

-- the same order, by parts that each value has
abbrev by_parts : Value → Value → Ordering
by_parts = then_cmp (on kind_of nat_cmp) (then_cmp (on number_of int_cmp) (then_cmp (on bytes_of (slice_cmp nat_cmp)) (on id_of nat_cmp)))

by_parts_total : IsTotalOrder by_parts
by_parts_total = then_total (on_total kind_of nat_cmp_total) (then_total (on_total number_of int_cmp_total) (then_total (on_total bytes_of nat_list_cmp_total) (on_total id_of nat_cmp_total)))

then_none : (r : Ordering) → r ≡ ordering_then r Equal
then_none Less = refl
then_none Equal = refl
then_none Greater = refl

parts_are : (v w : Value) → value_cmp v w ≡ by_parts v w
parts_are Null Null = refl
parts_are Null (Int y) = refl
parts_are Null (Text b) = refl
parts_are Null (Reference n) = refl
parts_are (Int x) Null = refl
parts_are (Int x) (Int y) = then_none (int_cmp x y)
parts_are (Int x) (Text b) = refl
parts_are (Int x) (Reference n) = refl
parts_are (Text a) Null = refl
parts_are (Text a) (Int y) = refl
parts_are (Text a) (Text b) = then_none (slice_cmp nat_cmp a b)
parts_are (Text a) (Reference n) = refl
parts_are (Reference m) Null = refl
parts_are (Reference m) (Int y) = refl
parts_are (Reference m) (Text b) = refl
parts_are (Reference m) (Reference n) = refl

same_total : {A : Type 0} (R S : A → A → Ordering) → ((x y : A) → R x y ≡ S x y) → IsTotalOrder S → IsTotalOrder R
same_total R S is total =
    record {
      antisymm = λ x y. is x y ∙ total.antisymm x y ∙ ap ordering_reverse (sym (is y x));
      trans = λ x y z h i. is x z ∙ total.trans x y z (sym (is x y) ∙ h) (sym (is y z) ∙ i);
      congr = λ x y z h. is x z ∙ total.congr x y z (sym (is x y) ∙ h) ∙ sym (is y z);
    }

pub value_total : IsTotalOrder value_cmp
value_total = same_total value_cmp by_parts parts_are by_parts_total

pub row_total : IsTotalOrder row_cmp
row_total = lists_total value_total

-- values are the same exactly where neither comes before the other
pub value_ties : (v w : Value) → same_value v w ≡ eq_by_cmp value_cmp v w
value_ties Null Null = refl
value_ties Null (Int y) = refl
value_ties Null (Text b) = refl
value_ties Null (Reference n) = refl
value_ties (Int x) Null = refl
value_ties (Int x) (Int y) = refl
value_ties (Int x) (Text b) = refl
value_ties (Int x) (Reference n) = refl
value_ties (Text a) Null = refl
value_ties (Text a) (Int y) = refl
value_ties (Text a) (Text b) = texts_ties a b
value_ties (Text a) (Reference n) = refl
value_ties (Reference m) Null = refl
value_ties (Reference m) (Int y) = refl
value_ties (Reference m) (Text b) = refl
value_ties (Reference m) (Reference n) = unsigned_ties m n

-- and so are rows
pub row_ties : (some other : List Value) → same_row some other ≡ eq_by_cmp row_cmp some other
unfolding same_row
row_ties [] [] = refl
row_ties [] (w ∷ ws) = refl
row_ties (v ∷ vs) [] = refl
row_ties (v ∷ vs) (w ∷ ws) = both_tied (same_value v w) (same_row vs ws) (value_cmp v w) (row_cmp vs ws) (value_ties v w) (row_ties vs ws)

-- rows of which neither comes before the other are equal
pub equal_rows : (some other : List Value) → row_cmp some other ≡ Equal → some ≡ other
equal_rows some other level = row_equal some other (row_ties some other ∙ ap is_eq level)

-- what std asks of equality and order
value_decides : (v w : Value) → Decides (same_value v w) (v ≡ w)
value_decides v w = (value_equal v w, λ e. ap (same_value v) (sym e) ∙ value_same v)

pub value_equality : IsEquivalence same_value
value_equality = decided same_value value_decides

pub value_order : IsPartialOrder same_value (λ v w. Some (value_cmp v w))
value_order = po value_total value_ties

pub row_equality : IsEquivalence same_row
row_equality = decided same_row (λ some other. (row_equal some other, λ e. ap (same_row some) (sym e) ∙ row_same some))

pub row_order : IsPartialOrder same_row (λ some other. Some (row_cmp some other))
row_order = po row_total row_ties

-- a test of the values in their order tells the same rows
pub same_in_order : (some other : List Value) → pointwise same_value some other ≡ same_row some other
unfolding same_row
same_in_order [] [] = refl
same_in_order [] (w ∷ ws) = refl
same_in_order (v ∷ vs) [] = refl
same_in_order (v ∷ vs) (w ∷ ws) = ap (λ (rest : Bool). same_value v w && rest) (same_in_order vs ws)

-- and so equal lists of values
pub equal_in_order : (some other : List Value) → IsTrue (pointwise same_value some other) ↔ (some ≡ other)
equal_in_order some other = pointwise_decides value_decides some other
