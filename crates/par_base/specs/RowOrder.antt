-- How values and rows are ordered.
use Rattle.std.specs.Prelude.{ℕ, List}
use Rattle.std.specs.declared.cmp.Ordering.{Ordering}
use Rattle.std.specs.Ordering.{nat_cmp, int_cmp}
use Rattle.std.specs.Cmp.Lexicographic.{slice_cmp}
use Rattle.par_base.specs.declared.value.Value.{Value}
use Rattle.par_base.specs.declared.value.Value.TheVariants.{Null, Int, Text, Reference}

-- null comes first, then integers, texts and references
abbrev pub kind_of : Value → ℕ
kind_of Null = 0
kind_of (Int number) = 1
kind_of (Text bytes) = 2
kind_of (Reference id) = 3

-- integers by their number, texts by their bytes, references by the identifier, others by kind
abbrev pub value_cmp : Value → Value → Ordering
value_cmp (Int x) (Int y) = int_cmp x y
value_cmp (Text a) (Text b) = slice_cmp nat_cmp a b
value_cmp (Reference m) (Reference n) = nat_cmp m n
value_cmp v w = nat_cmp (kind_of v) (kind_of w)

-- rows by the first value that differs, and a row before those that it begins
abbrev pub row_cmp : List Value → List Value → Ordering
row_cmp some other = slice_cmp value_cmp some other
