-- The order of an index: by keys, and rows of one key by their identifiers.
use Rattle.std.specs.Prelude.{ℕ, List}
use Rattle.std.specs.declared.cmp.Ordering.{Ordering}
use Rattle.std.specs.Ordering.{nat_cmp, ordering_then}
use Rattle.par_base.specs.declared.value.Value.{Value}
use Rattle.par_base.specs.RowOrder.{row_cmp}

-- a key comes before a greater one, and at one key the lower identifier first
abbrev pub keyed_cmp : List Value × ℕ → List Value × ℕ → Ordering
keyed_cmp a b = ordering_then (row_cmp a.0 b.0) (nat_cmp a.1 b.1)
