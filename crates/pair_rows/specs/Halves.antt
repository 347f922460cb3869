-- The identifiers of a pair.
use Rattle.std.specs.Prelude.{ℕ}
use Rattle.pair_rows.specs.declared.half.Half.{Half}
use Rattle.pair_rows.specs.declared.half.Half.TheVariants.{First, Second}

-- the first and the second identifier of an entry's pair
abbrev pub first_of : ℕ × ℕ × ℕ → ℕ
first_of e = e.1

-- the second identifier of an entry
abbrev pub second_of : ℕ × ℕ × ℕ → ℕ
second_of e = e.2

-- the identifier of a pair that is meant
abbrev pub pick_of : Half → ℕ × ℕ × ℕ → ℕ
pick_of First e = first_of e
pick_of Second e = second_of e
