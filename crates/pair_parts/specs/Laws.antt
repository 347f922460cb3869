-- Laws of parts of pairs.
use Rattle.std.specs.Prelude.{◌≡◌, ℕ, Bool, true, List}
use Rattle.op_law.specs.Tables.{Heading}
use Rattle.op_law.specs.Meaning.{Meaning, PairState, exchanged, flip}
use Rattle.op_law.specs.Premises.{IsPair}
use Rattle.pair_parts.specs.Apart.{KeepsApart}
use Rattle.pair_parts.specs.Splits.{Splits}

-- what splits a pair splits it from its other side
abbrev pub SplitsFromBehind : Meaning → Type 0
SplitsFromBehind m = (P : ℕ → Bool) (p : PairState) → Splits m p P → Splits (flip m) (exchanged p) P

-- what keeps a change to itself does so from the other side
abbrev pub KeepsFromBehind : Meaning → Type 0
KeepsFromBehind m = (P : ℕ → Bool) (old new : PairState) → KeepsApart m old new P → KeepsApart (flip m) (exchanged old) (exchanged new) P

-- any identifiers split a pair of an operator that treats each by itself
abbrev pub SplitsAnywhere : Meaning → Type 0
SplitsAnywhere m = (P : ℕ → Bool) (hs ht : List Heading) (p : PairState) → m.is_local ≡ true → IsPair m hs ht p → Splits m p P
