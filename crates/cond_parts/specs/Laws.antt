-- Laws of parts of pairs on a condition.
use Rattle.std.specs.Prelude.{ℕ, Bool, List}
use Rattle.op_law.specs.Tables.{Heading}
use Rattle.op_law.specs.Meaning.{PairState}
use Rattle.op_law.specs.Premises.{IsPair}
use Rattle.pair_rows.specs.Shown.{Joining}
use Rattle.op_cond_join.specs.JoinOn.{join_on}
use Rattle.pair_parts.specs.Splits.{Splits}
use Rattle.pair_parts.specs.Apart.{KeepsApart, SameElsewhere}
use Rattle.cond_parts.specs.Closed.{BringsRows, IsClosedIn}

-- identifiers that are closed in the memory split a pair
abbrev pub ClosedSplits : Type 0
ClosedSplits = (j : Joining) (P : ℕ → Bool) (hs ht : List Heading) (p : PairState) → IsPair (join_on j) hs ht p → IsClosedIn P p.memory → Splits (join_on j) p P

-- identifiers that are closed in the new memory, and bring the rows of entries in the old one, keep apart from what is the same
abbrev pub ClosedKeepsApart : Type 0
ClosedKeepsApart = (j : Joining) (P : ℕ → Bool) (hs ht : List Heading) (old new : PairState) → IsPair (join_on j) hs ht old → IsPair (join_on j) hs ht new
    → SameElsewhere P old new → BringsRows P old.memory → IsClosedIn P new.memory → KeepsApart (join_on j) old new P
