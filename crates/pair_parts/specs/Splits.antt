-- Identifiers that split a pair: what stands at them is a pair by itself.
use Rattle.std.specs.Prelude.{◌≡◌, ℕ, Bool, List}
use Rattle.op_law.specs.Tables.{Heading}
use Rattle.op_law.specs.Local.{only}
use Rattle.op_law.specs.Meaning.{Meaning, PairState}
use Rattle.op_law.specs.Premises.{IsPair}
use Rattle.pair_parts.specs.Parts.{part_of_pair}

-- THE IDENTIFIERS THAT PASS SPLIT A PAIR: the part is related, and keeps beside either side what the whole pair keeps of them
pub record Splits (m : Meaning) (p : PairState) (P : ℕ → Bool) : Type 0 where
  pub related : (hs ht : List Heading) → IsPair m hs ht p → IsPair m hs ht (part_of_pair P p)
  pub at_source : m.aux_at_source (part_of_pair P p) ≡ only P (m.aux_at_source p)
  pub at_target : m.aux_at_target (part_of_pair P p) ≡ only P (m.aux_at_target p)
