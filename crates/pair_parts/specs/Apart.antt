-- What identifiers leave of a pair that became another one.
use Rattle.std.specs.Prelude.{◌≡◌, ℕ, Bool, not}
use Rattle.op_law.specs.Local.{only}
use Rattle.op_law.specs.Meaning.{Meaning, PairState}
use Rattle.pair_parts.specs.Parts.{memory_only}
use Rattle.pair_parts.specs.Splits.{Splits}

-- THE IDENTIFIERS THAT PASS KEEP A CHANGE TO THEMSELVES: they split the new pair, and what is kept beside either side of the others is what was
pub record KeepsApart (m : Meaning) (old new : PairState) (P : ℕ → Bool) : Type 0 where
  pub splits : Splits m new P
  pub at_source : only (λ q. not (P q)) (m.aux_at_source new) ≡ only (λ q. not (P q)) (m.aux_at_source old)
  pub at_target : only (λ q. not (P q)) (m.aux_at_target new) ≡ only (λ q. not (P q)) (m.aux_at_target old)

-- elsewhere both pairs have the same rows and the same entries
pub record SameElsewhere (P : ℕ → Bool) (old new : PairState) : Type 0 where
  pub source : only (λ q. not (P q)) new.source ≡ only (λ q. not (P q)) old.source
  pub target : only (λ q. not (P q)) new.target ≡ only (λ q. not (P q)) old.target
  pub memory : memory_only (λ q. not (P q)) new.memory ≡ memory_only (λ q. not (P q)) old.memory
