-- Which rows and entries belong together.
use Rattle.std.specs.Prelude.{◌≡◌, ℕ, ◌≤◌, ◌==◌, List, [], ◌∷◌, count_by, true, IsSome}
use Rattle.row_store.specs.Rows.{Rows, row_of}
use Rattle.id_memory.specs.Pairs.{Pairs, has_pair}
use Rattle.pair_rows.specs.declared.half.Half.{Half}
use Rattle.pair_rows.specs.declared.half.Half.TheVariants.{First, Second}
use Rattle.pair_rows.specs.Halves.{first_of, second_of}
use Rattle.pair_rows.specs.Shown.{Joining, AreThere}
use Rattle.outer_law.specs.Entries.{with_absent, with_half, AreHalves}
use Rattle.outer_law.specs.OuterOn.{shown}

-- the half of an entry that isn't meant
abbrev pub other_of : Half → ℕ × ℕ × ℕ → ℕ
other_of First e = second_of e
other_of Second e = first_of e

-- an entry that has this half alone is the only one that has it
abbrev pub IsOnce : (pick other : ℕ × ℕ × ℕ → ℕ) → Pairs → ℕ × ℕ × ℕ → Type 0
IsOnce pick other m e = (other e == 0) ≡ true → with_half pick (pick e) m ≤ 1

-- the same of each of these entries
abbrev pub AreOnce : (pick other : ℕ × ℕ × ℕ → ℕ) → Pairs → Pairs → Type 0
AreOnce pick other m [] = Unit {0}
AreOnce pick other m (e ∷ es) = IsOnce pick other m e × AreOnce pick other m es

-- each row is in some entry
abbrev pub AreIn : (ℕ × ℕ × ℕ → ℕ) → Rows → Pairs → Type 0
AreIn pick rows m = (id : ℕ) → IsSome (row_of rows id) → 1 ≤ with_half pick id m

-- the entries have halves that are there or absent, none has both absent, and each half is as it must be
pub record AreOuter (s t : Rows) (m : Pairs) : Type 0 where
  pub there : (first second : List ℕ) → AreThere (with_absent first s) (with_absent second t) m
  pub none : count_by (has_pair 0 0) m ≡ 0
  pub first : AreHalves first_of second_of s m
  pub second : AreHalves second_of first_of t m

-- the target shows them
pub record IsSource (j : Joining) (r : Rows) (m : Pairs) (s t : Rows) : Type 0 where
  pub outer : AreOuter s t m
  pub rows : shown j s t m ≡ r
