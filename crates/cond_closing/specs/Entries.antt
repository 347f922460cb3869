-- The entries of a memory that have an identifier as one half, in the order of the other half.
use Rattle.std.specs.Prelude.{◌≡◌, ℕ, ◌≤◌, true, List, Option, Some, MatchOption}
use Rattle.id_memory.specs.Pairs.{Pairs, pair_of}
use Rattle.op_law.specs.Identifiers.{has_id}
use Rattle.pair_rows.specs.declared.half.Half.{Half}
use Rattle.pair_rows.specs.declared.half.Half.TheVariants.{First, Second}
use Rattle.pair_rows.specs.Halves.{first_of, pick_of, second_of}

-- the memory has this entry
abbrev pub IsEntry : Pairs → ℕ × ℕ × ℕ → Type 0
IsEntry m e = pair_of m e.0 ≡ Some (e.1, e.2)

-- the other identifier of its pair
abbrev pub other_of : Half → ℕ × ℕ × ℕ → ℕ
other_of First e = second_of e
other_of Second e = first_of e

-- no entry has q as this half, and another half from this one on
abbrev pub NoneWith : Half → Pairs → ℕ → ℕ → Type 0
NoneWith half m q from = (e : ℕ × ℕ × ℕ) → IsEntry m e → pick_of half e ≡ q → from ≤ other_of half e → ⊥

-- the entry is the first one that does
pub record IsFirstWith (half : Half) (m : Pairs) (q from : ℕ) (e : ℕ × ℕ × ℕ) : Type 0 where
  pub is : IsEntry m e
  pub has : pick_of half e ≡ q
  pub behind : from ≤ other_of half e
  pub least : (d : ℕ × ℕ × ℕ) → IsEntry m d → pick_of half d ≡ q → from ≤ other_of half d → other_of half e ≤ other_of half d
  -- no other identifier has its pair
  pub one : (d : ℕ × ℕ × ℕ) → IsEntry m d → pick_of half d ≡ q → other_of half d ≡ other_of half e → d.0 ≡ e.0

-- THE NEXT ENTRY OF q AS THIS HALF, from another half on; none, where there is none
abbrev pub IsNextWith : Half → Pairs → ℕ → ℕ → Option (ℕ × ℕ × ℕ) → Type 0
IsNextWith half m q from found = MatchOption found (NoneWith half m q from) (λ e. IsFirstWith half m q from e)

-- all entries that have q as this half are among these
abbrev pub HasEntries : Half → Pairs → List ℕ → ℕ → Type 0
HasEntries half m ids q = (e : ℕ × ℕ × ℕ) → IsEntry m e → pick_of half e ≡ q → has_id ids e.0 ≡ true
