-- What an identifier brings with it in a memory of which some entries change.
use Rattle.std.specs.Prelude.{◌≡◌, ℕ, ◌≤◌, Bool, true, not, ◌||◌, List, Option, Some, MatchOption}
use Rattle.id_memory.specs.Pairs.{Pairs, pair_of}
use Rattle.op_law.specs.Identifiers.{has_id}
use Rattle.pair_rows.specs.declared.half.Half.{Half}
use Rattle.pair_rows.specs.declared.half.Half.TheVariants.{First, Second}
use Rattle.pair_rows.specs.Halves.{pick_of}
use Rattle.cond_closing.specs.declared.steady.Changing.{Changing}
use Rattle.cond_closing.specs.declared.steady.Changing.TheVariants.{Halves, Entries}
use Rattle.cond_closing.specs.Entries.{IsEntry, other_of}

-- a memory, and what changes: rows that are halves of entries, or the rows of entries themselves
pub record ChangingMemory : Type 0 where
  pub entries : Pairs
  pub changed : List ℕ
  pub what : Changing

-- the memory while these identifiers' own rows change
abbrev pub changed_entries : Pairs → List ℕ → ChangingMemory
changed_entries m changed = record { entries = m; changed = changed; what = Entries }

-- whether the entry isn't changed
abbrev pub is_still : Changing → List ℕ → ℕ × ℕ × ℕ → Bool
is_still Halves changed e = not (has_id changed e.1 || has_id changed e.2)
is_still Entries changed e = not (has_id changed e.0)

abbrev pub stays : ChangingMemory → ℕ × ℕ × ℕ → Bool
stays it e = is_still it.what it.changed e

-- p has an entry with q as this half, and another half from this one on, that isn't changed
pub record IsStill (half : Half) (it : ChangingMemory) (q from p : ℕ) : Type 0 where
  pub entry : ℕ × ℕ × ℕ
  pub own : entry.0 ≡ p
  pub is : IsEntry it.entries entry
  pub has : pick_of half entry ≡ q
  pub behind : from ≤ other_of half entry
  pub still : stays it entry ≡ true

-- such an identifier; none, where there is none
abbrev pub IsStillBy : Half → ChangingMemory → ℕ → ℕ → Option ℕ → Type 0
IsStillBy half it q from found =
    MatchOption found
    ((e : ℕ × ℕ × ℕ) → IsEntry it.entries e → pick_of half e ≡ q → from ≤ other_of half e → stays it e ≡ true → ⊥)
    (λ p. IsStill half it q from p)

-- one of these has such an entry
pub record HasStill (half : Half) (it : ChangingMemory) (ids : List ℕ) (q : ℕ) : Type 0 where
  pub id : ℕ
  pub still : IsStill half it q 0 id
  pub among : has_id ids id ≡ true

-- one does, where q has such an entry at all
abbrev pub BringsStill : Half → ChangingMemory → List ℕ → ℕ → Type 0
BringsStill half it ids q = (e : ℕ × ℕ × ℕ) → IsEntry it.entries e → pick_of half e ≡ q → stays it e ≡ true → HasStill half it ids q

-- both rows of q's own entry are among these
abbrev pub BringsBoth : Pairs → ℕ → List ℕ → Type 0
BringsBoth m q ids = (a b : ℕ) → pair_of m q ≡ Some (a, b) → (has_id ids a ≡ true) × (has_id ids b ≡ true)

-- WHAT q BRINGS: both rows of its entry, and as either half an entry that isn't changed, where it has one
pub record IsBrought (it : ChangingMemory) (q : ℕ) (ids : List ℕ) : Type 0 where
  pub rows : BringsBoth it.entries q ids
  pub first : BringsStill First it ids q
  pub second : BringsStill Second it ids q
