-- The full entries that were found, and the rows that are in one.
use Rattle.std.specs.Prelude.{◌≡◌, ℕ, ◌==◌, [], ◌∷◌, Bool, true, false, if◌then◌else◌}
use Rattle.id_memory.specs.Pairs.{Pairs}
use Rattle.op_law.specs.Identifiers.{has_id}
use Rattle.id_sets.specs.IdPairs.{IdPairs, holds_pair}
use Rattle.outer_law.specs.Entries.{some_row}
use Rattle.outer_entries.specs.declared.showing.Showing.{Showing}
use Rattle.outer_entries.specs.declared.finding.Found.{Found}
use Rattle.outer_entries.specs.inner.Calls.{is_full_in}

-- the pairs of entries
abbrev pub pairs_in : Pairs → IdPairs
pairs_in [] = []
pairs_in (e ∷ es) = (e.1, e.2) ∷ pairs_in es

-- whether some pair has this first identifier
abbrev pub has_first : IdPairs → ℕ → Bool
has_first [] a = false
has_first (x ∷ xs) a = if x.0 == a then true else has_first xs a

-- whether some pair has this second identifier
abbrev pub has_second : IdPairs → ℕ → Bool
has_second [] b = false
has_second (x ∷ xs) b = if x.1 == b then true else has_second xs b

-- with these pairs, and what was there
pub record AddsPairs (before : Found) (xs : IdPairs) (now : Found) : Type 0 where
  pub pairs : (a b : ℕ) → holds_pair now.pairs a b ≡ (if holds_pair xs a b then true else holds_pair before.pairs a b)
  pub first : (a : ℕ) → has_id now.first a ≡ (if has_first xs a then true else has_id before.first a)
  pub second : (b : ℕ) → has_id now.second b ≡ (if has_second xs b then true else has_id before.second b)

-- these pairs are there, and no others
pub record HasPairs (xs : IdPairs) (now : Found) : Type 0 where
  pub pairs : (a b : ℕ) → holds_pair now.pairs a b ≡ holds_pair xs a b
  pub first : (a : ℕ) → has_id now.first a ≡ has_first xs a
  pub second : (b : ℕ) → has_id now.second b ≡ has_second xs b

-- the pairs are the full entries, and the rows those that are in one
pub record Finds (it : Showing) (found : Found) : Type 0 where
  pub pairs : (a b : ℕ) → holds_pair found.pairs a b ≡ is_full_in it a b
  pub first : (a : ℕ) → has_id found.first a ≡ some_row (λ b. is_full_in it a b) it.new_t.now.rows
  pub second : (b : ℕ) → has_id found.second b ≡ some_row (λ a. is_full_in it a b) it.new_s.now.rows
