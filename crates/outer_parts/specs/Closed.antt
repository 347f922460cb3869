-- OUTER JOIN on a condition: which identifiers are closed, and what they do.
use Rattle.std.specs.Prelude.{◌≡◌, ℕ, ◌≤◌, Bool, true, List, filter, ◌&&◌, ◌||◌, not}
use Rattle.id_memory.specs.Pairs.{Pairs}
use Rattle.op_law.specs.Identifiers.{has_id, IdsRise}
use Rattle.op_law.specs.Meaning.{PairState}
use Rattle.op_law.specs.Premises.{IsPair}
use Rattle.op_law.specs.Tables.{Heading}
use Rattle.row_changes.specs.Changed.{TableChanges, changed_tables}
use Rattle.row_changes.specs.Touched.{EachPass, touched}
use Rattle.operator_changes.specs.Calls.{MayChange}
use Rattle.operator_changes.specs.Footprint.{IsFootprint, passes}
use Rattle.pair_rows.specs.Halves.{first_of, second_of}
use Rattle.pair_rows.specs.Shown.{Joining}
use Rattle.pair_rows.specs.Sides.{table_at}
use Rattle.pair_rows.specs.Stays.{stands}
use Rattle.outer_law.specs.OuterOn.{outer_on}
use Rattle.pair_parts.specs.Splits.{Splits}
use Rattle.pair_parts.specs.Parts.{memory_only}
use Rattle.cond_parts.specs.Apart.{MapsPairApart}
use Rattle.cond_parts.specs.Closed.{BringsRows}
use Rattle.cond_parts.specs.Forward.{BringsShown}

-- a row that stands in an entry brings one that has it
abbrev pub BringsHalf : (ℕ → Bool) → (ℕ × ℕ × ℕ → ℕ) → Pairs → Type 0
BringsHalf P pick m = (q : ℕ) → 1 ≤ q → P q ≡ true → stands pick m q ≡ true → stands pick (memory_only P m) q ≡ true

-- CLOSED IN A MEMORY: an absent half passes, an identifier of an entry brings both halves of it, and a row of either table brings an entry that has it
pub record IsOuterClosed (P : ℕ → Bool) (m : Pairs) : Type 0 where
  pub absent : P 0 ≡ true
  pub rows : BringsRows P m
  pub first : BringsHalf P first_of m
  pub second : BringsHalf P second_of m

-- identifiers that are closed in the memory split a pair
abbrev pub ClosedSplits : Type 0
ClosedSplits = (j : Joining) (P : ℕ → Bool) (hs ht : List Heading) (p : PairState) → IsPair (outer_on j) hs ht p → IsOuterClosed P p.memory → Splits (outer_on j) p P

-- a row of S or T that passes and stands in an entry that doesn't stands in one that passes, of which no half is changed
abbrev pub BringsOther : (ℕ → Bool) → (ℕ → Bool) → (ℕ × ℕ × ℕ → ℕ) → Pairs → Type 0
BringsOther C P pick m = (q : ℕ) → 1 ≤ q → P q ≡ true → stands pick (memory_only (λ i. not (P i)) m) q ≡ true → stands pick (filter (λ e. P e.0 && not (C e.1 || C e.2)) m) q ≡ true

-- CLOSED FOR CHANGES OF S AND T: as for JOIN, and rows bring entries of which no half is changed
pub record IsClosedForward (j : Joining) (near : TableChanges) (p : PairState) (n : ℕ) (ids : List ℕ) : Type 0 where
  pub rise : IdsRise 0 ids
  pub touches : EachPass (has_id ids) near
  pub absent : has_id ids 0 ≡ true
  pub brings : BringsShown j (has_id (touched near)) (passes ids n) p.memory (table_at 0 (changed_tables p.source near)) (table_at 1 (changed_tables p.source near))
  pub first : BringsOther (has_id (touched near)) (passes ids n) first_of p.memory
  pub second : BringsOther (has_id (touched near)) (passes ids n) second_of p.memory

-- such identifiers are a footprint
abbrev pub ClosedIsForwardFootprint : Type 0
ClosedIsForwardFootprint = (j : Joining) (near : TableChanges) (p : PairState) (n : ℕ) (ids : List ℕ) → MayChange (outer_on j) near p n → IsClosedForward j near p n ids → IsFootprint (outer_on j) near p n ids

-- and split the old pair and the new one
abbrev pub ClosedForwardMapsApart : Type 0
ClosedForwardMapsApart = (j : Joining) (near : TableChanges) (p : PairState) (n : ℕ) (ids : List ℕ) → MayChange (outer_on j) near p n → IsClosedForward j near p n ids → MapsPairApart (outer_on j) near p n (passes ids n)
