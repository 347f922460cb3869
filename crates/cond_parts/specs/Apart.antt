-- What closed identifiers leave of a pair of JOIN ON a condition whose one side is changed.
use Rattle.std.specs.Prelude.{◌≡◌, ℕ, Bool, true, List, filter, ◌&&◌, ◌||◌, not}
use Rattle.id_memory.specs.Pairs.{Pairs}
use Rattle.op_law.specs.Identifiers.{has_id}
use Rattle.op_law.specs.Meaning.{Meaning, PairState, flip}
use Rattle.op_law.specs.Premises.{pair_after}
use Rattle.row_changes.specs.Changed.{TableChanges, changed_tables}
use Rattle.row_changes.specs.Touched.{touched}
use Rattle.operator_changes.specs.Calls.{MayChange}
use Rattle.operator_changes.specs.Footprint.{passes}
use Rattle.pair_rows.specs.Halves.{first_of, second_of}
use Rattle.pair_rows.specs.Shown.{Joining}
use Rattle.pair_rows.specs.Stays.{stands}
use Rattle.op_cond_join.specs.JoinOn.{join_on}
use Rattle.pair_parts.specs.Apart.{KeepsApart}
use Rattle.pair_parts.specs.Splits.{Splits}
use Rattle.pair_parts.specs.Parts.{memory_only}
use Rattle.cond_parts.specs.Backward.{IsClosedBackward}
use Rattle.cond_parts.specs.Forward.{IsClosedForward}

-- the identifiers that pass split the old pair, and the mapping of changes keeps to them
pub record MapsPairApart (m : Meaning) (near : TableChanges) (p : PairState) (n : ℕ) (P : ℕ → Bool) : Type 0 where
  pub splits : Splits m p P
  pub apart : KeepsApart m p (pair_after m (changed_tables p.source near) p n) P

-- a row of S or T that passes and stands in an entry that doesn't stands in one that passes, of which no row is changed
abbrev pub BringsStanding : (ℕ → Bool) → (ℕ → Bool) → (ℕ × ℕ × ℕ → ℕ) → Pairs → Type 0
BringsStanding C P pick m = (q : ℕ) → P q ≡ true → stands pick (memory_only (λ i. not (P i)) m) q ≡ true → stands pick (filter (λ e. P e.0 && not (C e.1 || C e.2)) m) q ≡ true

-- identifiers that are closed for changes of S and T, and bring entries of their rows, keep them apart
abbrev pub ClosedForwardMapsApart : Type 0
ClosedForwardMapsApart = (j : Joining) (near : TableChanges) (p : PairState) (n : ℕ) (ids : List ℕ) → MayChange (join_on j) near p n → IsClosedForward j near p n ids
    → BringsStanding (has_id (touched near)) (passes ids n) first_of p.memory → BringsStanding (has_id (touched near)) (passes ids n) second_of p.memory → MapsPairApart (join_on j) near p n (passes ids n)

-- identifiers that are closed for changes of R keep them apart
abbrev pub ClosedBackwardMapsApart : Type 0
ClosedBackwardMapsApart = (j : Joining) (near : TableChanges) (p : PairState) (n : ℕ) (ids : List ℕ) → MayChange (flip (join_on j)) near p n → IsClosedBackward j near p n ids → MapsPairApart (flip (join_on j)) near p n (passes ids n)
