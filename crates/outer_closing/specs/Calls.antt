-- What the calls answer, whatever pair has this memory, and whatever the next identifier is.
use Rattle.std.specs.Prelude.{◌≡◌, ℕ, List}
use Rattle.row_store.specs.Rows.{Rows}
use Rattle.id_memory.specs.Pairs.{Pairs}
use Rattle.op_law.specs.Identifiers.{has_id}
use Rattle.op_law.specs.Meaning.{PairState, flip}
use Rattle.op_law.specs.Premises.{IsPair}
use Rattle.op_law.specs.Tables.{Heading}
use Rattle.row_changes.specs.Changed.{TableChanges}
use Rattle.operator_changes.specs.Calls.{MayChange}
use Rattle.operator_changes.specs.Footprint.{IsFootprint, passes}
use Rattle.pair_rows.specs.Shown.{Joining}
use Rattle.op_cond_join.specs.Joinings.{joining}
use Rattle.outer_law.specs.OuterOn.{outer_on}
use Rattle.pair_parts.specs.Splits.{Splits}
use Rattle.cond_parts.specs.Apart.{MapsPairApart}
use Rattle.outer_parts.specs.Backward.{IsClosedBackward}
use Rattle.outer_parts.specs.Closed.{IsClosedForward}
use Rattle.cond_closing.specs.Calls.{IsKnown, IsValued, MayShow}
use Rattle.cond_closing.specs.declared.assigned.ByValues.{ByValues}

-- whatever pair has this memory, the identifiers split it
abbrev pub SplitOuterRead : Pairs → List ℕ → Type 0
SplitOuterRead m ids = (j : Joining) (hs ht : List Heading) (p : PairState) → p.memory ≡ m → IsPair (outer_on j) hs ht p → Splits (outer_on j) p (has_id ids)

-- whatever such pair it is, the identifiers are closed for the changes
abbrev pub CloseOuterShown : Joining → (Rows → Rows → Type 0) → Pairs → TableChanges → List ℕ → Type 0
CloseOuterShown j knows m near ids = (p : PairState) (n : ℕ) → IsKnown knows m p → MayShow near p n → IsClosedForward j near p n ids

-- where the operator may map them, they are a footprint of them
abbrev pub AreOuterFootprint : Joining → (Rows → Rows → Type 0) → Pairs → TableChanges → List ℕ → Type 0
AreOuterFootprint j knows m near ids = (p : PairState) (n : ℕ) → IsKnown knows m p → MayChange (outer_on j) near p n → IsFootprint (outer_on j) near p n ids

-- and keep them to themselves
abbrev pub AreOuterApart : Joining → (Rows → Rows → Type 0) → Pairs → TableChanges → List ℕ → Type 0
AreOuterApart j knows m near ids = (p : PairState) (n : ℕ) → IsKnown knows m p → MayChange (outer_on j) near p n → MapsPairApart (outer_on j) near p n (passes ids n)

-- whatever pair has the memory and these rows by value, and where the changes of R may be mapped, the identifiers are closed for them
abbrev pub CloseOuterAssigned : ByValues → TableChanges → List ℕ → Type 0
CloseOuterAssigned it near ids = (p : PairState) (n : ℕ) → IsValued it p → MayChange (flip (outer_on (joining it.join.now))) near p n → IsClosedBackward (joining it.join.now) near p n ids

-- they are a footprint of them
abbrev pub AreOuterAssignedFootprint : ByValues → TableChanges → List ℕ → Type 0
AreOuterAssignedFootprint it near ids = (p : PairState) (n : ℕ) → IsValued it p → MayChange (flip (outer_on (joining it.join.now))) near p n → IsFootprint (flip (outer_on (joining it.join.now))) near p n ids

-- and keep them to themselves
abbrev pub AreOuterAssignedApart : ByValues → TableChanges → List ℕ → Type 0
AreOuterAssignedApart it near ids = (p : PairState) (n : ℕ) → IsValued it p → MayChange (flip (outer_on (joining it.join.now))) near p n → MapsPairApart (flip (outer_on (joining it.join.now))) near p n (passes ids n)
