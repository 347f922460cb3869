-- What the calls answer, whatever pair has this memory, and whatever the next identifier is.
use Rattle.std.specs.Prelude.{◌≡◌, ℕ, List}
use Rattle.row_store.specs.Rows.{Rows}
use Rattle.id_memory.specs.Pairs.{Pairs, RiseFrom}
use Rattle.op_law.specs.Identifiers.{has_id}
use Rattle.op_law.specs.Meaning.{PairState, flip}
use Rattle.op_law.specs.Premises.{IsPair}
use Rattle.op_law.specs.Sound.{PairsSound}
use Rattle.op_law.specs.Tables.{AllRise, Heading}
use Rattle.row_changes.specs.Changed.{AreChangesOf, TableChanges}
use Rattle.row_changes.specs.Touched.{touched}
use Rattle.operator_changes.specs.Calls.{MayChange}
use Rattle.operator_changes.specs.Footprint.{IsFootprint, passes}
use Rattle.pair_rows.specs.Halves.{first_of, second_of}
use Rattle.pair_rows.specs.Shown.{Joining}
use Rattle.pair_rows.specs.Sides.{table_at}
use Rattle.op_cond_join.specs.Joinings.{joining}
use Rattle.op_cond_join.specs.JoinOn.{join_on}
use Rattle.pair_parts.specs.Splits.{Splits}
use Rattle.cond_parts.specs.Apart.{BringsStanding, MapsPairApart}
use Rattle.cond_parts.specs.Backward.{IsClosedBackward}
use Rattle.cond_parts.specs.Forward.{IsClosedForward}
use Rattle.cond_closing.specs.Assigned.{AreRowKeys}
use Rattle.cond_closing.specs.declared.assigned.ByValues.{ByValues}

-- whatever pair has this memory, the identifiers split it
abbrev pub SplitRead : Pairs → List ℕ → Type 0
SplitRead m ids = (j : Joining) (hs ht : List Heading) (p : PairState) → p.memory ≡ m → IsPair (join_on j) hs ht p → Splits (join_on j) p (has_id ids)

-- the pair has this memory, and its S and T are known
pub record IsKnown (knows : Rows → Rows → Type 0) (m : Pairs) (p : PairState) : Type 0 where
  pub tables : knows (table_at 0 p.source) (table_at 1 p.source)
  pub memory : p.memory ≡ m

-- changes of S and T of a pair that may stand while n is the next identifier, whatever the operator is: tables and entries rise, these are below n, and the old rows are the pair's
pub record MayShow (near : TableChanges) (p : PairState) (n : ℕ) : Type 0 where
  pub rise : AllRise p.source
  pub fit : AreChangesOf p.source near
  pub entries : RiseFrom 0 p.memory
  pub sound : PairsSound n p.memory

-- closed for changes of S and T, with an entry that isn't changed for each row
pub record IsShown (j : Joining) (near : TableChanges) (p : PairState) (n : ℕ) (ids : List ℕ) : Type 0 where
  pub closed : IsClosedForward j near p n ids
  pub first : BringsStanding (has_id (touched near)) (passes ids n) first_of p.memory
  pub second : BringsStanding (has_id (touched near)) (passes ids n) second_of p.memory

-- whatever such pair it is, the identifiers are closed for the changes
abbrev pub CloseShown : Joining → (Rows → Rows → Type 0) → Pairs → TableChanges → List ℕ → Type 0
CloseShown j knows m near ids = (p : PairState) (n : ℕ) → IsKnown knows m p → MayShow near p n → IsShown j near p n ids

-- where the operator may map them, they are a footprint of them
abbrev pub AreShownFootprint : Joining → (Rows → Rows → Type 0) → Pairs → TableChanges → List ℕ → Type 0
AreShownFootprint j knows m near ids = (p : PairState) (n : ℕ) → IsKnown knows m p → MayChange (join_on j) near p n → IsFootprint (join_on j) near p n ids

-- and keep them to themselves
abbrev pub AreShownApart : Joining → (Rows → Rows → Type 0) → Pairs → TableChanges → List ℕ → Type 0
AreShownApart j knows m near ids = (p : PairState) (n : ℕ) → IsKnown knows m p → MayChange (join_on j) near p n → MapsPairApart (join_on j) near p n (passes ids n)

-- the pair has the memory and, as its S and T, the rows by value
pub record IsValued (it : ByValues) (p : PairState) : Type 0 where
  pub tables : AreRowKeys it (table_at 0 p.target) (table_at 1 p.target)
  pub memory : p.memory ≡ it.memory.now.entries

-- whatever such pair it is, and where the changes of R may be mapped, the identifiers are closed for them
abbrev pub CloseAssigned : ByValues → TableChanges → List ℕ → Type 0
CloseAssigned it near ids = (p : PairState) (n : ℕ) → IsValued it p → MayChange (flip (join_on (joining it.join.now))) near p n → IsClosedBackward (joining it.join.now) near p n ids

-- they are a footprint of them
abbrev pub AreAssignedFootprint : ByValues → TableChanges → List ℕ → Type 0
AreAssignedFootprint it near ids = (p : PairState) (n : ℕ) → IsValued it p → MayChange (flip (join_on (joining it.join.now))) near p n → IsFootprint (flip (join_on (joining it.join.now))) near p n ids

-- and keep them to themselves
abbrev pub AreAssignedApart : ByValues → TableChanges → List ℕ → Type 0
AreAssignedApart it near ids = (p : PairState) (n : ℕ) → IsValued it p → MayChange (flip (join_on (joining it.join.now))) near p n → MapsPairApart (flip (join_on (joining it.join.now))) near p n (passes ids n)
