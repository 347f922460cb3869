-- What an operator promises of the identifiers that a write through it has to see.
use Rattle.std.specs.Prelude.{◌≡◌, ℕ, Bool, List, Option, Some}
use Rattle.op_law.specs.Tables.{Heading}
use Rattle.op_law.specs.Meaning.{Meaning, PairState}
use Rattle.op_law.specs.Premises.{IsPair, IsSoundPair, pair_after}
use Rattle.row_changes.specs.Changed.{AreChangesOf, TableChanges, changed_tables}
use Rattle.operator_changes.specs.Calls.{MayChange, ahead, toward}
use Rattle.operator_changes.specs.Footprint.{IsFootprint, passes}
use Rattle.pair_parts.specs.Apart.{KeepsApart, SameElsewhere}
use Rattle.pair_parts.specs.Parts.{IsMemory}
use Rattle.pair_parts.specs.Splits.{Splits}
use Rattle.op_seeks.specs.Places.{AreClosedBy, AreKnown, PassKnown, side_at}
use Rattle.op_seeks.specs.declared.known.Known.{Known}
use Rattle.op_seeks.specs.declared.place.SeekPlace.{SeekPlace}

-- whatever pair this is known of, and whatever the next identifier is, the identifiers are a footprint of the changes, forward or backward
abbrev pub FootprintOf : Meaning → Option SeekPlace → Bool → Known → TableChanges → List ℕ → Type 0
FootprintOf m place backward known near ids = (p : PairState) (n : ℕ) → AreKnown place p known → MayChange (toward backward m) near (ahead backward p) n → IsFootprint (toward backward m) near (ahead backward p) n ids

-- two sound pairs of an operator, where these changes make S and T of the one into those of the other
pub record IsChangedPair (m : Meaning) (place : Option SeekPlace) (changes : TableChanges) (old new : PairState) (n : ℕ) : Type 0 where
  pub hs : List Heading
  pub ht : List Heading
  pub before : IsSoundPair m hs ht old n
  pub after : IsSoundPair m hs ht new n
  pub closed : m.Closed n
  pub fit : AreChangesOf (side_at place old) changes
  pub makes : side_at place new ≡ changed_tables (side_at place old) changes

-- the other one is what the mapping of these changes makes of the one, forward or backward, while some identifier is the next of which n sees no more
pub record IsMappedPair (m : Meaning) (backward : Bool) (near : TableChanges) (old new : PairState) (n : ℕ) (ids : List ℕ) : Type 0 where
  pub next : ℕ
  pub may : MayChange (toward backward m) near (ahead backward old) next
  pub is : ahead backward new ≡ pair_after (toward backward m) (changed_tables (ahead backward old).source near) (ahead backward old) next
  pub same : passes ids next ≡ passes ids n

-- whatever pair this is known of, the identifiers keep these changes to themselves: of its near side, and of S and T
abbrev pub ApartOver : Meaning → Option SeekPlace → Bool → Known → TableChanges → TableChanges → List ℕ → Type 0
ApartOver m place backward known near changes ids = (old new : PairState) (n : ℕ) → AreKnown place old known → IsChangedPair m place changes old new n → IsMappedPair m backward near old new n ids
    → SameElsewhere (passes ids n) old new → KeepsApart m old new (passes ids n)

-- THE LAWS OF AN OPERATOR THAT SEEKS: identifiers that are closed by what is known split its pairs, of which each has a memory
pub record SeekLaws (m : Meaning) (place : Option SeekPlace) : Type 0 where
  pub splits : (known : Known) (ids : List ℕ) (P : ℕ → Bool) (hs ht : List Heading) (p : PairState) → AreKnown place p known → AreClosedBy known ids → PassKnown P ids place p → IsPair m hs ht p → Splits m p P
  pub memory : (seeks : SeekPlace) → place ≡ Some seeks → (hs ht : List Heading) (p : PairState) → IsPair m hs ht p → IsMemory p.memory
