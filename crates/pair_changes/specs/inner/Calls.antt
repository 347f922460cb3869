-- What the inner calls suppose and ensure.
use Rattle.std.specs.Prelude.{◌≡◌, ℕ, ◌+◌, ◌≤◌, ◌==◌, ◌⊎◌, List, [], ◌∷◌, ◌++◌, if◌then◌else◌, Option, None}
use Rattle.id_memory.specs.Pairs.{Pairs, RiseFrom, IsOneToOne, pair_of}
use Rattle.pair_changes.specs.declared.change.PairChange.{PairChange}
use Rattle.pair_changes.specs.MemoryChanges.{pair_after}

-- the change is told where it doesn't leave its pair
abbrev pub Tells : PairChange → List PairChange → List PairChange → Type 0
Tells c before now = ((c.old ≡ c.new) × (now ≡ before)) ⊎ ((c.old ≡ c.new → ⊥) × (now ≡ before ++ c ∷ []))

-- no identifier of the changes has a pair
abbrev pub AreOut : Pairs → List PairChange → Type 0
AreOut es [] = Unit {0}
AreOut es (c ∷ cs) = (pair_of es c.id ≡ None) × AreOut es cs

-- what an identifier has once the changes took their pairs out
abbrev pub pair_without : List PairChange → ℕ → Option (ℕ × ℕ) → Option (ℕ × ℕ)
pair_without [] id pair = pair
pair_without (c ∷ cs) id pair = if c.id == id then None else pair_without cs id pair

-- the new pairs of the changes can be put in, whose identifiers have none: that gives a memory in which no pair stands twice
pub record CanBePut (es : Pairs) (changes : List PairChange) (now : Pairs) : Type 0 where
  pub rises : RiseFrom 0 now
  pub one : IsOneToOne now
  pub out : AreOut es changes
  pub pairs : (id : ℕ) → pair_of now id ≡ pair_after changes id (pair_of es id)

-- the identifiers of changes rise strictly, from n on
abbrev pub ChangesRise : ℕ → List PairChange → Type 0
ChangesRise n [] = Unit {0}
ChangesRise n (c ∷ cs) = (n ≤ c.id) × ChangesRise (c.id + 1) cs
