-- When identifiers see all that a write does over operators that seek.
use Rattle.std.specs.Prelude.{◌≡◌, ◌⊎◌, if◌then◌else◌, ℕ, Bool, true, false, cond, List, [], map, Option, Some, None}
use Rattle.row_store.specs.Rows.{Rows}
use Rattle.row_store.specs.declared.change.Change.{Change}
use Rattle.version_graph.specs.Sets.{Each, In}
use Rattle.version_graph.specs.Forest.{Crossing, Link, crossing, forest, walk}
use Rattle.version_graph.specs.declared.parts.Placed.{Placed}
use Rattle.version_graph.specs.declared.parts.Step.{Step}
use Rattle.changes_walk.specs.Calls.{AtStep}
use Rattle.op_law.specs.Identifiers.{IdsRise}
use Rattle.op_law.specs.Meaning.{Meaning}
use Rattle.operator_changes.specs.Calls.{ahead}
use Rattle.version_model.specs.States.{State}
use Rattle.version_model.specs.Steps.{pair_in}
use Rattle.version_model.specs.declared.numbered.Numbered.{Numbered}
use Rattle.table_keys.specs.States.{KeysState}
use Rattle.kept_keys.specs.Kept.{AreKeysOf}
use Rattle.changes_walk.specs.Changing.{latest_changes}
use Rattle.changes_walk.specs.Reach.{reached}
use Rattle.op_seeks.specs.Found.{AreAmong}
use Rattle.op_seeks.specs.Places.{AreClosedBy, AreKnown, is_on_target}
use Rattle.op_seeks.specs.Seeking.{ApartOver, FootprintOf}
use Rattle.op_seeks.specs.declared.known.Known.{Known}
use Rattle.op_seeks.specs.declared.place.SeekPlace.{SeekPlace}
use Rattle.id_memory.specs.States.{MemoryState}
use Rattle.version_model.specs.Kept.{pairs_at}
use Rattle.sought_ids.specs.declared.kept.Kept.{Kept}

-- keys of tables, and the memories of operators
pub record KeptState : Type 0 where
  pub keys : List (Numbered KeysState)
  pub memories : List (Numbered MemoryState)

abbrev pub kept_in : Kept → KeptState
kept_in kept = record { keys = kept.keys.now; memories = kept.memories.now }

-- they are those of this state
pub record AreKeptOf (s : State) (kept : KeptState) : Type 0 where
  pub keys : AreKeysOf s.tables kept.keys
  pub memories : (n : ℕ) → s.memory n ≡ pairs_at kept.memories n

-- there is a state in which the kept keys are right
abbrev pub AreSomeKeys : List (Numbered KeysState) → Type 0
AreSomeKeys items = (tables : ℕ → Rows) × AreKeysOf tables items

-- the tables on the target side of a crossing, or on its source side
abbrev pub key_side : {O : Type 0} → Bool → Crossing O → List ℕ
key_side on_target p = if on_target then cond p.backward p.near p.far else cond p.backward p.far p.near

-- those of S and T, where the operator seeks
abbrev pub key_tables : {O : Type 0} → Option SeekPlace → Crossing O → List ℕ
key_tables None p = []
key_tables (Some place) p = key_side (is_on_target place) p

-- in whatever state the kept keys and memories are, this is known of a pair, by this place
abbrev pub IsKnownAt : {O : Type 0} → SeekPlace → KeptState → Crossing O → Known → Type 0
IsKnownAt place kept p known = (s : State) → AreKeptOf s kept → AreKnown (Some place) (ahead p.backward (pair_in s p)) known

-- by what the operator seeks
abbrev pub AreKnownOver : {O : Type 0} → (O → Option SeekPlace) → KeptState → Crossing O → Known → Type 0
AreKnownOver seeks kept p known = (s : State) → AreKeptOf s kept → AreKnown (seeks p.operator) (ahead p.backward (pair_in s p)) known

-- ---- before a write

-- by what is known the identifiers are closed
pub record ClosesBy {O : Type 0} (seeks : O → Option SeekPlace) (kept : KeptState) (p : Crossing O) (ids : List ℕ) : Type 0 where
  pub known : Known
  pub are : AreKnownOver seeks kept p known
  pub closing : AreClosedBy known ids

-- they are, or the operator treats each identifier by itself
abbrev pub ClosesOver : {O : Type 0} → (O → Meaning) → (O → Option SeekPlace) → KeptState → List ℕ → Crossing O → Type 0
ClosesOver meaning seeks kept ids p = ((meaning p.operator).is_local ≡ true) ⊎ ClosesBy seeks kept p ids

-- so it is over each live operator that is one of these
abbrev pub ClosesAt : {O : Type 0} → (O → Meaning) → (O → Option SeekPlace) → List (Placed O) → KeptState → List ℕ → List ℕ → Type 0
ClosesAt {O} meaning seeks es kept ns ids = (e : Link O) → In e (forest es) → In e.number ns → ClosesOver meaning seeks kept ids (crossing false e)

-- identifiers with those that began, closed over these operators
pub record AreClosed {O : Type 0} (meaning : O → Meaning) (seeks : O → Option SeekPlace) (es : List (Placed O)) (kept : KeptState) (ns begin ids : List ℕ) : Type 0 where
  pub rise : IdsRise 0 ids
  pub begins : AreAmong begin ids
  pub closed : ClosesAt meaning seeks es kept ns ids

-- ---- after it

-- by what is known the identifiers are a footprint of what was carried to the near side, and keep what was carried to themselves
pub record SeesBy {O : Type 0} (meaning : O → Meaning) (seeks : O → Option SeekPlace) (kept : KeptState) (made : List (Numbered (List Change))) (ids : List ℕ) (p : Crossing O) : Type 0 where
  pub known : Known
  pub are : AreKnownOver seeks kept p known
  pub foot : FootprintOf (meaning p.operator) (seeks p.operator) p.backward known (map (latest_changes made) p.near) ids
  pub apart : ApartOver (meaning p.operator) (seeks p.operator) p.backward known (map (latest_changes made) p.near) (map (latest_changes made) (key_tables (seeks p.operator) p)) ids

-- they are, or the operator treats each identifier by itself
abbrev pub SeesOver : {O : Type 0} → (O → Meaning) → (O → Option SeekPlace) → KeptState → List (Numbered (List Change)) → List ℕ → Crossing O → Type 0
SeesOver meaning seeks kept made ids p = ((meaning p.operator).is_local ≡ true) ⊎ SeesBy meaning seeks kept made ids p

-- THE IDENTIFIERS ARE ENOUGH: so it is over each crossing that the walk makes over these operators
abbrev pub AreEnough : {O : Type 0} → (O → Meaning) → (O → Option SeekPlace) → List (Placed O) → KeptState → List (Numbered (List Change)) → ℕ → List ℕ → List ℕ → Type 0
AreEnough meaning seeks es kept made set ns ids = Each (SeesOver meaning seeks kept made ids) (reached ns (walk (forest es) set))

-- so it is where a step over one of these operators tells of a crossing
abbrev pub SeesStep : {O : Type 0} → List (Placed O) → List ℕ → (Crossing O → Type 0) → Step → Type 0
SeesStep es ns Sees step = In step.operator ns → AtStep es step Sees
