-- Laws of what is stored.
use Rattle.std.specs.Prelude.{◌≡◌, ℕ, List, ◌++◌, map}
use Rattle.row_store.specs.Rows.{Rows}
use Rattle.version_graph.specs.Sets.{In}
use Rattle.version_graph.specs.Tables.{table_numbers}
use Rattle.version_graph.specs.Edges.{AreEdges, made, numbers}
use Rattle.version_graph.specs.Evolve.{grown}
use Rattle.version_graph.specs.Dropped.{staying}
use Rattle.version_graph.specs.Forest.{Link, forest}
use Rattle.version_graph.specs.declared.parts.Edge.{Edge}
use Rattle.version_graph.specs.declared.parts.Placed.{Placed}
use Rattle.op_law.specs.Meaning.{Meaning}
use Rattle.layout_rules.specs.Changes.{creates_next}
use Rattle.layout_rules.specs.Layouts.{IsValid}
use Rattle.layout_rules.specs.Moves.{SameOperators}
use Rattle.version_model.specs.States.{State}
use Rattle.version_model.specs.Sound.{IsSound}
use Rattle.version_model.specs.Evolving.{AreBuilt, grown_state}
use Rattle.version_model.specs.Dropping.{staying_state}
use Rattle.storage_law.specs.Storage.{Storage, Stands, stored_way}
use Rattle.storage_law.specs.Reading.{far_read, read_all}
use Rattle.storage_law.specs.Canonical.{SameStored, storage_of}
use Rattle.storage_law.specs.Flips.{MovesStorage, Turns, flipped}
use Rattle.storage_law.specs.Changes.{GoFromSources, LeavesTo, grown_storage, staying_storage}

-- two states have the same tables and memories of these edges
pub record SameOf {O : Type 0} (es : List (Placed O)) (a b : State) : Type 0 where
  pub tables : (t : ℕ) → In t (table_numbers (made es)) → a.tables t ≡ b.tables t
  pub memories : (n : ℕ) → In n (numbers es) → a.memory n ≡ b.memory n

-- the same parts stand for one state
abbrev pub StandsForOne : {O : Type 0} → (O → Meaning) → Type 0
StandsForOne {O} meaning = (es : List (Placed O)) → AreEdges es → (storage : Storage) → IsValid (forest es) storage.layout → (a b : State) → Stands meaning es storage a → Stands meaning es storage b → SameOf es a b

-- the far side of one operator is read back, where the near one is known
abbrev pub ReadsOver : {O : Type 0} → (O → Meaning) → Type 0
ReadsOver {O} meaning = (es : List (Placed O)) (storage : Storage) → IsValid (forest es) storage.layout → (s : State) → Stands meaning es storage s → (e : Link O) → In e (forest es)
    → (rows : ℕ → Rows) → let p = stored_way storage.layout e in ((t : ℕ) → In t p.near → rows t ≡ s.tables t) → far_read meaning storage p rows ≡ map s.tables p.far

-- the two passes give the state back
abbrev pub ReadsBack : {O : Type 0} → (O → Meaning) → Type 0
ReadsBack {O} meaning = (es : List (Placed O)) → AreEdges es → (storage : Storage) → IsValid (forest es) storage.layout → (s : State) → Stands meaning es storage s
    → (t : ℕ) → In t (table_numbers (made es)) → read_all meaning storage (forest es) t ≡ s.tables t

-- what is stored of a sound state stands for it, whatever the layout
abbrev pub SoundStands : {O : Type 0} → (O → Meaning) → Type 0
SoundStands {O} meaning = (es : List (Placed O)) → AreEdges es → (s : State) → IsSound meaning es s → (layout : List ℕ) → Stands meaning es (storage_of meaning es layout s) s

-- one state and one layout, in whatever order, have the same parts
abbrev pub PartsAreOne : {O : Type 0} → (O → Meaning) → Type 0
PartsAreOne {O} meaning = (es : List (Placed O)) (s : State) (p q : Storage) → SameOperators p.layout q.layout → Stands meaning es p s → Stands meaning es q s → SameStored p q

-- a flip from one valid layout into another leaves the state
abbrev pub FlipsLeave : {O : Type 0} → (O → Meaning) → Type 0
FlipsLeave {O} meaning = (es : List (Placed O)) → AreEdges es → (storage : Storage) → IsValid (forest es) storage.layout → (e : Link O) → In e (forest es) → (new : List ℕ) → Turns e.number storage.layout new → IsValid (forest es) new
    → (s : State) → Stands meaning es storage s → Stands meaning es (flipped meaning storage e new) s

-- so a move towards a valid layout passes through valid layouts alone, and all its parts stand for the state
abbrev pub MovesLeave : {O : Type 0} → (O → Meaning) → Type 0
MovesLeave {O} meaning = (es : List (Placed O)) → AreEdges es → (goal : List ℕ) → IsValid (forest es) goal → (s : State) (n : ℕ) (storage last : Storage) → IsValid (forest es) storage.layout → Stands meaning es storage s
    → MovesStorage meaning (forest es) goal n storage last → IsValid (forest es) last.layout × Stands meaning es last s

-- an evolution moves no data, and puts its CREATE TABLE operators into the layout
pub record GrownStand {O : Type 0} (meaning : O → Meaning) (es : List (Placed O)) (parent operator table : ℕ) (edges : List (Edge O)) (s : State) (storage : Storage) : Type 0 where
  pub layout : (grown_storage meaning es parent operator table edges s storage).layout ≡ storage.layout ++ creates_next operator edges
  pub stands : Stands meaning (grown es parent operator table edges) (grown_storage meaning es parent operator table edges s storage) (grown_state meaning es parent operator table edges s)

abbrev pub EvolutionsStand : {O : Type 0} → (O → Meaning) → Type 0
EvolutionsStand {O} meaning = (es : List (Placed O)) (parent operator table : ℕ) (edges : List (Edge O)) (s : State) → AreEdges (grown es parent operator table edges) → IsSound meaning es s → AreBuilt meaning es parent operator table edges s.next
    → (storage : Storage) → IsValid (forest es) storage.layout → Stands meaning es storage s → GrownStand meaning es parent operator table edges s storage

-- a drop of operators that are stored on their source side, or are CREATE TABLE operators, moves no data of what stays
abbrev pub DropsStand : {O : Type 0} → (O → Meaning) → Type 0
DropsStand {O} meaning = (es : List (Placed O)) (needed : List ℕ) (s : State) → AreEdges es → IsSound meaning es s → (storage : Storage) → GoFromSources es (staying needed es) storage.layout → Stands meaning es storage s
    → Stands meaning (staying needed es) (staying_storage (staying needed es) storage) (staying_state (staying needed es) s)

-- operators that are dropped from a valid layout can go to their source side: that layout is valid too
abbrev pub LeavingStaysValid : Type 0 → Type 0
LeavingStaysValid O = (es : List (Placed O)) (needed : List ℕ) → AreEdges es → (layout new : List ℕ) → IsValid (forest es) layout → LeavesTo es (staying needed es) layout new → IsValid (forest es) new × GoFromSources es (staying needed es) new
