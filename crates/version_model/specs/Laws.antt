-- The laws of states: writes, evolutions and drops keep them sound, and change no table that they don't name.
use Rattle.std.specs.Prelude.{◌≡◌, ℕ, ◌≤◌, List, []}
use Rattle.row_store.specs.Rows.{Rows}
use Rattle.version_graph.specs.Sets.{In}
use Rattle.version_graph.specs.Tables.{table_numbers}
use Rattle.version_graph.specs.Edges.{AreEdges, numbers, made, working}
use Rattle.version_graph.specs.Evolve.{grown}
use Rattle.version_graph.specs.Forest.{forest, tree}
use Rattle.version_graph.specs.Dropped.{staying}
use Rattle.version_graph.specs.declared.parts.Edge.{Edge}
use Rattle.version_graph.specs.declared.parts.Placed.{Placed}
use Rattle.op_law.specs.Meaning.{Meaning}
use Rattle.version_model.specs.States.{State, empty_at}
use Rattle.version_model.specs.Sound.{IsSound}
use Rattle.version_model.specs.Writes.{write, MayWrite}
use Rattle.version_model.specs.Evolving.{grown_state, AreBuilt}
use Rattle.version_model.specs.Dropping.{staying_state}

-- the tables that an edge made and its memory are as they were
pub record StaysAt {O : Type 0} (e : Placed O) (old new : State) : Type 0 where
  pub tables : (t : ℕ) → In t e.tables → new.tables t ≡ old.tables t
  pub memory : new.memory e.number ≡ old.memory e.number

-- a write leaves a sound state, in which the written table has its rows, and the other tables of its working set and all of other trees are as they were
pub record WriteIsOrdinary {O : Type 0} (meaning : O → Meaning) (es : List (Placed O)) (s : State) (w t : ℕ) (rows : Rows) (next : ℕ) : Type 0 where
  pub sound : IsSound meaning es (write meaning es s w t rows next)
  pub table : (write meaning es s w t rows next).tables t ≡ rows
  pub others : (n : ℕ) → In n (table_numbers (working es w)) → (n ≡ t → ⊥) → (write meaning es s w t rows next).tables n ≡ s.tables n
  pub trees : (e : Placed O) → In e es → (tree (forest es) e.number ≡ tree (forest es) w → ⊥) → StaysAt e s (write meaning es s w t rows next)
  pub rises : next ≤ (write meaning es s w t rows next).next

abbrev pub WritesAreOrdinary : {O : Type 0} → (O → Meaning) → Type 0
WritesAreOrdinary {O} meaning = (es : List (Placed O)) (s : State) (w t : ℕ) (rows : Rows) (next : ℕ) → AreEdges es → IsSound meaning es s → MayWrite es s w t rows next → WriteIsOrdinary meaning es s w t rows next

-- an evolution leaves a sound state, in which all older tables and memories are as they were
pub record EvolutionKeeps {O : Type 0} (meaning : O → Meaning) (es : List (Placed O)) (parent operator table : ℕ) (edges : List (Edge O)) (s : State) : Type 0 where
  pub sound : IsSound meaning (grown es parent operator table edges) (grown_state meaning es parent operator table edges s)
  pub tables : (t : ℕ) → In t (table_numbers (made es)) → (grown_state meaning es parent operator table edges s).tables t ≡ s.tables t
  pub memories : (n : ℕ) → In n (numbers es) → (grown_state meaning es parent operator table edges s).memory n ≡ s.memory n
  pub rises : s.next ≤ (grown_state meaning es parent operator table edges s).next

abbrev pub EvolutionsKeep : {O : Type 0} → (O → Meaning) → Type 0
EvolutionsKeep {O} meaning = (es : List (Placed O)) (parent operator table : ℕ) (edges : List (Edge O)) (s : State) → AreEdges (grown es parent operator table edges) → IsSound meaning es s → AreBuilt meaning es parent operator table edges s.next → EvolutionKeeps meaning es parent operator table edges s

-- a drop leaves a sound state, in which all tables and memories that stay are as they were, and no identifier is free again
pub record DropKeeps {O : Type 0} (meaning : O → Meaning) (es : List (Placed O)) (needed : List ℕ) (s : State) : Type 0 where
  pub sound : IsSound meaning (staying needed es) (staying_state (staying needed es) s)
  pub tables : (t : ℕ) → In t (table_numbers (made (staying needed es))) → (staying_state (staying needed es) s).tables t ≡ s.tables t
  pub memories : (n : ℕ) → In n (numbers (staying needed es)) → (staying_state (staying needed es) s).memory n ≡ s.memory n
  pub next : (staying_state (staying needed es) s).next ≡ s.next

abbrev pub DropsKeep : {O : Type 0} → (O → Meaning) → Type 0
DropsKeep {O} meaning = (es : List (Placed O)) (needed : List ℕ) (s : State) → AreEdges es → IsSound meaning es s → DropKeeps meaning es needed s

-- the state of no operators is sound
abbrev pub EmptyIsSound : {O : Type 0} → (O → Meaning) → Type 0
EmptyIsSound {O} meaning = (n : ℕ) → 1 ≤ n → IsSound meaning [] (empty_at n)

-- a write that gives a table its own rows and draws nothing leaves the state
abbrev pub WritesOfTheSameAreStill : {O : Type 0} → (O → Meaning) → Type 0
WritesOfTheSameAreStill {O} meaning = (es : List (Placed O)) (s : State) (w t : ℕ) → IsSound meaning es s → write meaning es s w t (s.tables t) s.next ≡ s
