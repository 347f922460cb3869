-- What the inner calls suppose and ensure.
use Rattle.std.specs.Prelude.{◌≡◌, ◌⊎◌, ℕ, Bool, true, List, [], map, length, slice_get, Result, Ok, Err, Some, ⊤}
use Rattle.par_base.specs.declared.fault.Fault.{Fault}
use Rattle.par_base.specs.declared.fault.Fault.TheVariants.{Refused, Memory}
use Rattle.row_store.specs.Rows.{RiseFrom, Rows}
use Rattle.row_store.specs.States.{TableState}
use Rattle.version_graph.specs.Tables.{table_numbers}
use Rattle.version_graph.proofs.WalkLaws.{link_numbers}
use Rattle.layout_rules.specs.Layouts.{IsStored}
use Rattle.db_state.specs.inner.Passes.{IsDownTo, IsUpTo}
use Rattle.version_graph.specs.Sets.{In}
use Rattle.version_graph.specs.Edges.{is_in, made as made_by}
use Rattle.version_graph.specs.Forest.{Crossing, Link, crossing, forest, step_told}
use Rattle.version_graph.specs.declared.parts.Step.{Step}
use Rattle.op_law.specs.Tables.{RowsWide, Tables}
use Rattle.op_law.specs.Meaning.{Meaning}
use Rattle.op_law.specs.Premises.{Belongs}
use Rattle.op_law.specs.Sound.{PairsSound, RowsSound, TablesSound}
use Rattle.version_model.specs.Calls.{IsCrossing}
use Rattle.version_model.specs.Kept.{pairs_at, rows_at, rows_now}
use Rattle.version_model.specs.Making.{ascending}
use Rattle.version_model.specs.Put.{put}
use Rattle.version_model.specs.States.{State, headings}
use Rattle.version_model.specs.Steps.{directed}
use Rattle.version_model.specs.declared.numbered.Numbered.{Numbered}
use Rattle.storage_law.specs.Storage.{StandsOver, stored_way}
use Rattle.db_state.specs.Fields.{IsDatabase, state_for, storage_in}
use Rattle.db_state.specs.declared.parts.Parts.{Parts}
use Rattle.db_check.specs.declared.checking.NotValid.{NotValid}
use Rattle.db_check.specs.Checked.{IsBuilt, IsListed}

-- each table rises and is as wide as its heading, and stands before the next identifier
pub record AreWell {O : Type 0} (p : Parts O) (rows : ℕ → Rows) : Type 0 where
  pub tables : (t : ℕ) → RiseFrom 0 (rows t) × RowsWide (length (headings p.graph.edges t).columns) (rows t)
  pub below : (t : ℕ) → RowsSound p.ids.next (rows t)

-- what is known before operators are crossed
pub record MayRead {O : Type 0} (meaning : O → Meaning) (p : Parts O) : Type 0 where
  pub built : IsBuilt meaning p
  pub listed : IsListed p
  pub memories : (n : ℕ) → PairsSound p.ids.next (pairs_at p.memories n)

-- the far side of a crossing was admitted, stands before the next identifier, and was made
pub record IsOver {O : Type 0} (meaning : O → Meaning) (p : Parts O) (rows new : ℕ → Rows) (q : Crossing O) : Type 0 where
  pub far : Tables
  pub made : new ≡ put rows q.far far
  pub belongs : Belongs (directed q.backward (meaning q.operator)) (map (headings p.graph.edges) q.near) (map (headings p.graph.edges) q.far) ((storage_in p).aux q.number) (record { source = map rows q.near; target = far; memory = (storage_in p).memory q.number })
  pub below : TablesSound p.ids.next far

-- were the fields a database, and the near side that of its state, there would be one
abbrev pub IsNone : {O : Type 0} → (O → Meaning) → Parts O → (ℕ → Rows) → Crossing O → Type 0
IsNone meaning p rows q = IsDatabase meaning p → ((t : ℕ) → In t q.near → rows t ≡ (state_for meaning p).tables t) → ⊥

-- a step comes from the stored side of a live operator
pub record MayAdmit {O : Type 0} (meaning : O → Meaning) (p : Parts O) (made : List (Numbered TableState)) (step : Step) : Type 0 where
  pub over : Link O
  pub lives : In over (forest p.graph.edges)
  pub crosses : IsCrossing p.graph.edges (stored_way p.layout.operators over)
  pub tells : step_told (stored_way p.layout.operators over) ≡ step

-- the answer at a step
abbrev pub Admits : {O : Type 0} → (O → Meaning) → Parts O → Step → (rows new : ℕ → Rows) → Result (Unit {0}) (Fault NotValid) → Type 0
Admits {O} meaning p step rows new (Ok done) = (e : Link O) → In e (forest p.graph.edges) → step_told (stored_way p.layout.operators e) ≡ step → IsOver meaning p rows new (stored_way p.layout.operators e)
Admits {O} meaning p step rows new (Err (Refused r)) = (e : Link O) → In e (forest p.graph.edges) → step_told (stored_way p.layout.operators e) ≡ step → IsNone meaning p rows (stored_way p.layout.operators e)
Admits meaning p step rows new (Err (Memory memory)) = ⊤

-- the operator at a place was crossed, where its stored side is that of the pass
abbrev pub Goes : {O : Type 0} → (O → Meaning) → Parts O → Bool → ℕ → (rows new : ℕ → Rows) → Result (Unit {0}) (Fault NotValid) → Type 0
Goes {O} meaning p back place rows new (Ok done) = (f : Link O) → slice_get (ascending p.graph.edges) place ≡ Some f
    → ((is_in f.number p.layout.operators ≡ back) × IsOver meaning p rows new (crossing back f)) ⊎ ((is_in f.number p.layout.operators ≡ back → ⊥) × (new ≡ rows))
Goes {O} meaning p back place rows new (Err (Refused r)) = (f : Link O) × (slice_get (ascending p.graph.edges) place ≡ Some f) × (is_in f.number p.layout.operators ≡ back) × IsNone meaning p rows (crossing back f)
Goes meaning p back place rows new (Err (Memory memory)) = ⊤

-- ---- the passes

-- all tables as they are now, with the memories that are kept
abbrev pub state_with : {O : Type 0} → Parts O → (ℕ → Rows) → State
state_with p rows = record { tables = rows; memory = pairs_at p.memories; next = p.ids.next }

-- the operators that passed the test were crossed: each relates its sides as they are now, and what is kept of it is its pair's
pub record AreOver {O : Type 0} (meaning : O → Meaning) (p : Parts O) (Done : Link O → Type 0) (rows : ℕ → Rows) : Type 0 where
  pub well : AreWell p rows
  pub stored : (t : ℕ) → IsStored (forest p.graph.edges) p.layout.operators t → rows t ≡ rows_at p.stored t
  pub alone : (t : ℕ) → (In t (table_numbers (made_by p.graph.edges)) → ⊥) → rows t ≡ []
  pub over : (f : Link O) → In f (forest p.graph.edges) → Done f → StandsOver meaning (headings p.graph.edges) (storage_in p) (state_with p rows) (stored_way p.layout.operators f)

-- all live operators
abbrev pub all_of : {O : Type 0} → Parts O → List ℕ
all_of p = link_numbers (forest p.graph.edges)

-- on the way down with these operators left; were the fields a database, what was made so far would be right
pub record WasDown {O : Type 0} (meaning : O → Meaning) (p : Parts O) (left : List (Link O)) (rows : ℕ → Rows) : Type 0 where
  pub over : AreOver meaning p (λ f. In f.number p.layout.operators × (In f left → ⊥)) rows
  pub right : IsDatabase meaning p → IsDownTo (forest p.graph.edges) p.layout.operators (all_of p) (state_for meaning p).tables left rows

-- on the way up with these operators behind
pub record WasUp {O : Type 0} (meaning : O → Meaning) (p : Parts O) (behind : List (Link O)) (rows : ℕ → Rows) : Type 0 where
  pub over : AreOver meaning p (λ f. In f.number p.layout.operators ⊎ In f behind) rows
  pub right : IsDatabase meaning p → IsUpTo (forest p.graph.edges) p.layout.operators (all_of p) (state_for meaning p).tables behind rows

-- the answer of the pass down
abbrev pub GoesDown : {O : Type 0} → (O → Meaning) → Parts O → Result (List (Numbered TableState)) (Fault NotValid) → Type 0
GoesDown meaning p (Ok made) = WasDown meaning p [] (rows_now p.stored made)
GoesDown meaning p (Err (Refused r)) = IsDatabase meaning p → ⊥
GoesDown meaning p (Err (Memory memory)) = ⊤

-- the answer of the pass up
abbrev pub GoesUp : {O : Type 0} → (O → Meaning) → Parts O → (rows : ℕ → Rows) → Result (Unit {0}) (Fault NotValid) → Type 0
GoesUp meaning p rows (Ok done) = WasUp meaning p (forest p.graph.edges) rows
GoesUp meaning p rows (Err (Refused r)) = IsDatabase meaning p → ⊥
GoesUp meaning p rows (Err (Memory memory)) = ⊤

-- ---- the check

-- the answer of a test of the fields before any operator is asked: it passes what may be read, and a database
abbrev pub TellsOf : {O : Type 0} → (O → Meaning) → Parts O → Bool → Type 0 → Type 0
TellsOf meaning p b P = (b ≡ true → P) × (IsDatabase meaning p → b ≡ true)

-- the answer of the passes
abbrev pub AdmitsAll : {O : Type 0} → (O → Meaning) → Parts O → Result (Unit {0}) (Fault NotValid) → Type 0
AdmitsAll meaning p (Ok done) = IsDatabase meaning p
AdmitsAll meaning p (Err (Refused r)) = IsDatabase meaning p → ⊥
AdmitsAll meaning p (Err (Memory memory)) = ⊤
