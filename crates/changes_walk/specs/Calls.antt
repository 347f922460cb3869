-- What carrying changes supposes and answers.
use Rattle.std.specs.Prelude.{◌≡◌, ℕ, ◌≤◌, List, length, map, Result, Ok, Err, ⊤}
use Rattle.par_base.specs.declared.fault.Fault.{Fault}
use Rattle.par_base.specs.declared.fault.Fault.TheVariants.{Refused, Memory as OutOfMemory}
use Rattle.par_base.specs.declared.refusal.IdsSpent.{IdsSpent}
use Rattle.row_store.specs.Rows.{Rows}
use Rattle.version_graph.specs.Edges.{AreEdges, numbers}
use Rattle.version_graph.specs.Sets.{In, Each}
use Rattle.version_graph.specs.Forest.{Crossing, forest, step_told, walk}
use Rattle.version_graph.specs.declared.parts.Placed.{Placed}
use Rattle.version_graph.specs.declared.parts.Step.{Step}
use Rattle.op_law.specs.Meaning.{Meaning}
use Rattle.op_law.specs.Premises.{SomeMap}
use Rattle.op_law.specs.Calls.{first_refused, IsSpent}
use Rattle.version_model.specs.Kept.{HasSides}
use Rattle.version_model.specs.Sound.{IsSound}
use Rattle.version_model.specs.States.{State}
use Rattle.version_model.specs.Steps.{after, directed, mapped, pair_in, run}
use Rattle.version_model.specs.Writes.{MayWrite, written}
use Rattle.version_model.specs.Calls.{IsCrossing}
use Rattle.changes_walk.specs.Changing.{AreOfState, changing_state}
use Rattle.changes_walk.specs.Reach.{IsReach}
use Rattle.changes_walk.specs.declared.progress.Changing.{Changing}

-- ---- a crossing

-- a crossing may be made: the changes so far are of the old state, the operator's memory is the old one, and its mapping may be made
pub record MayCrossBy {O : Type 0} (meaning : O → Meaning) (old : State) (made : Changing) (p : Crossing O) : Type 0 where
  pub near : length p.near ≤ 2
  pub far : length p.far ≤ 2
  pub fit : AreOfState old made.tables
  pub memory : (changing_state old made).memory p.number ≡ old.memory p.number
  pub may : SomeMap (directed p.backward (meaning p.operator)) (map (changing_state old made).tables p.near) (pair_in old p) made.ids.next

-- the changes of the far side and the memory were made, or an identifier is drawn that the counter doesn't give
abbrev pub CrossesBy : {O : Type 0} → (O → Meaning) → State → Crossing O → Changing → Changing → Result (Unit {0}) (Fault IdsSpent) → Type 0
CrossesBy meaning old p made new (Ok done) =
    let now = changing_state old made in
    ((mapped meaning old now p).next ≤ first_refused made.ids) × (changing_state old new ≡ after meaning old now p) × AreOfState old new.tables × (new.ids.limit ≡ made.ids.limit)
CrossesBy meaning old p made new (Err (Refused spent)) = IsSpent (mapped meaning old (changing_state old made) p).next made.ids made.ids spent
CrossesBy meaning old p made new (Err (OutOfMemory memory)) = ⊤

-- ---- a step of a walk

-- what is true of the crossing that a step tells of
abbrev pub AtStep : {O : Type 0} → List (Placed O) → Step → (Crossing O → Type 0) → Type 0
AtStep {O} es step P = (p : Crossing O) → IsCrossing es p → step_told p ≡ step → P p

-- a step may be made
pub record MayStepBy {O : Type 0} (meaning : O → Meaning) (es : List (Placed O)) (old : State) (made : Changing) (step : Step) : Type 0 where
  pub over : Crossing O
  pub crosses : IsCrossing es over
  pub tells : step_told over ≡ step
  pub may : MayCrossBy meaning old made over

-- ---- a whole walk

-- the changes so far are those of the written table alone, and these are the operators that they can reach
pub record MayCarryBy {O : Type 0} (meaning : O → Meaning) (es : List (Placed O)) (old : State) (made : Changing) (set : ℕ) (operators : List ℕ) : Type 0 where
  pub edges : AreEdges es
  pub sides : Each HasSides (forest es)
  pub sound : IsSound meaning es old
  pub lives : In set (numbers es)
  pub table : ℕ
  pub rows : Rows
  pub next : ℕ
  pub may : MayWrite es old set table rows next
  pub fit : AreOfState old made.tables
  pub start : changing_state old made ≡ written old table rows next
  pub tables : List ℕ
  pub reach : IsReach es set table operators tables

-- THE CHANGES OF THE WHOLE WRITE: those that make of the old state the one after the model's write, or it needs an identifier that the counter doesn't give
abbrev pub CarriesBy : {O : Type 0} → (O → Meaning) → List (Placed O) → State → ℕ → Changing → Changing → Result (Unit {0}) (Fault IdsSpent) → Type 0
CarriesBy meaning es old set made new (Ok done) =
    let end = run meaning old (changing_state old made) (walk (forest es) set) in
    (end.next ≤ first_refused made.ids) × (changing_state old new ≡ end) × AreOfState old new.tables × (new.ids.limit ≡ made.ids.limit)
CarriesBy meaning es old set made new (Err (Refused spent)) = IsSpent (run meaning old (changing_state old made) (walk (forest es) set)).next made.ids made.ids spent
CarriesBy meaning es old set made new (Err (OutOfMemory memory)) = ⊤
