-- What inner calls suppose and ensure.
use Rattle.std.specs.Prelude.{◌≡◌, ℕ, ◌≤◌, ◌⊎◌, Bool, true, false, cond, List, [], ◌∷◌, map, Result, Ok, Err, Option, Some, None, ⊤}
use Rattle.par_base.specs.declared.fault.Fault.{Fault}
use Rattle.par_base.specs.declared.refusal.IdsSpent.{IdsSpent}
use Rattle.version_graph.specs.Edges.{edge_of, sources_at}
use Rattle.version_graph.specs.Forest.{Crossing}
use Rattle.version_graph.specs.declared.parts.Placed.{Placed}
use Rattle.version_graph.specs.declared.parts.Step.{Step}
use Rattle.op_law.specs.Meaning.{Meaning, Mapped, PairState, exchanged}
use Rattle.op_law.specs.Calls.{first_refused, IsSpent}
use Rattle.par_base.specs.declared.fault.Fault.TheVariants.{Refused, Memory as OutOfMemory}
use Rattle.version_model.specs.States.{State}
use Rattle.version_model.specs.Kept.{rows_at, pairs_at, rows_now, pairs_now}
use Rattle.version_model.specs.declared.crossing.Way.{Way}
use Rattle.version_model.specs.declared.progress.Before.{Before}
use Rattle.version_model.specs.declared.progress.Made.{Made}
use Rattle.version_model.specs.Put.{put}
use Rattle.version_model.specs.Steps.{directed}

-- an operator between its near and its far tables
abbrev pub crossing_of : {O : Type 0} → Way O → Crossing O
crossing_of w = record { operator = w.operator.now; backward = w.backward; number = w.number; near = w.near.now; far = w.far.now }

-- the pair as it is seen from the near side
abbrev pub seen_from : Bool → PairState → PairState
seen_from false p = p
seen_from true p = exchanged p

-- the crossing of a live edge, from its sources to its targets or backward
abbrev pub crossing_over : {O : Type 0} → Bool → Placed O → List ℕ → Crossing O
crossing_over back e sources = record { operator = e.edge.operator; backward = back; number = e.number; near = cond back e.tables sources; far = cond back sources e.tables }

-- the crossing that a step tells of
abbrev pub IsTold : {O : Type 0} → List (Placed O) → Step → Option (Crossing O) → Type 0
IsTold {O} es step (Some p) = (e : Placed O) × (sources : List ℕ) × (edge_of es step.operator ≡ Some e) × (sources_at es step.operator ≡ Some sources) × (p ≡ record (crossing_over step.backward e sources) { number = step.operator })
IsTold es step None = (edge_of es step.operator ≡ None) ⊎ (sources_at es step.operator ≡ None)

-- ---- an evolution on its way

-- the state before
abbrev pub before_state : Before → State
before_state b = record { tables = rows_at b.tables.now; memory = pairs_at b.memories.now; next = b.next }

-- the state as it has been made so far
abbrev pub made_state : Before → Made → State
made_state b made = record { tables = rows_now b.tables.now made.tables; memory = pairs_now b.memories.now made.memories; next = made.ids.next }

-- what a crossing gives, from this old pair
abbrev pub given : {O : Type 0} → (O → Meaning) → State → Crossing O → PairState → Mapped
given meaning now p old = (directed p.backward (meaning p.operator)).forward (map now.tables p.near) old now.next

-- the state with what a crossing gives
abbrev pub with_far : {O : Type 0} → State → Crossing O → Mapped → State
with_far now p to = record { tables = put now.tables p.far to.far; memory = put now.memory (p.number ∷ []) (to.memory ∷ []); next = to.next }

-- the far side and the memory were made, or an identifier is drawn that the counter doesn't give
abbrev pub Crosses : {O : Type 0} → (O → Meaning) → Before → Crossing O → PairState → Made → Made → Result (Unit {0}) (Fault IdsSpent) → Type 0
Crosses meaning b p old made new (Ok done) =
    let to = given meaning (made_state b made) p old in
    (to.next ≤ first_refused made.ids) × (made_state b new ≡ with_far (made_state b made) p to) × (new.ids.limit ≡ made.ids.limit)
Crosses meaning b p old made new (Err (Refused spent)) = IsSpent (given meaning (made_state b made) p old).next made.ids made.ids spent
Crosses meaning b p old made new (Err (OutOfMemory memory)) = ⊤

-- ---- a live edge

-- the crossing of a live edge, with its sources and targets
pub record IsCrossing {O : Type 0} (es : List (Placed O)) (p : Crossing O) : Type 0 where
  pub edge : Placed O
  pub live : edge_of es p.number ≡ Some edge
  pub operator : p.operator ≡ edge.edge.operator
  pub sources : sources_at es p.number ≡ Some (cond p.backward p.far p.near)
  pub targets : edge.tables ≡ cond p.backward p.near p.far
