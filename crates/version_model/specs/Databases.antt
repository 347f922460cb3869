-- What the calls of a database answer and leave.
use Rattle.std.specs.Prelude.{◌≡◌, ℕ, ◌<◌, ◌≤◌, List, [], Option, Some, None, unwrap_or, Result, Ok, Err}
use Rattle.par_base.specs.declared.fault.Fault.{Fault}
use Rattle.par_base.specs.declared.fault.Fault.TheVariants.{Refused, Memory}
use Rattle.par_base.specs.declared.refusal.IdsSpent.{IdsSpent}
use Rattle.par_base.specs.declared.refusal.Refusal.{Refusal}
use Rattle.par_base.specs.declared.refusal.Refusal.TheVariants.{IdsSpent as SpendsIds}
use Rattle.row_store.specs.Rows.{Rows}
use Rattle.id_memory.specs.States.{CounterState}
use Rattle.version_graph.specs.Sets.{Each}
use Rattle.version_graph.specs.Evolve.{MayEvolve, evolved, refusal_of, start_of}
use Rattle.version_graph.specs.Dropped.{dropped}
use Rattle.version_graph.specs.declared.parts.Edge.{Edge}
use Rattle.op_law.specs.Meaning.{Meaning}
use Rattle.op_law.specs.Calls.{first_refused, IsSpent}
use Rattle.version_model.specs.States.{State, empty_at}
use Rattle.version_model.specs.Writes.{write}
use Rattle.version_model.specs.Evolving.{AreBuilt, HasFewTables, grown_state}
use Rattle.version_model.specs.Dropping.{staying_state}
use Rattle.version_model.specs.Kept.{Database}

-- the database without versions
abbrev pub empty_database : {O : Type 0} → ℕ → Database O
empty_database limit = record { graph = record { edges = []; versions = []; last_operator = 0; last_table = 0 }; state = empty_at 1; limit = limit }

abbrev pub counter_of : {O : Type 0} → Database O → CounterState
counter_of d = record { next = d.state.next; limit = d.limit }

-- a write is refused exactly where it would draw an identifier above the limit; then nothing changes
abbrev pub Writes : {O : Type 0} → (O → Meaning) → Database O → ℕ → ℕ → Rows → ℕ → Result (Unit {0}) (Fault IdsSpent) → Database O → Type 0
Writes meaning d w t rows next (Ok done) new =
    let end = write meaning d.graph.edges d.state w t rows next in
    (end.next ≤ first_refused (counter_of d)) × (new ≡ record d { state = end })
Writes meaning d w t rows next (Err (Refused spent)) new = IsSpent (write meaning d.graph.edges d.state w t rows next).next (counter_of d) (counter_of d) spent × (new ≡ d)
Writes meaning d w t rows next (Err (Memory memory)) new = new ≡ d

-- ---- evolutions

-- the working set from which an evolution starts, where it isn't refused
abbrev pub start_in : {O : Type 0} → Database O → Option (List ℕ) → ℕ
start_in d from = unwrap_or (start_of d.graph.versions from) 0

-- the state after an evolution
abbrev pub evolved_state : {O : Type 0} → (O → Meaning) → Database O → Option (List ℕ) → List (Edge O) → State
evolved_state meaning d from edges = grown_state meaning d.graph.edges (start_in d from) d.graph.last_operator d.graph.last_table edges d.state

-- each new edge fits the working set before it and has at most two tables on either side, and each operator is built for them, where there is a working set to start from
pub record MayEvolveTo {O : Type 0} (meaning : O → Meaning) (d : Database O) (from : Option (List ℕ)) (edges : List (Edge O)) : Type 0 where
  pub fits : MayEvolve d.graph from edges
  pub few : Each HasFewTables edges
  pub built : (w : ℕ) → start_of d.graph.versions from ≡ Some w → AreBuilt meaning d.graph.edges w d.graph.last_operator d.graph.last_table edges d.state.next

-- an evolution is refused for the graph's reason, or else because it would draw an identifier above the limit
abbrev pub RefusesEvolution : Option Refusal → ℕ → CounterState → Refusal → Type 0
RefusesEvolution (Some reason) next counter told = told ≡ reason
RefusesEvolution None next counter told = (first_refused counter < next) × (told ≡ SpendsIds (first_refused counter) counter.limit)

-- an evolution adds the new operators and names the last working set, or is refused; then nothing changes
abbrev pub Evolves : {O : Type 0} → (O → Meaning) → Database O → List ℕ → Option (List ℕ) → List (Edge O) → Result (Unit {0}) (Fault Refusal) → Database O → Type 0
Evolves meaning d name from edges (Ok done) new =
    let end = evolved_state meaning d from edges in
    (refusal_of d.graph name from edges ≡ None) × (end.next ≤ first_refused (counter_of d)) × (new ≡ record d { graph = evolved d.graph name (start_in d from) edges; state = end })
Evolves meaning d name from edges (Err (Refused told)) new = RefusesEvolution (refusal_of d.graph name from edges) (evolved_state meaning d from edges).next (counter_of d) told × (new ≡ d)
Evolves meaning d name from edges (Err (Memory memory)) new = new ≡ d

-- ---- drops

-- the database without a version: its graph, and the tables and memories of the operators that stay
abbrev pub dropped_database : {O : Type 0} → Database O → List ℕ → Database O
dropped_database d name = record d { graph = dropped d.graph name; state = staying_state (dropped d.graph name).edges d.state }
