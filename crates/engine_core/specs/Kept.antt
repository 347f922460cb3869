-- The state that the engine stands for, and what its calls answer.
use Rattle.std.specs.Option.{IsSome}
use Rattle.std.specs.Prelude.{◌≡◌, ℕ, [], Result}
use Rattle.par_base.specs.declared.fault.Fault.{Fault}
use Rattle.par_base.specs.Checked.{Checked, Gives}
use Rattle.par_base.specs.declared.refusal.Refusal.{Refusal}
use Rattle.version_graph.specs.Edges.{edge_of}
use Rattle.version_graph.specs.Forest.{forest}
use Rattle.op_any.specs.Operators.{AnyView, any_meaning}
use Rattle.version_model.specs.Databases.{empty_database}
use Rattle.layout_rules.specs.Changes.{layout_after}
use Rattle.layout_rules.specs.Layouts.{IsValid}
use Rattle.db_state.specs.Fields.{database_for}
use Rattle.db_state.specs.declared.parts.Parts.{Parts}
use Rattle.engine_state.specs.AnyDatabase.{AnyDatabase}
use Rattle.engine_state.specs.declared.reply.Reply.{Reply}
use Rattle.engine_layouts.specs.Laid.{Laid, flipped_laid, laid_of}

-- the database that the engine keeps, with its layout
abbrev pub state_of : Parts AnyView → Laid
state_of k = laid_of k

-- the database without its layout
abbrev pub data_of : Parts AnyView → AnyDatabase
data_of k = database_for any_meaning k

-- the state without versions, with the greatest identifier that may be drawn
abbrev pub empty_state : ℕ → Laid
empty_state limit = record { database = empty_database limit; layout = [] }

-- the call answers and leaves what the model does: the reply and the next state, or the refusal, unless memory ran out
abbrev pub Answers : {S : Type 0} → Checked (Reply × S) → Result Reply (Fault Refusal) → S → Type 0
Answers model result next = Gives (λ reply. (reply, next)) result model

-- the layout follows the graph
abbrev pub Follows : Parts AnyView → Parts AnyView → Type 0
Follows old new = new.layout.operators ≡ layout_after old.layout.operators old.graph new.graph

-- a live operator that may change sides: the layout with it on its other side is valid
abbrev pub MayFlip : Parts AnyView → ℕ → Type 0
MayFlip k n = IsSome (edge_of k.graph.edges n) × IsValid (forest k.graph.edges) (flipped_laid (state_of k) n).layout
