-- Laws of events, which say on reading what is believed of moves and replies.
use Rattle.std.specs.Prelude.{◌≡◌, ◌++◌, ℕ, List, [], ◌∷◌, Ok, Err}
use Rattle.par_base.specs.declared.limits.Target.{Target}
use Rattle.par_base.specs.declared.refusal.Refusal.{Refusal}
use Rattle.version_graph.specs.Sets.{Each}
use Rattle.version_graph.specs.Edges.{AreEdges}
use Rattle.par_base.specs.Checked.{Checked}
use Rattle.op_any.specs.Operators.{AnyView, any_meaning}
use Rattle.layout_rules.specs.Closing.{StoresTarget}
use Rattle.storage_law.specs.Canonical.{SameStored}
use Rattle.db_state.specs.Fields.{IsDatabase, storage_in}
use Rattle.db_state.specs.declared.parts.Parts.{Parts}
use Rattle.engine_state.specs.declared.reply.Reply.{Reply}
use Rattle.engine_layouts.specs.Laid.{Laid, laid_of, materialized}
use Rattle.engine_core.specs.Texts.{refusal_bytes, reply_bytes}

-- a MATERIALIZE that is answered changes no data, and leaves every table of the targets that it names stored
abbrev pub MovesStoreTargets : Type 0
MovesStoreTargets =
    (s : Laid) (named : List Target) (answer : ℕ × Laid) → AreEdges s.database.graph.edges → materialized s named ≡ Ok answer
    → (answer.1.database ≡ s.database) × Each (StoresTarget s.database.graph answer.1.layout) named

-- what a MATERIALIZE leaves; a refused one leaves all as it is
abbrev pub laid_after : Laid → Checked (ℕ × Laid) → Laid
laid_after s (Ok answer) = answer.1
laid_after s (Err refusal) = s

-- what one MATERIALIZE after the other leaves
unfoldable pub moved_by : Laid → List (List Target) → Laid
moved_by s [] = s
moved_by s (named ∷ moves) = moved_by (laid_after s (materialized s named)) moves

-- THERE AND BACK: moves that end in the layout from which they began leave every stored table, auxiliary table and memory as it was
abbrev pub MovesRestore : Type 0
MovesRestore =
    (old new : Parts AnyView) (moves : List (List Target)) → IsDatabase any_meaning old → IsDatabase any_meaning new
    → laid_of new ≡ moved_by (laid_of old) moves → new.layout.operators ≡ old.layout.operators → SameStored (storage_in old) (storage_in new)

-- a line feed stands at the end
abbrev pub EndsLine : List ℕ → Type 0
EndsLine text = (front : List ℕ) × (text ≡ front ++ 10 ∷ [])

-- each reply has a line at least, and its last one ends too; so has each refusal
abbrev pub RepliesAreLines : Type 0
RepliesAreLines = (reply : Reply) → EndsLine (reply_bytes reply)

abbrev pub RefusalsAreLines : Type 0
RefusalsAreLines = (refusal : Refusal) → EndsLine (refusal_bytes refusal)
