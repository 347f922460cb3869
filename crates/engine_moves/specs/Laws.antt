-- Laws of moves in steps.
use Rattle.std.specs.Prelude.{◌≡◌, ℕ, zero, suc, Bool, true, false, List, Ok, Err}
use Rattle.par_base.specs.Checked.{Checked}
use Rattle.par_base.specs.declared.limits.Target.{Target}
use Rattle.par_base.specs.declared.refusal.Refusal.TheVariants.{NothingPending}
use Rattle.statements.specs.Views.{StatementView, Step}
use Rattle.version_graph.specs.Edges.{AreEdges, Rises}
use Rattle.version_graph.specs.Forest.{forest}
use Rattle.layout_rules.specs.Layouts.{IsValid}
use Rattle.engine_state.specs.declared.reply.Reply.{Reply}
use Rattle.engine_core.specs.Laid.{Laid, materialized}
use Rattle.engine_moves.specs.Moving.{Moving}
use Rattle.engine_moves.specs.Act.{act, started, stepped}

-- ---- what is pending is seen by STEP alone

abbrev pub is_step : StatementView → Bool
is_step Step = true
is_step _ = false

-- the same reply with the same data behind it, in the same layout, or the same refusal
abbrev pub SameLaid : Checked (Reply × Moving) → Checked (Reply × Moving) → Type 0
SameLaid (Ok a) (Ok b) = (a.0 ≡ b.0) × (a.1.laid ≡ b.1.laid)
SameLaid (Err r) (Err q) = r ≡ q
SameLaid (Ok a) (Err r) = ⊥
SameLaid (Err r) (Ok a) = ⊥

-- whatever is pending, every other statement has the same reply and leaves the same
abbrev pub PendingIsUnseen : Type 0
PendingIsUnseen = (laid : Laid) (pending other : List ℕ) (statement : StatementView) → is_step statement ≡ false
    → SameLaid (act (record { laid = laid; pending = pending }) statement) (act (record { laid = laid; pending = other }) statement)

-- ---- steps end where a move would have ended

-- so many STEPs, and the next one is refused
unfoldable pub StepsBy : ℕ → Moving → Moving → Type 0
StepsBy zero s last = (stepped s ≡ Err NothingPending) × (s ≡ last)
StepsBy (suc count) s last = (reply : Reply) × (next : Moving) × (stepped s ≡ Ok (reply, next)) × StepsBy count next last

-- A MOVE IN STEPS ENDS AS THE MOVE AT ONCE: with the same data in the same layout, after as many STEPs as that one tells flips
abbrev pub StepsEndAsMoved : Type 0
StepsEndAsMoved = (s : Moving) (named : List Target) (reply : Reply) (first : Moving) → AreEdges s.laid.database.graph.edges
    → IsValid (forest s.laid.database.graph.edges) s.laid.layout → Rises 0 s.laid.layout → started s named ≡ Ok (reply, first)
    → (count : ℕ) (last : Moving) → StepsBy count first last → materialized s.laid named ≡ Ok (count, last.laid)
