-- One event, with moves in steps: the reply or refusal of a statement, and the next state.
use Rattle.std.specs.Prelude.{ℕ, Bool, true, false, List, [], length, Option, Some, None, Ok, Err, if◌then◌else◌}
use Rattle.par_base.specs.Checked.{Checked, ◌then◌}
use Rattle.par_base.specs.declared.limits.Target.{Target}
use Rattle.par_base.specs.declared.refusal.Refusal.TheVariants.{NothingPending}
use Rattle.statements.specs.Views.{StatementView, Materialize, Step}
use Rattle.engine_state.specs.declared.reply.Reply.{Reply}
use Rattle.engine_state.specs.declared.reply.Reply.TheVariants.{Pending, Flipped}
use Rattle.migration.specs.Pending.{next_flip, pending_for, pending_in, pending_without}
use Rattle.engine_core.specs.Act.{act as act_at_once}
use Rattle.engine_core.specs.Laid.{Laid, flipped_laid}
use Rattle.engine_moves.specs.Moving.{Moving}

-- A MATERIALIZE .. IN STEPS moves nothing: what changes sides for it is pending in place of what was before
abbrev pub started : Moving → List Target → Checked (Reply × Moving)
started s named = pending_for s.laid.database.graph s.laid.layout named then λ pending. Ok (Pending (length pending), record s { pending = pending })

-- the flip of an operator, which is no longer pending then
abbrev pub flipped_by : Moving → ℕ → Moving
flipped_by s n = record { laid = flipped_laid s.laid n; pending = pending_without n s.pending }

-- A STEP is the next flip, or refused where nothing is pending
abbrev pub stepped_at : Moving → Option ℕ → Checked (Reply × Moving)
stepped_at s None = Err NothingPending
stepped_at s (Some n) = Ok (Flipped n (length (pending_without n s.pending)), flipped_by s n)

abbrev pub stepped : Moving → Checked (Reply × Moving)
stepped s = stepped_at s (next_flip s.laid.layout s.pending)

-- whether it is a MATERIALIZE
abbrev pub is_materialize : StatementView → Bool
is_materialize (Materialize named in_steps) = true
is_materialize _ = false

-- what is pending behind any other statement: nothing where it was a MATERIALIZE, and else what was pending and lives
abbrev pub pending_behind : Bool → Laid → List ℕ → List ℕ
pending_behind materialize laid pending = if materialize then [] else pending_in laid.database.graph.edges pending

-- every other statement is carried out at once
abbrev pub at_once : Moving → StatementView → Checked (Reply × Moving)
at_once s statement =
    act_at_once s.laid statement then λ answer.
    Ok (answer.0, record { laid = answer.1; pending = pending_behind (is_materialize statement) answer.1 s.pending })

-- a MATERIALIZE of either form
abbrev pub moved : Moving → List Target → Bool → Checked (Reply × Moving)
moved s named true = started s named
moved s named false = at_once s (Materialize named false)

-- ONE EVENT
abbrev pub act : Moving → StatementView → Checked (Reply × Moving)
act s (Materialize named in_steps) = moved s named in_steps
act s Step = stepped s
act s statement = at_once s statement
