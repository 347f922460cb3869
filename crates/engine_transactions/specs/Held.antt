-- An event in two halves: all of it that may fail, and then what makes it stay or takes it back.
use Rattle.std.specs.Prelude.{◌≡◌, ℕ, List, Result, Ok, Err, ⊤}
use Rattle.par_base.specs.Checked.{Checked}
use Rattle.par_base.specs.declared.fault.Fault.{Fault}
use Rattle.par_base.specs.declared.fault.Fault.TheVariants.{Refused, Memory as OutOfMemory}
use Rattle.par_base.specs.declared.refusal.Refusal.{Refusal}
use Rattle.statements.specs.Views.{StatementView}
use Rattle.layout_planner.specs.declared.planning.TableCount.{TableCount}
use Rattle.engine_state.specs.AnyDatabase.{AnyDatabase}
use Rattle.engine_state.specs.declared.reply.Reply.TheVariants as reply
use Rattle.engine_sessions.specs.Calls.{IsAnswer}
use Rattle.engine_sessions.specs.Standing.{kept_in}
use Rattle.engine_sessions.specs.declared.answer.Answer.{Answer}
use Rattle.engine_sessions.specs.declared.answer.Answer.TheVariants.{Plain}
use Rattle.engine_transactions.specs.Calls.{standing_of, IsIdle, Keeps}
use Rattle.engine_transactions.specs.Leads.{LeadAlong}
use Rattle.tx_history.specs.Opens.{opens_view, with_changed, without_last}
use Rattle.engine_transactions.specs.Runs.{settled_in, AreRun, Runs}
use Rattle.tx_history.specs.Views.{OpenView, TransactionView, without_open}
use Rattle.engine_transactions.specs.Standing.{Standing}
use Rattle.engine_transactions.specs.declared.held.Held.{Held}
use Rattle.engine_transactions.specs.declared.held.Held.TheVariants as held
use Rattle.engine_transactions.specs.declared.kept.Kept.{Kept}

-- what is answered once it stays
abbrev pub answer_in : Held → Answer
answer_in (held.Kept session) = Plain reply.Kept
answer_in (held.Write runs) = runs.answer
answer_in (held.Commit session runs) = runs.answer

-- ---- what is left to do

-- a write was kept: without the last one the transactions are those of before
pub record IsKept (old : Kept) (session : ℕ) (now : Kept) (next : Standing) : Type 0 where
  pub idle : IsIdle old.executing
  pub engine : now.executing ≡ old.executing
  pub stands : next ≡ standing_of now
  pub back : with_changed (opens_view now.opens.items) session without_last ≡ opens_view old.opens.items

-- runs are to be settled, with these counts and open transactions
pub record IsRun (old : Kept) (counts : List TableCount) (after : List OpenView) (now : Kept) (next : Standing) : Type 0 where
  pub transaction : TransactionView
  pub runs : Runs
  pub run : AreRun transaction old.executing now.executing runs
  pub opens : now.opens ≡ old.opens
  pub stands : next ≡ settled_in (standing_of old) runs counts after

abbrev pub IsLeft : Kept → Held → Kept → Standing → Type 0
IsLeft old (held.Kept session) now next = IsKept old session now next
IsLeft old (held.Write runs) now next = IsRun old runs.counts (opens_view old.opens.items) now next
IsLeft old (held.Commit session runs) now next = IsRun old runs.counts (without_open (opens_view old.opens.items) session) now next

-- ---- THE FIRST HALF

-- an event that the model accepts was done but for what is left: where it leads, and how its runs lead along the data behind it
pub record Holds (model : Checked (Answer × Standing)) (datas : Standing → List AnyDatabase) (old : Kept) (held : Held) (now : Kept) : Type 0 where
  pub next : Standing
  pub acts : model ≡ Ok (answer_in held, next)
  pub prints : IsAnswer (answer_in held)
  pub leads : LeadAlong (standing_of old).sessions.laid.database (datas next) now.executing.unsettled.items
  pub graph : (kept_in now.executing.sessions).graph ≡ (kept_in old.executing.sessions).graph
  pub left : IsLeft old held now next

-- or is refused as the model says
abbrev pub HoldsAs : Checked (Answer × Standing) → (Standing → List AnyDatabase) → Kept → Result Held (Fault Refusal) → Kept → Type 0
HoldsAs model datas old (Ok held) now = Holds model datas old held now
HoldsAs model datas old (Err (Refused refusal)) now = model ≡ Err refusal
HoldsAs model datas old (Err (OutOfMemory memory)) now = ⊤

-- ---- THE SECOND HALF

-- some event was done but for what is left
abbrev pub IsHeld : Held → Kept → Type 0
IsHeld held now = (model : Checked (Answer × Standing)) × ((datas : Standing → List AnyDatabase) × ((old : Kept) × Holds model datas old held now))

-- it stays, as the model says
pub record Settles (model : Checked (Answer × Standing)) (old : Kept) (answer : Answer) (new : Kept) : Type 0 where
  pub answers : model ≡ Ok (answer, standing_of new)
  pub prints : IsAnswer answer
  pub keeps : (x : StatementView) → Keeps x old.executing new.executing
  pub idle : IsIdle new.executing

-- or all is as before it
pub record IsBack (old new : Kept) : Type 0 where
  pub same : standing_of new ≡ standing_of old
  pub keeps : (x : StatementView) → Keeps x old.executing new.executing
  pub idle : IsIdle new.executing
