-- Where what is kept stands, and what inner calls do.
use Rattle.std.specs.Prelude.{◌≡◌, OnErr, IfOk, Result}
use Rattle.par_base.specs.Checked.{Checked}
use Rattle.par_base.specs.declared.fault.Fault.{Fault}
use Rattle.par_base.specs.declared.refusal.Refusal.{Refusal}
use Rattle.change_feed.specs.Watches.{WatchesState}
use Rattle.statements.specs.Views.{StatementView}
use Rattle.engine_transactions.specs.EngineSessionsCalls.{IsAnswer}
use Rattle.engine_transactions.specs.Answer.{Answer}
use Rattle.engine_transactions.specs.Calls.{standing_of as standing_beneath, Keeps}
use Rattle.engine_transactions.specs.declared.kept.Kept.{Kept as Transactions}
use Rattle.engine_feeds.specs.Act.{Answers}
use Rattle.engine_feeds.specs.Kept.{AreKept, WatchedView}
use Rattle.engine_feeds.specs.Standing.{Standing}

-- where what is kept stands with these watches
abbrev pub standing_with : Transactions → WatchesState → Standing
standing_with kept watches = record { transactions = standing_beneath kept; watches = watches }

abbrev pub standing_of : WatchedView → Standing
standing_of it = standing_with it.transactions it.watches

-- the call answers and leaves what the model does, or the refusal, unless memory ran out; after an error all is as it was
pub record Carries (model : Checked (Answer × Standing)) (x : StatementView) (old : Transactions) (watches : WatchesState) (result : Result Answer (Fault Refusal)) (new : Transactions) (next : WatchesState) : Type 0 where
  pub answers : Answers model result (standing_with new next)
  pub same : OnErr result (standing_with new next ≡ standing_with old watches)
  pub answer : IfOk result IsAnswer
  pub keeps : Keeps x old.executing new.executing
  pub kept : AreKept new next
