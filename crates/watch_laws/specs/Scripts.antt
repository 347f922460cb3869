-- Each version is an ordinary database throughout a script, with watches.
use Rattle.std.specs.Prelude.{◌≡◌, ◌++◌, ℕ, Bool, List, ◌∷◌, Ok}
use Rattle.statements.specs.Views.{StatementView}
use Rattle.bidel_script.specs.Script.{Comes, Outcome}
use Rattle.engine_feeds.specs.Answer.{Answer}
use Rattle.engine_feeds.specs.Act.{act}
use Rattle.engine_feeds.specs.Replies.{state_after}
use Rattle.engine_feeds.specs.Standing.{Standing}
use Rattle.script_laws.specs.Kept.{IsKeptAt}
use Rattle.script_laws.specs.Written.{IsOrdinary}

-- from a state as a database may have it, the statements that some bytes fix leave such a one ..
abbrev pub ScriptsStayKept : Type 0
ScriptsStayKept = (from : Standing) (bytes : List ℕ) (ended : Bool) (statements : List StatementView) (outcome : Outcome) → IsKeptAt from.transactions
    → Comes bytes ended statements outcome → IsKeptAt (state_after from statements).transactions

-- .. AND EACH OF THEM THAT IS AN ANSWERED WRITE IS THAT OF AN ORDINARY DATABASE, whatever stands before and behind it, and whoever watches
abbrev pub ScriptsAreOrdinary : Type 0
ScriptsAreOrdinary = (from : Standing) (bytes : List ℕ) (ended : Bool) (statements : List StatementView) (outcome : Outcome) → IsKeptAt from.transactions
    → Comes bytes ended statements outcome
    → (before after : List StatementView) (statement : StatementView) (answer : Answer × Standing) → statements ≡ before ++ statement ∷ after
    → act (state_after from before) statement ≡ Ok answer → IsOrdinary (state_after from before).transactions statement (answer.0, answer.1.transactions)
