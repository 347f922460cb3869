-- Each version is an ordinary database throughout a script.
use Rattle.std.specs.Prelude.{◌≡◌, ◌++◌, ℕ, Bool, List, ◌∷◌, Ok}
use Rattle.std.specs.List.{All}
use Rattle.expr_lang.specs.Operations.{text_limit}
use Rattle.statements.specs.Views.{StatementView}
use Rattle.statements.specs.Texts.{TextsWithin}
use Rattle.bidel_script.specs.Script.{Comes, Outcome}
use Rattle.engine_transactions.specs.Answer.{Answer}
use Rattle.engine_transactions.specs.Act.{act}
use Rattle.engine_transactions.specs.Standing.{Standing}
use Rattle.engine_transactions.specs.Replies.{state_after}
use Rattle.script_laws.specs.Kept.{IsKeptAt}
use Rattle.script_laws.specs.Written.{IsOrdinary}

-- no text of the statements that some bytes fix is too long
abbrev pub ScriptsFit : Type 0
ScriptsFit = (bytes : List ℕ) (ended : Bool) (statements : List StatementView) (outcome : Outcome) → Comes bytes ended statements outcome → All (TextsWithin text_limit) statements

-- from a state as a database may have it, the statements that some bytes fix leave such a one ..
abbrev pub ScriptsStayKept : Type 0
ScriptsStayKept = (from : Standing) (bytes : List ℕ) (ended : Bool) (statements : List StatementView) (outcome : Outcome) → IsKeptAt from → Comes bytes ended statements outcome
    → IsKeptAt (state_after from statements)

-- .. AND EACH OF THEM THAT IS AN ANSWERED WRITE IS THAT OF AN ORDINARY DATABASE, whatever stands before and behind it: at once, or at the COMMIT
-- of its transaction
abbrev pub ScriptsAreOrdinary : Type 0
ScriptsAreOrdinary = (from : Standing) (bytes : List ℕ) (ended : Bool) (statements : List StatementView) (outcome : Outcome) → IsKeptAt from → Comes bytes ended statements outcome
    → (before after : List StatementView) (statement : StatementView) (answer : Answer × Standing) → statements ≡ before ++ statement ∷ after
    → act (state_after from before) statement ≡ Ok answer → IsOrdinary (state_after from before) statement answer
