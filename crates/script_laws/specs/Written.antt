-- Each version is an ordinary database for the writes of a script, at once and in transactions.
use Rattle.std.specs.Prelude.{◌≡◌, List, [], ◌∷◌, Option, Some, None, Ok, ⊤}
use Rattle.expr_lang.specs.Operations.{text_limit}
use Rattle.statements.specs.Views.{StatementView, Insert, Import, Update, Delete, Commit}
use Rattle.statements.specs.Texts.{TextsWithin}
use Rattle.session_laws.specs.Written.{IsWrite, IsWriteInFull}
use Rattle.engine_transactions.specs.AnyDatabase.{AnyDatabase}
use Rattle.engine_transactions.specs.Reply.{Reply}
use Rattle.engine_transactions.specs.Reply.TheVariants.{Committed, Deleted, Inserted, Kept, Updated}
use Rattle.engine_state.specs.declared.reply.WriteReply.{WriteReply}
use Rattle.engine_state.specs.declared.reply.WriteReply.TheVariants as write
use Rattle.engine_transactions.specs.Answer.{Answer}
use Rattle.engine_transactions.specs.Answer.TheVariants.{Plain}
use Rattle.engine_transactions.specs.Act.{act, at_hand}
use Rattle.tx_history.specs.Views.{OpenView}
use Rattle.engine_transactions.specs.Standing.{Standing}
use Rattle.script_laws.specs.Kept.{IsKeptAt}

-- a write outside a transaction is that of an ordinary database; one in a transaction is kept, and changes nothing that sessions keep
abbrev pub WritesOrKeeps : Option OpenView → Standing → StatementView → Answer × Standing → Type 0
WritesOrKeeps None s statement answer = IsWrite s.sessions statement (answer.0, answer.1.sessions)
WritesOrKeeps (Some o) s statement answer = (answer.0 ≡ Plain Kept) × (answer.1.sessions ≡ s.sessions)

-- the reply to a write, in that of its COMMIT
abbrev pub reply_to : WriteReply → Reply
reply_to (write.Inserted ids) = Inserted ids
reply_to (write.Updated count) = Updated count
reply_to (write.Deleted count) = Deleted count

-- kept writes, one after the other with nothing between them, each that of an ordinary database
abbrev pub AreWrites : AnyDatabase → List StatementView → List WriteReply → AnyDatabase → Type 0
AreWrites d [] [] end = end ≡ d
AreWrites d (w ∷ ws) (r ∷ rs) end = (next : AnyDatabase) × (IsWriteInFull d w (reply_to r, next) × AreWrites next ws rs end)
AreWrites d [] (r ∷ rs) end = ⊥
AreWrites d (w ∷ ws) [] end = ⊥

-- a COMMIT carries out the writes of the open transaction
pub record CommitsWrites (s : Standing) (answer : Answer × Standing) : Type 0 where
  pub opened : OpenView
  pub at : at_hand s ≡ Some opened
  pub replies : List WriteReply
  pub told : answer.0 ≡ Plain (Committed replies)
  pub writes : AreWrites s.sessions.laid.database opened.transaction.writes replies answer.1.sessions.laid.database

abbrev pub IsOrdinary : Standing → StatementView → Answer × Standing → Type 0
IsOrdinary s (Insert name rows) answer = WritesOrKeeps (at_hand s) s (Insert name rows) answer
IsOrdinary s (Import name text) answer = WritesOrKeeps (at_hand s) s (Import name text) answer
IsOrdinary s (Update name assignments filter) answer = WritesOrKeeps (at_hand s) s (Update name assignments filter) answer
IsOrdinary s (Delete name filter) answer = WritesOrKeeps (at_hand s) s (Delete name filter) answer
IsOrdinary s Commit answer = CommitsWrites s answer
IsOrdinary s _ answer = ⊤

-- SO IS EACH ANSWERED STATEMENT
abbrev pub StatementsAreOrdinary : Type 0
StatementsAreOrdinary = (s : Standing) (statement : StatementView) (answer : Answer × Standing) → TextsWithin text_limit statement → IsKeptAt s
    → act s statement ≡ Ok answer → IsOrdinary s statement answer
