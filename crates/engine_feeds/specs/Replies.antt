-- What a script's statements write, with watches.
use Rattle.std.specs.Prelude.{ℕ, List, [], ◌∷◌, flat_map, Ok, Err}
use Rattle.par_base.specs.Checked.{Checked}
use Rattle.statements.specs.Views.{StatementView}
use Rattle.engine_transactions.specs.EngineCoreTexts.{refusal_bytes}
use Rattle.engine_transactions.specs.EngineSessionsTexts.{answer_bytes}
use Rattle.engine_transactions.specs.Answer.{Answer}
use Rattle.engine_feeds.specs.Act.{act}
use Rattle.engine_feeds.specs.Standing.{Standing}

-- the lines that answer a statement
abbrev pub text_of : Checked (Answer × Standing) → List ℕ
text_of (Ok answer) = answer_bytes answer.0
text_of (Err refusal) = refusal_bytes refusal

-- the next state; a refused statement leaves the state as it is
abbrev pub next_state : Standing → Checked (Answer × Standing) → Standing
next_state s (Ok answer) = answer.1
next_state s (Err refusal) = s

-- the reply to each of the statements, in order
unfoldable pub replies : Standing → List StatementView → List (List ℕ)
replies s [] = []
replies s (statement ∷ statements) = text_of (act s statement) ∷ replies (next_state s (act s statement)) statements

-- replies, one after the other
abbrev pub joined : List (List ℕ) → List ℕ
joined texts = flat_map (λ text. text) texts

-- the lines that answer the statements, one after the other
abbrev pub out : Standing → List StatementView → List ℕ
out s statements = joined (replies s statements)

-- the state behind the statements
unfoldable pub state_after : Standing → List StatementView → Standing
state_after s [] = s
state_after s (statement ∷ statements) = state_after (next_state s (act s statement)) statements
