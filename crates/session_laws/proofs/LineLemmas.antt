-- Each answer ends in a line feed.
use Rattle.std.specs.Prelude.{codes, decimal}
use Rattle.std.proofs.Common.{ℕ, List, [], ◌∷◌, ◌++◌, flat_map, length, sym}
use Rattle.std.proofs.lemmas.List.{append_assoc}
use Rattle.csv_io.specs.Tables.{csv_text}
use Rattle.engine_sessions.specs.EngineCoreLaws.{EndsLine, RepliesAreLines}
use Rattle.engine_sessions.specs.EngineCoreTexts.{line}
use Rattle.engine_sessions.specs.Texts.{answer_bytes, cost_text}
use Rattle.engine_sessions.specs.declared.answer.Answer.TheVariants.{Plain, Csv, Advice}
use Rattle.session_laws.specs.Lines.{AnswersAreLines}

-- what ends in a line ends
behind : (front text : List ℕ) → EndsLine (front ++ line text)
behind front text = (front ++ text, sym (append_assoc front text (10 ∷ [])))

pub answers_end : RepliesAreLines → AnswersAreLines
unfolding answer_bytes
answers_end replies (Plain reply) = replies reply
answers_end replies (Csv header rows) = behind (csv_text header rows) (codes "rows " ++ decimal (length rows))
answers_end replies (Advice costs best) = behind (flat_map (λ c. line (cost_text c)) costs) (codes "best " ++ best)
