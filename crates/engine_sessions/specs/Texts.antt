-- The lines of answers.
use Rattle.std.specs.Prelude.{◌++◌, ℕ, List, codes, decimal, flat_map, length}
use Rattle.par_base.specs.declared.value.Value.{Value}
use Rattle.csv_io.specs.Tables.{csv_text}
use Rattle.engine_moves.specs.EngineCoreTexts.{line, reply_bytes}
use Rattle.layout_planner.specs.declared.planning.VersionCost.{VersionCost}
use Rattle.engine_sessions.specs.declared.answer.Answer.{Answer}
use Rattle.engine_sessions.specs.declared.answer.Answer.TheVariants.{Plain, Csv, Advice}

-- the rows as CSV, and their count
abbrev pub csv_lines : List (List ℕ) → List (List Value) → List ℕ
csv_lines header rows = csv_text header rows ++ line (codes "rows " ++ decimal (length rows))

-- `tasky 6`
abbrev pub cost_text : VersionCost → List ℕ
cost_text c = c.version ++ codes " " ++ decimal c.cost

-- a line for each version, and one for the best
abbrev pub advice_lines : List VersionCost → List ℕ → List ℕ
advice_lines costs best = flat_map (λ c. line (cost_text c)) costs ++ line (codes "best " ++ best)

-- the lines of an answer
unfoldable pub answer_bytes : Answer → List ℕ
answer_bytes (Plain reply) = reply_bytes reply
answer_bytes (Csv header rows) = csv_lines header rows
answer_bytes (Advice costs best) = advice_lines costs best
