-- What a run of the generated script comes to.
use Rattle.std.specs.Prelude.{ℕ, ◌+◌, List, [], ◌∷◌, length, Ok, Err, codes}
use Rattle.par_base.specs.Checked.{Checked}
use Rattle.statements.specs.Views.{StatementView}
use Rattle.statements.specs.declared.statement.TableName.{TableName}
use Rattle.script_run.specs.AnyDatabase.{AnyDatabase}
use Rattle.script_run.specs.Found.{Found, found}
use Rattle.script_run.specs.Answer.{Answer}
use Rattle.script_run.specs.TransactionsStanding.{Standing}
use Rattle.script_run.specs.TransactionsAct.{act}
use Rattle.script_generator.specs.Generated.{generated_script, table_of}
use Rattle.script_generator.specs.declared.summary.Summary.{Summary}
use Rattle.script_run.specs.Replies.{next_state, state_after}

-- ---- how many statements were refused

abbrev pub refusals : Checked (Answer × Standing) → ℕ
refusals (Ok answer) = 0
refusals (Err refusal) = 1

unfoldable pub refused_in : Standing → List StatementView → ℕ
refused_in s [] = 0
refused_in s (statement ∷ statements) = refusals (act s statement) + refused_in (next_state s (act s statement)) statements

-- ---- how many rows a table has

abbrev pub row_count : AnyDatabase → Checked Found → ℕ
row_count s (Ok f) = length (s.state.tables f.table.number)
row_count s (Err refusal) = 0

-- the rows of a table of a version; none where there is no such table
abbrev pub rows_at : AnyDatabase → TableName → ℕ
rows_at s name = row_count s (found s name)

-- ---- the summary

-- of the statements that were carried out from here, and of the data that they left
abbrev pub summed : Standing → Standing → List StatementView → Summary
summed from to statements = record {
  statements = length statements;
  refused = refused_in from statements;
  tasks = rows_at to.sessions.laid.database (table_of (codes "tasky") (codes "task"));
  todos = rows_at to.sessions.laid.database (table_of (codes "do!") (codes "todo"));
  new_tasks = rows_at to.sessions.laid.database (table_of (codes "tasky2") (codes "task"));
  authors = rows_at to.sessions.laid.database (table_of (codes "tasky2") (codes "author"));
  next = to.sessions.laid.database.state.next;
}

-- the data behind the generated script of so many numbers, and its summary
abbrev pub generated_end : Standing → ℕ → Standing
generated_end from n = state_after from (generated_script n)

abbrev pub generated_summary : Standing → ℕ → Summary
generated_summary from n = summed from (generated_end from n) (generated_script n)
