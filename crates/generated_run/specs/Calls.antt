-- What the inner calls give.
use Rattle.std.specs.Prelude.{◌≡◌, List, length, codes}
use Rattle.statements.specs.Views.{StatementView}
use Rattle.script_run.specs.AnyDatabase.{AnyDatabase}
use Rattle.script_run.specs.TransactionsStanding.{Standing}
use Rattle.script_generator.specs.Generated.{table_of}
use Rattle.script_generator.specs.declared.summary.Summary.{Summary}
use Rattle.generated_run.specs.Summed.{refused_in, rows_at}
use Rattle.generated_run.specs.declared.run.Tally.{Tally}

-- how many statements there were, and how many were refused
pub record Tallies (from : Standing) (statements : List StatementView) (tally : Tally) : Type 0 where
  pub statements_are : tally.statements ≡ length statements
  pub refused_are : tally.refused ≡ refused_in from statements

-- the summary of these counts and of what stands in the database
abbrev pub Sums : Tally → AnyDatabase → Summary → Type 0
Sums tally s summary = summary ≡ record {
  statements = tally.statements;
  refused = tally.refused;
  tasks = rows_at s (table_of (codes "tasky") (codes "task"));
  todos = rows_at s (table_of (codes "do!") (codes "todo"));
  new_tasks = rows_at s (table_of (codes "tasky2") (codes "task"));
  authors = rows_at s (table_of (codes "tasky2") (codes "author"));
  next = s.state.next;
}
