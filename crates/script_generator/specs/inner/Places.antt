-- Where a statement stands in the script.
use Rattle.std.specs.Prelude.{◌++◌, ℕ, List, map, Option, Some, slice_get}
use Rattle.std.specs.List.{filter}
use Rattle.statements.specs.Views.{StatementView}
use Rattle.script_generator.specs.declared.places.Place.{Place}
use Rattle.script_generator.specs.declared.places.Place.TheVariants.{First, Task, Evolution, Todo, Ending}
use Rattle.script_generator.specs.Generated.{create_tasky, insert_task, evolution, insert_todo, ending, below, is_fourth}

-- what stands behind the rows of `task`
abbrev pub behind_tasks : ℕ → List StatementView
behind_tasks n = evolution ++ (map insert_todo (filter is_fourth (below n)) ++ ending)

-- the statement at a place
abbrev pub statement_at : Place → Option StatementView
statement_at First = Some create_tasky
statement_at (Task i) = Some (insert_task i)
statement_at (Evolution at) = slice_get evolution at
statement_at (Todo i) = Some (insert_todo i)
statement_at (Ending at) = slice_get ending at
