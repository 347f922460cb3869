-- The summary of a run over the workload.
use Rattle.std.specs.Prelude.{ℕ, List, [], ◌∷◌, ◌++◌, codes, decimal}
use Rattle.script_generator.specs.declared.summary.Summary.{Summary}

-- words and a number, ended by a line feed (10)
abbrev pub counted : List ℕ → ℕ → List ℕ
counted words number = words ++ (decimal number ++ 10 ∷ [])

-- the seven lines
abbrev pub summary_lines : Summary → List ℕ
summary_lines summary =
    counted (codes "statements ") summary.statements
    ++ (counted (codes "refused ") summary.refused
    ++ (counted (codes "tasky.task ") summary.tasks
    ++ (counted (codes "do!.todo ") summary.todos
    ++ (counted (codes "tasky2.task ") summary.new_tasks
    ++ (counted (codes "tasky2.author ") summary.authors
    ++ counted (codes "next #") summary.next)))))
