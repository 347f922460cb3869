-- The statements of the generated workload.
use Rattle.std.specs.Prelude.{ℕ, pos, ◌+◌, ◌%◌, ◌==◌, Bool, false, List, [], ◌∷◌, ◌++◌, Option, Some, None, map, slice_get, codes, decimal}
use Rattle.std.specs.List.{filter, range_with_len}
use Rattle.par_base.specs.declared.value.Value.{Value}
use Rattle.par_base.specs.declared.value.Value.TheVariants.{Int, Text}
use Rattle.expr_lang.specs.Terms.{Literal, Column, Binary}
use Rattle.expr_lang.specs.declared.tree.BinaryOp.TheVariants.{Equal}
use Rattle.statements.specs.declared.statement.TableName.{TableName}
use Rattle.statements.specs.Views.{Tree, Foreign, OpView, CreateTable, RenameColumn, DropColumn, Decompose, Split, StatementView, CreateVersion, Insert, Update, Delete, Materialize}

-- ---- the parts of statements

-- a table of a version
abbrev pub table_of : List ℕ → List ℕ → TableName
table_of version table = record { version = Some version; table = table }

-- a condition: the column has this value
abbrev pub column_is : List ℕ → Value → Tree
column_is column value = Binary Equal (Column column) (Literal value)

-- MATERIALIZE of a version
abbrev pub materialize : List ℕ → StatementView
materialize version = Materialize (record { version = version; table = None } ∷ []) false

-- a letter and a number
abbrev pub lettered : List ℕ → ℕ → Value
lettered letter number = Text (letter ++ decimal number)

-- ---- the operators

-- CREATE TABLE task(author, task, prio)
abbrev pub create_task : OpView
create_task = CreateTable (codes "task") (codes "author" ∷ codes "task" ∷ codes "prio" ∷ [])

-- SPLIT TABLE task INTO todo WITH prio = 1
abbrev pub split_task : OpView
split_task =
    Split (codes "task")
    (record { table = codes "todo"; condition = column_is (codes "prio") (Int (pos 1)) }) None

-- DROP COLUMN prio FROM todo DEFAULT 1
abbrev pub drop_prio : OpView
drop_prio = DropColumn (codes "prio") (codes "todo") (Literal (Int (pos 1)))

-- DECOMPOSE TABLE task INTO task(task, prio), author(author) ON FK author
abbrev pub decompose_task : OpView
decompose_task =
    Decompose (codes "task") (codes "task") (codes "task" ∷ codes "prio" ∷ [])
    (codes "author") (codes "author" ∷ []) (Foreign (codes "author"))

-- RENAME COLUMN author IN author TO name
abbrev pub rename_author : OpView
rename_author = RenameColumn (codes "author") (codes "author") (codes "name")

-- ---- the statements

-- CREATE SCHEMA VERSION tasky WITH CREATE TABLE task(author, task, prio);
abbrev pub create_tasky : StatementView
create_tasky = CreateVersion (codes "tasky") None (create_task ∷ [])

-- INSERT INTO tasky.task VALUES ('a3', 't13', 2); for the number 13
abbrev pub insert_task : ℕ → StatementView
insert_task i =
    Insert (table_of (codes "tasky") (codes "task"))
    ((lettered (codes "a") (i % 10) ∷ lettered (codes "t") i ∷ Int (pos (i % 3 + 1)) ∷ []) ∷ [])

-- CREATE SCHEMA VERSION do! FROM tasky WITH SPLIT ..; DROP COLUMN ..;
abbrev pub create_do : StatementView
create_do = CreateVersion (codes "do!") (Some (codes "tasky")) (split_task ∷ drop_prio ∷ [])

-- CREATE SCHEMA VERSION tasky2 FROM tasky WITH DECOMPOSE ..; RENAME COLUMN ..;
abbrev pub create_tasky2 : StatementView
create_tasky2 =
    CreateVersion (codes "tasky2") (Some (codes "tasky")) (decompose_task ∷ rename_author ∷ [])

-- INSERT INTO do!.todo VALUES ('b4', 'u12'); for the number 12
abbrev pub insert_todo : ℕ → StatementView
insert_todo i =
    Insert (table_of (codes "do!") (codes "todo"))
    ((lettered (codes "b") (i % 8) ∷ lettered (codes "u") i ∷ []) ∷ [])

-- DELETE FROM tasky.task WHERE prio = 2;
abbrev pub delete_tasks : StatementView
delete_tasks =
    Delete (table_of (codes "tasky") (codes "task"))
    (Some (column_is (codes "prio") (Int (pos 2))))

-- UPDATE tasky2.author SET name = 'c' WHERE name = 'b0';
abbrev pub rename_authors : StatementView
rename_authors =
    Update (table_of (codes "tasky2") (codes "author"))
    (record { column = codes "name"; value = Literal (Text (codes "c")) } ∷ [])
    (Some (column_is (codes "name") (Text (codes "b0"))))

-- ---- the script

-- the numbers below n
abbrev pub below : ℕ → List ℕ
below n = range_with_len 0 n

-- whether 4 divides a number
abbrev pub is_fourth : ℕ → Bool
is_fourth i = i % 4 == 0

-- the versions that are made on the first rows, and the first move of the data
abbrev pub evolution : List StatementView
evolution = create_do ∷ create_tasky2 ∷ materialize (codes "tasky2") ∷ []

-- the other moves, and two writes between them
abbrev pub ending : List StatementView
ending =
    materialize (codes "do!") ∷ delete_tasks ∷ rename_authors ∷ materialize (codes "tasky") ∷ []

-- THE SCRIPT: a row of `task` for each number below n, and one of `todo` for each that 4 divides
unfoldable pub generated_script : ℕ → List StatementView
generated_script n =
    create_tasky ∷ (map insert_task (below n)
    ++ (evolution ++ (map insert_todo (filter is_fourth (below n)) ++ ending)))

-- the statement at a place of it, from 0 on
abbrev pub generated_statement : ℕ → ℕ → Option StatementView
generated_statement n k = slice_get (generated_script n) k
