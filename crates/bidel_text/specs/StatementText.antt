-- The canonical text of statements. Texts are put together from the right, part by part.
use Rattle.std.specs.Prelude.{ℕ, List, [], ◌++◌, Option, Some, None, codes, flat_map, decimal}
use Rattle.par_base.specs.declared.limits.Target.{Target}
use Rattle.par_base.specs.declared.value.Value.{Value}
use Rattle.par_base.specs.Literals.{literal_of, quoted}
use Rattle.statements.specs.declared.statement.TableName.{TableName}
use Rattle.statements.specs.Views.{Tree, AssignmentView, OpView, StatementView, CreateVersion, DropVersion, Insert, Import, Update, Delete, Select, Materialize, Step, ShowLayout, Use, Session, Advise, Watch, Unwatch, Begin, Commit, Rollback}
use Rattle.bidel_text.specs.ExpressionText.{expression_text}
use Rattle.bidel_text.specs.OperatorText.{flag_text, listed_text, operator_text}

-- a name, and one behind a dot
abbrev pub dotted_text : List ℕ → Option (List ℕ) → List ℕ
dotted_text name None = name
dotted_text name (Some second) = name ++ (codes "." ++ second)

-- a table, of the version that stands before it
abbrev pub version_text : Option (List ℕ) → List ℕ → List ℕ
version_text None table = table
version_text (Some version) table = version ++ (codes "." ++ table)

-- a table as it is named
abbrev pub table_text : TableName → List ℕ
table_text name = version_text name.version name.table

-- a version, or a table of it
abbrev pub target_text : Target → List ℕ
target_text target = dotted_text target.version target.table

-- a row
abbrev pub tuple_text : List Value → List ℕ
tuple_text values = codes "(" ++ (listed_text literal_of values ++ codes ")")

-- a column and what it is set to
abbrev pub assignment_text : AssignmentView → List ℕ
assignment_text assignment = assignment.column ++ (codes " = " ++ expression_text assignment.value)

-- a filter, where there is one
abbrev pub filter_text : Option Tree → List ℕ
filter_text None = []
filter_text (Some filter) = codes " WHERE " ++ expression_text filter

-- all columns, or those of a list
abbrev pub items_text : Option (List (List ℕ)) → List ℕ
items_text None = codes "*"
items_text (Some names) = listed_text (λ name. name) names

-- the version from which a new one is made
abbrev pub origin_text : Option (List ℕ) → List ℕ
origin_text None = []
origin_text (Some version) = codes " FROM " ++ version

-- operators, each with a space before it and its end
abbrev pub operators_text : List OpView → List ℕ
operators_text operators = flat_map (λ o. codes " " ++ (operator_text o ++ codes ";")) operators

-- a statement, with `;`
abbrev pub statement_text : StatementView → List ℕ
statement_text (CreateVersion name origin operators) =
    codes "CREATE SCHEMA VERSION " ++ (name ++ (origin_text origin
    ++ (codes " WITH" ++ operators_text operators)))
statement_text (DropVersion name) = codes "DROP SCHEMA VERSION " ++ (name ++ codes ";")
statement_text (Insert table rows) =
    codes "INSERT INTO " ++ (table_text table ++ (codes " VALUES "
    ++ (listed_text tuple_text rows ++ codes ";")))
statement_text (Import table csv) =
    codes "IMPORT INTO " ++ (table_text table ++ (codes " CSV " ++ (quoted csv ++ codes ";")))
statement_text (Update table assignments filter) =
    codes "UPDATE " ++ (table_text table ++ (codes " SET "
    ++ (listed_text assignment_text assignments ++ (filter_text filter ++ codes ";"))))
statement_text (Delete table filter) =
    codes "DELETE FROM " ++ (table_text table ++ (filter_text filter ++ codes ";"))
statement_text (Select table items filter csv) =
    codes "SELECT " ++ (items_text items ++ (codes " FROM " ++ (table_text table
    ++ (filter_text filter ++ (flag_text (codes " AS CSV") csv ++ codes ";")))))
statement_text (Materialize named in_steps) =
    codes "MATERIALIZE " ++ (listed_text target_text named
    ++ (flag_text (codes " IN STEPS") in_steps ++ codes ";"))
statement_text Step = codes "STEP;"
statement_text ShowLayout = codes "SHOW LAYOUT;"
statement_text (Use name) = codes "USE " ++ (name ++ codes ";")
statement_text (Session number) = codes "SESSION " ++ (decimal number ++ codes ";")
statement_text (Advise name) = codes "ADVISE " ++ (name ++ codes ";")
statement_text (Watch name) = codes "WATCH " ++ (name ++ codes ";")
statement_text (Unwatch number) = codes "UNWATCH " ++ (decimal number ++ codes ";")
statement_text Begin = codes "BEGIN;"
statement_text Commit = codes "COMMIT;"
statement_text Rollback = codes "ROLLBACK;"
