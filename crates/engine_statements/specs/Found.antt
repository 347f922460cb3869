-- What the names in a statement stand for.
use Rattle.std.specs.Prelude.{ℕ, ◌==◌, ◌||◌, nat_le, List, [], ◌∷◌, Option, Some, None, Ok, Err, if◌then◌else◌}
use Rattle.par_base.specs.declared.value.Value.{Value}
use Rattle.par_base.specs.declared.value.Value.TheVariants.{Reference}
use Rattle.par_base.specs.declared.refusal.Refusal.TheVariants.{NoVersionInUse, UnknownTable}
use Rattle.expr_lang.specs.Terms.{Term}
use Rattle.expr_lang.specs.Resolved.{resolved, first_unknown_id}
use Rattle.statements.specs.Views.{Tree}
use Rattle.statements.specs.declared.statement.TableName.{TableName}
use Rattle.version_graph.specs.Tables.{TableVersion, table_named, row_name}
use Rattle.version_graph.specs.Edges.{working, set_named}
use Rattle.par_base.specs.Checked.{Checked, ◌then◌}
use Rattle.op_checks.specs.NameChecks.{known_columns, known_id}
use Rattle.engine_state.specs.AnyDatabase.{AnyDatabase}
use Rattle.engine_state.specs.SharedChecks.{known_version}

-- ---- tables

-- a table of a version: the version's working set, and the table with its heading
pub record Found : Type 0 where
  pub set : ℕ
  pub table : TableVersion

-- the working set of the version that a statement names; no session has a version in use yet
abbrev pub set_of : AnyDatabase → Option (List ℕ) → Checked ℕ
set_of s None = Err NoVersionInUse
set_of s (Some name) = known_version name (set_named s.graph.versions name)

abbrev pub known_table : List ℕ → Option TableVersion → Checked TableVersion
known_table name (Some t) = Ok t
known_table name None = Err (UnknownTable name)

abbrev pub found : AnyDatabase → TableName → Checked Found
found s name =
    set_of s name.version then λ set.
    known_table name.table (table_named (working s.graph.edges set) name.table) then λ t.
    Ok (record { set = set; table = t })

-- ---- expressions

-- the names that a row shows: `p`, and then its columns
abbrev pub shown_names : List (List ℕ) → List (List ℕ)
shown_names columns = row_name ∷ columns

-- an expression over what a row shows
abbrev pub known_expression : List (List ℕ) → Tree → Checked (Term ℕ)
known_expression columns value = known_columns (resolved (shown_names columns) value)

abbrev pub some_term : Checked (Term ℕ) → Checked (Option (Term ℕ))
some_term (Ok e) = Ok (Some e)
some_term (Err r) = Err r

-- a condition, where there is one
abbrev pub known_condition : List (List ℕ) → Option Tree → Checked (Option (Term ℕ))
known_condition columns None = Ok None
known_condition columns (Some value) = some_term (known_expression columns value)

-- ---- identifiers

-- the first of these that is there
abbrev pub first_of : Option ℕ → Option ℕ → Option ℕ
first_of (Some id) later = Some id
first_of None later = later

-- the first reference in these expressions that is 0 or not below the next identifier
unfoldable pub unknown_in : ℕ → List Tree → Option ℕ
unknown_in next [] = None
unknown_in next (value ∷ values) = first_of (first_unknown_id next value) (unknown_in next values)

abbrev pub unknown_value : ℕ → Value → Option ℕ
unknown_value next (Reference id) = if id == 0 || nat_le next id then Some id else None
unknown_value next _ = None

-- the same in rows
unfoldable pub unknown_in_row : ℕ → List Value → Option ℕ
unknown_in_row next [] = None
unknown_in_row next (value ∷ values) = first_of (unknown_value next value) (unknown_in_row next values)

unfoldable pub unknown_in_rows : ℕ → List (List Value) → Option ℕ
unknown_in_rows next [] = None
unknown_in_rows next (row ∷ rows) = first_of (unknown_in_row next row) (unknown_in_rows next rows)

abbrev pub condition_list : Option Tree → List Tree
condition_list None = []
condition_list (Some value) = value ∷ []

-- each reference of a condition is known
abbrev pub known_references : ℕ → List Tree → Checked (Unit {0})
known_references next values = known_id next (unknown_in next values)
