-- What an operator's text builds on a working set, or the first of its checks that fails.
use Rattle.std.specs.Prelude.{◌≡◌, ℕ, Bool, true, false, not, List, [], ◌∷◌, ◌++◌, length, ◌||◌, Option, Some, None, Ok}
use Rattle.std.specs.List.{insert, remove}
use Rattle.std.specs.Str.{bytes_eq}
use Rattle.expr_lang.specs.Resolved.{place_of, resolved}
use Rattle.expr_lang.specs.Terms.{Term}
use Rattle.statements.specs.Views.{Tree, KeyView, Primary, Foreign, Condition, BranchView, OpView}
use Rattle.statements.specs.Views as «text»
use Rattle.version_graph.specs.declared.parts.Heading.{Heading}
use Rattle.version_graph.specs.declared.parts.Edge.{Edge}
use Rattle.op_kinds.specs.Operators.{Built, CreateTable, DropTable, Rename, AddColumn, AddTracked, DropColumn, Split, Merge, AnyView}
use Rattle.par_base.specs.Checked.{Checked, ◌then◌}
use Rattle.op_any.specs.Edges.{one_to_one, one_to_two, two_to_one}
use Rattle.op_checks.specs.NameChecks.{heading_named, is_passing, known_table, other_table, new_table, known_column, known_columns, new_columns, same_columns, few_columns, known_ids}
use Rattle.op_any.specs.BuildJoins.{decomposing_in_one, decomposing_table, joining_tables}

-- CREATE TABLE t(c, ..): a table without a source
unfoldable pub creating_table : List Heading → List ℕ → List (List ℕ) → Checked (Edge Built)
creating_table set table columns =
    new_table table (is_passing set [] table) then λ _.
    new_columns [] columns then λ _.
    few_columns table columns then λ _.
    Ok (record { operator = CreateTable; sources = []; targets = record { name = table; columns = columns } ∷ [] })

-- DROP TABLE t: a source without a target
unfoldable pub dropping_table : List Heading → List ℕ → Checked (Edge Built)
dropping_table set table =
    known_table table (heading_named set table) then λ source.
    Ok (record { operator = DropTable (length source.columns); sources = table ∷ []; targets = [] })

-- RENAME TABLE t INTO u: u may be t itself
unfoldable pub renaming_table : List Heading → List ℕ → List ℕ → Checked (Edge Built)
renaming_table set table new =
    known_table table (heading_named set table) then λ source.
    new_table new (is_passing set (table ∷ []) new) then λ _.
    Ok (one_to_one Rename table new source.columns)

-- The target of an operator on columns has its source's name, which no table that passes through has.

-- RENAME COLUMN a IN t TO b: b stands in a's place, and may be a itself
unfoldable pub renaming_column : List Heading → List ℕ → List ℕ → List ℕ → Checked (Edge Built)
renaming_column set column table new =
    known_table table (heading_named set table) then λ source.
    known_column column (place_of source.columns column) then λ place.
    new_columns (remove source.columns place) (new ∷ []) then λ _.
    Ok (one_to_one Rename table table (insert (remove source.columns place) place new))

-- what adds a column behind so many others, tracked or not
abbrev pub column_adder : Bool → ℕ → Term ℕ → Built
column_adder true count e = AddTracked e
column_adder false count e = AddColumn count e

-- ADD COLUMN a AS e INTO t, TRACKED or not: a is the last column
unfoldable pub adding_column : List Heading → ℕ → List ℕ → Tree → List ℕ → Bool → Checked (Edge Built)
adding_column set next column value table tracked =
    known_table table (heading_named set table) then λ source.
    known_columns (resolved source.columns value) then λ e.
    new_columns source.columns (column ∷ []) then λ _.
    few_columns table (source.columns ++ column ∷ []) then λ _.
    known_ids next value then λ _.
    Ok (one_to_one (column_adder tracked (length source.columns) e) table table (source.columns ++ column ∷ []))

-- DROP COLUMN c FROM t DEFAULT e: e is over the other columns
unfoldable pub dropping_column : List Heading → ℕ → List ℕ → List ℕ → Tree → Checked (Edge Built)
dropping_column set next column table value =
    known_table table (heading_named set table) then λ source.
    known_column column (place_of source.columns column) then λ place.
    known_columns (resolved (remove source.columns place) value) then λ e.
    known_ids next value then λ _.
    Ok (one_to_one (DropColumn place e) table table (remove source.columns place))

-- The targets of SPLIT have its source's columns, and the target of MERGE those of both sources. So no
-- column stands twice in them, and they aren't too many.

-- SPLIT TABLE t INTO r WITH c: c is over t's columns, and r may be t itself
abbrev pub splitting_in_one : List Heading → ℕ → List ℕ → BranchView → Checked (Edge Built)
splitting_in_one set next table r =
    known_table table (heading_named set table) then λ source.
    new_table r.table (is_passing set (table ∷ []) r.table) then λ _.
    known_columns (resolved source.columns r.condition) then λ c.
    known_ids next r.condition then λ _.
    Ok (one_to_one (Split (length source.columns) c None) table r.table source.columns)

-- SPLIT TABLE t INTO r WITH c, s WITH d: both are over t's columns, and one of r and s may be t itself
abbrev pub splitting_in_two : List Heading → ℕ → List ℕ → BranchView → BranchView → Checked (Edge Built)
splitting_in_two set next table r s =
    known_table table (heading_named set table) then λ source.
    new_table r.table (is_passing set (table ∷ []) r.table) then λ _.
    new_table s.table (bytes_eq s.table r.table || is_passing set (table ∷ []) s.table) then λ _.
    known_columns (resolved source.columns r.condition) then λ c.
    known_columns (resolved source.columns s.condition) then λ d.
    known_ids next r.condition then λ _.
    known_ids next s.condition then λ _.
    Ok (one_to_two (Split (length source.columns) c (Some d)) table r.table s.table source.columns)

-- SPLIT with one target or two
unfoldable pub splitting_table : List Heading → ℕ → List ℕ → BranchView → Option BranchView → Checked (Edge Built)
splitting_table set next table r None = splitting_in_one set next table r
splitting_table set next table r (Some s) = splitting_in_two set next table r s

-- MERGE TABLE r (c), s (d) INTO t: c is over r's columns and d over s's, and t may be r or s
unfoldable pub merging_tables : List Heading → ℕ → BranchView → BranchView → List ℕ → Checked (Edge Built)
merging_tables set next r s target =
    known_table r.table (heading_named set r.table) then λ first.
    known_table s.table (heading_named set s.table) then λ second.
    other_table s.table (bytes_eq s.table r.table) then λ _.
    new_table target (is_passing set (r.table ∷ s.table ∷ []) target) then λ _.
    known_columns (resolved first.columns r.condition) then λ c.
    known_columns (resolved second.columns s.condition) then λ d.
    same_columns first second then λ _.
    known_ids next r.condition then λ _.
    known_ids next s.condition then λ _.
    Ok (two_to_one (Merge (length first.columns) c (Some d)) r.table s.table target first.columns)

-- ---- any operator

-- an operator between the tables of a working set and new ones, while `next` is the next identifier
abbrev pub planned_edge : List Heading → ℕ → OpView → Checked (Edge Built)
planned_edge set next («text».CreateTable table columns) = creating_table set table columns
planned_edge set next («text».DropTable table) = dropping_table set table
planned_edge set next («text».RenameTable table new) = renaming_table set table new
planned_edge set next («text».RenameColumn column table new) = renaming_column set column table new
planned_edge set next («text».AddColumn column value table tracked) = adding_column set next column value table tracked
planned_edge set next («text».DropColumn column table value) = dropping_column set next column table value
planned_edge set next («text».Split table first second) = splitting_table set next table first second
planned_edge set next («text».Merge first second target) = merging_tables set next first second target
planned_edge set next («text».DecomposeSingle table target columns) = decomposing_in_one set table (record { name = target; columns = columns })
planned_edge set next («text».Decompose table first first_columns second second_columns key) =
    decomposing_table set next table (record { name = first; columns = first_columns }) (record { name = second; columns = second_columns }) key
planned_edge set next («text».Join outer first second target key) = joining_tables set next outer first second target key

-- the text builds this operator on some working set, while some identifier is the next
abbrev pub IsOf : OpView → Built → Type 0
IsOf text operator =
    (set : List Heading) × (next : ℕ) × (e : Edge Built) × (planned_edge set next text ≡ Ok e) × (e.operator ≡ operator)

-- the same edge, of an operator that keeps its text
abbrev pub with_text : OpView → Edge Built → Edge AnyView
with_text text e = record {
  operator = record { text = text; operator = e.operator };
  sources = e.sources;
  targets = e.targets;
}

abbrev pub built : List Heading → ℕ → OpView → Checked (Edge AnyView)
built set next text = planned_edge set next text then λ e. Ok (with_text text e)
