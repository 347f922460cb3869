-- Why an operator is refused: the checks of all operators in one order, and what an operator makes, each in words of its text.
use Rattle.std.specs.Prelude.{◌≡◌, ℕ, true, nat_lt, List, [], ◌∷◌, ◌++◌, map, length, Option, Some, None, Ok, Err, if◌then◌else◌, MatchOption}
use Rattle.std.specs.List.{insert, remove}
use Rattle.std.specs.Option.{option_map, option_map_or, option_or}
use Rattle.std.specs.Str.{bytes_eq}
use Rattle.std.specs.Cmp.Lexicographic.{pointwise}
use Rattle.par_base.specs.Checked.{Checked}
use Rattle.par_base.specs.declared.refusal.Refusal.{Refusal}
use Rattle.par_base.specs.declared.refusal.Refusal.TheVariants.{UnknownTable, TableExists, UnknownColumn, ColumnExists, BadPartition, TooManyColumns, UnknownId, ColumnsDiffer, SameTable}
use Rattle.expr_lang.specs.Terms.{columns_in}
use Rattle.expr_lang.specs.Resolved.{place_of, first_unknown_id}
use Rattle.statements.specs.Views.{Tree, KeyView, Foreign, Condition, OpView, CreateTable, DropTable, RenameTable, RenameColumn, AddColumn, DropColumn, DecomposeSingle, Decompose, Join, Split, Merge}
use Rattle.version_graph.specs.Sets.{Within}
use Rattle.version_graph.specs.Tables.{column_limit, row_name, heading_names, headings_passing}
use Rattle.version_graph.specs.declared.parts.Heading.{Heading}
use Rattle.version_graph.specs.declared.parts.Edge.{Edge}
use Rattle.op_kinds.specs.Operators.{AnyView}
use Rattle.op_checks.specs.NameChecks.{heading_named, left_out, misdivided, repeated}
use Rattle.op_any.specs.Build.{built}
use Rattle.op_build.specs.Laws.{IsFirstLeftOut}

-- ---- the tables of an operator

-- the names of its source tables, in order of the text
abbrev pub sources_in : OpView → List (List ℕ)
sources_in (CreateTable table columns) = []
sources_in (DropTable table) = table ∷ []
sources_in (RenameTable table new) = table ∷ []
sources_in (RenameColumn column table new) = table ∷ []
sources_in (AddColumn column value table tracked) = table ∷ []
sources_in (DropColumn column table value) = table ∷ []
sources_in (DecomposeSingle table target columns) = table ∷ []
sources_in (Decompose table first first_columns second second_columns key) = table ∷ []
sources_in (Join outer first second target key) = first ∷ second ∷ []
sources_in (Split table first second) = table ∷ []
sources_in (Merge first second target) = first.table ∷ second.table ∷ []

-- the columns of the table with this name
abbrev pub columns_named : List Heading → List ℕ → List (List ℕ)
columns_named set table = option_map_or (λ (h : Heading). h.columns) (heading_named set table) []

-- the columns but this one
abbrev pub without : List (List ℕ) → List ℕ → List (List ℕ)
without columns column = option_map_or (remove columns) (place_of columns column) columns

-- the columns with another name in place of one
abbrev pub renamed : List (List ℕ) → List ℕ → List ℕ → List (List ℕ)
renamed columns column new = option_map_or (λ place. insert (remove columns place) place new) (place_of columns column) columns

-- the listed columns of a first target, with the foreign key behind them
abbrev pub with_key : List (List ℕ) → KeyView → List (List ℕ)
with_key columns (Foreign key) = columns ++ key ∷ []
with_key columns _ = columns

-- the columns of a first source, without the foreign key
abbrev pub without_key : List (List ℕ) → KeyView → List (List ℕ)
without_key columns (Foreign key) = without columns key
without_key columns _ = columns

abbrev pub heading : List ℕ → List (List ℕ) → Heading
heading name columns = record { name = name; columns = columns }

-- its target tables with their columns
abbrev pub targets_in : List Heading → OpView → List Heading
targets_in set (CreateTable table columns) = heading table columns ∷ []
targets_in set (DropTable table) = []
targets_in set (RenameTable table new) = heading new (columns_named set table) ∷ []
targets_in set (RenameColumn column table new) = heading table (renamed (columns_named set table) column new) ∷ []
targets_in set (AddColumn column value table tracked) = heading table (columns_named set table ++ column ∷ []) ∷ []
targets_in set (DropColumn column table value) = heading table (without (columns_named set table) column) ∷ []
targets_in set (DecomposeSingle table target columns) = heading target columns ∷ []
targets_in set (Decompose table first first_columns second second_columns key) =
    heading first (with_key first_columns key) ∷ heading second second_columns ∷ []
targets_in set (Join outer first second target key) =
    heading target (without_key (columns_named set first) key ++ columns_named set second) ∷ []
targets_in set (Split table first None) = heading first.table (columns_named set table) ∷ []
targets_in set (Split table first (Some second)) =
    heading first.table (columns_named set table) ∷ heading second.table (columns_named set table) ∷ []
targets_in set (Merge first second target) = heading target (columns_named set first.table) ∷ []

-- a built edge goes from these sources to these targets
abbrev pub BuiltHasItsTables : Type 0
BuiltHasItsTables =
    (set : List Heading) (next : ℕ) (text : OpView) (e : Edge AnyView) → built set next text ≡ Ok e
    → (e.sources ≡ sources_in text) × (e.targets ≡ targets_in set text)

-- ---- the checks

-- the first source that is no table of the working set
abbrev pub unknown_table : List Heading → OpView → Option (List ℕ)
unknown_table set text = left_out (sources_in text) (heading_names set)

-- the source that is named twice
abbrev pub same_table : OpView → Option (List ℕ)
same_table text = repeated [] (sources_in text)

-- the first target whose name is that of a table that passes through, or of the target before it
abbrev pub existing_table : List Heading → OpView → Option (List ℕ)
existing_table set text = repeated (heading_names (headings_passing set (sources_in text))) (heading_names (targets_in set text))

-- the columns that the condition of a DECOMPOSE or JOIN reads
abbrev pub columns_in_key : KeyView → List (List ℕ)
columns_in_key (Condition condition) = columns_in condition
columns_in_key _ = []

-- the first name that isn't there: DEFAULT is over the other columns, MERGE's conditions are each over their table's, and that of a JOIN
-- is over both tables'
abbrev pub unknown_column : List Heading → OpView → Option (List ℕ)
unknown_column set (RenameColumn column table new) = left_out (column ∷ []) (columns_named set table)
unknown_column set (AddColumn column value table tracked) = left_out (columns_in value) (columns_named set table)
unknown_column set (DropColumn column table value) =
    option_or (left_out (column ∷ []) (columns_named set table)) (left_out (columns_in value) (without (columns_named set table) column))
unknown_column set (DecomposeSingle table target columns) = left_out columns (columns_named set table)
unknown_column set (Decompose table first first_columns second second_columns key) =
    left_out ((first_columns ++ second_columns) ++ columns_in_key key) (columns_named set table)
unknown_column set (Join outer first second target (Foreign key)) = left_out (key ∷ []) (columns_named set first)
unknown_column set (Join outer first second target key) = left_out (columns_in_key key) (columns_named set first ++ columns_named set second)
unknown_column set (Split table first None) = left_out (columns_in first.condition) (columns_named set table)
unknown_column set (Split table first (Some second)) =
    left_out (columns_in first.condition ++ columns_in second.condition) (columns_named set table)
unknown_column set (Merge first second target) =
    option_or (left_out (columns_in first.condition) (columns_named set first.table)) (left_out (columns_in second.condition) (columns_named set second.table))
unknown_column set _ = None

-- the column that the lists of DECOMPOSE name twice, or else that two of them leave out
abbrev pub misplaced_column : List Heading → OpView → Option (List ℕ)
misplaced_column set (DecomposeSingle table target columns) = repeated [] columns
misplaced_column set (Decompose table first first_columns second second_columns key) =
    misdivided (columns_named set table) (first_columns ++ second_columns)
misplaced_column set _ = None

-- the tables of a MERGE, where they haven't the same columns
abbrev pub differing : List Heading → OpView → Option (List ℕ × List ℕ)
differing set (Merge first second target) =
    if pointwise bytes_eq (columns_named set first.table) (columns_named set second.table) then None else Some (first.table, second.table)
differing set _ = None

-- the first new column of a target that is `p`, or that the target has already
abbrev pub existing_column : List Heading → OpView → Option (List ℕ)
existing_column set (CreateTable table columns) = repeated (row_name ∷ []) columns
existing_column set (RenameColumn column table new) = repeated (row_name ∷ without (columns_named set table) column) (new ∷ [])
existing_column set (AddColumn column value table tracked) = repeated (row_name ∷ columns_named set table) (column ∷ [])
existing_column set (Decompose table first first_columns second second_columns (Foreign key)) = repeated (row_name ∷ first_columns) (key ∷ [])
existing_column set (Join outer first second target key) =
    repeated (row_name ∷ without_key (columns_named set first) key) (columns_named set second)
existing_column set _ = None

-- the table, where it would have too many columns
abbrev pub too_wide : List ℕ → List (List ℕ) → Option (List ℕ)
too_wide table columns = if nat_lt column_limit (length columns) then Some table else None

-- the target that would have more columns than a table may have; targets of the other forms have no more than a source
abbrev pub wide_table : List Heading → OpView → Option (List ℕ)
wide_table set (CreateTable table columns) = too_wide table columns
wide_table set (AddColumn column value table tracked) = too_wide table (columns_named set table ++ column ∷ [])
wide_table set (Decompose table first first_columns second second_columns (Foreign key)) = too_wide first (first_columns ++ key ∷ [])
wide_table set (Join outer first second target key) = too_wide target (without_key (columns_named set first) key ++ columns_named set second)
wide_table set _ = None

-- the expression of a DECOMPOSE or JOIN, where it has one
abbrev pub expressions_in_key : KeyView → List Tree
expressions_in_key (Condition condition) = condition ∷ []
expressions_in_key _ = []

-- its expressions, in order of the text
abbrev pub expressions_in : OpView → List Tree
expressions_in (AddColumn column value table tracked) = value ∷ []
expressions_in (DropColumn column table value) = value ∷ []
expressions_in (Decompose table first first_columns second second_columns key) = expressions_in_key key
expressions_in (Join outer first second target key) = expressions_in_key key
expressions_in (Split table first None) = first.condition ∷ []
expressions_in (Split table first (Some second)) = first.condition ∷ second.condition ∷ []
expressions_in (Merge first second target) = first.condition ∷ second.condition ∷ []
expressions_in _ = []

-- the first of these that is there
abbrev pub first_of : {X : Type 0} → List (Option X) → Option X
first_of [] = None
first_of (o ∷ os) = option_or o (first_of os)

-- the first reference to an identifier that is 0 or isn't below the next one
abbrev pub unknown_id : ℕ → OpView → Option ℕ
unknown_id next text = first_of (map (first_unknown_id next) (expressions_in text))

-- ---- their order

-- the checks of every operator in their order: what fails each is refused so
abbrev pub checks : List Heading → ℕ → OpView → List (Option Refusal)
checks set next text =
    option_map (λ table. UnknownTable table) (unknown_table set text)
    ∷ option_map (λ table. SameTable table) (same_table text)
    ∷ option_map (λ table. TableExists table) (existing_table set text)
    ∷ option_map (λ column. UnknownColumn column) (unknown_column set text)
    ∷ option_map (λ column. BadPartition column) (misplaced_column set text)
    ∷ option_map (λ tables. ColumnsDiffer tables.0 tables.1) (differing set text)
    ∷ option_map (λ column. ColumnExists column) (existing_column set text)
    ∷ option_map (λ table. TooManyColumns table column_limit) (wide_table set text)
    ∷ option_map (λ id. UnknownId id next) (unknown_id next text)
    ∷ []

-- the refusal, where there is one
abbrev pub refusal_in : {A : Type 0} → Checked A → Option Refusal
refusal_in (Ok x) = None
refusal_in (Err r) = Some r

-- the first check that an operator fails refuses it, and one that fails none is built
abbrev pub FirstFailedRefuses : Type 0
FirstFailedRefuses =
    (set : List Heading) (next : ℕ) (text : OpView) → refusal_in (built set next text) ≡ first_of (checks set next text)

-- what a refusal says of the text
abbrev pub IsCause : List Heading → ℕ → OpView → Refusal → Type 0
IsCause set next text (UnknownTable table) = unknown_table set text ≡ Some table
IsCause set next text (SameTable table) = same_table text ≡ Some table
IsCause set next text (TableExists table) = existing_table set text ≡ Some table
IsCause set next text (UnknownColumn column) = unknown_column set text ≡ Some column
IsCause set next text (BadPartition column) = misplaced_column set text ≡ Some column
IsCause set next text (ColumnsDiffer first second) = differing set text ≡ Some (first, second)
IsCause set next text (ColumnExists column) = existing_column set text ≡ Some column
IsCause set next text (TooManyColumns table limit) = (wide_table set text ≡ Some table) × (limit ≡ column_limit)
IsCause set next text (UnknownId id bound) = (unknown_id next text ≡ Some id) × (bound ≡ next)
IsCause set next text _ = ⊥

-- each refusal has its cause, and there are no others
abbrev pub EachRefusalHasItsCause : Type 0
EachRefusalHasItsCause =
    (set : List Heading) (next : ℕ) (text : OpView) (r : Refusal) → built set next text ≡ Err r → IsCause set next text r

-- of some names the first that isn't there is refused, and none exactly where all are there
abbrev pub FirstMissingIsRefused : Type 0
FirstMissingIsRefused =
    (names there : List (List ℕ)) → MatchOption (left_out names there) (Within names there) (IsFirstLeftOut names there)
