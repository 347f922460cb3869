-- The checks on names, each with its refusal.
use Rattle.std.specs.Prelude.{ℕ, Bool, true, false, not, nat_lt, List, [], ◌∷◌, ◌++◌, length, Option, Some, None, Result, Ok, Err, if◌then◌else◌}
use Rattle.std.specs.List.{find, list_any}
use Rattle.std.specs.Option.{option_or}
use Rattle.std.specs.Str.{bytes_eq}
use Rattle.std.specs.Cmp.Lexicographic.{pointwise}
use Rattle.par_base.specs.declared.refusal.Refusal.TheVariants.{UnknownTable, TableExists, UnknownColumn, ColumnExists, BadPartition, TooManyColumns, UnknownId, ColumnsDiffer, SameTable}
use Rattle.expr_lang.specs.Terms.{Term}
use Rattle.expr_lang.specs.Resolved.{place_of, first_unknown_id}
use Rattle.statements.specs.Views.{Tree}
use Rattle.version_graph.specs.Tables.{row_name, column_limit, headings_passing}
pub use Rattle.version_graph.specs.Tables.{heading_named}
use Rattle.version_graph.specs.declared.parts.Heading.{Heading}
use Rattle.par_base.specs.Checked.{Checked, ◌then◌}

-- ---- look-ups by name

-- the name is that of a table that passes through: one that is none of the sources
unfoldable pub is_passing : List Heading → List (List ℕ) → List ℕ → Bool
is_passing set sources name = list_any (λ (h : Heading). bytes_eq h.name name) (headings_passing set sources)

-- the first name that stands among those before it
unfoldable pub repeated : List (List ℕ) → List (List ℕ) → Option (List ℕ)
repeated seen [] = None
repeated seen (name ∷ names) = if list_any (bytes_eq name) seen then Some name else repeated (seen ++ name ∷ []) names

-- the first of the source's columns that none of these names is
abbrev pub left_out : List (List ℕ) → List (List ℕ) → Option (List ℕ)
left_out columns names = find (λ column. not (list_any (bytes_eq column) names)) columns

-- where names don't divide the source's columns: the first that is named twice, or else the first that is left out
abbrev pub misdivided : List (List ℕ) → List (List ℕ) → Option (List ℕ)
misdivided columns names = option_or (repeated [] names) (left_out columns names)

-- ---- the checks

-- a source is a table of the working set
abbrev pub known_table : List ℕ → Option Heading → Checked Heading
known_table name (Some h) = Ok h
known_table name None = Err (UnknownTable name)

-- the second of two sources isn't the first one
abbrev pub other_table : List ℕ → Bool → Checked (Unit {0})
other_table name true = Err (SameTable name)
other_table name false = Ok tt

-- a target's name is that of no table that passes through, and of no target before it
abbrev pub new_table : List ℕ → Bool → Checked (Unit {0})
new_table name true = Err (TableExists name)
new_table name false = Ok tt

-- the place of a column, which is one of the source's
abbrev pub known_column : List ℕ → Option ℕ → Checked ℕ
known_column name (Some place) = Ok place
known_column name None = Err (UnknownColumn name)

-- the places of these columns, or the first name that is none of the source's
unfoldable pub known_places : List (List ℕ) → List (List ℕ) → Checked (List ℕ)
known_places columns [] = Ok []
known_places columns (name ∷ names) =
    known_column name (place_of columns name) then λ place.
    known_places columns names then λ places.
    Ok (place ∷ places)

-- the lists of DECOMPOSE name each column once
abbrev pub well_divided : Option (List ℕ) → Checked (Unit {0})
well_divided (Some name) = Err (BadPartition name)
well_divided None = Ok tt

-- the expression over these columns, or the first name in it that is none of them
abbrev pub known_columns : Result (Term ℕ) (List ℕ) → Checked (Term ℕ)
known_columns (Ok e) = Ok e
known_columns (Err name) = Err (UnknownColumn name)

-- no name stands twice
abbrev pub unrepeated : Option (List ℕ) → Checked (Unit {0})
unrepeated (Some name) = Err (ColumnExists name)
unrepeated None = Ok tt

-- none of the new columns is `p`, a column that is there, or one of the new ones before it
abbrev pub new_columns : List (List ℕ) → List (List ℕ) → Checked (Unit {0})
new_columns there new = unrepeated (repeated (row_name ∷ there) new)

-- two sources have one list of column names
abbrev pub same_columns : Heading → Heading → Checked (Unit {0})
same_columns first second =
    if pointwise bytes_eq first.columns second.columns then Ok tt else Err (ColumnsDiffer first.name second.name)

-- a target has no more columns than a table may have
abbrev pub few_columns : List ℕ → List (List ℕ) → Checked (Unit {0})
few_columns table columns = if nat_lt column_limit (length columns) then Err (TooManyColumns table column_limit) else Ok tt

-- no identifier is unknown
abbrev pub known_id : ℕ → Option ℕ → Checked (Unit {0})
known_id next (Some id) = Err (UnknownId id next)
known_id next None = Ok tt

-- each reference in the expression is below the next identifier, and not 0
abbrev pub known_ids : ℕ → Tree → Checked (Unit {0})
known_ids next value = known_id next (first_unknown_id next value)
