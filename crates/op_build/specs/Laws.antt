-- What is true of every edge that is built on the working set of a graph.
use Rattle.std.specs.Prelude.{◌≡◌, ◌↔◌, ◌⊎◌, ℕ, ◌≤◌, Bool, true, false, List, [], ◌∷◌, ◌++◌, length, map, option_to_list, MatchOption, Ok, Err}
use Rattle.statements.specs.Views.{KeyView, Primary, Foreign, Condition, OpView, CreateTable, Decompose, Join}
use Rattle.version_graph.specs.Sets.{In, Distinct, Within, Each}
use Rattle.version_graph.specs.Tables.{TableVersion, headings_of, taken, IsHeading, FitsSet}
use Rattle.version_graph.specs.declared.parts.Heading.{Heading as TableHeading}
use Rattle.version_graph.specs.declared.parts.Edge.{Edge}
use Rattle.op_law.specs.Tables.{Heading}
use Rattle.op_kinds.specs.Operators.{AnyView, any_meaning}
use Rattle.op_checks.specs.NameChecks.{heading_named, repeated, misdivided}
use Rattle.op_any.specs.Build.{built}
use Rattle.op_any.specs.Texts.{TextsFit}

-- a table's heading, as operators see it
abbrev pub as_seen : TableHeading → Heading
as_seen h = record { name = h.name; columns = h.columns }

-- the tables of a working set with these names, in order of the names
abbrev pub headings_taken : List TableHeading → List (List ℕ) → List TableHeading
headings_taken set [] = []
headings_taken set (name ∷ names) = option_to_list (heading_named set name) ++ headings_taken set names

-- of the tables of a working set, they are the headings of the tables that an edge takes
abbrev pub HeadingsOfTaken : Type 0
HeadingsOfTaken =
    (set : List TableVersion) (names : List (List ℕ)) → headings_taken (headings_of set) names ≡ headings_of (taken set names)

-- the text of a CREATE TABLE
abbrev pub is_create_table : OpView → Bool
is_create_table (CreateTable table columns) = true
is_create_table _ = false

-- tables that belong together by the primary key have the same identifiers
abbrev pub is_local_by : KeyView → Bool
is_local_by Primary = true
is_local_by (Foreign column) = false
is_local_by (Condition condition) = false

-- which forms of operator treat each identifier by itself: all but those on a foreign key or a condition
abbrev pub is_local_form : OpView → Bool
is_local_form (Decompose table first first_columns second second_columns key) = is_local_by key
is_local_form (Join outer first second target key) = is_local_by key
is_local_form _ = true

-- an edge that is built on a working set of headings fits it
abbrev pub BuiltEdgesFit : Type 0
BuiltEdgesFit =
    (set : List TableHeading) (next : ℕ) (text : OpView) (e : Edge AnyView)
    → Each IsHeading set → built set next text ≡ Ok e → FitsSet set e

-- its operator is built for its sources and targets
abbrev pub BuiltForItsTables : Type 0
BuiltForItsTables =
    (set : List TableHeading) (next : ℕ) (text : OpView) (e : Edge AnyView)
    → Each IsHeading set → built set next text ≡ Ok e
    → (any_meaning e.operator).Fits (map as_seen (headings_taken set e.sources)) (map as_seen e.targets)

-- its expressions are closed, where no text literal is too long
abbrev pub BuiltIsClosed : Type 0
BuiltIsClosed =
    (set : List TableHeading) (next : ℕ) (text : OpView) (e : Edge AnyView) → built set next text ≡ Ok e
    → TextsFit text → (any_meaning e.operator).Closed next

-- it has at most two sources and at most two targets
abbrev pub BuiltHasFewTables : Type 0
BuiltHasFewTables =
    (set : List TableHeading) (next : ℕ) (text : OpView) (e : Edge AnyView) → built set next text ≡ Ok e
    → (length e.sources ≤ 2) × (length e.targets ≤ 2)

-- CREATE TABLE has no source, and no other operator is without one
abbrev pub OnlyCreateTableIsWithoutSource : Type 0
OnlyCreateTableIsWithoutSource =
    (set : List TableHeading) (next : ℕ) (text : OpView) (e : Edge AnyView) → built set next text ≡ Ok e
    → (e.sources ≡ []) ↔ (is_create_table text ≡ true)

-- a name that stands among those before it, while those are distinct
pub record IsFirstRepeated (seen new : List (List ℕ)) (name : List ℕ) : Type 0 where
  pub front : List (List ℕ)
  pub rest : List (List ℕ)
  pub there : new ≡ front ++ name ∷ rest
  pub once : Distinct (seen ++ front)
  pub again : In name (seen ++ front)

-- of new columns beside distinct ones the first repeated one is refused, and none exactly where all are distinct
abbrev pub FirstRepeatedIsRefused : Type 0
FirstRepeatedIsRefused =
    (seen new : List (List ℕ)) → Distinct seen
    → MatchOption (repeated seen new) (Distinct (seen ++ new)) (IsFirstRepeated seen new)

-- a column that none of the names is, while all before it are named
pub record IsFirstLeftOut (columns names : List (List ℕ)) (name : List ℕ) : Type 0 where
  pub front : List (List ℕ)
  pub rest : List (List ℕ)
  pub there : columns ≡ front ++ name ∷ rest
  pub before : Within front names
  pub out : In name names → ⊥

-- the first name that stands twice, or else, where all are distinct, the first column that is left out
abbrev pub IsFirstMisdivided : List (List ℕ) → List (List ℕ) → List ℕ → Type 0
IsFirstMisdivided columns names name =
    IsFirstRepeated [] names name ⊎ (Distinct names × IsFirstLeftOut columns names name)

-- a bad partition is refused by this name, and none is exactly where names are distinct and leave out no column
abbrev pub FirstMisdividedIsRefused : Type 0
FirstMisdividedIsRefused =
    (columns names : List (List ℕ))
    → MatchOption (misdivided columns names) (Distinct names × Within columns names) (IsFirstMisdivided columns names)

-- the operator keeps the text
abbrev pub BuiltKeepsItsText : Type 0
BuiltKeepsItsText =
    (set : List TableHeading) (next : ℕ) (text : OpView) (e : Edge AnyView) → built set next text ≡ Ok e
    → e.operator.text ≡ text

-- which operators treat each identifier by itself
abbrev pub BuiltIsLocalByForm : Type 0
BuiltIsLocalByForm =
    (set : List TableHeading) (next : ℕ) (text : OpView) (e : Edge AnyView) → built set next text ≡ Ok e
    → (any_meaning e.operator).is_local ≡ is_local_form text
