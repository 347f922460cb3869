-- Tables of a working set by their names, and which edges fit it.
use Rattle.std.specs.Prelude.{ℕ, ◌≤◌, Bool, not, List, [], ◌∷◌, ◌++◌, codes, filter, map, length, Option, option_to_list}
use Rattle.std.specs.List.{find, list_any}
use Rattle.std.specs.Str.{bytes_eq}
use Rattle.version_graph.specs.Sets.{In, Apart, Distinct, Each}
use Rattle.version_graph.specs.declared.parts.Heading.{Heading}
use Rattle.version_graph.specs.declared.parts.Edge.{Edge}

-- a table version: its number, its name and its columns
pub record TableVersion : Type 0 where
  pub number : ℕ
  pub heading : Heading

abbrev pub table_numbers : List TableVersion → List ℕ
table_numbers set = map (λ (t : TableVersion). t.number) set

abbrev pub headings_of : List TableVersion → List Heading
headings_of set = map (λ (t : TableVersion). t.heading) set

abbrev pub heading_names : List Heading → List (List ℕ)
heading_names hs = map (λ (h : Heading). h.name) hs

-- whether a table has one of these names
abbrev pub is_among : List (List ℕ) → Heading → Bool
is_among names h = list_any (bytes_eq h.name) names

-- the tables that have none of these names pass through, in their order
abbrev pub passing : List TableVersion → List (List ℕ) → List TableVersion
passing set names = filter (λ (t : TableVersion). not (is_among names t.heading)) set

-- the table of a set with this name
abbrev pub table_named : List TableVersion → List ℕ → Option TableVersion
table_named set name = find (λ (t : TableVersion). bytes_eq t.heading.name name) set

-- the heading of these with this name
abbrev pub heading_named : List Heading → List ℕ → Option Heading
heading_named hs name = find (λ (h : Heading). bytes_eq h.name name) hs

-- the tables of a set with these names, in order of the names
abbrev pub taken : List TableVersion → List (List ℕ) → List TableVersion
taken set [] = []
taken set (name ∷ names) = option_to_list (table_named set name) ++ taken set names

-- tables under their numbers
abbrev pub tables_of : List ℕ → List Heading → List TableVersion
tables_of [] hs = []
tables_of (n ∷ ns) [] = []
tables_of (n ∷ ns) (h ∷ hs) = record { number = n; heading = h } ∷ tables_of ns hs

-- ---- an edge fits a working set

abbrev pub column_limit : ℕ
column_limit = 64

-- the name that counts as a column of every table
abbrev pub row_name : List ℕ
row_name = codes "p"

-- no column twice, none named `p`, and not too many
pub record IsHeading (h : Heading) : Type 0 where
  pub once : Distinct (row_name ∷ h.columns)
  pub few : length h.columns ≤ column_limit

-- the headings that pass through beside an edge with these sources
abbrev pub headings_passing : List Heading → List (List ℕ) → List Heading
headings_passing hs names = filter (λ (h : Heading). not (is_among names h)) hs

-- the headings of the working set after an edge
abbrev pub headings_after : {O : Type 0} → List Heading → Edge O → List Heading
headings_after hs e = headings_passing hs e.sources ++ e.targets

pub record FitsSet {O : Type 0} (hs : List Heading) (e : Edge O) : Type 0 where
  pub known : Each (λ name. In name (heading_names hs)) e.sources
  pub sources_once : Distinct e.sources
  pub targets_new : Apart (heading_names e.targets) (heading_names (headings_passing hs e.sources))
  pub targets_once : Distinct (heading_names e.targets)
  pub columns : Each IsHeading e.targets

-- each edge fits the working set that the edges before it leave
abbrev pub FitInOrder : {O : Type 0} → List Heading → List (Edge O) → Type 0
FitInOrder hs [] = Unit {0}
FitInOrder hs (e ∷ edges) = FitsSet hs e × FitInOrder (headings_after hs e) edges
