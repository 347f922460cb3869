-- Closing: the layout that stores the named tables.
use Rattle.std.specs.Prelude.{◌≡◌, ◌↔◌, ◌⊎◌, ℕ, ◌≤◌, Bool, is_none, List, [], ◌∷◌, ◌++◌, Option, Some, None, unwrap_or, option_map, option_and_then, option_to_list, Result, Ok, Err, codes, ⊤}
use Rattle.std.specs.List.{find}
use Rattle.par_base.specs.declared.fault.Fault.{Fault}
use Rattle.par_base.specs.declared.fault.Fault.TheVariants.{Refused, Memory}
use Rattle.par_base.specs.declared.limits.Target.{Target}
use Rattle.par_base.specs.declared.refusal.Refusal.{Refusal}
use Rattle.par_base.specs.declared.refusal.Refusal.TheVariants.{InvalidLayout}
use Rattle.version_graph.specs.Sets.{In, Each}
use Rattle.version_graph.specs.Tables.{table_numbers}
use Rattle.version_graph.specs.Edges.{Drawn, Rises, heading_of, number_named, set_named, working}
use Rattle.version_graph.specs.Forest.{Link, forest, tree}
use Rattle.version_graph.specs.declared.parts.Heading.{Heading}
use Rattle.version_graph.specs.declared.parts.Placed.{Placed}
use Rattle.layout_rules.specs.Layouts.{IsCreate, IsStored, Lives}
use Rattle.layout_rules.specs.declared.layout.Layout.{Layout}

-- ---- what is named

-- the one of these tables with this name, or all of them where no name is given
abbrev pub chosen : {O : Type 0} → List (Placed O) → List ℕ → Option (List ℕ) → Option (List ℕ)
chosen es ts None = Some ts
chosen es ts (Some name) = option_map (λ t. t ∷ []) (number_named es ts name)

-- the tables that a target names; None where there is no such version or table
abbrev pub tables_of : {O : Type 0} → Drawn O → Target → Option (List ℕ)
tables_of g target = option_and_then (λ ts. chosen g.edges ts target.table) (option_map (λ w. table_numbers (working g.edges w)) (set_named g.versions target.version))

-- the tables that targets name
abbrev pub named_tables : {O : Type 0} → Drawn O → List Target → List ℕ
named_tables g [] = []
named_tables g (target ∷ named) = unwrap_or (tables_of g target) [] ++ named_tables g named

-- the trees of the targets' versions
abbrev pub named_trees : {O : Type 0} → Drawn O → List Target → List ℕ
named_trees g [] = []
named_trees g (target ∷ named) = option_to_list (option_map (tree (forest g.edges)) (set_named g.versions target.version)) ++ named_trees g named

-- the operator is in one of these trees
abbrev pub IsIn : {O : Type 0} → List (Link O) → List ℕ → ℕ → Type 0
IsIn es trees n = In (tree es n) trees

-- ---- what is needed

-- a set of operators that stores these tables, which stand in these trees
pub record HasNeeded {O : Type 0} (es : List (Link O)) (trees tables layout : List ℕ) : Type 0 where
  -- it has every CREATE TABLE of the trees
  pub creates : (e : Link O) → In e es → IsIn es trees e.number → IsCreate e → In e.number layout
  -- it has the operators of the trees that made the tables
  pub makers : (e : Link O) → In e es → IsIn es trees e.number → (t : ℕ) → In t e.targets → In t tables → In e.number layout
  -- with an operator of the trees it has those that made its source tables
  pub sources : (e f : Link O) → In e es → In f es → IsIn es trees e.number → In e.number layout → (t : ℕ) → In t e.sources → In t f.targets → In f.number layout

-- every such set has the operator
abbrev pub IsNeeded : {O : Type 0} → List (Link O) → List ℕ → List ℕ → ℕ → Type 0
IsNeeded es trees tables n = (layout : List ℕ) → HasNeeded es trees tables layout → In n layout

-- in the trees the new layout has what is needed and nothing else; other trees keep their layout
pub record IsClosed {O : Type 0} (es : List (Link O)) (trees tables layout new : List ℕ) : Type 0 where
  pub ascending : Rises 0 new
  pub named : (n : ℕ) → IsIn es trees n → In n new ↔ IsNeeded es trees tables n
  pub others : (n : ℕ) → (IsIn es trees n → ⊥) → In n new ↔ (In n layout × Lives es n)

-- ---- refusals

-- the first target for which there is no version or no table
abbrev pub is_unknown : {O : Type 0} → Drawn O → Target → Bool
is_unknown g target = is_none (tables_of g target)

abbrev pub first_unknown : {O : Type 0} → Drawn O → List Target → Option Target
first_unknown g named = find (is_unknown g) named

-- two needed operators share the table as a source
abbrev pub IsShared : {O : Type 0} → List (Link O) → List ℕ → List ℕ → ℕ → Type 0
IsShared {O} es trees tables t =
    (e : Link O) × (f : Link O) × In e es × In f es × IsNeeded es trees tables e.number × IsNeeded es trees tables f.number × (e.number ≡ f.number → ⊥) × In t e.sources × In t f.sources

abbrev pub NoneIsShared : {O : Type 0} → List (Link O) → List ℕ → List ℕ → Type 0
NoneIsShared es trees tables = (t : ℕ) → IsShared es trees tables t → ⊥

-- every table of the target is stored
abbrev pub StoresTarget : {O : Type 0} → Drawn O → List ℕ → Target → Type 0
StoresTarget g layout target = Each (IsStored (forest g.edges) layout) (unwrap_or (tables_of g target) [])

-- the first target with a table that isn't stored
abbrev pub IsFirstUnstored : {O : Type 0} → Drawn O → List ℕ → List Target → Target → Type 0
IsFirstUnstored g layout named target = (before : List Target) × (after : List Target) × (named ≡ before ++ target ∷ after) × Each (StoresTarget g layout) before × (StoresTarget g layout target → ⊥)

abbrev pub table_text : Option (List ℕ) → List ℕ
table_text None = []
table_text (Some name) = codes "." ++ name

-- a target as it was named
abbrev pub target_text : Target → List ℕ
target_text target = target.version ++ table_text target.table

-- a target is unknown
abbrev pub RefusesUnknown : {O : Type 0} → Drawn O → List Target → Refusal → Type 0
RefusesUnknown g named r = (target : Target) × (first_unknown g named ≡ Some target) × (r ≡ InvalidLayout (target_text target))

-- a table is shared; the least such is told
abbrev pub RefusesShared : {O : Type 0} → Drawn O → List ℕ → List ℕ → Refusal → Type 0
RefusesShared g trees tables r =
    (t : ℕ) × (h : Heading) × IsShared (forest g.edges) trees tables t × ((u : ℕ) → IsShared (forest g.edges) trees tables u → t ≤ u) × (heading_of g.edges t ≡ Some h) × (r ≡ InvalidLayout h.name)

-- a table of a target would not be stored
abbrev pub RefusesUnstored : {O : Type 0} → Drawn O → List ℕ → List Target → Refusal → Type 0
RefusesUnstored g layout named r =
    (new : List ℕ) × (target : Target) × IsClosed (forest g.edges) (named_trees g named) (named_tables g named) layout new × IsFirstUnstored g new named target × (r ≡ InvalidLayout (target_text target))

-- the new layout, or the first of the three refusals
abbrev pub Closes : {O : Type 0} → Drawn O → List ℕ → List Target → Result Layout (Fault Refusal) → Type 0
Closes g layout named (Ok new) =
    let trees = named_trees g named in
    let tables = named_tables g named in
    (first_unknown g named ≡ None) × NoneIsShared (forest g.edges) trees tables × IsClosed (forest g.edges) trees tables layout new.operators × Each (StoresTarget g new.operators) named
Closes g layout named (Err (Refused r)) =
    let trees = named_trees g named in
    let tables = named_tables g named in
    RefusesUnknown g named r
    ⊎ (((first_unknown g named ≡ None) × RefusesShared g trees tables r)
    ⊎ ((first_unknown g named ≡ None) × NoneIsShared (forest g.edges) trees tables × RefusesUnstored g layout named r))
Closes g layout named (Err (Memory memory)) = ⊤
