-- Tests by the look-ups of a graph.
use Rattle.std.specs.Prelude.{ℕ, ◌==◌, Bool, false, not, ◌&&◌, ◌||◌, if◌then◌else◌, is_some, List, [], ◌∷◌, ◌++◌, Option, Some, None, unwrap_or}
use Rattle.std.specs.List.{list_all, list_any}
use Rattle.std.specs.Option.{option_map_or}
use mathlib.Core.List.{reverse}
use Rattle.par_base.specs.declared.limits.Target.{Target}
use Rattle.version_graph.specs.Edges.{Drawn, edge_of, is_in, maker_of, numbers, sources_at}
use Rattle.version_graph.specs.Forest.{forest, tree}
use Rattle.version_graph.specs.declared.parts.Placed.{Placed}
use Rattle.layout_rules.specs.Changes.{is_empty}
use Rattle.layout_rules.specs.Passes.{meet}
use Rattle.layout_rules.specs.Closing.{tables_of}

-- the source tables of an operator, if it lives
abbrev pub sources_or_none : {O : Type 0} → List (Placed O) → ℕ → List ℕ
sources_or_none es n = unwrap_or (sources_at es n) []

-- ---- one table

abbrev pub is_made : {O : Type 0} → List (Placed O) → List ℕ → ℕ → Bool
is_made es layout t = option_map_or (λ n. is_in n layout) (maker_of es t) false

abbrev pub takes : {O : Type 0} → List (Placed O) → ℕ → ℕ → Bool
takes es t n = is_in t (sources_or_none es n)

abbrev pub is_taken : {O : Type 0} → List (Placed O) → List ℕ → ℕ → Bool
is_taken es layout t = list_any (takes es t) layout

abbrev pub is_stored : {O : Type 0} → List (Placed O) → List ℕ → ℕ → Bool
is_stored es layout t = is_made es layout t && not (is_taken es layout t)

-- ---- one operator

-- two operators that take the same table
abbrev pub clash : {O : Type 0} → List (Placed O) → ℕ → ℕ → Bool
clash es n m = not (n == m) && meet (sources_or_none es n) (sources_or_none es m)

abbrev pub clashes : {O : Type 0} → List (Placed O) → List ℕ → ℕ → Bool
clashes es layout n = list_any (clash es n) layout

abbrev pub has_makers : {O : Type 0} → List (Placed O) → List ℕ → ℕ → Bool
has_makers es layout n = list_all (is_made es layout) (sources_or_none es n)

-- an operator may stand in the layout
abbrev pub may_stand : {O : Type 0} → List (Placed O) → List ℕ → ℕ → Bool
may_stand es layout n = is_some (edge_of es n) && (has_makers es layout n && not (clashes es layout n))

-- an operator may be missing from the layout, or isn't
abbrev pub may_miss : {O : Type 0} → List (Placed O) → List ℕ → ℕ → Bool
may_miss es layout n = not (is_empty (sources_or_none es n)) || is_in n layout

-- ---- all

-- the operators by ascending number
abbrev pub numbers_up : {O : Type 0} → List (Placed O) → List ℕ
numbers_up es = reverse (numbers es)

-- the tables of edges, in their order
abbrev pub tables_along : {O : Type 0} → List (Placed O) → List ℕ
tables_along [] = []
tables_along (e ∷ es) = e.tables ++ tables_along es

-- all tables, by ascending number
abbrev pub tables_up : {O : Type 0} → List (Placed O) → List ℕ
tables_up es = tables_along (reverse es)

abbrev pub is_valid : {O : Type 0} → List (Placed O) → List ℕ → Bool
is_valid es layout = list_all (may_miss es layout) (numbers_up es) && list_all (may_stand es layout) layout

-- ---- closing

-- the way up goes on at the parent, but from a root
abbrev pub climbed : {O : Type 0} → ℕ → Option (Placed O) → ℕ
climbed at None = at
climbed at (Some e) = if at == e.number && not (e.parent == 0) then e.parent else at

-- the operator's tree is one of these
abbrev pub in_trees : {O : Type 0} → List (Placed O) → List ℕ → ℕ → Bool
in_trees es trees n = is_in (tree (forest es) n) trees

-- whether an edge is needed for these tables
abbrev pub is_needed : {O : Type 0} → List (Placed O) → List ℕ → List ℕ → Placed O → Bool
is_needed es trees tables e = in_trees es trees e.number && (is_empty (sources_or_none es e.number) || meet e.tables tables)

-- the needed tables with an edge, and the needed operators
abbrev pub tables_with : {O : Type 0} → List (Placed O) → List ℕ → List ℕ → Option (Placed O) → List ℕ
tables_with es trees tables None = tables
tables_with es trees tables (Some e) = if is_needed es trees tables e then tables ++ sources_or_none es e.number else tables

abbrev pub needed_with : {O : Type 0} → List (Placed O) → List ℕ → List ℕ → List ℕ → Option (Placed O) → List ℕ
needed_with es trees tables made None = made
needed_with es trees tables made (Some e) = if is_needed es trees tables e then made ++ e.number ∷ [] else made

-- what is needed in the trees, and elsewhere what is in the layout
abbrev pub stays : {O : Type 0} → List (Placed O) → List ℕ → List ℕ → List ℕ → ℕ → Bool
stays es trees wanted layout n = if in_trees es trees n then is_in n wanted else is_in n layout

-- another one of these operators takes the table too
abbrev pub takes_too : {O : Type 0} → List (Placed O) → ℕ → ℕ → ℕ → Bool
takes_too es t n m = not (n == m) && takes es t m

-- two of these operators take the table
abbrev pub is_shared : {O : Type 0} → List (Placed O) → List ℕ → ℕ → Bool
is_shared es wanted t = list_any (λ n. takes es t n && list_any (takes_too es t n) wanted) wanted

-- each table of a target is stored
abbrev pub stores_found : {O : Type 0} → Drawn O → List ℕ → Target → Bool
stores_found g layout target = list_all (is_stored g.edges layout) (unwrap_or (tables_of g target) [])
