-- What the accesses of a tree cost under the layouts that store its versions.
use Rattle.std.specs.Prelude.{ℕ, ◌*◌, ◌==◌, Bool, cond, List, [], ◌∷◌, filter, map, None, sum_by, count_by}
use Rattle.std.specs.List.{find}
use Rattle.std.specs.Option.{option_map_or}
use mathlib.Core.List.{reverse}
use Rattle.par_base.specs.declared.limits.Target.{Target}
use Rattle.version_graph.specs.Edges.{Drawn, is_in, set_named}
use Rattle.version_graph.specs.Forest.{Link, forest, tree}
use Rattle.version_graph.specs.declared.parts.Placed.{Placed}
use Rattle.layout_rules.specs.Changes.{is_empty}
use Rattle.layout_rules.specs.Closed.{closed_layout}
use Rattle.layout_rules.specs.Lookups.{numbers_up, sources_or_none, tables_along}
use Rattle.layout_rules.specs.Passes.{meet}
use Rattle.layout_rules.specs.inner.Reached.{down_from, up_from}
use Rattle.layout_planner.specs.declared.planning.TableCount.{TableCount}
use Rattle.layout_planner.specs.declared.planning.VersionCost.{VersionCost}

-- ---- accesses

-- the count that is given for a table, and 0 where none is
abbrev pub count_of : List TableCount → ℕ → ℕ
count_of counts t = option_map_or (λ (c : TableCount). c.count) (find (λ (c : TableCount). t == c.table) counts) 0

-- ---- the layout of a version

-- the version, as MATERIALIZE names it
abbrev pub whole : List ℕ → Target
whole name = record { version = name; table = None }

-- the CREATE TABLE operators, ascending: the layout in which all other operators are stored on their source side
abbrev pub creates : {O : Type 0} → List (Placed O) → List ℕ
creates es = filter (λ n. is_empty (sources_or_none es n)) (numbers_up es)

-- what MATERIALIZE of the version makes of that layout
abbrev pub layout_for : {O : Type 0} → Drawn O → List ℕ → List ℕ
layout_for g name = closed_layout g (creates g.edges) (whole name ∷ [])

-- ---- ways to storage

-- the tables from which a table is read, itself among them: first up, over operators outside the layout, and then down, over those of it
abbrev pub read_for : {O : Type 0} → List (Link O) → List ℕ → ℕ → List ℕ
read_for es layout t = down_from layout es (up_from layout es (t ∷ []))

-- whether one of these tables is read over the operator
abbrev pub is_read_over : {O : Type 0} → List ℕ → List ℕ → Link O → Bool
is_read_over layout ts e = cond (is_in e.number layout) (meet e.sources ts) (meet e.targets ts)

-- how many operators are on the way from a table to storage
abbrev pub way_length : {O : Type 0} → List (Link O) → List ℕ → ℕ → ℕ
way_length es layout t = count_by (is_read_over layout (read_for es layout t)) es

-- ---- costs

-- the accesses of a table, each over all operators on its way
abbrev pub table_cost : {O : Type 0} → List (Placed O) → List ℕ → List TableCount → ℕ → ℕ
table_cost es layout counts t = count_of counts t * way_length (forest es) layout t

-- the tables that these operators made, ascending
abbrev pub tables_of : {O : Type 0} → List (Placed O) → (ℕ → Bool) → List ℕ
tables_of es among = tables_along (filter (λ e. among e.number) (reverse es))

-- the cost of a version over these tables, under its layout
abbrev pub version_cost : {O : Type 0} → Drawn O → List TableCount → List ℕ → List ℕ → VersionCost
version_cost g counts ts name = record { version = name; cost = sum_by (table_cost g.edges (layout_for g name) counts) ts }

-- the versions on these operators, in order of creation, each with its cost over their tables
abbrev pub costs_among : {O : Type 0} → Drawn O → List TableCount → (ℕ → Bool) → List VersionCost
costs_among g counts among = map (λ (v : List ℕ × ℕ). version_cost g counts (tables_of g.edges among) v.0) (filter (λ (v : List ℕ × ℕ). among v.1) g.versions)

-- the operators of a working set's tree
abbrev pub in_tree : {O : Type 0} → List (Placed O) → ℕ → ℕ → Bool
in_tree es w n = tree (forest es) n == tree (forest es) w

-- THE COSTS OF A VERSION'S TREE; an unknown version has none
abbrev pub costs : {O : Type 0} → Drawn O → List TableCount → List ℕ → List VersionCost
costs g counts name = option_map_or (λ w. costs_among g counts (in_tree g.edges w)) (set_named g.versions name) []
