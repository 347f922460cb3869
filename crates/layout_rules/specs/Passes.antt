-- What one pass over the operators finds.
use Rattle.std.specs.Prelude.{ℕ, Bool, cond, ◌&&◌, ◌||◌, List, [], ◌∷◌, ◌++◌}
use Rattle.std.specs.List.{list_any}
use Rattle.version_graph.specs.Edges.{is_in}
use Rattle.version_graph.specs.Forest.{Link}
use Rattle.layout_rules.specs.Changes.{is_empty}

-- whether the lists have a table in common
abbrev pub meet : List ℕ → List ℕ → Bool
meet xs ys = list_any (λ x. is_in x ys) xs

-- the newest operator first: in the named trees one is needed where it is a CREATE TABLE or makes a needed table, and then its source tables are needed
abbrev pub needed : {O : Type 0} → (ℕ → Bool) → List (Link O) → List ℕ → List ℕ
needed named [] tables = []
needed named (e ∷ es) tables = cond (named e.number && (is_empty e.sources || meet e.targets tables)) (e.number ∷ needed named es (tables ++ e.sources)) (needed named es tables)
