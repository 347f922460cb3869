-- The two formats of dumps, as JSON.
use Rattle.std.specs.Prelude.{ℕ, ◌==◌, Bool, false, codes, List, [], ◌∷◌, Option, Some, None, option_and_then}
use Rattle.std.specs.Option.{option_map_or}
use Rattle.std.specs.Ordering.{nat_cmp, match_ordering}
use Rattle.std.specs.Cmp.Lexicographic.{slice_cmp}
use Rattle.serde_json.specs.Data.{Data, null, array, object, item, no_items, Members, member, no_members, put}
use Rattle.serde_json.specs.Find.{get}
use Rattle.serde_json.specs.Written.{compact_text}
use Rattle.version_graph.specs.declared.parts.Placed.{Placed}
use Rattle.layout_planner.specs.Counts.{counts_told}
use Rattle.layout_planner.specs.declared.planning.TableCount.{TableCount}
use Rattle.op_any.specs.Operators.{AnyView}
use Rattle.version_model.specs.Kept.{Database}
use Rattle.migration.specs.Pending.{goal_of}
use Rattle.dump_values.specs.Members.{list_json, number_json, number_of, numbers_json}
use Rattle.dump_file.specs.States.{state_json}

-- ---- what the second format tells besides

-- how often a table version was accessed: `[1,3]`
abbrev pub count_json : TableCount → Data
count_json c = array (item (number_json c.table) (item (number_json c.count) no_items))

abbrev pub counts_json : List TableCount → Data
counts_json counts = list_json count_json counts

-- the layout to which pending operators lead; where there are none no move is pending
abbrev pub goal_told : {O : Type 0} → List (Placed O) → List ℕ → List ℕ → Option (List ℕ)
goal_told es layout [] = None
goal_told es layout (n ∷ pending) = Some (goal_of es layout (n ∷ pending))

-- its operators, or null
abbrev pub goal_json : Option (List ℕ) → Data
goal_json None = null
goal_json (Some goal) = numbers_json goal

-- ---- from one format to the other

-- the second format has the members of the first, the counts and the goal
abbrev pub second_json : Data → Data → Data → Data
second_json counts goal (object ms) = object (put (codes "counts") counts (put (codes "goal") goal (put (codes "format") (number_json 2) ms)))
second_json counts goal d = d

-- the members but for the one of a key
abbrev pub without : List ℕ → Members → Members
without k no_members = no_members
without k (member l e ms) = match_ordering (slice_cmp nat_cmp k l) (member l e (without k ms)) ms (member l e (without k ms))

-- the dump of the first format that is left without the two
abbrev pub first_of : Data → Data
first_of (object ms) = object (put (codes "format") (number_json 1) (without (codes "goal") (without (codes "counts") ms)))
first_of d = d

-- whether the format is the second one
abbrev pub is_second : Data → Bool
is_second d = option_map_or (λ n. n == 2) (option_and_then number_of (get (codes "format") d)) false

-- ---- the dump of a state

-- WHAT IS DUMPED of a state under its layout, with what was counted and is pending beside it
abbrev pub run_json : Database AnyView → List ℕ → List TableCount → List ℕ → Data
run_json d layout counts pending = second_json (counts_json (counts_told d.graph.edges counts)) (goal_json (goal_told d.graph.edges layout pending)) (state_json d layout)

-- its text: each state has one
abbrev pub dump_text : Database AnyView → List ℕ → List TableCount → List ℕ → List ℕ
dump_text d layout counts pending = compact_text (run_json d layout counts pending)
