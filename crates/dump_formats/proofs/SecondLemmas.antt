-- A dump of the second format, and the one of the first that is left of it.
use Rattle.std.specs.Prelude.{◌≤◌, Some, None, codes}
use Rattle.std.proofs.Common.{◌≡◌, ℕ, List, [], ◌∷◌, true, false, map, refl, Option, arith}
use Rattle.std.proofs.Math.Nat.{max-le}
use Rattle.std.proofs.lemmas.Bool.{or_from}
use Rattle.serde_json.specs.Data.{Data, null, boolean, number, string, array, object, depth, items_depth, members_depth, put}
use Rattle.serde_json.specs.Find.{get}
use Rattle.serde_json.specs.Read.{max_depth}
use Rattle.serde_json.specs.View.{items_of}
use Rattle.serde_json.specs.Written.{has_float, items_have_float}
use Rattle.layout_planner.specs.declared.planning.TableCount.{TableCount}
use Rattle.dump_values.specs.Dumps.{Dump, dump_json}
use Rattle.dump_values.specs.Members.{number_json}
use Rattle.dump_formats.specs.Formats.{count_json, counts_json, first_of, goal_json, is_second, second_json}
use Rattle.dump_formats.proofs.MemberLemmas.{depth_put, float_put}

-- ---- the members that it has besides

counts_whole : (counts : List TableCount) → items_have_float (items_of (map count_json counts)) ≡ false
counts_whole [] = refl
counts_whole (c ∷ cs) = or_from _ _ refl (counts_whole cs)

numbers_whole : (ns : List ℕ) → items_have_float (items_of (map number_json ns)) ≡ false
numbers_whole [] = refl
numbers_whole (n ∷ ns) = or_from _ _ refl (numbers_whole ns)

goal_whole : (goal : Option (List ℕ)) → has_float (goal_json goal) ≡ false
goal_whole None = refl
goal_whole (Some goal) = numbers_whole goal

counts_within : (counts : List TableCount) → items_depth (items_of (map count_json counts)) ≤ 1
counts_within [] = omega arith
counts_within (c ∷ cs) = let one : depth (count_json c) ≤ 1 = omega arith in max-le one (counts_within cs)

numbers_within : (ns : List ℕ) → items_depth (items_of (map number_json ns)) ≤ 0
numbers_within [] = omega arith
numbers_within (n ∷ ns) = let one : depth (number_json n) ≤ 0 = omega arith in max-le one (numbers_within ns)

counts_shallow : (counts : List TableCount) → depth (counts_json counts) ≤ 2
counts_shallow counts = let items = counts_within counts in omega (arith, items)

goal_shallow : (goal : Option (List ℕ)) → depth (goal_json goal) ≤ 2
goal_shallow None = omega arith
goal_shallow (Some goal) = let items = numbers_within goal in omega (arith, items)

-- ---- the whole

module _ (counts : List TableCount) (goal : Option (List ℕ)) where
  abbrev whole : Data → Data
  whole d = second_json (counts_json counts) (goal_json goal) d

  pub second_whole : (d : Data) → has_float d ≡ false → has_float (whole d) ≡ false
  second_whole (object ms) is =
      let format = put (codes "format") (number_json 2) ms in
      float_put (codes "counts") (counts_json counts) (put (codes "goal") (goal_json goal) format) (counts_whole counts)
      (float_put (codes "goal") (goal_json goal) format (goal_whole goal) (float_put (codes "format") (number_json 2) ms refl is))
  second_whole null is = is
  second_whole (boolean b) is = is
  second_whole (number n) is = is
  second_whole (string s) is = is
  second_whole (array ds) is = is

  pub second_shallow : (d : Data) → depth d ≤ max_depth → depth (whole d) ≤ max_depth
  second_shallow (object ms) is =
      let inside : members_depth ms ≤ 126 = omega (arith, is) in
      let counts_in : depth (counts_json counts) ≤ 126 = omega (arith, counts_shallow counts) in
      let goal_in : depth (goal_json goal) ≤ 126 = omega (arith, goal_shallow goal) in
      let format_in : depth (number_json 2) ≤ 126 = omega arith in
      let format = put (codes "format") (number_json 2) ms in
      let all = depth_put 126 (codes "counts") (counts_json counts) (put (codes "goal") (goal_json goal) format) counts_in (depth_put 126 (codes "goal") (goal_json goal) format goal_in (depth_put 126 (codes "format") (number_json 2) ms format_in inside)) in
      omega (arith, all)
  second_shallow null is = is
  second_shallow (boolean b) is = is
  second_shallow (number n) is = is
  second_shallow (string s) is = is
  second_shallow (array ds) is = is

-- ---- of a dump of the first format

module _ (counts goal : Data) (d : Dump) where
  pub whole_second : is_second (second_json counts goal (dump_json d)) ≡ true
  whole_second = refl

  pub whole_counts : get (codes "counts") (second_json counts goal (dump_json d)) ≡ Some counts
  whole_counts = refl

  pub whole_goal : get (codes "goal") (second_json counts goal (dump_json d)) ≡ Some goal
  whole_goal = refl

  -- what is left is that dump
  pub whole_first : first_of (second_json counts goal (dump_json d)) ≡ dump_json d
  whole_first = refl
