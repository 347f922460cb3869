use Rattle.std.specs.Prelude.{option_map}
use Rattle.std.proofs.Common.{◌≡◌, ◌++◌, drop}
use Rattle.json_members.specs.Trees.{trees_view}
use Rattle.json_members.specs.Members.{list_of}
use Rattle.dump_values.specs.Values.{value_of}
use Rattle.dump_values.proofs.rows.read_values.Given as goal

abbrev pub invariant-loop-item : goal.invariant-loop-item
invariant-loop-item l = list_of value_of (trees_view l.items) ≡ option_map (λ vs. l.row.items ++ vs) (list_of value_of (trees_view (drop l.item-index l.items)))
