use Rattle.std.specs.Prelude.{option_map}
use Rattle.std.proofs.Common.{◌≡◌, ◌++◌, drop}
use Rattle.json_members.specs.Trees.{trees_view}
use Rattle.json_members.specs.Members.{list_of, small_of}
use Rattle.json_members.proofs.members.read_smalls.Given as goal

abbrev pub invariant-loop-item : goal.invariant-loop-item
invariant-loop-item l = list_of small_of (trees_view l.items) ≡ option_map (λ ns. l.numbers ++ ns) (list_of small_of (trees_view (drop l.item-index l.items)))
