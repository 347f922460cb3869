use Rattle.std.specs.Prelude.{option_map}
use Rattle.std.proofs.Common.{◌≡◌, ◌++◌, drop}
use Rattle.json_members.specs.Trees.{trees_view}
use Rattle.dump_values.specs.Lines.{version_of}
use Rattle.json_members.specs.Members.{list_of}
use Rattle.dump_values.proofs.lists.each_version.Given as goal

abbrev pub invariant-loop-item : goal.invariant-loop-item
invariant-loop-item l = list_of version_of (trees_view l.items) ≡ option_map (λ ls. l.lines ++ ls) (list_of version_of (trees_view (drop l.item-index l.items)))
