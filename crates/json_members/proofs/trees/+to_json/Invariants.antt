use Rattle.std.proofs.Common.{◌≡◌, map, take}
use Rattle.serde_json.specs.View.{members_view, view}
use Rattle.json_members.specs.Trees.{entries_view, tree_view}
use Rattle.json_members.proofs.trees.+to_json.Given as goal

abbrev pub invariant-items_to_json-loop-item : goal.invariant-items_to_json-loop-item
invariant-items_to_json-loop-item l = map view l.made.items ≡ map tree_view (take l.item-index l.item-items)

abbrev pub invariant-members_to_json-loop-member : goal.invariant-members_to_json-loop-member
invariant-members_to_json-loop-member l = members_view l.made.entries ≡ entries_view (take l.member-index l.member-items)
