use Rattle.std.proofs.Common.{◌≡◌, drop}
use Rattle.json.specs.Value.{items_view, members_view}
use Rattle.json_members.specs.Trees.{are_read, members_read}
use Rattle.json_members.proofs.trees.+is_read.Given as goal

abbrev pub invariant-items_are_read-loop-item : goal.invariant-items_are_read-loop-item
invariant-items_are_read-loop-item l = are_read (items_view l.items.items) ≡ are_read (items_view (drop l.item-index l.item-items))

abbrev pub invariant-members_are_read-loop-member : goal.invariant-members_are_read-loop-member
invariant-members_are_read-loop-member l = members_read (members_view l.members.items) ≡ members_read (members_view (drop l.member-index l.member-items))
