use Rattle.std.proofs.Common.{◌≡◌, ◌≤◌, take}
use Rattle.json_members.specs.Members.{member_count}
use Rattle.json_members.specs.Trees.{entries_view}
use Rattle.json_members.proofs.members.has_keys.Given as goal

abbrev pub invariant-loop-place : goal.invariant-loop-place
invariant-loop-place l = (l.count ≡ member_count (entries_view (take l.place l.members))) × (l.count ≤ l.number)
