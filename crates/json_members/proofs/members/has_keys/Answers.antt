use Rattle.std.specs.Prelude.{is_some}
use Rattle.std.proofs.Common.{◌≡◌, ◌≤◌, ◌<◌, length, take, true, false, sym, ◌∙◌, arith}
use Rattle.json.specs.Find.{get_member}
use Rattle.json.specs.Value.{members_view}
use Rattle.json_members.specs.Members.{member_count}
use Rattle.json_members.specs.Trees.{entries_view}
use Rattle.json_members.proofs.TreeLemmas.{key_again, key_new, too_many}
use Rattle.json_members.proofs.members.has_keys.Goals as goal

pub loop-place-preserved-then-has_key : goal.loop-place-preserved-then-has_key
loop-place-preserved-then-has_key c =
    let l = c.loop-place in
    let xs = c.args.members.now in
    let x = c.index-members-place.result in
    let within : l.place < length xs = omega arith in
    let again : is_some (get_member x.0.now (members_view (take l.place xs))) ≡ true = sym c.if-has_key.ensures in
    (l.invariant.0 ∙ sym (key_again xs l.place x within c.index-members-place.is again), l.invariant.1)

pub returns-then-count-number : goal.returns-then-count-number
returns-then-count-number c =
    let l = c.loop-place in
    let xs = c.args.members.now in
    let x = c.index-members-place.result in
    let within : l.place < length xs = omega arith in
    let new : is_some (get_member x.0.now (members_view (take l.place xs))) ≡ false = sym c.if-has_key.ensures in
    let so_far = l.invariant.0 in
    let full = c.if-count-number.true in
    let low : c.args.number ≤ member_count (entries_view (take l.place xs)) = omega (arith, so_far, full) in
    too_many xs l.place x within c.index-members-place.is new c.args.number low

pub loop-place-preserved : goal.loop-place-preserved
loop-place-preserved c =
    let l = c.loop-place in
    let xs = c.args.members.now in
    let x = c.index-members-place.result in
    let within : l.place < length xs = omega arith in
    let new : is_some (get_member x.0.now (members_view (take l.place xs))) ≡ false = sym c.if-has_key.ensures in
    let so_far = l.invariant.0 in
    let low = l.invariant.1 in
    let more = key_new xs l.place x within c.index-members-place.is new in
    let other = c.if-count-number.false in
    (omega (arith, so_far, more), omega (arith, low, other))
