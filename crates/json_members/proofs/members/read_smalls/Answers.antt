use Rattle.std.proofs.Common.{sym, ◌∙◌}
use Rattle.json_members.specs.Members.{small_of}
use Rattle.json_members.proofs.ListLemmas.{list_ends, list_more}
use Rattle.json_members.proofs.members.read_smalls.Goals as goal

pub loop-item-preserved : goal.loop-item-preserved
loop-item-preserved c =
    let l = c.loop-item in
    list_more small_of _ l.numbers c.args.items.now l.item-index c.item-item.result c.in-Some.number _ c.loop-item-test.true c.item-item.is (sym c.read_small.ensures ∙ c.in-Some.is) c.in_ok-push.ensures.ok l.invariant

pub returns : goal.returns
returns c =
    let l = c.loop-item in
    list_ends small_of _ l.numbers c.args.items.now l.item-index c.loop-item-test.false l.invariant
