use Rattle.std.proofs.Common.{sym, ◌∙◌}
use Rattle.dump_values.specs.Lines.{version_of}
use Rattle.json_members.proofs.ListLemmas.{list_ends, list_more}
use Rattle.dump_values.proofs.lists.each_version.Goals as goal

pub loop-item-preserved : goal.loop-item-preserved
loop-item-preserved c =
    let l = c.loop-item in
    list_more version_of _ l.lines c.args.items.now l.item-index c.item-item.result c.in-Some.line _ c.loop-item-test.true c.item-item.is (sym c.in_ok-line.ensures ∙ c.in-Some.is) c.in_ok-push.ensures.ok l.invariant

pub returns : goal.returns
returns c =
    let l = c.loop-item in
    list_ends version_of _ l.lines c.args.items.now l.item-index c.loop-item-test.false l.invariant
