use Rattle.table_keys.specs.States.{behind}
use Rattle.sought_ids.proofs.SoughtLemmas.{rise_all, rise_more}
use Rattle.sought_ids.proofs.closed.rises.Goals as goal

pub loop-id-preserved : goal.loop-id-preserved
loop-id-preserved c = rise_more c.args.ids.now c.loop-id.id-index (behind c.loop-id.last) c.loop-id-test.true c.loop-id.invariant (c.is_behind.ensures c.if-not-is_behind.false)

pub returns : goal.returns
returns c is = rise_all c.args.ids.now c.loop-id.id-index (behind c.loop-id.last) c.loop-id-test.false c.loop-id.invariant
