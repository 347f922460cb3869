use Rattle.op_rows.proofs.MergeLemmas.{row_more}
use Rattle.op_rows.proofs.ids.add_row.Goals as goal

pub returns : goal.returns
returns c =
    row_more c.args.ids.now c.args.all.now c.add_below.new.all c.push.new.self c.args.from c.in_ok-at.at c.behind.result c.args.id c.in_ok-at.ensures c.in_ok-push.ensures.ok c.behind.ensures.next c.behind.ensures.within
