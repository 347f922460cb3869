use Rattle.std.proofs.Common.{arith}
use Rattle.op_rows.proofs.MergeLemmas.{none_behind, same_behind, other_behind}
use Rattle.op_rows.proofs.ids.behind.Goals as goal

pub returns-then-at-ids-clause-next : goal.returns-then-at-ids-clause-next
returns-then-at-ids-clause-next c = none_behind c.args.ids.now c.args.at c.args.id c.if-at-ids.true

pub returns-then-ids-at-clause-next : goal.returns-then-ids-at-clause-next
returns-then-ids-at-clause-next c = same_behind c.args.ids.now c.args.at c.args.id (omega (arith, c.requires.within, c.if-at-ids.false)) c.if-ids-at.true

pub returns-clause-next : goal.returns-clause-next
returns-clause-next c = other_behind c.args.ids.now c.args.at c.args.id c.requires.rise (omega (arith, c.requires.within, c.if-at-ids.false)) c.if-ids-at.false
