use Rattle.std.proofs.Common.{slice_index_or, arith}
use Rattle.op_rows.proofs.MergeLemmas.{some_above, not_less}
use Rattle.op_rows.proofs.ids.is_below.Goals as goal

pub returns-clause-above : goal.returns-clause-above
returns-clause-above c = λ above. some_above c.args.ids.now c.args.at c.args.id c.requires.rise (omega (arith, c.requires.within, c.if-at-ids.false)) (not_less (slice_index_or c.args.ids.now c.args.at 0) c.args.id above)
