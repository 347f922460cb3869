use Rattle.std.proofs.Common.{◌+◌, arith}
use Rattle.ordered_pages.proofs.BalanceLemmas.{sized_pair, entries_most}
use Rattle.ordered_pages.proofs.balance.balance.Goals as goal

pub returns-else-next-lt-HALF-clause-sized : goal.returns-else-next-lt-HALF-clause-sized
returns-else-next-lt-HALF-clause-sized g c =
    sized_pair c.args.pages.now.items c.args.at (c.args.at + 1) c.index.result.now c.index-2.result.now c.requires.others (omega arith) c.index.ensures c.index-2.ensures
    (omega (arith, c.if-own-lt-HALF.false, c.len-own.ensures)) (entries_most c.args.pages.now.items c.args.at 31 64 c.index.result.now c.requires.own c.index.ensures)
    (omega (arith, c.if-next-lt-HALF.false, c.len-next.ensures)) (entries_most c.args.pages.now.items (c.args.at + 1) 31 64 c.index-2.result.now c.requires.next c.index-2.ensures)
