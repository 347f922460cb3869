use Rattle.std.proofs.Common.{◌≡◌, ◌-◌, length, vec_len, ap, arith, rules}
use Rattle.ordered_pages.proofs.BalanceLemmas.{pair_here, next_entries, pair_left, left_entries, sized_but, past_first}
use Rattle.ordered_pages.proofs.balance.mend.Goals as goal

pub balance-requires-clause-others : goal.balance-requires-clause-others
balance-requires-clause-others g c =
    let len : vec_len c.args.pages.now ≡ length c.args.pages.now.items = search rules in
    pair_here c.args.pages.now.items c.args.at c.requires.others (omega (arith, c.if-at-count.true, c.len-count.ensures, len))

pub balance-requires-clause-next : goal.balance-requires-clause-next
balance-requires-clause-next g c =
    let len : vec_len c.args.pages.now ≡ length c.args.pages.now.items = search rules in
    next_entries c.args.pages.now.items c.args.at c.requires.others (omega (arith, c.if-at-count.true, c.len-count.ensures, len))

pub balance-requires-else-at-count-clause-others : goal.balance-requires-else-at-count-clause-others
balance-requires-else-at-count-clause-others g c =
    pair_left c.args.pages.now.items c.args.at (c.args.at - 1) (past_first c.args.at c.len-count.result c.if-count-gt1.true c.if-at-count.false) c.requires.others

pub balance-requires-else-at-count-clause-own : goal.balance-requires-else-at-count-clause-own
balance-requires-else-at-count-clause-own g c =
    left_entries c.args.pages.now.items c.args.at (c.args.at - 1) (past_first c.args.at c.len-count.result c.if-count-gt1.true c.if-at-count.false) c.requires.others

pub returns-else-entries-lt-HALF-clause-sized : goal.returns-else-entries-lt-HALF-clause-sized
returns-else-entries-lt-HALF-clause-sized g c =
    let long = ap length c.index.ensures in
    sized_but c.args.pages.now.items c.args.at c.index.result.now c.requires.others (omega (arith, long, c.if-entries-lt-HALF.false, c.len-entries.ensures)) (omega (arith, long, c.if-entries-gt-PAGE.false, c.len-entries.ensures))
