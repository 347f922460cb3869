use Rattle.std.proofs.Common.{◌≡◌, drop, ap, arith}
use Rattle.change_feed.specs.Shown.{count_rows}
use Rattle.feed_mirror.specs.Tables.{named}
use Rattle.feed_mirror.proofs.PlaceLemmas.{none_left}
use Rattle.feed_mirror.proofs.tables.count_shown.Goals as goal

pub returns : goal.returns
returns c =
    let e : count_rows (named (drop c.loop-own.own-index c.args.tables.now)) ≡ 0 = ap (λ zs. count_rows (named zs)) (none_left c.args.tables.now c.loop-own.own-index c.loop-own-test.false) in
    omega (arith, e, c.loop-own.invariant.0, c.loop-own.invariant.1)
