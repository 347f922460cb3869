use Rattle.std.proofs.Common.{ℕ, List, [], length, take, ap, arith}
use Rattle.change_feed.specs.declared.watches.Taken.{Taken}
use Rattle.change_feed.specs.Watchers.{with_cleared}
use Rattle.change_feed.proofs.LiveLemmas.{each_next, each_len}
use Rattle.change_feed.proofs.passes.clear_each.Goals as goal

pub clear-requires : goal.clear-requires
clear-requires g c = omega (arith, c.requires, c.loop-at-test.true, ap length c.loop-at.invariant, each_len (λ (_ : List ℕ). with_cleared) (take c.loop-at.at c.args.taken.now) c.args.watchers.now)

pub loop-at-preserved : goal.loop-at-preserved
loop-at-preserved g c =
    let d : Taken = record { number = 0; version = [] } in
    each_next (λ (_ : List ℕ). with_cleared) c.args.taken.now c.args.watchers.now c.loop-at.watchers c.clear.new.self c.loop-at.at d c.loop-at-test.true c.requires c.loop-at.invariant c.clear.ensures
