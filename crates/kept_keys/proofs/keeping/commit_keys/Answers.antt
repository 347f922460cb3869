use Rattle.std.proofs.Common.{◌≡◌, ℕ, suc, ◌+◌, slice_set, subst, arith}
use Rattle.kept_keys.specs.Changed.{CommitsKeys, IsReadyOver}
use Rattle.kept_keys.proofs.LoopLemmas.{Passed, all_passed, each_left, one_more}
use Rattle.kept_keys.proofs.keeping.commit_keys.Goals as goal

pub commit_one-requires : goal.commit_one-requires
commit_one-requires c = each_left CommitsKeys IsReadyOver c.loop-item.item-index c.args.items.now c.loop-item.items _ c.loop-item-test.true c.requires c.loop-item.invariant

pub loop-item-preserved : goal.loop-item-preserved
loop-item-preserved c =
    let i = c.loop-item.item-index in
    let one : suc i ≡ i + 1 = omega arith in
    subst (λ (n : ℕ). Passed CommitsKeys n c.args.items.now (slice_set c.loop-item.items i c.commit_one.new.item)) one
    (one_more CommitsKeys i c.args.items.now c.loop-item.items _ c.commit_one.new.item c.loop-item-test.true c.loop-item.invariant c.commit_one.ensures)

pub returns : goal.returns
returns c = all_passed CommitsKeys c.loop-item.item-index c.args.items.now c.loop-item.items c.loop-item-test.false c.loop-item.invariant
