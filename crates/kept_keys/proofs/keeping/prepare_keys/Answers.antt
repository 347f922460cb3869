use Rattle.std.proofs.Common.{◌≡◌, ℕ, suc, ◌+◌, slice_set, subst, arith}
use Rattle.kept_keys.specs.Changed.{IsPrepared, IsSameKeys}
use Rattle.kept_keys.proofs.LoopLemmas.{Passed, Prepares, all_passed, both_less, each_made, left_early, one_more, passed_less}
use Rattle.kept_keys.proofs.KeptLaws.{same_own}
use Rattle.kept_keys.proofs.keeping.prepare_keys.Goals as goal

pub loop-item-preserved : goal.loop-item-preserved
loop-item-preserved c =
    let i = c.loop-item.item-index in
    let R = Prepares c.args.tables.now c.args.made.now in
    let one : suc i ≡ i + 1 = omega arith in
    subst (λ (n : ℕ). Passed R n c.args.items.now (slice_set c.loop-item.items i c.prepare_one.new.item)) one
    (one_more R i c.args.items.now c.loop-item.items _ c.prepare_one.new.item c.loop-item-test.true c.loop-item.invariant (c.in_ok-prepare_one.ensures.same, c.in_ok-prepare_one.ensures.ok))

pub returns-in_err-prepare_one-clause-same : goal.returns-in_err-prepare_one-clause-same
returns-in_err-prepare_one-clause-same c =
    let i = c.loop-item.item-index in
    left_early IsSameKeys same_own i c.args.items.now c.loop-item.items _ c.prepare_one.new.item c.loop-item-test.true
    (passed_less (Prepares c.args.tables.now c.args.made.now) IsSameKeys (λ x y is. is.0) i c.args.items.now c.loop-item.items c.loop-item.invariant) c.in_err-prepare_one.ensures.same

pub returns-clause-same : goal.returns-clause-same
returns-clause-same c =
    let R = Prepares c.args.tables.now c.args.made.now in
    both_less R IsSameKeys (λ x y is. is.0) c.args.items.now c.loop-item.items (all_passed R c.loop-item.item-index c.args.items.now c.loop-item.items c.loop-item-test.false c.loop-item.invariant)

pub returns-clause-ok : goal.returns-clause-ok
returns-clause-ok c =
    let R = Prepares c.args.tables.now c.args.made.now in
    each_made R (IsPrepared c.args.tables.now c.args.made.now) (λ x y is. is.1) c.args.items.now c.loop-item.items (all_passed R c.loop-item.item-index c.args.items.now c.loop-item.items c.loop-item-test.false c.loop-item.invariant)
