-- One more is taken back.
use Rattle.std.proofs.Common.{◌≡◌, ◌+◌, ℕ, suc, subst, arith}
use Rattle.session_tx.specs.Commits.{taken_back_times}
use Rattle.session_tx.proofs.RunLemmas.{more_left}
use Rattle.session_tx.proofs.running.take_back_all.Goals as goal

pub take_back-requires : goal.take_back-requires
take_back-requires g c =
    let s = c.requires.0 in (
      taken_back_times c.loop.counter s,
      (c.loop.invariant s c.requires.1.0 c.requires.1.1, more_left s c.loop.counter c.args.count c.loop-test.true c.requires.1.1),
    )

pub loop-preserved : goal.loop-preserved
loop-preserved g c = λ s here enough.
    let one : suc c.loop.counter ≡ c.loop.counter + 1 = omega arith in
    subst (λ (n : ℕ). g.E.Executor.stands c.take_back.new.self (taken_back_times n s)) one
    (c.take_back.ensures (taken_back_times c.loop.counter s) (c.loop.invariant s here enough) (more_left s c.loop.counter c.args.count c.loop-test.true enough))
