-- The run and its result stand.
use Rattle.session_tx.proofs.RunLemmas.{one_left, ran_one}
use Rattle.session_tx.proofs.running.run_one.Goals as goal

pub take_back-requires : goal.take_back-requires
take_back-requires g c =
    let led = c.in_ok-done.ensures c.requires.0 c.requires.1 in
    (led.0, (led.1.1, one_left g.E.Executor.means c.args.write.now c.requires.0 led.0 c.in_ok-done.done led.1.0))

pub returns-in-Ok : goal.returns-in-Ok
returns-in-Ok g c = λ s here.
    let led = c.in_ok-done.ensures s here in
    (led.0, (ran_one g.E.Executor.means c.args.write.now s led.0 c.in_ok-done.done c.args.dones.now c.push.new.self led.1.0 c.in-Ok.ensures.ok, led.1.1))
