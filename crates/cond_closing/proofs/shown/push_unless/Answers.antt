use Rattle.id_closing.proofs.FoundLaws.{end_has, end_stays}
use Rattle.cond_closing.proofs.shown.push_unless.Goals as goal

pub returns-in_ok-push-clause-here : goal.returns-in_ok-push-clause-here
returns-in_ok-push-clause-here c free = rw c.in_ok-push.ensures.ok (end_has c.args.made.now c.args.id)

pub returns-in_ok-push-clause-stay : goal.returns-in_ok-push-clause-stay
returns-in_ok-push-clause-stay c q h = rw c.in_ok-push.ensures.ok (end_stays c.args.made.now c.args.id q h)
