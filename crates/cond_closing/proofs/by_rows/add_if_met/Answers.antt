use Rattle.id_closing.proofs.FoundLaws.{end_has, end_stays}
use Rattle.cond_closing.proofs.by_rows.add_if_met.Goals as goal

pub returns-in_ok-push-clause-met : goal.returns-in_ok-push-clause-met
returns-in_ok-push-clause-met g c met = rw c.in_ok-push.ensures.ok (end_has c.args.ids.now c.args.other.now.0)

pub returns-in_ok-push-clause-stay : goal.returns-in_ok-push-clause-stay
returns-in_ok-push-clause-stay g c q h = rw c.in_ok-push.ensures.ok (end_stays c.args.ids.now c.args.other.now.0 q h)
