use Rattle.std.proofs.Common.{rules, ◌≡◌, ap, ◌∙◌}
use Rattle.fk_closing.specs.Looking.{goal_at}
use Rattle.id_closing.proofs.FoundLaws.{added_has, added_stays}
use Rattle.fk_closing.proofs.told.add_goal.Goals as goal

pub returns-in_ok-add_some-clause-goal : goal.returns-in_ok-add_some-clause-goal
returns-in_ok-add_some-clause-goal c row is g to =
    let same : c.in-Some.row ≡ row = search rules in
    let found = c.goal_at.ensures ∙ ap (goal_at c.args.place) same ∙ to in
    rw c.in_ok-add_some.ensures (added_has c.args.ids.now c.goal_at.result g found)

pub returns-in_ok-add_some-clause-stay : goal.returns-in_ok-add_some-clause-stay
returns-in_ok-add_some-clause-stay c = rw c.in_ok-add_some.ensures (added_stays c.args.ids.now c.goal_at.result)
