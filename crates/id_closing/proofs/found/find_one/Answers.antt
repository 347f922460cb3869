use Rattle.std.proofs.Common.{rules, ◌≡◌, ◌^◌, ◌<◌, false}
use Rattle.op_law.specs.Identifiers.{has_id}
use Rattle.id_closing.proofs.FoundLaws.{finds_one, put_has}
use Rattle.id_closing.proofs.found.find_one.Goals as goal

pub returns-in_ok-push-clause-more : goal.returns-in_ok-push-clause-more
returns-in_ok-push-clause-more c =
    let none : has_id c.args.found.now c.args.id ≡ false = search rules in
    let bits : c.args.id < 2 ^ 64 = search rules in
    let f = finds_one c.args.found.now c.args.left.now c.args.id c.args.by c.requires bits none in
    rw (c.in_ok-insert.ensures.ok, c.in_ok-push.ensures.ok) f

pub returns-in_ok-push-clause-own : goal.returns-in_ok-push-clause-own
returns-in_ok-push-clause-own c = rw c.in_ok-insert.ensures.ok (put_has c.args.id c.args.found.now)
