use Rattle.std.proofs.Common.{rules, ◌≡◌, slice_get, Some, None, sym, ◌∙◌}
use Rattle.id_closing.proofs.ToldLaws.{changes_some, changes_none}
use Rattle.id_closing.proofs.told.changes_at.Goals as goal

pub returns-in-Some : goal.returns-in-Some
returns-in-Some c =
    let at : slice_get c.args.near.now.tables c.args.which ≡ Some c.in-Some.changes.now = search rules in
    let is = changes_some c.args.near.now.tables c.args.which c.in-Some.changes.now at in
    c.as_slice.ensures.all ∙ sym is

pub returns-in-None : goal.returns-in-None
returns-in-None c =
    let at : slice_get c.args.near.now.tables c.args.which ≡ None = search rules in
    let is = changes_none c.args.near.now.tables c.args.which at in
    sym is
