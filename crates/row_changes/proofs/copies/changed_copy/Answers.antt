use Rattle.std.proofs.Common.{List, ap, ◌∙◌}
use Rattle.row_store.specs.declared.change.Change.{Change}
use Rattle.row_store.specs.Rows.{Rows}
use Rattle.row_changes.specs.Changed.{changed}
use Rattle.row_changes.proofs.ChangedLaws.{changed_is}
use Rattle.row_changes.proofs.copies.changed_copy.Goals as goal

pub returns : goal.returns
returns c =
    let was = c.apply.ensures.applied in
    changed_is _ c.in_ok-left.left c.apply.new.self.rows was.rises was.changed
    ∙ ap (λ (rows : Rows). changed rows c.in_ok-left.left) (c.reserve.ensures.same ∙ c.in_ok-made.ensures)
    ∙ ap (λ (cs : List Change). changed c.args.table.now.rows cs) c.in_ok-left.ensures
