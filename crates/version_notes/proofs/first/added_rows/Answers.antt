-- Each row is above those before it.
use Rattle.std.proofs.Common.{◌≡◌, ◌++◌, ◌∷◌, None, Some, sym, ap, subst, ◌∙◌}
use Rattle.row_store.specs.Changes.{ChangesRise}
use Rattle.row_store.specs.Rows.{Rows}
use Rattle.row_store.specs.declared.change.Change.{Change}
use Rattle.version_notes.specs.First.{added}
use Rattle.version_notes.proofs.FirstLaws.{added_rise}
use Rattle.version_notes.proofs.ListLemmas.{above_append}
use Rattle.version_notes.proofs.first.added_rows.Goals as goal

pub push-requires : goal.push-requires
push-requires c =
    let row = c.in-Some.row.now in
    let change : Change = record { id = row.0; old = None; new = Some row.1 } in
    let left : Rows = c.next.new.self in
    let all : c.loop-row.changes ++ change ∷ added left ≡ added c.args.table.now.rows = ap (λ (rows : Rows). c.loop-row.changes ++ added rows) (sym c.in-Some.ensures.steps) ∙ c.loop-row.invariant in
    above_append c.loop-row.changes change (added left) (subst (ChangesRise 0) (sym all) (added_rise 0 c.args.table.now.rows c.iter-row-items.ensures.rise))
