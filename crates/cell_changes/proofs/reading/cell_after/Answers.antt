use Rattle.std.proofs.Common.{List, ap, sym, ◌∙◌}
use Rattle.row_store.specs.declared.change.Change.{Change}
use Rattle.row_store.specs.Rows.{row_of}
use Rattle.operator_changes.specs.Pairs.{side_at, table_at}
use Rattle.cell_changes.specs.Places.{change_of}
use Rattle.cell_changes.proofs.PlaceLemmas.{after_none, after_one}
use Rattle.cell_changes.proofs.reading.cell_after.Goals as goal

pub returns-in_ok-copied-in-Some-clause-cell : goal.returns-in_ok-copied-in-Some-clause-cell
returns-in_ok-copied-in-Some-clause-cell g c =
    let id = c.args.id in
    let row = row_of (table_at (side_at c.args.target (g.V.PairRead.pair c.args.old.now)) c.args.which) id in
    let found = c.in-Some.ensures ∙ ap (λ (cs : List Change). change_of cs id) c.as_slice.ensures.all in
    c.in_ok-copied-in-Some.ensures ∙ c.as_ref.ensures.value ∙ sym (after_one c.args.changes.now id row c.in-Some.change.now found)

pub returns-in-None-clause-cell : goal.returns-in-None-clause-cell
returns-in-None-clause-cell g c =
    let id = c.args.id in
    let row = row_of (table_at (side_at c.args.target (g.V.PairRead.pair c.args.old.now)) c.args.which) id in
    let none = c.in-None.ensures ∙ ap (λ (cs : List Change). change_of cs id) c.as_slice.ensures.all in
    rw (after_none c.args.changes.now id row none) c.row.ensures.value
