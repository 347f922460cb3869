use Rattle.std.proofs.Common.{not, ap, sym, ◌∙◌, subst}
use Rattle.op_law.specs.Meaning.{PairState}
use Rattle.op_law.specs.Tables.{Tables, AllRise}
use Rattle.op_rows.specs.Cells.{cells_at}
use Rattle.op_rows.specs.NearSides.{seen_from}
use Rattle.operator_changes.specs.Calls.{ahead}
use Rattle.operator_changes.specs.Pairs.{side_at}
use Rattle.row_changes.specs.Changed.{AreChangesOf, changed_tables}
use Rattle.cell_changes.specs.Crossing.{near_side, MapsCells, MayCross}
use Rattle.cell_changes.proofs.CrossingLemmas.{maps_cells, may_rows, near_is}
use Rattle.cell_changes.proofs.mapping.map_at.Goals as goal

pub cells_after-requires-clause-fit : goal.cells_after-requires-clause-fit
cells_after-requires-clause-fit g c = subst (λ (ts : Tables). AreChangesOf ts c.args.near.now) (near_is c.args.backward (g.V.PairRead.pair c.args.old.now)) c.requires.fit

pub cells_after-requires-clause-rise : goal.cells_after-requires-clause-rise
cells_after-requires-clause-rise g c = subst AllRise (near_is c.args.backward (g.V.PairRead.pair c.args.old.now)) c.requires.rise

pub map_row-requires : goal.map_row-requires
map_row-requires g c =
    let b = c.args.backward in
    let id = c.args.id in
    let p = g.V.PairRead.pair c.args.old.now in
    let r = g.R.RowOperator.row_meaning c.args.operator.now in
    let first = c.in_ok-now.ensures.same in
    let second = c.in_ok-before.ensures.same ∙ first in
    may_rows b c.near_side-side.result r c.args.near.now p id _ _ _ c.near_side-side.ensures
    (c.made-3.ensures ∙ c.in_ok-now.ensures.cells)
    (c.made.ensures ∙ c.in_ok-before.ensures.cells ∙ ap (λ (q : PairState). cells_at (side_at b q) id) first)
    (c.made-2.ensures ∙ c.in_ok-far.ensures.cells ∙ ap (λ (q : PairState). cells_at (side_at (not b) q) id) second)
    c.requires

pub returns-clause-cells : goal.returns-clause-cells
returns-clause-cells g c =
    let b = c.args.backward in
    let id = c.args.id in
    let p = g.V.PairRead.pair c.args.old.now in
    let r = g.R.RowOperator.row_meaning c.args.operator.now in
    let first = c.in_ok-now.ensures.same in
    let second = c.in_ok-before.ensures.same ∙ first in
    let far = c.in_ok-far.ensures.cells ∙ ap (λ (q : PairState). cells_at (side_at (not b) q) id) second in
    maps_cells b c.near_side-side.result r c.args.near.now p id c.made-3.result c.made.result c.made-2.result c.in_ok-far.far c.in_ok-new.new c.near_side-side.ensures
    (c.made-3.ensures ∙ c.in_ok-now.ensures.cells)
    (c.made.ensures ∙ c.in_ok-before.ensures.cells ∙ ap (λ (q : PairState). cells_at (side_at b q) id) first)
    (c.made-2.ensures ∙ far) far c.in_ok-new.ensures.answer
