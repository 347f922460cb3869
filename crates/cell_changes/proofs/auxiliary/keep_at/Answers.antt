use Rattle.std.proofs.Common.{not, ap, sym, ◌∙◌, subst}
use Rattle.std.proofs.lemmas.Result.{IfOk-weaker}
use Rattle.op_law.specs.Meaning.{PairState}
use Rattle.op_law.specs.Tables.{Tables, AllRise}
use Rattle.op_rows.specs.Cells.{cells_at}
use Rattle.operator_changes.specs.Pairs.{side_at}
use Rattle.row_changes.specs.Changed.{AreChangesOf, changed_tables}
use Rattle.cell_changes.proofs.CrossingLemmas.{far_side_is, keeps_cells, near_is, some_rows}
use Rattle.cell_changes.proofs.auxiliary.keep_at.Goals as goal

pub cells_after-requires-clause-fit : goal.cells_after-requires-clause-fit
cells_after-requires-clause-fit g c = subst (λ (ts : Tables). AreChangesOf ts c.args.changes.near.now) (near_is c.args.backward (g.V.PairRead.pair c.args.old.now)) c.requires.near_fit

pub cells_after-requires-clause-rise : goal.cells_after-requires-clause-rise
cells_after-requires-clause-rise g c = subst AllRise (near_is c.args.backward (g.V.PairRead.pair c.args.old.now)) c.requires.near_rise

pub cells_after-requires-2-clause-fit : goal.cells_after-requires-2-clause-fit
cells_after-requires-2-clause-fit g c =
    let b = c.args.backward in
    subst (λ (q : PairState). AreChangesOf (side_at (not b) q) c.args.changes.far.now) (sym c.in_ok-near.ensures.same)
    (subst (λ (ts : Tables). AreChangesOf ts c.args.changes.far.now) (far_side_is b (g.V.PairRead.pair c.args.old.now)) c.requires.far_fit)

pub cells_after-requires-2-clause-rise : goal.cells_after-requires-2-clause-rise
cells_after-requires-2-clause-rise g c =
    let b = c.args.backward in
    subst (λ (q : PairState). AllRise (side_at (not b) q)) (sym c.in_ok-near.ensures.same)
    (subst AllRise (far_side_is b (g.V.PairRead.pair c.args.old.now)) c.requires.far_rise)

pub aux_row-requires : goal.aux_row-requires
aux_row-requires g c =
    let b = c.args.backward in
    let id = c.args.id in
    let far = c.args.changes.far.now in
    let p = g.V.PairRead.pair c.args.old.now in
    let r = g.R.RowOperator.row_meaning c.args.operator.now in
    some_rows b c.near_side-side.result r c.args.changes.near.now far p id _ _ c.near_side-side.ensures
    (c.made.ensures ∙ c.in_ok-near.ensures.cells)
    (c.made-2.ensures ∙ c.in_ok-far.ensures.cells ∙ ap (λ (q : PairState). cells_at (changed_tables (side_at (not b) q) far) id) c.in_ok-near.ensures.same)
    c.requires

pub returns-clause-cells : goal.returns-clause-cells
returns-clause-cells g c =
    let b = c.args.backward in
    let id = c.args.id in
    let near = c.args.changes.near.now in
    let far = c.args.changes.far.now in
    let p = g.V.PairRead.pair c.args.old.now in
    let r = g.R.RowOperator.row_meaning c.args.operator.now in
    IfOk-weaker c.aux_row.result _ _
    (λ made answer. keeps_cells b c.near_side-side.result r near far p id _ _ made c.near_side-side.ensures
    (c.made.ensures ∙ c.in_ok-near.ensures.cells)
    (c.made-2.ensures ∙ c.in_ok-far.ensures.cells ∙ ap (λ (q : PairState). cells_at (changed_tables (side_at (not b) q) far) id) c.in_ok-near.ensures.same)
    answer)
    c.aux_row.ensures.answer
