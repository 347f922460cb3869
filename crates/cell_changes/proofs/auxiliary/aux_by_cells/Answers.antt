use Rattle.std.proofs.Common.{List, ℕ, length, ap, sym, ◌∙◌, subst, arith}
use Rattle.std.proofs.lemmas.List.{length-map}
use Rattle.row_store.specs.States.{TableState}
use Rattle.op_law.specs.Calls.{tables_of}
use Rattle.op_law.specs.Identifiers.{IdsRise}
use Rattle.op_law.specs.Meaning.{Meaning}
use Rattle.op_law.specs.Tables.{Tables, contents}
use Rattle.op_rows.specs.Cells.{cells_at}
use Rattle.op_rows.specs.NearSides.{seen_from, half_from}
use Rattle.operator_changes.specs.AuxCalls.{MayChangePair, touched_both}
use Rattle.operator_changes.specs.Calls.{ahead}
use Rattle.row_changes.specs.Changed.{TableChanges}
use Rattle.cell_changes.specs.Crossing.{near_side, aux_cells, MayKeep}
use Rattle.cell_changes.specs.Growing.{PicksCells}
use Rattle.cell_changes.proofs.CrossingLemmas.{differ, may_keep, toward_is}
use Rattle.cell_changes.proofs.auxiliary.aux_by_cells.Goals as goal

pub keep_all-requires-clause-may : goal.keep_all-requires-clause-may
keep_all-requires-clause-may g c =
    let b = c.args.backward in
    let r = g.R.RowOperator.row_meaning c.args.operator.now in
    let half = half_from (near_side b) r (g.met.R.RowOperator.row_laws c.args.operator.now) in
    let p = ahead b (g.V.PairRead.pair c.args.old.now) in
    let near = c.args.near.now.tables in
    let far = c.args.far.now.tables in
    let may = subst (λ (m : Meaning). MayChangePair m near far p) (toward_is b r) c.requires.may in
    subst (λ (cs : TableChanges). MayKeep (seen_from (near_side b) r) cs c.as_slice-2.result.now p) (sym c.as_slice.ensures)
    (subst (λ (cs : TableChanges). MayKeep (seen_from (near_side b) r) near cs p) (sym c.as_slice-2.ensures) (may_keep (seen_from (near_side b) r) half near far p may))

pub keep_all-requires-clause-rise : goal.keep_all-requires-clause-rise
keep_all-requires-clause-rise g c = subst (IdsRise 0) (sym c.as_slice-3.ensures) c.in_ok-ids.ensures.rise

pub returns-in_err-tables-clause-steps : goal.returns-in_err-tables-clause-steps
returns-in_err-tables-clause-steps g c =
    let both = ap (λ (cs : TableChanges). touched_both cs c.as_slice-2.result.now) c.as_slice.ensures ∙ ap (λ (cs : TableChanges). touched_both c.args.near.now.tables cs) c.as_slice-2.ensures in
    let many = ap (λ (l : List ℕ). length l) (c.as_slice-3.ensures ∙ c.in_ok-ids.ensures.value ∙ both) in
    omega (arith, many, c.in_err-tables.ensures.steps)

pub returns-clause-steps : goal.returns-clause-steps
returns-clause-steps g c =
    let both = ap (λ (cs : TableChanges). touched_both cs c.as_slice-2.result.now) c.as_slice.ensures ∙ ap (λ (cs : TableChanges). touched_both c.args.near.now.tables cs) c.as_slice-2.ensures in
    let many = ap (λ (l : List ℕ). length l) (c.as_slice-3.ensures ∙ c.in_ok-ids.ensures.value ∙ both) in
    omega (arith, many, c.in_ok-tables.ensures.steps)

pub returns-clause-answer : goal.returns-clause-answer
returns-clause-answer g c =
    let b = c.args.backward in
    let r = g.R.RowOperator.row_meaning c.args.operator.now in
    let seen = seen_from (near_side b) r in
    let p = ahead b (g.V.PairRead.pair c.args.old.now) in
    let near = c.args.near.now.tables in
    let far = c.args.far.now.tables in
    let aux = tables_of c.args.aux.now in
    let cs = c.in_ok-tables.tables.items in
    let kept = c.as_slice-kept.result.now in
    let list = c.as_slice-3.result.now in
    let both = ap (λ (l : TableChanges). touched_both l c.as_slice-2.result.now) c.as_slice.ensures ∙ ap (λ (l : TableChanges). touched_both near l) c.as_slice-2.ensures in
    let ids = c.as_slice-3.ensures ∙ c.in_ok-ids.ensures.value ∙ both in
    let first = subst (λ (l : TableChanges). PicksCells (cells_at (contents kept)) (aux_cells seen l c.as_slice-2.result.now p) list cs) c.as_slice.ensures c.in_ok-tables.ensures.picks in
    let second = subst (λ (l : TableChanges). PicksCells (cells_at (contents kept)) (aux_cells seen near l p) list cs) c.as_slice-2.ensures first in
    let third = subst (λ (l : List TableState). PicksCells (cells_at (contents l)) (aux_cells seen near far p) list cs) c.as_slice-kept.ensures second in
    let fourth = subst (λ (l : List ℕ). PicksCells (cells_at aux) (aux_cells seen near far p) l cs) ids third in
    differ b r (g.met.R.RowOperator.row_laws c.args.operator.now) near far p aux c.from_vec.result c.requires.may c.requires.aux
    (subst (λ (l : TableChanges). PicksCells (cells_at aux) (aux_cells seen near far p) (touched_both near far) l) (sym c.from_vec.ensures) fourth)
    (ap (λ (l : TableChanges). length l) c.from_vec.ensures ∙ c.in_ok-tables.ensures.many ∙ ap (λ (l : List TableState). length l) c.as_slice-kept.ensures ∙ sym (length-map c.args.aux.now.tables (λ (t : TableState). t.rows)))
