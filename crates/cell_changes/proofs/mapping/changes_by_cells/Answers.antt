use Rattle.std.proofs.Common.{List, ℕ, length, ap, sym, ◌∙◌, subst, arith}
use Rattle.op_law.specs.Meaning.{Meaning}
use Rattle.op_law.specs.Identifiers.{IdsRise}
use Rattle.op_rows.specs.Cells.{cells_at}
use Rattle.op_rows.specs.NearSides.{seen_from, half_from}
use Rattle.operator_changes.specs.Calls.{ahead, MayChange}
use Rattle.row_changes.specs.Changed.{TableChanges}
use Rattle.row_changes.specs.Touched.{touched}
use Rattle.cell_changes.specs.Crossing.{near_side, far_cells, MayCross}
use Rattle.cell_changes.specs.Growing.{PicksCells}
use Rattle.cell_changes.proofs.CrossingLemmas.{answered, may_cross, toward_is}
use Rattle.cell_changes.proofs.mapping.changes_by_cells.Goals as goal

pub map_all-requires-clause-may : goal.map_all-requires-clause-may
map_all-requires-clause-may g c =
    let b = c.args.backward in
    let r = g.R.RowOperator.row_meaning c.args.operator.now in
    let half = half_from (near_side b) r (g.met.R.RowOperator.row_laws c.args.operator.now) in
    let p = ahead b (g.V.PairRead.pair c.args.old.now) in
    let n = c.args._ids.now.next in
    let near = c.args.near.now.tables in
    let may = subst (λ (m : Meaning). MayChange m near p n) (toward_is b r) c.requires in
    subst (λ (cs : TableChanges). MayCross (seen_from (near_side b) r) cs p) (sym c.as_slice-changes.ensures) (may_cross (seen_from (near_side b) r) half near p n may)

pub map_all-requires-clause-rise : goal.map_all-requires-clause-rise
map_all-requires-clause-rise g c = subst (IdsRise 0) (sym c.as_slice.ensures) c.in_ok-ids.ensures.rise

pub returns-in_err-tables-clause-steps : goal.returns-in_err-tables-clause-steps
returns-in_err-tables-clause-steps g c =
    let many = ap (λ (l : List ℕ). length l) (c.as_slice.ensures ∙ c.in_ok-ids.ensures.value ∙ ap (λ (cs : TableChanges). touched cs) c.as_slice-changes.ensures) in
    λ local. omega (arith, many, c.in_err-tables.ensures.steps)

pub returns-clause-steps : goal.returns-clause-steps
returns-clause-steps g c =
    let many = ap (λ (l : List ℕ). length l) (c.as_slice.ensures ∙ c.in_ok-ids.ensures.value ∙ ap (λ (cs : TableChanges). touched cs) c.as_slice-changes.ensures) in
    λ local. omega (arith, many, c.in_ok-tables.ensures.steps)

pub returns-clause-answer : goal.returns-clause-answer
returns-clause-answer g c =
    let b = c.args.backward in
    let r = g.R.RowOperator.row_meaning c.args.operator.now in
    let seen = seen_from (near_side b) r in
    let p = ahead b (g.V.PairRead.pair c.args.old.now) in
    let near = c.args.near.now.tables in
    let cs = c.in_ok-tables.tables.items in
    let ids = c.as_slice.ensures ∙ c.in_ok-ids.ensures.value ∙ ap (λ (l : TableChanges). touched l) c.as_slice-changes.ensures in
    let first = subst (λ (l : TableChanges). PicksCells (cells_at p.target) (far_cells seen l p) c.as_slice.result.now cs) c.as_slice-changes.ensures c.in_ok-tables.ensures.picks in
    let second = subst (λ (l : List ℕ). PicksCells (cells_at p.target) (far_cells seen near p) l cs) ids first in
    answered b r (g.met.R.RowOperator.row_laws c.args.operator.now) near p c.args._ids.now c.from_vec.result c.new.result c.requires
    (subst (λ (l : TableChanges). PicksCells (cells_at p.target) (far_cells seen near p) (touched near) l) (sym c.from_vec.ensures) second)
    (ap (λ (l : TableChanges). length l) c.from_vec.ensures ∙ c.in_ok-tables.ensures.many) c.new.ensures
