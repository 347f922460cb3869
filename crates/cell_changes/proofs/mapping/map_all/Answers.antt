use Rattle.std.proofs.Common.{◌≡◌, [], length, get_or, refl, ap, sym, ◌∙◌, subst, arith}
use Rattle.op_law.specs.Meaning.{PairState}
use Rattle.op_law.specs.Tables.{Tables}
use Rattle.op_rows.specs.Cells.{cells_at}
use Rattle.op_rows.specs.NearSides.{seen_from}
use Rattle.operator_changes.specs.Calls.{ahead}
use Rattle.row_changes.specs.Changed.{TableChanges}
use Rattle.cell_changes.specs.Crossing.{near_side, far_cells, MayCross, MapsCells}
use Rattle.cell_changes.specs.Growing.{AllAbove, PicksCells}
use Rattle.cell_changes.proofs.CrossingLemmas.{far_side_is}
use Rattle.cell_changes.proofs.GrowingLemmas.{cells_above, no_changes_long, pass_long, pass_more, picks_none}
use Rattle.cell_changes.proofs.mapping.map_all.Goals as goal

pub loop-id-init : goal.loop-id-init
loop-id-init g c =
    let b = c.args.backward in
    let q = g.V.PairRead.pair c.args.old.now in
    let p = ahead b q in
    let r = seen_from (near_side b) (g.R.RowOperator.row_meaning c.args.operator.now) in
    record {
      picks = subst (λ (cs : TableChanges). PicksCells (cells_at p.target) (far_cells r c.args.near.now p) [] cs) (sym c.in_ok-tables.ensures) (picks_none (cells_at p.target) (far_cells r c.args.near.now p) c.tables.result);
      many = ap length c.in_ok-tables.ensures ∙ no_changes_long c.tables.result ∙ c.tables.ensures.many ∙ ap (λ (ts : Tables). length ts) (sym (far_side_is b q));
      same = refl;
      steps = omega arith;
    }

pub map_at-requires : goal.map_at-requires
map_at-requires g c =
    let b = c.args.backward in
    let r = seen_from (near_side b) (g.R.RowOperator.row_meaning c.args.operator.now) in
    subst (λ (q : PairState). MayCross r c.args.near.now (ahead b q)) (sym c.loop-id.invariant.same) c.requires.may

pub add_changes-requires : goal.add_changes-requires
add_changes-requires g c =
    let b = c.args.backward in
    let p = ahead b (g.V.PairRead.pair c.args.old.now) in
    let r = seen_from (near_side b) (g.R.RowOperator.row_meaning c.args.operator.now) in
    let i = c.loop-id.id-index in
    subst (λ (cs : TableChanges). AllAbove cs (get_or c.args.ids.now i 0)) (sym c.deref_mut.ensures.value)
    (cells_above (cells_at p.target) (far_cells r c.args.near.now p) c.args.ids.now i c.loop-id.tables.items c.requires.rise c.loop-id-test.true c.loop-id.invariant.picks)

pub loop-id-preserved : goal.loop-id-preserved
loop-id-preserved g c =
    let b = c.args.backward in
    let p = ahead b (g.V.PairRead.pair c.args.old.now) in
    let r = seen_from (near_side b) (g.R.RowOperator.row_meaning c.args.operator.now) in
    let i = c.loop-id.id-index in
    let inv = c.loop-id.invariant in
    let far = c.in_ok-far.far in
    let cells = subst (λ (q : PairState). MapsCells r c.args.near.now (ahead b q) (get_or c.args.ids.now i 0) far) inv.same c.in_ok-far.ensures.cells in
    let tables = c.loop-id.tables in
    let long : length c.add_changes.new.tables ≡ tables.len = omega (arith, c.add_changes.auto.tables, c.deref_mut.ensures.len) in
    let many : length tables.items ≡ tables.len = omega (arith, ap length c.deref_mut.ensures.value, c.deref_mut.ensures.len) in
    record {
      picks = pass_more (cells_at p.target) (far_cells r c.args.near.now p) c.args.ids.now i tables.len tables.items c.deref_mut.result.now c.add_changes.new.tables c.made-before.result c.made-now.result
          c.loop-id-test.true c.deref_mut.ensures.value inv.picks long many (c.made-before.ensures ∙ cells.0) (c.made-now.ensures ∙ cells.1) c.in_ok-add_changes.ensures;
      many = pass_long tables.len c.add_changes.new.tables tables.items long many ∙ inv.many;
      same = c.in_ok-far.ensures.same ∙ inv.same;
      steps = omega (arith, c.in_ok-far.ensures.steps, inv.steps);
    }
