use Rattle.std.proofs.Common.{◌≡◌, [], List, length, get_or, refl, ap, sym, ◌∙◌, subst, arith}
use Rattle.std.proofs.lemmas.List.{length-map}
use Rattle.op_law.specs.Meaning.{PairState}
use Rattle.op_law.specs.Tables.{Tables, contents}
use Rattle.op_rows.specs.Cells.{Cells, cells_at}
use Rattle.op_rows.specs.NearSides.{seen_from}
use Rattle.operator_changes.specs.Calls.{ahead}
use Rattle.row_changes.specs.Changed.{TableChanges}
use Rattle.cell_changes.specs.Crossing.{near_side, aux_cells, MayKeep}
use Rattle.cell_changes.specs.Growing.{AllAbove, PicksCells}
use Rattle.cell_changes.proofs.GrowingLemmas.{cells_above, no_changes_long, pass_long, pass_more, picks_none}
use Rattle.cell_changes.proofs.auxiliary.keep_all.Goals as goal

pub loop-id-init : goal.loop-id-init
loop-id-init g c =
    let p = ahead c.args.backward (g.V.PairRead.pair c.args.old.now) in
    let r = seen_from (near_side c.args.backward) (g.R.RowOperator.row_meaning c.args.operator.now) in
    let old = cells_at (contents c.args.aux.now) in
    let new = aux_cells r c.args.changes.near.now c.args.changes.far.now p in
    record {
      picks = subst (λ (cs : TableChanges). PicksCells old new [] cs) (sym c.in_ok-tables.ensures) (picks_none old new (length c.args.aux.now));
      many = ap length c.in_ok-tables.ensures ∙ no_changes_long (length c.args.aux.now);
      same = refl;
      steps = omega arith;
    }

pub keep_at-requires : goal.keep_at-requires
keep_at-requires g c =
    let b = c.args.backward in
    let r = seen_from (near_side b) (g.R.RowOperator.row_meaning c.args.operator.now) in
    subst (λ (q : PairState). MayKeep r c.args.changes.near.now c.args.changes.far.now (ahead b q)) (sym c.loop-id.invariant.same) c.requires.may

pub add_changes-requires : goal.add_changes-requires
add_changes-requires g c =
    let p = ahead c.args.backward (g.V.PairRead.pair c.args.old.now) in
    let r = seen_from (near_side c.args.backward) (g.R.RowOperator.row_meaning c.args.operator.now) in
    let i = c.loop-id.id-index in
    subst (λ (cs : TableChanges). AllAbove cs (get_or c.args.ids.now i 0)) (sym c.deref_mut.ensures.value)
    (cells_above (cells_at (contents c.args.aux.now)) (aux_cells r c.args.changes.near.now c.args.changes.far.now p) c.args.ids.now i c.loop-id.tables.items c.requires.rise c.loop-id-test.true c.loop-id.invariant.picks)

pub loop-id-preserved : goal.loop-id-preserved
loop-id-preserved g c =
    let b = c.args.backward in
    let p = ahead b (g.V.PairRead.pair c.args.old.now) in
    let r = seen_from (near_side b) (g.R.RowOperator.row_meaning c.args.operator.now) in
    let near = c.args.changes.near.now in
    let far = c.args.changes.far.now in
    let i = c.loop-id.id-index in
    let id = get_or c.args.ids.now i 0 in
    let inv = c.loop-id.invariant in
    let made = c.in_ok-new.ensures.cells ∙ ap (λ (q : PairState). aux_cells r near far (ahead b q) id) inv.same in
    let tables = c.loop-id.tables in
    let long : length c.add_changes.new.tables ≡ tables.len = omega (arith, c.add_changes.auto.tables, c.deref_mut.ensures.len) in
    let many : length tables.items ≡ tables.len = omega (arith, ap length c.deref_mut.ensures.value, c.deref_mut.ensures.len) in
    record {
      picks = pass_more (cells_at (contents c.args.aux.now)) (aux_cells r near far p) c.args.ids.now i tables.len tables.items c.deref_mut.result.now c.add_changes.new.tables c.stored-before.result c.made-now.result
          c.loop-id-test.true c.deref_mut.ensures.value inv.picks long many c.stored-before.ensures (c.made-now.ensures ∙ made) c.in_ok-add_changes.ensures;
      many = pass_long tables.len c.add_changes.new.tables tables.items long many ∙ inv.many;
      same = c.in_ok-new.ensures.same ∙ inv.same;
      steps = omega (arith, c.in_ok-new.ensures.steps, inv.steps);
    }
