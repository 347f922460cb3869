use Rattle.std.proofs.Common.{Some, Option, ◌∙◌, ap, subst, length, get_or, arith}
use Rattle.op_rows.specs.Cells.{Cells, cells_at}
use Rattle.op_rows.specs.RowCalls.{AdmitsRows}
use Rattle.op_rows.specs.inner.Passes.{read_at}
use Rattle.op_rows.proofs.PassLemmas.{made_of_none, pass_more, pass_below, has_next, admitted_is}
use Rattle.op_rows.proofs.pass.admit_each.Goals as goal

pub loop-id-init : goal.loop-id-init
loop-id-init g c =
    let r = g.A.AdmitsCells.row_meaning c.args.each.now in
    let near = g.A.AdmitsCells.near c.args.each.now in
    let aux = g.A.AdmitsCells.aux c.args.each.now in
    record {
      made = c.in_ok-tables.ensures ∙ made_of_none c.args.count (read_at r near aux);
      admits = λ id has. absurd {A = AdmitsRows r (cells_at near id) (cells_at aux id) (Some (read_at r near aux id))} (cc);
    }

pub returns-in_default : goal.returns-in_default
returns-in_default g c =
    let r = g.A.AdmitsCells.row_meaning c.args.each.now in
    let near = g.A.AdmitsCells.near c.args.each.now in
    let aux = g.A.AdmitsCells.aux c.args.each.now in
    let id = get_or c.args.ids.now c.loop-id.id-index 0 in
    (id, subst (λ (far : Option Cells). AdmitsRows r (cells_at near id) (cells_at aux id) far) c.in_default.is c.in_ok-cells.ensures)

pub push_cells-requires : goal.push_cells-requires
push_cells-requires g c =
    let r = g.A.AdmitsCells.row_meaning c.args.each.now in
    let near = g.A.AdmitsCells.near c.args.each.now in
    let aux = g.A.AdmitsCells.aux c.args.each.now in
    pass_below c.args.count c.args.ids.now c.loop-id.id-index (read_at r near aux) c.loop-id.tables.items c.deref_mut.result.now
    c.requires.rise c.loop-id-test.true c.deref_mut.ensures.value c.loop-id.invariant.made

pub loop-id-preserved : goal.loop-id-preserved
loop-id-preserved g c =
    let r = g.A.AdmitsCells.row_meaning c.args.each.now in
    let near = g.A.AdmitsCells.near c.args.each.now in
    let aux = g.A.AdmitsCells.aux c.args.each.now in
    let i = c.loop-id.id-index in
    let id = get_or c.args.ids.now i 0 in
    let admits = subst (λ (far : Option Cells). AdmitsRows r (cells_at near id) (cells_at aux id) far) c.in-Some.is c.in_ok-cells.ensures in
    record {
      made = pass_more c.args.count c.args.ids.now i (read_at r near aux) c.loop-id.tables.len c.loop-id.tables.items c.deref_mut.result.now c.push_cells.new.tables c.in-Some.cells
          c.loop-id-test.true c.deref_mut.ensures.value c.loop-id.invariant.made (omega (arith, c.push_cells.auto.tables, c.deref_mut.ensures.len)) (omega (arith, ap length c.deref_mut.ensures.value, c.deref_mut.ensures.len)) c.in_ok-push_cells.ensures admits.0;
      admits = λ q has. has_next c.args.ids.now i 0 q (λ q. AdmitsRows r (cells_at near q) (cells_at aux q) (Some (read_at r near aux q))) c.loop-id-test.true (c.loop-id.invariant.admits q) (admitted_is r near aux id c.in-Some.cells admits) has;
    }
