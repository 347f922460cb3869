use Rattle.std.proofs.Common.{List, length, get_or, refl, ap, ◌∙◌, subst, Option, arith}
use Rattle.std.proofs.lemmas.List.{length-set}
use Rattle.std.specs.Prelude.{option_copied}
use Rattle.par_base.specs.declared.value.Value.{Value}
use Rattle.op_rows.specs.Cells.{nth_cell}
use Rattle.cell_changes.specs.Growing.{AddsCell}
use Rattle.cell_changes.proofs.GrowingLemmas.{adds_all, adds_next, still_above}
use Rattle.cell_changes.proofs.adding.add_changes.Goals as goal

pub loop-which-init : goal.loop-which-init
loop-which-init c = record { adds = refl; many = refl }

pub add_change-requires : goal.add_change-requires
add_change-requires c =
    let inv = c.loop-which.invariant in
    still_above c.loop-which.which c.args.id c.args.old.now c.args.new.now c.args.tables.now c.loop-which.tables c.index-tables-which.result
    (omega (arith, c.loop-which-test.true, inv.many)) c.requires inv.adds

pub loop-which-preserved : goal.loop-which-preserved
loop-which-preserved c =
    let i = c.loop-which.which in
    let id = c.args.id in
    let inv = c.loop-which.invariant in
    let now = c.loop-which.tables in
    let d = c.index-tables-which.result in
    let x = c.add_change.new.changes in
    let one = subst (λ (o : Option (List Value)). AddsCell id o (nth_cell i c.args.new.now) (get_or now i d) x) c.row_at.ensures
    (subst (λ (w : Option (List Value)). AddsCell id (option_copied c.row_at.result) w (get_or now i d) x) c.row_at-in-loop-which.ensures c.in_ok-add_change.ensures) in
    record {
      adds = adds_next i id c.args.old.now c.args.new.now c.args.tables.now now d x (omega (arith, c.loop-which-test.true, inv.many)) inv.adds one;
      many = length-set now i x ∙ inv.many;
    }

pub returns : goal.returns
returns c =
    let inv = c.loop-which.invariant in
    adds_all c.loop-which.which c.args.id c.args.old.now c.args.new.now c.args.tables.now c.loop-which.tables (omega (arith, c.loop-which-test.false, inv.many)) inv.adds
