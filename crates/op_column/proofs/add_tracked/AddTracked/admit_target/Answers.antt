use Rattle.std.proofs.Common.{◌≡◌, [], ◌∷◌, List, Option, ap, sym, ◌∙◌}
use Rattle.std.proofs.lemmas.Bool.{false≢true}
use Rattle.par_base.specs.declared.value.Value.{Value}
use Rattle.expr_lang.specs.Terms.{expr_term}
use Rattle.op_rows.specs.Cells.{Cells, first_cell}
use Rattle.op_column.specs.AddTracked.{deviating, tracked}
use Rattle.op_column.proofs.AddTrackedLemmas.{admits_just, admits_no_other}
use Rattle.op_column.proofs.add_tracked.AddTracked.admit_target.Goals as goal

pub returns-then-not-is_same_cells : goal.returns-then-not-is_same_cells
returns-then-not-is_same_cells g c =
    admits_no_other (expr_term c.args.self.now.value) c.args.near.now c.in_ok-far.far c.args.aux.now c.in_ok-kept.kept
    (c.in_ok-far.ensures.ok ∙ ap (λ (cell : Option (List Value)). tracked (expr_term c.args.self.now.value) (first_cell c.args.near.now) cell ∷ []) c.first_row.ensures)
    (c.in_ok-kept.ensures.answer ∙ ap (λ (cells : Cells). deviating (expr_term c.args.self.now.value) (first_cell c.args.near.now) (first_cell cells) ∷ []) c.made.ensures)
    (λ same.
    let some = c.as_slice.ensures in
    let other = c.as_slice-2.ensures in
    let equal : c.as_slice.result.now ≡ c.as_slice-2.result.now = some ∙ same ∙ sym c.in_ok-stored.ensures ∙ sym other in
    false≢true (sym c.if-not-is_same_cells.true ∙ c.is_same_cells.ensures.1 equal))

pub returns : goal.returns
returns g c =
    admits_just (expr_term c.args.self.now.value) c.args.near.now c.in_ok-far.far c.args.aux.now c.in_ok-kept.kept
    (c.in_ok-far.ensures.ok ∙ ap (λ (cell : Option (List Value)). tracked (expr_term c.args.self.now.value) (first_cell c.args.near.now) cell ∷ []) c.first_row.ensures)
    (c.in_ok-kept.ensures.answer ∙ ap (λ (cells : Cells). deviating (expr_term c.args.self.now.value) (first_cell c.args.near.now) (first_cell cells) ∷ []) c.made.ensures)
    (sym c.as_slice.ensures ∙ c.is_same_cells.ensures.0 c.if-not-is_same_cells.false ∙ c.as_slice-2.ensures ∙ c.in_ok-stored.ensures)
