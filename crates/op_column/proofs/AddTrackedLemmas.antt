-- What the tracked ADD COLUMN admits, and what it doesn't.
use Rattle.std.proofs.Common.{◌≡◌, ℕ, List, [], ◌∷◌, Option, Some, None, sym, ◌∙◌, ap, subst}
use Rattle.par_base.specs.declared.value.Value.{Value}
use Rattle.expr_lang.specs.Terms.{Term}
use Rattle.op_rows.specs.Cells.{Cells, first_cell, AreCellsOf}
use Rattle.op_rows.specs.RowCalls.{AdmitsRows}
use Rattle.op_column.specs.AddColumn.{without_column}
use Rattle.op_column.specs.AddTracked.{deviating, last_of, tracked, add_tracked}
use Rattle.op_column.specs.inner.AddTrackedLaws.{target_again, tracked_related, tracked_wide}

-- where the target that is read back deviates by something else than what is kept beside, this belongs to no target
pub admits_no_other : (e : Term ℕ) (near far aux kept : Cells) → far ≡ tracked e (first_cell near) (first_cell aux) ∷ [] → kept ≡ deviating e (first_cell near) (first_cell far) ∷ [] → (kept ≡ aux → ⊥) → AdmitsRows (add_tracked e) near aux None
admits_no_other e near far aux kept made kept_is other hs ht target belongs =
    let again = target_again e hs ht belongs.pair.fits near target belongs.pair.target_of belongs.pair.related in
    let aux_first : first_cell aux ≡ deviating e (first_cell near) (first_cell target) = ap first_cell belongs.aux_is in
    let far_is : far ≡ target = made ∙ ap (λ (c : Option (List Value)). tracked e (first_cell near) c ∷ []) aux_first ∙ again in
    other (kept_is ∙ ap (λ (cs : Cells). deviating e (first_cell near) (first_cell cs) ∷ []) far_is ∙ sym belongs.aux_is)

-- where it deviates by just what is kept beside, this belongs to it
pub admits_just : (e : Term ℕ) (near far aux kept : Cells) → far ≡ tracked e (first_cell near) (first_cell aux) ∷ [] → kept ≡ deviating e (first_cell near) (first_cell far) ∷ [] → kept ≡ aux → AdmitsRows (add_tracked e) near aux (Some far)
admits_just e near far aux kept made kept_is same = (
  made,
  λ hs ht fits near_of. record {
    pair = record {
      fits = fits;
      related = tracked_related e (first_cell near) (first_cell aux) ∙ ap (λ (cs : Cells). without_column (last_of (first_cell cs)) (first_cell cs)) (sym made);
      source_of = near_of;
      target_of = subst (λ (cs : Cells). AreCellsOf ht cs) (sym made) (tracked_wide e hs ht fits near (first_cell aux) near_of);
    };
    aux_is = sym same ∙ kept_is;
  },
)
