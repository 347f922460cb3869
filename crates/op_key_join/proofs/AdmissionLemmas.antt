-- What belongs to stored rows, by what is read back from them.
use Rattle.std.proofs.Common.{◌≡◌, true, None, sym, ◌∙◌, ap, subst}
use Rattle.op_rows.specs.Cells.{Cells}
use Rattle.op_rows.specs.RowMeaning.{RowMeaning, RowLaws}
use Rattle.op_rows.specs.RowCalls.{AdmitsRows}
use Rattle.op_rows.specs.declared.near_side.NearSide.{NearSide}
use Rattle.op_rows.specs.declared.near_side.NearSide.TheVariants.{Source, Target}
use Rattle.op_rows.specs.NearSides.{seen_from, half_from}

-- the far side is read back
reads_from : (side : NearSide) (r : RowMeaning) → r.reads_target ≡ true → r.reads_source ≡ true → (seen_from side r).reads_target ≡ true
reads_from Source r target source = target
reads_from Target r target source = source

-- where what is read back has other rows beside it, nothing belongs
pub admits_none : (side : NearSide) (r : RowMeaning) → RowLaws r → r.reads_target ≡ true → r.reads_source ≡ true → (near far aux : Cells) → far ≡ (seen_from side r).read_target near aux
    → (aux ≡ (seen_from side r).aux_at_source near far → ⊥) → AdmitsRows (seen_from side r) near aux None
admits_none side r laws target source near far aux made none hs ht other belongs =
    let seen = seen_from side r in
    let back : seen.read_target near aux ≡ other =
    ap (λ (cs : Cells). seen.read_target near cs) belongs.aux_is ∙ (half_from side r laws).recovered hs ht near other (reads_from side r target source) belongs.pair in
    none (subst (λ (cs : Cells). aux ≡ seen.aux_at_source near cs) (sym (made ∙ back)) belongs.aux_is)
