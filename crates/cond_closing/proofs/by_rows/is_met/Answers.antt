use Rattle.std.proofs.Common.{◌≡◌, ℕ, true, length, ap, sym, ◌∙◌, subst}
use Rattle.expr_lang.specs.Terms.{expr_term}
use Rattle.expr_lang.specs.Val.{fits_row}
use Rattle.op_cond_join.specs.Joinings.{joining}
use Rattle.cond_closing.proofs.RowLemmas.{joined_wide}
use Rattle.cond_closing.proofs.by_rows.is_met.Goals as goal

pub holds-requires : goal.holds-requires
holds-requires g c =
    let it = c.args.it.now in
    let wide = ap length c.in_ok-row.ensures ∙ joined_wide (joining it.join.now) it.half it.row.now c.args.other.now in
    rw c.as_slice.ensures (subst (λ (w : ℕ). fits_row (expr_term it.join.now.condition) w ≡ true) (sym wide) c.requires)
