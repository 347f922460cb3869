use Rattle.std.proofs.Common.{◌≡◌, ℕ, true, sym, ◌∙◌, subst}
use Rattle.expr_lang.specs.Terms.{expr_term}
use Rattle.expr_lang.specs.Val.{fits_row}
use Rattle.outer_entries.specs.Showings.{joining_of}
use Rattle.outer_entries.proofs.EntryLemmas.{row_wide}
use Rattle.outer_entries.proofs.matching.is_match.Goals as goal

pub holds-requires : goal.holds-requires
holds-requires g c =
    let wide = row_wide (joining_of c.args.join.now) c.args.s.now.rows c.args.t.now.rows c.args.a c.args.b c.in-Some.row (sym c.in-Some.is ∙ c.in_ok-row.ensures) in
    rw c.as_slice.ensures (subst (λ (w : ℕ). fits_row (expr_term c.args.join.now.condition.now) w ≡ true) (sym wide) c.requires)
