use Rattle.std.proofs.Common.{◌≡◌, ◌∙◌, sym, ap, subst, ℕ, List, IsUtf8, false, Vec, Global}
use Rattle.std.specs.Prelude.{Some}
use Rattle.par_base.specs.declared.value.Value.TheVariants.{Text}
use Rattle.par_base.specs.Literals.{undoubled}
use Rattle.par_base.proofs.LiteralLaws.{undoubled-doubled}
use Rattle.par_base.proofs.literal.inner_candidate.Goals as goal

pub returns-in-Ok : goal.returns-in-Ok
returns-in-Ok c = λ text utf8 e.
    let made : c.in_ok-bytes.bytes.items ≡ text = c.in_ok-bytes.ensures ∙ ap (undoubled false) e ∙ undoubled-doubled text in
    ap (λ (bytes : List ℕ). Some (Text bytes)) (c.in_ok-shared-in-Ok.ensures ∙ c.from_string.ensures ∙ ap (λ (v : Vec ℕ Global). v.items) c.in-Ok.ensures.ok ∙ made)

pub returns : goal.returns
returns c = λ text utf8 e.
    let made : c.in_ok-bytes.bytes.items ≡ text = c.in_ok-bytes.ensures ∙ ap (undoubled false) e ∙ undoubled-doubled text in
    let failed = c.in-Err.ensures.succeeds (subst IsUtf8 (sym made) utf8) in cc
