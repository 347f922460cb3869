use Rattle.std.proofs.Common.{◌≡◌, ◌∙◌, sym, subst, ap, ℕ, List, Vec, Global}
use Rattle.std.specs.Prelude.{IsUtf8, string_bytes, false}
use Rattle.std.proofs.lemmas.Str.{IsUtf8-string_bytes}
use Rattle.par_base.specs.Literals.{undoubled}
use Rattle.bidel_expr.specs.Lexemes.{between}
use Rattle.bidel_expr.proofs.TextLemmas.{utf8_text, other_text}
use Rattle.bidel_expr.proofs.literals.text_value.Goals as goal

pub returns-in-Ok : goal.returns-in-Ok
returns-in-Ok c =
    let made : c.in_ok-bytes.bytes.items ≡ undoubled false (between c.args.written.now) = c.in_ok-bytes.ensures ∙ ap (undoubled false) c.without_quotes.ensures in
    let same : string_bytes c.in-Ok.text ≡ undoubled false (between c.args.written.now) = ap (λ (v : Vec ℕ Global). v.items) c.in-Ok.ensures.ok ∙ made in
    utf8_text _ _ (c.from_string.ensures ∙ same) (subst (λ (l : List ℕ). IsUtf8 l) same (IsUtf8-string_bytes c.in-Ok.text))

pub returns : goal.returns
returns c = other_text _ (λ valid.
    let made : c.in_ok-bytes.bytes.items ≡ undoubled false (between c.args.written.now) = c.in_ok-bytes.ensures ∙ ap (undoubled false) c.without_quotes.ensures in
    let failed = c.in-Err.ensures.succeeds (subst (λ (l : List ℕ). IsUtf8 l) (sym made) valid) in cc)
