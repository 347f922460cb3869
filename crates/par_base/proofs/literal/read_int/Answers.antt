use Rattle.std.proofs.Common.{◌∙◌, sym, ap, subst, IsUtf8}
use Rattle.std.specs.Int.{w64}
use Rattle.std.specs.Result.{result_ok}
use Rattle.std.proofs.lemmas.Fmt.{parse-signed_decimal}
use Rattle.par_base.proofs.LiteralLaws.{int_is_utf8}
use Rattle.par_base.proofs.literal.read_int.Goals as goal

pub returns-in-Ok : goal.returns-in-Ok
returns-in-Ok c = λ n fits e.
    let p = parse-signed_decimal w64 n c.in-Ok.text.now c.parse.result fits fits.sfits (c.in-Ok.ensures.cases.0 ∙ e) c.parse.ensures.value.0 in
    c.ok.ensures.value ∙ ap result_ok p

pub returns-in-Err : goal.returns-in-Err
returns-in-Err c = λ n fits e. absurd (c.in-Err.ensures.cases.0 (subst IsUtf8 (sym e) (int_is_utf8 n fits)))
