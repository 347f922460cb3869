use Rattle.std.proofs.Common.{◌∙◌, sym, ap, subst, IsUtf8}
use Rattle.std.specs.Result.{result_ok}
use Rattle.std.proofs.lemmas.Fmt.{parse-decimal}
use Rattle.par_base.proofs.LiteralLaws.{id_is_utf8}
use Rattle.par_base.proofs.literal.read_id.Goals as goal

pub returns-in-Ok : goal.returns-in-Ok
returns-in-Ok c = λ id small e.
    let p = parse-decimal 64 id c.in-Ok.text.now c.parse.result small small (c.in-Ok.ensures.cases.0 ∙ e) c.parse.ensures.value.0 in
    c.ok.ensures.value ∙ ap result_ok p

pub returns-in-Err : goal.returns-in-Err
returns-in-Err c = λ id small e. absurd (c.in-Err.ensures.cases.0 (subst IsUtf8 (sym e) (id_is_utf8 id small)))
