use Rattle.std.proofs.Common.{Err, subst}
use Rattle.std.proofs.lemmas.Result.{err_from_is_err_and}
use Rattle.op_any.specs.Operators.{AnyView}
use Rattle.db_state.specs.declared.parts.Parts.{Parts}
use Rattle.engine_layouts.specs.Laid.{Materializes, laid_of}
use Rattle.engine_core.proofs.LaidLaws.{move_refused}
use Rattle.engine_core.proofs.engine.Engine.move_data.Goals as goal

pub returns-in_err-count-clause-answers : goal.returns-in_err-count-clause-answers
returns-in_err-count-clause-answers g c =
    let old = c.args.self.now in
    let new = c.materialize.new.database in
    let named = c.args.named.now in
    let fault = c.in_err-count.field-0.0 in
    let p = err_from_is_err_and c.from_residual.result c.from_residual.ensures.1 in
    let e = subst (λ (x : Parts AnyView). Materializes (laid_of x) named (Err fault) (laid_of new)) c.self.view_is c.in_err-count.ensures in
    rw (p.1, p.2) (move_refused (laid_of old) (laid_of new) named fault e).0
