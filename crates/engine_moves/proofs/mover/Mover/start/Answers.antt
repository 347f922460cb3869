use Rattle.std.proofs.Common.{List, ℕ, Err, subst, ap, ◌∙◌}
use Rattle.std.proofs.lemmas.Result.{err_from_is_err_and}
use Rattle.par_base.specs.Checked.{Gives}
use Rattle.op_any.specs.Operators.{AnyView}
use Rattle.db_state.specs.declared.parts.Parts.{Parts}
use Rattle.migration.specs.Pending.{pending_for}
use Rattle.engine_moves.specs.Moving.{moving_of, KeptMove}
use Rattle.engine_moves.proofs.MoverLemmas.{start_refused}
use Rattle.engine_moves.proofs.mover.Mover.start.Goals as goal

pub returns-in_err-self-inside-clause-answers : goal.returns-in_err-self-inside-clause-answers
returns-in_err-self-inside-clause-answers c =
    let same = c.database.ensures.database ∙ ap (λ (k : KeptMove). k.database) c.self.view_is in
    let s = moving_of c.args.self.now in
    let fault = c.in_err-self-inside.field-0.0 in
    let given = subst (λ (k : Parts AnyView). Gives (λ (made : List ℕ). made) (Err fault) (pending_for k.graph k.layout.operators c.args.named.now)) same c.in_err-self-inside.ensures.gives in
    let p = err_from_is_err_and c.from_residual.result c.from_residual.ensures.1 in
    rw (p.1, p.2) (start_refused s s c.args.named.now fault given)
