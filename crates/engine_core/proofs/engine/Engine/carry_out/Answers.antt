use Rattle.std.proofs.Common.{List, sym, subst}
use Rattle.par_base.specs.declared.limits.Target.{Target}
use Rattle.statements.specs.declared.statement.Statement.{Statement}
use Rattle.statements.specs.Views.{statement_view}
use Rattle.par_base.specs.Checked.{Checked}
use Rattle.engine_state.specs.declared.reply.Reply.{Reply}
use Rattle.engine_layouts.specs.Laid.{Laid, materialized}
use Rattle.engine_core.specs.Act.{acted, acted_data}
use Rattle.engine_core.specs.Kept.{Answers, data_of, state_of}
use Rattle.engine_core.proofs.LaidLaws.{acted_beside, answers_beside, on_data, replied, same_laid}
use Rattle.engine_core.proofs.engine.Engine.carry_out.Goals as goal

pub returns-in-Materialize-clause-answers : goal.returns-in-Materialize-clause-answers
returns-in-Materialize-clause-answers g c =
    let old = state_of c.args.self.now in
    let new = state_of c.move_data.new.self in
    let e = subst (λ (l : List Target). Answers (replied (materialized old l)) c.move_data.result new) c.as_slice.ensures c.move_data.ensures.answers in
    subst (λ (st : Statement). Answers (acted old (statement_view st)) c.move_data.result new) (sym c.in-Materialize.is) e

pub returns-in_default : goal.returns-in_default
returns-in_default g c =
    let old = c.args.self.now in
    let new = c.change_data.new.self in
    let x = statement_view c.args.statement.now in
    let made = c.change_data.ensures in
    let off = on_data c.args.statement.now c.in_default.not-Materialize c.in_default.not-ShowLayout in
    record {
      answers = subst (λ (m : Checked (Reply × Laid)). Answers m c.change_data.result (state_of new)) (sym (acted_beside (state_of old) x off)) (answers_beside old new (acted_data (data_of old) x) c.change_data.result made.answers made.layout);
      same = same_laid old new c.change_data.result c.versions_always_agree.ensures.stored made.same made.layout;
      reply = made.reply;
      ordinary = made.ordinary;
      steps = made.steps;
    }
