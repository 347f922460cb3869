-- Each statement leaves its own history.
use Rattle.std.proofs.Common.{sym, subst}
use Rattle.statements.specs.Views.{statement_view}
use Rattle.statements.specs.declared.statement.Statement.{Statement}
use Rattle.engine_sessions.specs.Standing.{Standing as SessionsStanding}
use Rattle.engine_transactions.specs.Act.{Answers}
use Rattle.engine_transactions.specs.Calls.{standing_in}
use Rattle.tx_history.specs.History.{History}
use Rattle.engine_transactions.specs.ByKind.{at_once_with, graph_behind}
use Rattle.engine_transactions.proofs.AtOnceLemmas.{plain_behind}
use Rattle.engine_transactions.proofs.at_once.act_at_once.Goals as goal

pub returns-in-CreateVersion-clause-answers : goal.returns-in-CreateVersion-clause-answers
returns-in-CreateVersion-clause-answers g c = λ opens.
    let s = standing_in c.args.at.now opens in
    subst (λ (x : Statement). Answers (at_once_with s (statement_view x) (graph_behind s (statement_view x))) c.create.result (standing_in c.create.new.at opens)) (sym c.in-CreateVersion.is) (c.create.ensures.answers opens)

pub returns-in-DropVersion-clause-answers : goal.returns-in-DropVersion-clause-answers
returns-in-DropVersion-clause-answers g c = λ opens.
    let s = standing_in c.args.at.now opens in
    subst (λ (x : Statement). Answers (at_once_with s (statement_view x) (graph_behind s (statement_view x))) c.drop_version.result (standing_in c.drop_version.new.at opens)) (sym c.in-DropVersion.is) (c.drop_version.ensures.answers opens)

pub returns-in_default : goal.returns-in_default
returns-in_default g c =
    record {
      answers = λ opens.
          let s = standing_in c.args.at.now opens in
          subst (λ (b : SessionsStanding → History). Answers (at_once_with s (statement_view c.args.statement) b) c.pass.result (standing_in c.pass.new.at opens))
          (sym (plain_behind s c.args.statement c.in_default.not-CreateVersion c.in_default.not-DropVersion)) (c.pass.ensures.answers opens);
      same = c.pass.ensures.same;
      answer = c.pass.ensures.answer;
      keeps = c.pass.ensures.keeps;
      idle = c.pass.ensures.idle;
    }
