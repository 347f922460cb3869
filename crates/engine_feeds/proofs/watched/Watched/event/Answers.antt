-- Every other statement is carried out with its watches.
use Rattle.std.proofs.Common.{subst, sym}
use Rattle.par_base.specs.Checked.{Checked}
use Rattle.statements.specs.Views.{statement_view}
use Rattle.engine_transactions.specs.Answer.{Answer}
use Rattle.engine_feeds.specs.Act.{acted_by, Answers}
use Rattle.engine_feeds.specs.Calls.{standing_of, standing_with, Carries}
use Rattle.engine_feeds.specs.Kept.{WatchedView}
use Rattle.engine_feeds.specs.Standing.{Standing}
use Rattle.engine_feeds.proofs.EventLemmas.{other_acts}
use Rattle.engine_feeds.proofs.watched.Watched.event.Goals as goal

pub returns-in_default : goal.returns-in_default
returns-in_default g c =
    let x = statement_view c.args.statement in
    let old = standing_of c.args.self.now in
    let new = standing_with c.carry_out.new.kept c.carry_out.new.watches in
    let told =
    subst (λ (v : WatchedView). Carries (acted_by (standing_of v) x) x v.transactions v.watches c.carry_out.result c.carry_out.new.kept c.carry_out.new.watches) c.self.view_is c.carry_out.ensures in
    record {
      answers = subst (λ (m : Checked (Answer × Standing)). Answers m c.carry_out.result new) (sym (other_acts old c.args.statement c.in_default.not-Watch c.in_default.not-Unwatch)) told.answers;
      same = told.same;
      answer = told.answer;
      texts = told.keeps.texts;
      limit = told.keeps.limit;
    }
