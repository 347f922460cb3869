-- Each statement by what it is.
use Rattle.std.proofs.Common.{sym, subst, ◌∙◌}
use Rattle.par_base.specs.Checked.{Checked}
use Rattle.statements.specs.Views.{statement_view}
use Rattle.engine_sessions.specs.declared.answer.Answer.{Answer}
use Rattle.engine_transactions.specs.Act.{Answers}
use Rattle.engine_transactions.specs.Calls.{standing_in, standing_of}
use Rattle.tx_history.specs.Opens.{opens_view}
use Rattle.engine_transactions.specs.Standing.{Standing}
use Rattle.engine_transactions.proofs.KindLemmas.{act_by_kind}
use Rattle.engine_transactions.proofs.KeptLemmas.{other_acts, same_beside}
use Rattle.engine_transactions.proofs.kept.Kept.carry_out.Goals as goal

pub returns-in-Commit-clause-answers : goal.returns-in-Commit-clause-answers
returns-in-Commit-clause-answers g c =
    let s = standing_of c.args.self.now in
    let x = statement_view c.args.statement in
    subst (λ (m : Checked (Answer × Standing)). Answers m c.write.result (standing_of c.write.new.self)) (act_by_kind s x) c.write.ensures.answers

pub returns-in-Write-clause-answers : goal.returns-in-Write-clause-answers
returns-in-Write-clause-answers g c =
    let s = standing_of c.args.self.now in
    let x = statement_view c.args.statement in
    subst (λ (m : Checked (Answer × Standing)). Answers m c.write-in-Write.result (standing_of c.write-in-Write.new.self)) (act_by_kind s x) c.write-in-Write.ensures.answers

pub returns-in-Other-clause-answers : goal.returns-in-Other-clause-answers
returns-in-Other-clause-answers g c =
    let s = standing_of c.args.self.now in
    let x = statement_view c.args.statement in
    let same = other_acts s x (sym c.kind_of.ensures ∙ c.in-Other.is) in
    subst (λ (m : Checked (Answer × Standing)). Answers m c.act_at_once.result (standing_in c.act_at_once.new.at (opens_view c.args.self.now.opens.items))) same (c.act_at_once.ensures.answers (opens_view c.args.self.now.opens.items))

pub returns-in-Other-clause-same : goal.returns-in-Other-clause-same
returns-in-Other-clause-same g c = same_beside c.act_at_once.result c.args.self.now.executing c.act_at_once.new.at (opens_view c.args.self.now.opens.items) c.act_at_once.ensures.same
