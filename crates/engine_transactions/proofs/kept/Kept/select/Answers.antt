-- A SELECT outside a transaction acts at once.
use Rattle.std.specs.Prelude.{Option}
use Rattle.std.proofs.Common.{List, option_map, sym, ap, subst, ◌∙◌}
use Rattle.par_base.specs.Checked.{Checked}
use Rattle.statements.specs.Views.{statement_view}
use Rattle.engine_sessions.specs.declared.answer.Answer.{Answer}
use Rattle.engine_transactions.specs.Act.{Answers}
use Rattle.engine_transactions.specs.Calls.{standing_in, standing_of}
use Rattle.engine_transactions.specs.ByKind.{selected_in}
use Rattle.tx_history.specs.Opens.{opens_view}
use Rattle.tx_history.specs.Views.{OpenView, open_of}
use Rattle.engine_transactions.specs.Standing.{Standing}
use Rattle.tx_history.specs.declared.open_transaction.OpenTransaction.{OpenTransaction}
use Rattle.engine_transactions.proofs.KindLemmas.{once_behind}
use Rattle.engine_transactions.proofs.KeptLemmas.{at_none, no_select, same_beside, writes}
use Rattle.engine_transactions.proofs.kept.Kept.select.Goals as goal

pub returns-in-None-clause-answers : goal.returns-in-None-clause-answers
returns-in-None-clause-answers g c =
    let s = standing_of c.args.self.now in
    let x = statement_view c.args.statement in
    let none = at_none s c.session-session.result c.session-session.ensures (c.keeps_write.result) c.in-None.is (c.keeps_write.ensures ∙ ap (λ (l : List OpenTransaction). option_map writes (open_of (opens_view l) c.session-session.result)) c.as_slice.ensures.value) in
    let same = sym (once_behind s x (no_select x c.requires.select)) ∙ ap (λ (o : Option OpenView). selected_in s o x) (sym none) in
    subst (λ (m : Checked (Answer × Standing)). Answers m c.act_at_once.result (standing_in c.act_at_once.new.at (opens_view c.args.self.now.opens.items))) same (c.act_at_once.ensures.answers (opens_view c.args.self.now.opens.items))

pub returns-in-None-clause-same : goal.returns-in-None-clause-same
returns-in-None-clause-same g c = same_beside c.act_at_once.result c.args.self.now.executing c.act_at_once.new.at (opens_view c.args.self.now.opens.items) c.act_at_once.ensures.same
