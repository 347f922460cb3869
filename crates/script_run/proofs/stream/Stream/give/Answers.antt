use Rattle.std.proofs.Common.{◌∙◌, ap, subst, sym}
use Rattle.statements.specs.Views.{statement_view}
use Rattle.engine_feeds.specs.Kept.{WatchedView as Watched}
use Rattle.engine_feeds.specs.Kept.{kept_in}
use Rattle.script_run.specs.declared.stream.Stream.{Stream}
use Rattle.script_run.specs.Kept.{Keeps}
use Rattle.script_run.proofs.SpelledLaws.{stay_spelled}
use Rattle.script_run.proofs.StreamLemmas.{gives_end, gives_fault, gives_long, gives_more, gives_passed, keeps_still, replies_given, watched_same}
use Rattle.script_run.proofs.stream.Stream.give.Goals as goal

pub answer-requires : goal.answer-requires
answer-requires g c =
    let s = c.requires.stream in
    ((rw c.in-Statement.is at c.in_ok-statement.ensures.finds) s.0 s.1 s.2 s.3).given.texts

pub returns-in-Statement-clause-gives : goal.returns-in-Statement-clause-gives
returns-in-Statement-clause-gives g c =
    replies_given c.args.self.now c.find.new.self c.find.ensures.same (statement_view c.in-Statement.statement) c.answer.new.watched c.answer.result
    (rw c.in-Statement.is at c.in_ok-statement.ensures.finds) c.answer.ensures.next c.answer.ensures.reply

pub returns-in-Statement-clause-keeps : goal.returns-in-Statement-clause-keeps
returns-in-Statement-clause-keeps g c =
    let s = c.requires.stream in
    let mid = c.find.new.self.watched in
    let w = ((rw c.in-Statement.is at c.in_ok-statement.ensures.finds) s.0 s.1 s.2 s.3).given.written in
    subst (λ (x : Watched). Keeps (kept_in x) (kept_in c.answer.new.watched)) (watched_same c.args.self.now c.find.new.self c.find.ensures.same)
    (record {
      limit = c.answer.ensures.limit;
      spelled = λ is. stay_spelled w.0 w.1 (statement_view c.in-Statement.statement) w.2 (kept_in mid).graph.edges (kept_in c.answer.new.watched).graph.edges w.3 c.answer.ensures.texts is;
    })

pub returns-in-More-clause-gives : goal.returns-in-More-clause-gives
returns-in-More-clause-gives g c = λ from fed answered h.
    gives_passed c.args.self.now c.find.new.self c.find.ensures.same from fed answered h ((rw c.in-More.is at c.in_ok-statement.ensures.finds) from fed answered h).0
    (sym (ap (λ (x : Stream _). x.passed) c.find.ensures.same) ∙ c.if-self.true)

pub returns-in-More-clause-keeps : goal.returns-in-More-clause-keeps
returns-in-More-clause-keeps g c = keeps_still c.args.self.now c.find.new.self c.find.ensures.same

pub returns-in-More-2-clause-gives : goal.returns-in-More-2-clause-gives
returns-in-More-2-clause-gives g c = λ from fed answered h.
    gives_more c.args.self.now c.find.new.self c.find.ensures.same from fed answered h ((rw c.in-More-2.is at c.in_ok-statement.ensures.finds) from fed answered h)
    (sym (ap (λ (x : Stream _). x.passed) c.find.ensures.same) ∙ c.if-self.false) c.requires.going

pub returns-in-More-2-clause-keeps : goal.returns-in-More-2-clause-keeps
returns-in-More-2-clause-keeps g c = keeps_still c.args.self.now c.find.new.self c.find.ensures.same

pub returns-in-End-clause-gives : goal.returns-in-End-clause-gives
returns-in-End-clause-gives g c = λ from fed answered h.
    gives_end c.args.self.now c.find.new.self c.find.ensures.same from fed answered h ((rw c.in-End.is at c.in_ok-statement.ensures.finds) from fed answered h)

pub returns-in-End-clause-keeps : goal.returns-in-End-clause-keeps
returns-in-End-clause-keeps g c = keeps_still c.args.self.now c.find.new.self c.find.ensures.same

pub returns-in-Fault-clause-gives : goal.returns-in-Fault-clause-gives
returns-in-Fault-clause-gives g c = λ from fed answered h.
    gives_fault c.args.self.now c.find.new.self c.find.ensures.same from fed answered h c.in-Fault.line c.in-Fault.column ((rw c.in-Fault.is at c.in_ok-statement.ensures.finds) from fed answered h)

pub returns-in-Fault-clause-keeps : goal.returns-in-Fault-clause-keeps
returns-in-Fault-clause-keeps g c = keeps_still c.args.self.now c.find.new.self c.find.ensures.same

pub returns-in-Long-clause-gives : goal.returns-in-Long-clause-gives
returns-in-Long-clause-gives g c = λ from fed answered h.
    gives_long c.args.self.now c.find.new.self c.find.ensures.same from fed answered h ((rw c.in-Long.is at c.in_ok-statement.ensures.finds) from fed answered h)

pub returns-in-Long-clause-keeps : goal.returns-in-Long-clause-keeps
returns-in-Long-clause-keeps g c = keeps_still c.args.self.now c.find.new.self c.find.ensures.same
