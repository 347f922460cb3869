-- A run, and what an error leaves.
use Rattle.std.proofs.Common.{◌≡◌, ℕ, List, Ok, Err, refl, sym, subst}
use Rattle.std.proofs.lemmas.Result.{err_from_is_err_and}
use Rattle.statements.specs.Views.{statement_view}
use Rattle.statements.specs.declared.statement.Statement.{Statement}
use Rattle.version_graph.specs.Sets.{Within}
use Rattle.version_model.specs.Kept.{numbers_in}
use Rattle.op_any.specs.Operators.{any_meaning}
use Rattle.engine_sessions.specs.WritesUndone.{Restores}
use Rattle.engine_sessions.specs.WriteUndo.{Undo}
use Rattle.engine_sessions.specs.EngineCoreUndo.{AnswersWrite}
use Rattle.engine_sessions.specs.Act.{written_in}
use Rattle.engine_sessions.specs.Standing.{Standing as SessionsStanding, kept_in, standing_of}
use Rattle.session_tx.specs.Calls.{after_run}
use Rattle.engine_transactions.specs.Executing.{Shows}
use Rattle.engine_transactions.specs.declared.executing.Executing.{Executing}
use Rattle.engine_transactions.proofs.ExecutingLemmas.{again_back, made_of, meant, run_fails, shows_again, shows_run, tells_run}
use Rattle.engine_transactions.proofs.executing.ExecutingExecutor.run.Goals as goal

pub returns-in_err-reply : goal.returns-in_err-reply
returns-in_err-reply g c = λ s h.
    let old = c.args.self.now in
    let new : Executing = record { sessions = c.write_undoable.new.self; numbers = old.numbers; unsettled = old.unsettled } in
    let fault = c.in_err-reply.field-0.0 in
    let e = c.in_err-reply.ensures in
    let shows : Shows new s =
    shows_again c.writes_stay_undoable.ensures old new s e.same e.leaves.0 e.leaves.1 (record { last = refl; changed = λ t. refl; more = λ x i. i; dropped = refl }) refl h in
    let p = err_from_is_err_and c.from_residual.result c.from_residual.ensures.1 in
    let next = standing_of c.write_undoable.new.self in
    let answers : AnswersWrite (written_in s.state (statement_view c.args.write.now)) (Err fault) next =
    subst (λ (x : SessionsStanding). AnswersWrite (written_in x (statement_view c.args.write.now)) (Err fault) next) (sym h.state)
    (subst (λ (x : Statement). AnswersWrite (written_in (standing_of old.sessions) (statement_view x)) (Err fault) next) c.statement.ensures.value e.answers) in
    rw (p.1, p.2) (run_fails (λ x. Shows new x) s c.args.write.now next fault answers shows)

pub returns-in-Err : goal.returns-in-Err
returns-in-Err g c = λ s h.
    let old = c.args.self.now in
    let w = c.write_undoable.new.self in
    let u = c.in_ok-reply.field-0.undo in
    let leaves = c.in_ok-reply.ensures.leaves in
    let new : Executing = record { sessions = c.take_back.new.self; numbers = record { last = old.numbers.last; changed = c.keep_numbers.new.changed; dropped = old.numbers.dropped }; unsettled = old.unsettled } in
    let back = c.take_back.ensures in
    again_back c.writes_stay_undoable.ensures old new s w u leaves.0.undoes leaves.1 c.write_undoable.ensures.beside back.restores back.capacity back.beside
    (record { last = refl; changed = c.keep_numbers.ensures.same; more = c.keep_numbers.ensures.more; dropped = refl }) refl h

pub returns-in-Err-write_reply : goal.returns-in-Err-write_reply
returns-in-Err-write_reply g c = λ s h.
    let old = c.args.self.now in
    let w = c.write_undoable.new.self in
    let u = c.in_ok-reply.field-0.undo in
    let leaves = c.in_ok-reply.ensures.leaves in
    let new : Executing = record { sessions = c.take_back-in-Err-write_reply.new.self; numbers = record { last = old.numbers.last; changed = c.keep_numbers.new.changed; dropped = old.numbers.dropped }; unsettled = old.unsettled } in
    let back = c.take_back-in-Err-write_reply.ensures in
    let reply = c.in_ok-reply.field-0.reply in
    let x = statement_view c.args.write.now in
    let answers : written_in s.state x ≡ Ok (reply, standing_of w) =
    subst (λ (st : SessionsStanding). written_in st x ≡ Ok (reply, standing_of w)) (sym h.state)
    (subst (λ (p : Statement). written_in (standing_of old.sessions) (statement_view p) ≡ Ok (reply, standing_of w)) c.statement.ensures.value c.in_ok-reply.ensures.answers) in (
      meant s.state x (reply, standing_of w) (Err c.in-Err-write_reply.refusal) answers c.in-Err-write_reply.ensures.err,
      again_back c.writes_stay_undoable.ensures old new s w u leaves.0.undoes leaves.1 c.write_undoable.ensures.beside back.restores back.capacity back.beside
          (record { last = refl; changed = c.keep_numbers.ensures.same; more = c.keep_numbers.ensures.more; dropped = refl }) refl h,
    )

pub returns-in-Ok-push : goal.returns-in-Ok-push
returns-in-Ok-push g c = λ s h.
    let old = c.args.self.now in
    let w = c.write_undoable.new.self in
    let u = c.in_ok-reply.field-0.undo in
    let leaves = c.in_ok-reply.ensures.leaves in
    let new : Executing = record { sessions = w; numbers = record { last = old.numbers.last; changed = c.keep_numbers.new.changed; dropped = old.numbers.dropped }; unsettled = c.push.new.self } in
    let reply = c.in_ok-reply.field-0.reply in
    let x = statement_view c.args.write.now in
    let answers : written_in s.state x ≡ Ok (reply, standing_of w) =
    subst (λ (st : SessionsStanding). written_in st x ≡ Ok (reply, standing_of w)) (sym h.state)
    (subst (λ (p : Statement). written_in (standing_of old.sessions) (statement_view p) ≡ Ok (reply, standing_of w)) c.statement.ensures.value c.in_ok-reply.ensures.answers) in
    let ran = made_of s.state (reply, standing_of w) c.in-Ok.done in
    let kept = subst (λ (l : List ℕ). Within l (numbers_in c.keep_numbers.new.changed)) c.as_slice.ensures c.in_default.ensures.ok in (
      after_run s ran,
      (
        record {
          ran = ran;
          meant = meant s.state x (reply, standing_of w) (Ok c.in-Ok.done) answers c.in-Ok.ensures.ok;
          gives = refl;
          leaves = refl;
        },
        shows_run old new s u ran refl c.write_undoable.ensures.beside (tells_run old.sessions w s.state u h.state leaves.0.changed) leaves.0.undoes leaves.1 c.in_ok-reply.ensures.built
            (record { graph = leaves.0.undoes.leads.graph; changed = leaves.0.changed; carried = leaves.0.carried }) (record { last = refl; changed = c.keep_numbers.ensures.same; more = c.keep_numbers.ensures.more; dropped = refl }) kept c.in-Ok-push.ensures.items h,
      ),
    )

pub returns-in-Err-push : goal.returns-in-Err-push
returns-in-Err-push g c = λ s h.
    let old = c.args.self.now in
    let w = c.write_undoable.new.self in
    let u = c.in_ok-reply.field-0.undo in
    let leaves = c.in_ok-reply.ensures.leaves in
    let new : Executing = record { sessions = c.take_back-in-Err-push.new.self; numbers = record { last = old.numbers.last; changed = c.keep_numbers.new.changed; dropped = old.numbers.dropped }; unsettled = c.push.new.self } in
    let back = c.take_back-in-Err-push.ensures in
    let restores = subst (λ (x : Undo). Restores any_meaning (kept_in w) x (kept_in new.sessions)) c.in-Err-push.ensures.value_returned back.restores in
    again_back c.writes_stay_undoable.ensures old new s w u leaves.0.undoes leaves.1 c.write_undoable.ensures.beside restores back.capacity back.beside
    (record { last = refl; changed = c.keep_numbers.ensures.same; more = c.keep_numbers.ensures.more; dropped = refl }) c.in-Err-push.ensures.items h
