-- The write, with its access counted.
use Rattle.std.proofs.Common.{◌≡◌, ℕ, false, List, Err, sym, ap, subst, ◌∙◌}
use Rattle.layout_rules.proofs.AfterLaws.{same_layout}
use Rattle.op_any.specs.Operators.{AnyView, any_meaning}
use Rattle.db_state.specs.Fields.{IsDatabase, database_for}
use Rattle.db_state.specs.declared.parts.Parts.{Parts}
use Rattle.statements.specs.Views.{statement_view}
use Rattle.statements.specs.declared.statement.Statement.{Statement}
use Rattle.engine_sessions.specs.Pending.{IsPending}
use Rattle.version_graph.specs.Edges.{Drawn}
use Rattle.layout_planner.specs.declared.planning.TableCount.{TableCount}
use Rattle.engine_state.specs.declared.reply.Reply.{Reply}
use Rattle.engine_sessions.specs.Standing.{kept_in, standing_of}
use Rattle.engine_sessions.specs.Accesses.{accessed, kept_behind, raised_by}
use Rattle.engine_sessions.specs.Calls.{IsAnswer}
use Rattle.engine_sessions.specs.declared.answer.Answer.TheVariants.{Plain}
use Rattle.engine_transactions.specs.Calls.{reply_of, standing_in}
use Rattle.engine_transactions.specs.Runs.{IsRunOne, RunsOne}
use Rattle.engine_transactions.proofs.KindLemmas.{is_write}
use Rattle.engine_transactions.proofs.LeftLemmas.{pending_stays, prints}
use Rattle.engine_transactions.proofs.WroteLemmas.{counts_behind, full_fails, full_written}
use Rattle.engine_transactions.proofs.commit.hold_full.Goals as goal

pub returns-in-Err-clause-holds : goal.returns-in-Err-clause-holds
returns-in-Err-clause-holds g c =
    let at = c.args.at.now in
    let s = standing_of at.sessions in
    let is = subst (λ (k : Parts AnyView). IsDatabase any_meaning k) c.engine.ensures c.versions_always_agree.ensures.stored in
    let layout = same_layout (kept_in at.sessions).graph is.graph s.laid.layout is.valid in
    let pending = pending_stays s s.laid.layout (subst (λ (l : List ℕ). IsPending s.laid.database.graph.edges s.laid.layout l) c.pending-pending.ensures.value c.pending-pending.ensures.leads) in
    let write = is_write (statement_view c.args.statement) c.requires.write in
    let runs = subst (λ (x : Statement). RunsOne (statement_view x) at c.run_one.new.at (Err c.in-Err.fault)) c.new-write.ensures c.in-Err.ensures.runs in
    full_fails at c.run_one.new.at (statement_view c.args.statement) write layout pending c.in-Err.fault runs

pub returns-in-Ok-clause-holds : goal.returns-in-Ok-clause-holds
returns-in-Ok-clause-holds g c =
    let at = c.args.at.now in
    let s = standing_of at.sessions in
    let is = subst (λ (k : Parts AnyView). IsDatabase any_meaning k) c.engine.ensures c.versions_always_agree.ensures.stored in
    let layout = same_layout (kept_in at.sessions).graph is.graph s.laid.layout is.valid in
    let pending = pending_stays s s.laid.layout (subst (λ (l : List ℕ). IsPending s.laid.database.graph.edges s.laid.layout l) c.pending-pending.ensures.value c.pending-pending.ensures.leads) in
    let write = is_write (statement_view c.args.statement) c.requires.write in
    let x = statement_view c.args.statement in
    let one = subst (λ (y : Statement). IsRunOne (statement_view y) at c.run_one.new.at c.in-Ok.done) c.new-write.ensures c.in-Ok.ensures.runs in
    let here = c.database-database.ensures.database ∙ c.engine-2.ensures in
    let raised =
    c.in_ok-counts.ensures
    ∙ ap (λ (l : List TableCount). raised_by l (accessed (database_for any_meaning c.database-database.result.now) x)) c.counts.ensures
    ∙ ap (λ (k : Parts AnyView). raised_by s.counts (accessed (database_for any_meaning k) x)) here in
    let counts : c.keep_behind-counts.result ≡ counts_behind s x =
    c.keep_behind-counts.ensures
    ∙ ap (λ (h : Drawn AnyView). kept_behind false h.edges c.in_ok-counts.counts) (c.graph.ensures.graph ∙ ap (λ (k : Parts AnyView). k.graph) here)
    ∙ ap (λ (l : List TableCount). kept_behind false s.laid.database.graph.edges l) raised in
    let answer : Plain c.reply_of.result ≡ Plain (reply_of one.ran.done) = ap (λ (r : Reply). Plain r) (c.reply_of.ensures ∙ ap reply_of one.gives) in
    record {
      written = x;
      ran = one.ran;
      run = one.run;
      prints = subst (λ (r : Reply). IsAnswer (Plain r)) (sym c.reply_of.ensures) (prints c.in-Ok.done);
      acts = λ opens. full_written (standing_in at opens) x write layout pending one.ran one.meant (Plain c.reply_of.result) answer c.keep_behind-counts.result counts;
    }
