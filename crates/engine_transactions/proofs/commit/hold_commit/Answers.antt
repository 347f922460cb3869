-- The runs of a transaction, with its accesses counted.
use Rattle.std.proofs.Common.{false, List, ap, ◌∙◌}
use Rattle.op_any.specs.Operators.{AnyView}
use Rattle.db_state.specs.declared.parts.Parts.{Parts}
use Rattle.version_graph.specs.Edges.{Drawn}
use Rattle.layout_planner.specs.declared.planning.TableCount.{TableCount}
use Rattle.session_tx.specs.Serial.{end_of}
use Rattle.engine_state.specs.declared.reply.Reply.TheVariants.{Committed}
use Rattle.engine_state.specs.declared.reply.WriteReply.{WriteReply}
use Rattle.engine_sessions.specs.Accesses.{kept_behind}
use Rattle.engine_sessions.specs.Standing.{Standing as SessionsStanding, standing_of}
use Rattle.engine_sessions.specs.declared.answer.Answer.TheVariants.{Plain}
use Rattle.engine_transactions.proofs.commit.hold_commit.Goals as goal

pub returns-in-Ok-clause-holds : goal.returns-in-Ok-clause-holds
returns-in-Ok-clause-holds g c =
    let all = c.in-Ok.ensures.runs in
    let graph = c.graph.ensures.graph ∙ ap (λ (k : Parts AnyView). k.graph) (c.database.ensures.database ∙ c.engine.ensures) in
    record {
      runs = all.runs;
      run = all.run;
      answer = ap (λ (rs : List WriteReply). Plain (Committed rs)) all.gives;
      counts =
          c.keep_behind-counts.ensures
          ∙ ap (λ (h : Drawn AnyView). kept_behind false h.edges c.in_ok-counts.counts) graph
          ∙ ap (λ (s : SessionsStanding). kept_behind false s.laid.database.graph.edges c.in_ok-counts.counts) all.run.ends
          ∙ ap (λ (l : List TableCount). kept_behind false (end_of (standing_of c.args.at.now.sessions) all.runs).laid.database.graph.edges l) c.in_ok-counts.ensures;
    }
