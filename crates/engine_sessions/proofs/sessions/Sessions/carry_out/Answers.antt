use Rattle.std.proofs.Common.{sym, subst}
use Rattle.expr_lang.specs.Operations.{text_limit}
use Rattle.statements.specs.Texts.{TextsWithin}
use Rattle.statements.specs.Views.{StatementView, statement_view}
use Rattle.engine_sessions.proofs.FullLemmas.{full_come, full_texts, stay_within}
use Rattle.engine_sessions.proofs.sessions.Sessions.carry_out.Goals as goal

pub returns-in_err-statement-clause-texts : goal.returns-in_err-statement-clause-texts
returns-in_err-statement-clause-texts g c = stay_within (statement_view c.args.statement) c.args.self.now.mover.database.graph.edges

pub returns-in-Err-clause-texts : goal.returns-in-Err-clause-texts
returns-in-Err-clause-texts g c = stay_within (statement_view c.args.statement) c.args.self.now.mover.database.graph.edges

pub event-requires : goal.event-requires
event-requires g c =
    record { texts = subst (λ (x : StatementView). TextsWithin text_limit x) (sym c.in_ok-statement.ensures.full) (full_texts _ (statement_view c.args.statement) c.requires.texts) }

pub returns-in_err-reply-clause-texts : goal.returns-in_err-reply-clause-texts
returns-in_err-reply-clause-texts g c =
    full_come _ (statement_view c.args.statement) (statement_view c.in_ok-statement.statement) c.args.self.now.mover.database.graph.edges c.event.new.self.database.graph.edges c.in_ok-statement.ensures.full c.event.ensures.texts

pub returns-clause-texts : goal.returns-clause-texts
returns-clause-texts g c =
    full_come _ (statement_view c.args.statement) (statement_view c.in_ok-statement.statement) c.args.self.now.mover.database.graph.edges c.event.new.self.database.graph.edges c.in_ok-statement.ensures.full c.event.ensures.texts
