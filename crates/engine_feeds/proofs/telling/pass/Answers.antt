-- Nobody is told.
use Rattle.std.proofs.Common.{ap, ◌∙◌}
use Rattle.statements.specs.Views.{statement_view}
use Rattle.engine_transactions.specs.EngineSessionsStanding.{kept_in as kept_beside}
use Rattle.engine_feeds.proofs.TellLemmas.{graph_at, pass_carries}
use Rattle.engine_feeds.proofs.telling.pass.Goals as goal

pub returns : goal.returns
returns g c = λ watches nothing is. (
    let old = c.args.kept.now in
    let graph = graph_at old c.engine.result.now (c.engine.ensures ∙ ap kept_beside c.sessions.ensures) c.versions_always_agree.ensures.graph in
    pass_carries (statement_view c.args.statement) old c.event.new.self watches c.event.result graph c.event.ensures.answers c.event.ensures.same c.event.ensures.answer c.event.ensures.keeps c.event.ensures.idle nothing is)
