use Rattle.std.proofs.Common.{ap, ◌∙◌}
use Rattle.std.specs.Prelude.{is_some}
use Rattle.version_model.proofs.LiveLaws.{live_operator, lent_is_some}
use Rattle.version_model.proofs.live.is_live_operator.Goals as goal

pub returns : goal.returns
returns g c = c.is_some.ensures ∙ lent_is_some c.edge.result ∙ ap is_some c.edge.ensures ∙ live_operator c.args.graph.now.edges c.args.number
