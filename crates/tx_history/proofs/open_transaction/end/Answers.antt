-- The others stay.
use Rattle.std.proofs.Common.{ap, ◌∙◌}
use Rattle.tx_history.specs.Opens.{opens_view}
use Rattle.tx_history.proofs.OpenLaws.{without_view}
use Rattle.tx_history.proofs.open_transaction.end.Goals as goal

pub returns : goal.returns
returns c = ap opens_view c.keep_others.ensures ∙ without_view c.args.opens.now.items c.args.session
