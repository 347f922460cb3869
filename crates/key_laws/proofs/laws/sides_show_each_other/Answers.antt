use Rattle.key_laws.proofs.SidesShownLemmas.{referring_shown, alone_shown, joined_shown, pair_shown}
use Rattle.key_laws.proofs.laws.sides_show_each_other.Goals as goal

pub returns-clause-referring : goal.returns-clause-referring
returns-clause-referring c = referring_shown

pub returns-clause-alone : goal.returns-clause-alone
returns-clause-alone c = alone_shown

pub returns-clause-joined : goal.returns-clause-joined
returns-clause-joined c = joined_shown

pub returns-clause-paired : goal.returns-clause-paired
returns-clause-paired c = pair_shown
