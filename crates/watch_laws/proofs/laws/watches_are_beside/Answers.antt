use Rattle.watch_laws.proofs.BesideLaws.{others_beside, stands_beside, unwatched_beside}
use Rattle.watch_laws.proofs.laws.watches_are_beside.Goals as goal

pub returns-clause-stands : goal.returns-clause-stands
returns-clause-stands c = stands_beside

pub returns-clause-replies : goal.returns-clause-replies
returns-clause-replies c = others_beside

pub returns-clause-unwatched : goal.returns-clause-unwatched
returns-clause-unwatched c = unwatched_beside
