use Rattle.watch_laws.proofs.UnseenLaws.{same_replies, same_watches}
use Rattle.watch_laws.proofs.laws.moves_change_no_reply.Goals as goal

pub returns-clause-replies : goal.returns-clause-replies
returns-clause-replies c = same_replies

pub returns-clause-watches : goal.returns-clause-watches
returns-clause-watches c = same_watches
