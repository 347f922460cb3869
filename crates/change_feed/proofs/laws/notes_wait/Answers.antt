use Rattle.change_feed.proofs.FeedLaws.{cleared, told}
use Rattle.change_feed.proofs.laws.notes_wait.Goals as goal

pub returns : goal.returns
returns c = record { told = told; cleared = cleared }
