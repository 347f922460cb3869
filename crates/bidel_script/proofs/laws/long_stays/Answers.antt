use Rattle.bidel_script.proofs.LongLaws.{long_stays}
use Rattle.bidel_script.proofs.laws.long_stays.Goals as goal

pub returns : goal.returns
returns c = long_stays
