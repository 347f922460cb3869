use Rattle.bidel_script.proofs.MovedLaws.{used_bytes_go}
use Rattle.bidel_script.proofs.laws.used_bytes_go.Goals as goal

pub returns : goal.returns
returns c = used_bytes_go
