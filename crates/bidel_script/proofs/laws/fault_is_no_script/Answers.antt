use Rattle.bidel_script.proofs.UniqueLaws.{fault_is_no_script}
use Rattle.bidel_script.proofs.laws.fault_is_no_script.Goals as goal

pub returns : goal.returns
returns c = fault_is_no_script
