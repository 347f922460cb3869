use Rattle.row_changes.proofs.DifferenceLaws.{difference_of_part, differences_of_part}
use Rattle.row_changes.proofs.laws.parts_differ.Goals as goal

pub returns : goal.returns
returns c = record { table = difference_of_part; side = differences_of_part }
