use Rattle.row_parts.specs.Partition.{divides}
use Rattle.row_parts.proofs.laws.places_divide_a_row.Goals as goal

pub returns : goal.returns
returns c = divides
