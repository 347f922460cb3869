use Rattle.ordinary_table.proofs.PinnedLaws.{pinned_stand_alone}
use Rattle.ordinary_table.proofs.laws.pinned_rows_stand_alone.Goals as goal

pub returns : goal.returns
returns c = pinned_stand_alone
