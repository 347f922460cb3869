use Rattle.row_changes.proofs.ChangedLaws.{is_changed}
use Rattle.row_changes.proofs.laws.changed_is_changed.Goals as goal

pub returns : goal.returns
returns c = is_changed
