use Rattle.outer_entries.proofs.FindingLemmas.{none_has}
use Rattle.outer_entries.proofs.finding.none_found.Goals as goal

pub returns : goal.returns
returns c = none_has _ c.new.ensures c.new-2.ensures c.new-3.ensures
