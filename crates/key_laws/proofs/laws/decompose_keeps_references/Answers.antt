use Rattle.key_laws.proofs.DecomposedLemmas.{unchanged_keeps, same_part_keeps, alone_refers, alone_stays}
use Rattle.key_laws.proofs.laws.decompose_keeps_references.Goals as goal

pub returns-clause-kept : goal.returns-clause-kept
returns-clause-kept c = unchanged_keeps

pub returns-clause-same_part : goal.returns-clause-same_part
returns-clause-same_part c = same_part_keeps

pub returns-clause-itself : goal.returns-clause-itself
returns-clause-itself c = alone_refers

pub returns-clause-alone : goal.returns-clause-alone
returns-clause-alone c = alone_stays
