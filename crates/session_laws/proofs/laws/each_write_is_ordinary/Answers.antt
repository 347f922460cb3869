use Rattle.session_laws.proofs.WrittenLemmas.{writes_in_full, writes_ordinary}
use Rattle.session_laws.proofs.laws.each_write_is_ordinary.Goals as goal

pub returns-clause-in_session : goal.returns-clause-in_session
returns-clause-in_session c = writes_ordinary c.writes_are_by_identifier.ensures.inserts c.writes_are_by_identifier.ensures.updates c.writes_are_by_identifier.ensures.deletes

pub returns-clause-in_full : goal.returns-clause-in_full
returns-clause-in_full c = writes_in_full c.writes_are_by_identifier.ensures.inserts c.writes_are_by_identifier.ensures.updates c.writes_are_by_identifier.ensures.deletes
