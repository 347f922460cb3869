use Rattle.op_law.proofs.SoundLaws.{tables_more, pairs_more}
use Rattle.op_law.proofs.laws.sound_stays_sound.Goals as goal

pub returns-clause-tables : goal.returns-clause-tables
returns-clause-tables c = λ n k tables more sound. tables_more n k more tables sound

pub returns-clause-memory : goal.returns-clause-memory
returns-clause-memory c = λ n k pairs more sound. pairs_more n k more pairs sound
