use Rattle.op_law.proofs.SoundTermLaws.{val_sound, term_more}
use Rattle.op_law.proofs.laws.sound_terms_have_sound_values.Goals as goal

pub returns-clause-values : goal.returns-clause-values
returns-clause-values c = val_sound

pub returns-clause-terms : goal.returns-clause-terms
returns-clause-terms c = λ n k e more sound. term_more n k more e sound
