use Rattle.run_words.proofs.OneLemmas.{say_one_thing}
use Rattle.run_words.proofs.laws.words_say_one_thing.Goals as goal

pub returns : goal.returns
returns c = say_one_thing
