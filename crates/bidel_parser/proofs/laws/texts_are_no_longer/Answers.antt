use Rattle.bidel_parser.proofs.TextLengthsLaws.{texts_are_said, texts_are_within}
use Rattle.bidel_parser.proofs.laws.texts_are_no_longer.Goals as goal

pub returns-clause-said : goal.returns-clause-said
returns-clause-said c = texts_are_said

pub returns-clause-within : goal.returns-clause-within
returns-clause-within c = texts_are_within
