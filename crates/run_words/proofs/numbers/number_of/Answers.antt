use Rattle.std.proofs.Common.{rules}
use Rattle.run_words.proofs.NumberLemmas.{none_parsed}
use Rattle.run_words.proofs.numbers.number_of.Goals as goal

pub returns-in_default-3 : goal.returns-in_default-3
returns-in_default-3 c = none_parsed c.args.text.now c.parse.result c.in_default.field-0 c.parse.ensures.value.0 (search rules) (search rules)
