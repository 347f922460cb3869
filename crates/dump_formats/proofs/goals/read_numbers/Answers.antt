use Rattle.dump_formats.proofs.SpelledLemmas.{no_number}
use Rattle.dump_formats.proofs.goals.read_numbers.Goals as goal

pub returns-in_default : goal.returns-in_default
returns-in_default c ns each same =
    no_number ns c.args.items.now c.loop-item.item-index c.item-item.result c.loop-item-test.true c.item-item.is c.in_default.ensures each same
