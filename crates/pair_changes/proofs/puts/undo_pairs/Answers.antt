use Rattle.std.proofs.Common.{◌∙◌}
use Rattle.pair_changes.proofs.ChangedLaws.{difference_makes}
use Rattle.pair_changes.proofs.puts.undo_pairs.Goals as goal

pub change_pairs-requires-clause-old : goal.change_pairs-requires-clause-old
change_pairs-requires-clause-old c = (c.requires.0, c.requires.1.lead)

pub change_pairs-requires-clause-room : goal.change_pairs-requires-clause-room
change_pairs-requires-clause-room c = c.requires.1.room

pub returns-clause-restores : goal.returns-clause-restores
returns-clause-restores c = λ before led.
    c.change_pairs.ensures.pairs
    ∙ difference_makes c.pairs_are_the_memory.ensures c.args.memory.now.entries before c.args.back.now c.is_one_to_one.ensures.rise led.lead.rises led.lead.difference
