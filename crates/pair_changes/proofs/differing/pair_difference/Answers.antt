use Rattle.pair_changes.proofs.differing.pair_difference.Goals as goal

pub returns-clause-lead : goal.returns-clause-lead
returns-clause-lead c = record { rises = c.is_one_to_one-2.ensures.rise; one = c.is_one_to_one-2.ensures.one; difference = c.in_ok-changes.ensures }

pub returns-clause-makes : goal.returns-clause-makes
returns-clause-makes c = c.changed_pairs_are_changed.ensures.difference c.args.old.now.entries c.args.new.now.entries c.in_ok-changes.changes c.is_one_to_one.ensures.rise c.is_one_to_one-2.ensures.rise c.in_ok-changes.ensures
