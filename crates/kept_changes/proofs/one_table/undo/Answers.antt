use Rattle.kept_changes.proofs.one_table.undo.Goals as goal

pub undo-requires : goal.undo-requires
undo-requires c = record { applied = (c.requires.0, c.requires.1.0, c.requires.1.1, c.requires.1.2) }

pub returns-clause-restores : goal.returns-clause-restores
returns-clause-restores c = λ before back. (c.undo.ensures.restores before back.0 back.1).0
