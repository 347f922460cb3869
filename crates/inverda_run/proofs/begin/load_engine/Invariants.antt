use Rattle.inverda_run.proofs.begin.load_engine.Given as goal

-- the ledger is the one that the blank names
abbrev pub ghosts-load_from : goal.ghosts-load_from
ghosts-load_from g a = record { name = a.blank.name; parts = a.blank.parts }
