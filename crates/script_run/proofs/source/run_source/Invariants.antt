use Rattle.script_run.proofs.source.run_source.Given as goal

-- the ledger is the one that the blank names
abbrev pub ghosts-run_script : goal.ghosts-run_script
ghosts-run_script g a = record { name = a.blank.name; parts = a.blank.parts }
