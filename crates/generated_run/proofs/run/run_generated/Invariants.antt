use Rattle.generated_run.proofs.run.run_generated.Given as goal

-- the ledger is the one that the blank names
abbrev pub ghosts-run_counted : goal.ghosts-run_counted
ghosts-run_counted a = record { name = a.blank.name; parts = a.blank.parts }
