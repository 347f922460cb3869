use Rattle.std.proofs.Common.{drop}
use Rattle.session_tx.specs.Commits.{RanFrom}
use Rattle.session_tx.proofs.running.run_all.Given as goal

abbrev pub invariant-loop-write : goal.invariant-loop-write
invariant-loop-write g l = RanFrom (g.E.Executor.stands l.fn.at) (g.E.Executor.stands l.at) g.E.Executor.means l.writes (drop l.write-index l.writes) l.dones
