use Rattle.std.proofs.Common.{drop}
use Rattle.session_tx.specs.Commits.{ReadFrom}
use Rattle.session_tx.proofs.reading.stale_read.Given as goal

abbrev pub invariant-loop-index : goal.invariant-loop-index
invariant-loop-index g l = ReadFrom (g.E.Executor.stands l.at) l.reads (drop l.index l.reads) l.index
