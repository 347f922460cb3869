use Rattle.std.proofs.Common.{◌≡◌, map, take}
use Rattle.tx_history.proofs.table_read.read_tables.Given as goal

abbrev pub invariant-loop-read : goal.invariant-loop-read
invariant-loop-read l = l.tables ≡ map (λ read. read.0.table) (take l.read-index l.reads)
