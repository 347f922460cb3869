use Rattle.std.proofs.Common.{take}
use Rattle.csv_io.specs.Tables.{csv_text}
use Rattle.csv_io.specs.inner.Writing.{HasWritten}
use Rattle.csv_io.proofs.write.rows_csv.Given as goal

abbrev pub invariant-loop-row : goal.invariant-loop-row
invariant-loop-row l = HasWritten l.writer (csv_text l.header (take l.row-index l.rows))
