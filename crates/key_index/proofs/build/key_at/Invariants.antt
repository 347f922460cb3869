use Rattle.std.proofs.Common.{◌≡◌, take}
use Rattle.key_index.specs.Tables.{key_in}
use Rattle.key_index.proofs.build.key_at.Given as goal

abbrev pub invariant-loop-column : goal.invariant-loop-column
invariant-loop-column l = l.key.items ≡ key_in (take l.column-index l.columns) l.row
