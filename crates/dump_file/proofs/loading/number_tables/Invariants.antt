use Rattle.std.proofs.Common.{◌≡◌, map}
use Rattle.dump_values.specs.Dumps.{stored_seen}
use Rattle.dump_file.specs.Told.{stored_line}
use Rattle.dump_file.proofs.loading.number_tables.Given as goal

abbrev pub invariant-loop-number : goal.invariant-loop-number
invariant-loop-number l = map stored_line l.made ≡ stored_seen l.yielded
