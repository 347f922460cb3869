use Rattle.std.specs.Prelude.{option_map}
use Rattle.std.proofs.Common.{◌≡◌, ◌++◌, [], drop, map}
use mathlib.Core.List.{reverse}
use Rattle.dump_values.specs.Dumps.{auxes_seen}
use Rattle.dump_file.specs.Told.{aux_line, has_tables}
use Rattle.dump_file.specs.inner.Filled.{filled}
use Rattle.dump_file.proofs.filling.each_aux.Given as goal

-- the entries so far, and those that the other operators get
abbrev pub invariant-loop-number : goal.invariant-loop-number
invariant-loop-number l = filled has_tables [] l.numbers (auxes_seen l.fn.lines)
    ≡ option_map (λ rest. map aux_line l.made ++ rest) (filled has_tables [] (drop l.number-index l.numbers) (auxes_seen (reverse l.auxes_left.items)))
