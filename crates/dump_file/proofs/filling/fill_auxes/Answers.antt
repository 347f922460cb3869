use Rattle.std.proofs.Common.{◌≡◌, [], Some, None, map}
use Rattle.dump_values.specs.Dumps.{auxes_seen}
use Rattle.dump_file.specs.Told.{aux_line, has_tables}
use Rattle.dump_file.specs.inner.Filled.{filled}
use Rattle.dump_file.proofs.KeptLemmas.{auxes_filled, no_auxes}
use Rattle.dump_file.proofs.filling.fill_auxes.Goals as goal

pub returns-in-Some : goal.returns-in-Some
returns-in-Some c =
    let is : Some (map aux_line c.in-Some.auxes) ≡ filled has_tables [] c.args.numbers.now (auxes_seen c.args.lines) = rw c.in-Some.is at c.in_ok-auxes.ensures in
    auxes_filled c.args.numbers.now (auxes_seen c.args.lines) c.in-Some.auxes is

pub returns-in-None : goal.returns-in-None
returns-in-None c =
    let none : None ≡ filled has_tables [] c.args.numbers.now (auxes_seen c.args.lines) = rw c.in-None.is at c.in_ok-auxes.ensures in
    λ made numbers told. no_auxes c.args.numbers.now (auxes_seen c.args.lines) made c.requires none numbers told
