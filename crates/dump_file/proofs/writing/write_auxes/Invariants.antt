use Rattle.std.proofs.Common.{◌≡◌, map, take}
use Rattle.serde_json.specs.View.{view}
use Rattle.dump_values.specs.Lines.{aux_json}
use Rattle.dump_file.specs.Told.{auxes_told}
use Rattle.dump_file.proofs.writing.write_auxes.Given as goal

abbrev pub invariant-loop-item : goal.invariant-loop-item
invariant-loop-item l = map view l.items.items ≡ map aux_json (auxes_told (take l.item-index l.auxes))
