use Rattle.std.proofs.Common.{◌≡◌, map, take}
use Rattle.serde_json.specs.View.{view}
use Rattle.dump_values.specs.Lines.{stored_json}
use Rattle.dump_file.specs.Told.{stored_line}
use Rattle.dump_file.proofs.writing.write_all_stored.Given as goal

abbrev pub invariant-loop-item : goal.invariant-loop-item
invariant-loop-item l = map view l.items.items ≡ map stored_json (map stored_line (take l.item-index l.stored))
