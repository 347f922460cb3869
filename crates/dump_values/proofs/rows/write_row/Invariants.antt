use Rattle.std.proofs.Common.{◌≡◌, ◌∷◌, map, take}
use Rattle.serde_json.specs.View.{view}
use Rattle.json_members.specs.Members.{number_json}
use Rattle.dump_values.specs.Values.{value_json}
use Rattle.dump_values.proofs.rows.write_row.Given as goal

abbrev pub invariant-loop-value : goal.invariant-loop-value
invariant-loop-value l = map view l.items.items ≡ number_json l.id ∷ map value_json (take l.value-index l.row)
