use Rattle.std.proofs.Common.{◌≡◌, map}
use Rattle.serde_json.specs.View.{view}
use Rattle.dump_values.specs.Pairs.{triple_json}
use Rattle.dump_values.proofs.pairs.write_pairs.Given as goal

abbrev pub invariant-loop-p : goal.invariant-loop-p
invariant-loop-p l = map view l.items.items ≡ map triple_json l.yielded
