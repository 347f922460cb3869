use Rattle.std.proofs.Common.{sym}
use Rattle.script_generator.proofs.PlaceLemmas.{counted_fourths}
use Rattle.script_generator.proofs.places.fourths_below.Goals as goal

pub returns-clause-value : goal.returns-clause-value
returns-clause-value c = sym (counted_fourths c.args.n)
