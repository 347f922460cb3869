use Rattle.std.proofs.Common.{sym, ◌∙◌}
use Rattle.std.proofs.lemmas.Bool.{eqb-true}
use Rattle.write_propagation.proofs.OwnLemmas.{found_has}
use Rattle.write_propagation.proofs.parting.has.Goals as goal

pub returns-in-Some : goal.returns-in-Some
returns-in-Some c is = found_has c.args.ids.now c.in-Ok.at _ c.args.id c.in-Ok.ensures.bound (sym c.in-Some.ensures.lookup.1 ∙ eqb-true c.in-Some.found.now c.args.id is)
