use Rattle.std.proofs.Common.{refl}
use Rattle.std.specs.Cmp.{unsigned_tied}
use Rattle.id_sets.proofs.IdNumberLaws.{number_of_id-lookup}
use Rattle.id_sets.proofs.id_map.IdMap.insert.Goals as goal

pub returns-clause-ok : goal.returns-clause-ok
returns-clause-ok c = λ other.
    let here = unsigned_tied c.args.id other in
    let before = number_of_id-lookup c.self.inside.numbers.entries other in
    let now = number_of_id-lookup c.insert.new.self.entries other in
    let step = c.in_ok-insert.ensures.updates.0 other in
    rw (← c.self.view_is, before, now, step, here) refl
