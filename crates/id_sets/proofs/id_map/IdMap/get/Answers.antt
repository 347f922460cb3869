use Rattle.std.proofs.Common.{sym, ◌∙◌}
use Rattle.id_sets.proofs.IdNumberLaws.{number_of_id-lookup}
use Rattle.id_sets.proofs.id_map.IdMap.get.Goals as goal

pub returns : goal.returns
returns c = rw (← c.self.view_is) (c.copied.ensures ∙ c.get.ensures.value ∙ sym (number_of_id-lookup c.self.inside.numbers.entries c.args.id))
