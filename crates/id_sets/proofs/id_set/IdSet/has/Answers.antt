use Rattle.std.proofs.Common.{◌∙◌}
use Rattle.id_sets.proofs.IdLaws.{has_id-list_any}
use Rattle.id_sets.proofs.id_set.IdSet.has.Goals as goal

pub returns : goal.returns
returns c = rw (← c.self.view_is) (c.contains.ensures ∙ has_id-list_any c.args.id c.self.inside.ids.keys)
