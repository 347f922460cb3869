use Rattle.std.proofs.Common.{◌∙◌}
use Rattle.id_sets.proofs.IdLaws.{put_id-insert_key}
use Rattle.id_sets.proofs.id_set.IdSet.insert.Goals as goal

pub returns-clause-ok : goal.returns-clause-ok
returns-clause-ok c = rw (← c.self.view_is) (c.in_ok-insert.ensures.keys ∙ put_id-insert_key c.args.id c.self.inside.ids.keys)
