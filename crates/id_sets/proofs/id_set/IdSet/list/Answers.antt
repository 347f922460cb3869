use Rattle.std.proofs.Common.{◌≡◌, rules}
use Rattle.id_sets.proofs.IdLaws.{IdsRise-sorted}
use Rattle.id_sets.proofs.id_set.IdSet.list.Goals as goal

pub returns-clause-rise : goal.returns-clause-rise
returns-clause-rise c =
    let rise = IdsRise-sorted c.self.inside.ids.keys c.iter-id-items.ensures.ordered in
    let all : c.loop-id.ids ≡ c.args.self.now = search rules in
    rw (all, ← c.self.view_is) rise
