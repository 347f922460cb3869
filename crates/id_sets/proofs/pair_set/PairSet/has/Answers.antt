use Rattle.std.proofs.Common.{◌∙◌}
use Rattle.id_sets.proofs.IdPairLaws.{holds_pair-list_any}
use Rattle.id_sets.proofs.pair_set.PairSet.has.Goals as goal

pub returns : goal.returns
returns c = rw (← c.self.view_is) (c.contains.ensures ∙ holds_pair-list_any c.args.a c.args.b c.self.inside.pairs.keys)
