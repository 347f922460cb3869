use Rattle.std.proofs.Common.{◌∙◌}
use Rattle.json_members.proofs.TreeLemmas.{has_place}
use Rattle.json_members.proofs.members.has_key.Goals as goal

pub returns : goal.returns
returns c = c.is_some.ensures ∙ has_place c.args.key.now c.args.members.now c.place_of.result c.place_of.ensures
