use Rattle.sought_ids.proofs.SoughtLemmas.{keys_wide}
use Rattle.sought_ids.proofs.keys.keys_beside.Goals as goal

pub new-requires : goal.new-requires
new-requires c = keys_wide c.args.items.now _ c.args.place c.in-Some.keys.now.rows c.requires c.in-Some.ensures
