use Rattle.engine_core.proofs.LeftLemmas.{built_empty}
use Rattle.kept_keys.proofs.KeptLaws.{no_keys}
use Rattle.engine_core.proofs.engine.Engine.new.Goals as goal

pub invariant_of-result : goal.invariant_of-result
invariant_of-result c = (built_empty c.new-database.result c.args.limits.max_id c.new-database.ensures.empty, no_keys _ _ c.new-keys.ensures.items)
