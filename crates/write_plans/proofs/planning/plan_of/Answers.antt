use Rattle.db_state.specs.Parts.{passes}
use Rattle.write_plans.proofs.MemoryLemmas.{memories_are}
use Rattle.write_plans.proofs.planning.plan_of.Goals as goal

pub returns-clause-plans : goal.returns-clause-plans
returns-clause-plans g c =
    let making = c.args.making in
    let are = memories_are making.copies.memories c.as_slice.result.now making.made.memories c.as_slice-2.result.now c.args.tree.now.operators c.as_slice-3.result.now c.in_ok-memories.memories
    c.as_slice.ensures c.as_slice-2.ensures c.as_slice-3.ensures c.in_ok-memories.ensures in
    c.in_ok-plan.ensures (passes c.args.sight) making.copies c.in_ok-auxes.ensures.changes are
