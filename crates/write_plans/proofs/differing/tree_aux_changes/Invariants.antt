use Rattle.std.proofs.Common.{◌≤◌, length, take}
use Rattle.db_state.specs.Parts.{SeenWithin, passes}
use Rattle.write_plans.specs.Making.{AreAuxChanges}
use Rattle.write_plans.proofs.differing.tree_aux_changes.Given as goal

abbrev pub invariant-loop-number : goal.invariant-loop-number
invariant-loop-number g l = record {
  so_far : AreAuxChanges g.O.Operator.meaning l.db (passes l.sight) l.making (take l.number-index l.tree.operators) l.changes;
  inside : l.number-index ≤ length l.tree.operators;
  took : SeenWithin 8 l.sight l.number-index l.fn.steps l.steps;
}
