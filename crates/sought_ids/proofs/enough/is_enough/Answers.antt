use Rattle.std.proofs.Common.{List, false, ◌∙◌, subst}
use Rattle.std.proofs.lemmas.List.{take_all}
use Rattle.version_graph.specs.Sets.{Each}
use Rattle.version_graph.specs.declared.parts.Step.{Step}
use Rattle.sought_ids.specs.Sought.{kept_in, SeesOver, SeesStep}
use Rattle.sought_ids.proofs.SoughtLemmas.{step_more, walk_seen}
use Rattle.sought_ids.proofs.enough.is_enough.Goals as goal

pub loop-step-preserved : goal.loop-step-preserved
loop-step-preserved g c =
    let carried = c.args.carried in
    step_more c.args.graph.now.edges carried.operators.now (SeesOver g.O.Operator.meaning g.O.Seeks.seeks (kept_in carried.kept) carried.made.now c.args.ids.now) c.as_slice-step-items.result.now c.loop-step.step-index
    (record { operator = 0; backward = false }) c.loop-step-test.true c.loop-step.invariant (c.in_ok-is_enough_step.ensures c.if-not-branch.false)

pub returns : goal.returns
returns g c is =
    let carried = c.args.carried in
    let es = c.args.graph.now.edges in
    let Sees = SeesOver g.O.Operator.meaning g.O.Seeks.seeks (kept_in carried.kept) carried.made.now c.args.ids.now in
    let steps = c.as_slice-step-items.result.now in
    walk_seen es carried.operators.now Sees c.requires.edges carried.set steps (c.as_slice-step-items.ensures ∙ c.in_ok-walk.ensures)
    (subst (λ (l : List Step). Each (SeesStep es carried.operators.now Sees) l) (take_all c.loop-step.step-index steps c.loop-step-test.false) c.loop-step.invariant)
