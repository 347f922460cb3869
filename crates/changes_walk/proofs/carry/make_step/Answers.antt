use Rattle.std.proofs.Common.{subst, sym}
use Rattle.std.proofs.lemmas.Result.{on_ok_weaker}
use Rattle.version_graph.specs.Forest.{Crossing}
use Rattle.version_model.specs.Calls.{crossing_of}
use Rattle.version_model.proofs.ToldLaws.{told_is}
use Rattle.changes_walk.specs.Bounds.{CrossesOnly, CrossesWithin}
use Rattle.changes_walk.specs.Calls.{CrossesBy, MayCrossBy}
use Rattle.changes_walk.proofs.carry.make_step.Goals as goal

pub cross-requires : goal.cross-requires
cross-requires g c =
    let p = c.requires.over in
    let q = crossing_of c.in-Some.over in
    let same = told_is c.args.graph.now.edges c.args.step p q c.requires.crosses c.requires.tells c.in-Some.ensures in
    subst (λ (x : Crossing _). MayCrossBy g.O.Operator.meaning (g.D.StateRead.state c.args.rows.now) c.args.made.now x) (sym same) c.requires.may

pub returns-clause-crosses : goal.returns-clause-crosses
returns-clause-crosses g c p crosses tells =
    let q = crossing_of c.in-Some.over in
    let same = told_is c.args.graph.now.edges c.args.step p q crosses tells c.in-Some.ensures in
    subst (λ (x : Crossing _). CrossesBy g.O.Operator.meaning (g.D.StateRead.state c.args.rows.now) x c.args.made.now c.cross.new.made c.cross.result) same c.cross.ensures.crosses

pub returns-clause-steps : goal.returns-clause-steps
returns-clause-steps g c p crosses tells =
    let q = crossing_of c.in-Some.over in
    let same = told_is c.args.graph.now.edges c.args.step p q crosses tells c.in-Some.ensures in
    subst (λ (x : Crossing _). CrossesWithin g.O.Operator.meaning x c.args.made.now c.args.steps.now c.cross.new.steps) same c.cross.ensures.steps

pub returns-clause-only : goal.returns-clause-only
returns-clause-only g c =
    let q = crossing_of c.in-Some.over in
    on_ok_weaker c.cross.result
    (λ names p crosses tells.
    let same = told_is c.args.graph.now.edges c.args.step p q crosses tells c.in-Some.ensures in
    subst (λ (x : Crossing _). CrossesOnly g.O.Operator.meaning x c.args.made.now c.cross.new.made) same names)
    c.cross.ensures.only
