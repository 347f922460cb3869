use Rattle.std.proofs.Common.{◌≡◌, false, map, sym, subst}
use Rattle.version_graph.specs.Forest.{Crossing, crossing}
use Rattle.op_law.specs.Meaning.{PairState}
use Rattle.op_law.specs.Premises.{SomeMap}
use Rattle.version_model.specs.States.{empty_at}
use Rattle.version_model.specs.Steps.{directed, pair_in}
use Rattle.version_model.specs.Calls.{crossing_of, made_state, Crosses}
use Rattle.version_model.proofs.ToldLaws.{some_is}
use Rattle.version_model.proofs.evolve.make_at.Goals as goal

pub cross-requires-clause-may : goal.cross-requires-clause-may
cross-requires-clause-may g c =
    let over = crossing_of c.in-Some.over in
    let now = made_state c.args.before c.args.made.now in
    let meaning = g.O.Operator.meaning in
    let same : over ≡ crossing false c.requires.over = some_is over (crossing false c.requires.over) (c.in-Some.ensures c.requires.over c.requires.here) in
    subst (λ (pair : PairState). SomeMap (directed over.backward (meaning over.operator)) (map now.tables over.near) pair now.next) (sym c.in_ok-old.ensures)
    (subst (λ (p : Crossing _). SomeMap (directed p.backward (meaning p.operator)) (map now.tables p.near) (pair_in (empty_at now.next) p) now.next) (sym same) c.requires.may)

pub returns-clause-makes : goal.returns-clause-makes
returns-clause-makes g c f here =
    let meaning = g.O.Operator.meaning in
    let over = crossing_of c.in-Some.over in
    let before = c.args.before in
    let same : over ≡ crossing false f = some_is over (crossing false f) (c.in-Some.ensures f here) in
    subst (λ (p : Crossing _). Crosses meaning before p (pair_in (empty_at before.next) p) c.args.made.now c.cross.new.made c.cross.result) same
    (subst (λ (pair : PairState). Crosses meaning before over pair c.args.made.now c.cross.new.made c.cross.result) c.in_ok-old.ensures c.cross.ensures.crosses)
