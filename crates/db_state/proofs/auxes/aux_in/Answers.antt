use Rattle.std.proofs.Common.{◌≡◌, Some, None}
use Rattle.op_law.specs.Calls.{seen}
use Rattle.version_model.specs.Calls.{crossing_of, made_state, seen_from}
use Rattle.db_state.proofs.AuxLaws.{far_few, near_few, some_pair}
use Rattle.db_state.proofs.BoundLaws.{aux_within}
use Rattle.db_state.proofs.auxes.aux_in.Goals as goal

pub unreachable-requires : goal.unreachable-requires
unreachable-requires g c =
    let known = c.requires.related in
    let clash : None ≡ Some _ = c.in_default.ensures known.over known.lives known.number in
    (let no : ⊥ = cc in no)

pub pair_now-requires-clause-near : goal.pair_now-requires-clause-near
pair_now-requires-clause-near g c =
    near_few g.O.Operator.meaning c.args.graph.now.edges c.args.layout.now.operators (made_state c.args.before c.args.made.now) c.args.number (crossing_of c.in-Some.over) c.requires.related c.in-Some.ensures

pub pair_now-requires-clause-far : goal.pair_now-requires-clause-far
pair_now-requires-clause-far g c =
    far_few g.O.Operator.meaning c.args.graph.now.edges c.args.layout.now.operators (made_state c.args.before c.args.made.now) c.args.number (crossing_of c.in-Some.over) c.requires.related c.in-Some.ensures

pub aux_over-requires : goal.aux_over-requires
aux_over-requires g c =
    some_pair g.O.Operator.meaning c.args.graph.now.edges c.args.layout.now.operators (made_state c.args.before c.args.made.now) c.args.number (crossing_of c.in-Some.over) c.requires.related c.in-Some.ensures
    _ c.in_ok-pair.ensures

pub returns-clause-steps : goal.returns-clause-steps
returns-clause-steps g c =
    let q = crossing_of c.in-Some.over in
    let s = made_state c.args.before c.args.made.now in
    aux_within g.O.Operator.meaning c.args.graph.now.edges s c.args.layout.now.operators c.args.number q (seen_from q.backward (seen c.in_ok-pair.pair)) c.args.steps.now c.aux_over.new.steps c.requires.related c.in-Some.ensures c.in_ok-pair.ensures c.aux_over.ensures.steps
