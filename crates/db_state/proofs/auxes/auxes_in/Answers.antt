use Rattle.std.proofs.Common.{◌+◌, List, get_or, take, sym, subst, arith}
use Rattle.version_graph.proofs.SetLaws.{each_at}
use Rattle.version_graph.proofs.WalkStepLaws.{in_at}
use Rattle.op_law.specs.declared.side.Aux.{Aux}
use Rattle.version_model.specs.Calls.{made_state}
use Rattle.version_model.specs.declared.numbered.Numbered.{Numbered}
use Rattle.db_state.specs.Calls.{AreAuxesOf, IsRelatedAt}
use Rattle.db_state.proofs.AuxLaws.{all_auxes, one_aux_more}
use Rattle.db_state.proofs.BoundLaws.{all_auxes_within, one_aux_within}
use Rattle.db_state.proofs.auxes.auxes_in.Goals as goal

pub aux_in-requires-clause-related : goal.aux_in-requires-clause-related
aux_in-requires-clause-related g c =
    each_at (IsRelatedAt g.O.Operator.meaning c.args.graph.now.edges (made_state c.args.before c.args.made.now)) c.args.operators.now _ (in_at c.args.operators.now c.loop-number.number-index 0 c.loop-number-test.true) c.requires

pub loop-number-preserved : goal.loop-number-preserved
loop-number-preserved g c =
    let s = made_state c.args.before c.args.made.now in
    let ns = c.args.operators.now in
    let i = c.loop-number.number-index in
    let inside = c.loop-number-test.true in
    record {
      so_far = subst (λ (l : List (Numbered Aux)). AreAuxesOf g.O.Operator.meaning c.args.graph.now.edges c.args.layout.now.operators s (take (i + 1) ns) l) (sym c.in_ok-push.ensures.ok)
          (one_aux_more g.O.Operator.meaning c.args.graph.now.edges c.args.layout.now.operators s ns i c.loop-number.auxes c.in_ok-value.value inside c.loop-number.invariant.so_far c.in_ok-value.ensures.aux);
      inside = omega (arith, inside);
      took = one_aux_within g.O.Operator.meaning c.args.graph.now.edges s ns i (get_or ns i 0) c.args.steps.now c.loop-number.steps c.aux_in.new.steps (in_at ns i 0 inside) c.loop-number.invariant.took c.in_ok-value.ensures.steps;
    }

pub returns-in_err-value-clause-steps : goal.returns-in_err-value-clause-steps
returns-in_err-value-clause-steps g c =
    let s = made_state c.args.before c.args.made.now in
    let ns = c.args.operators.now in
    let i = c.loop-number.number-index in
    let inside = c.loop-number-test.true in
    all_auxes_within g.O.Operator.meaning c.args.graph.now.edges s ns (i + 1) c.args.steps.now c.aux_in.new.steps (omega (arith, inside))
    (one_aux_within g.O.Operator.meaning c.args.graph.now.edges s ns i (get_or ns i 0) c.args.steps.now c.loop-number.steps c.aux_in.new.steps (in_at ns i 0 inside) c.loop-number.invariant.took c.in_err-value.ensures.steps)

pub returns-in_err-push-clause-steps : goal.returns-in_err-push-clause-steps
returns-in_err-push-clause-steps g c =
    let s = made_state c.args.before c.args.made.now in
    let ns = c.args.operators.now in
    let i = c.loop-number.number-index in
    let inside = c.loop-number-test.true in
    all_auxes_within g.O.Operator.meaning c.args.graph.now.edges s ns (i + 1) c.args.steps.now c.aux_in.new.steps (omega (arith, inside))
    (one_aux_within g.O.Operator.meaning c.args.graph.now.edges s ns i (get_or ns i 0) c.args.steps.now c.loop-number.steps c.aux_in.new.steps (in_at ns i 0 inside) c.loop-number.invariant.took c.in_ok-value.ensures.steps)

pub returns-clause-steps : goal.returns-clause-steps
returns-clause-steps g c = all_auxes_within g.O.Operator.meaning c.args.graph.now.edges (made_state c.args.before c.args.made.now) c.args.operators.now c.loop-number.number-index c.args.steps.now c.loop-number.steps c.loop-number.invariant.inside c.loop-number.invariant.took

pub returns-clause-auxes : goal.returns-clause-auxes
returns-clause-auxes g c = all_auxes g.O.Operator.meaning c.args.graph.now.edges c.args.layout.now.operators (made_state c.args.before c.args.made.now) c.args.operators.now c.loop-number.number-index c.loop-number.auxes c.loop-number-test.false c.loop-number.invariant.so_far
