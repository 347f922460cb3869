use Rattle.std.proofs.Common.{◌≤◌, true, false, sym, ◌∙◌, subst}
use Rattle.std.proofs.lemmas.Result.{err_from_is_err_and}
use Rattle.version_graph.specs.Forest.{forest, walk}
use Rattle.version_graph.specs.declared.parts.Step.{Step}
use Rattle.op_law.specs.Calls.{first_refused}
use Rattle.version_model.specs.States.{State}
use Rattle.changes_walk.proofs.CarryLemmas.{may_step, own_at, step_at, crosses_at, step_made, step_passed, step_refused, walk_made, no_more}
use Rattle.changes_walk.proofs.NamedLemmas.{all_within, named_more, named_passed, named_within}
use Rattle.changes_walk.proofs.carry.carry_changes.Goals.{then-holds+in_ok-make_step, else-holds}
use Rattle.changes_walk.proofs.carry.carry_changes.Goals as goal

pub make_step-requires : goal.make_step-requires
make_step-requires g c =
    let es = c.args.graph.now.edges in
    let b = g.D.StateRead.state c.args.rows.now in
    let made = c.args.made.now in
    let laws = g.met.O.Operator.laws in
    let meaning = g.O.Operator.meaning in
    let may = c.requires in
    let i = c.loop-step.step-index in
    let at = step_at meaning laws es b made c.args.set c.args.operators.now may c.as_slice-step-items.result.now c.in_ok-walk.walk i (record { operator = 0; backward = false }) c.as_slice-step-items.ensures c.in_ok-walk.ensures c.loop-step-test.true in
    may_step meaning laws es b made c.args.set c.args.operators.now may c.loop-step.made i at.0 _ at.1 c.loop-step.invariant.so_far c.loop-step.invariant.fit at.2

pub returns-in_err-make_step-clause-carries : goal.returns-in_err-make_step-clause-carries
returns-in_err-make_step-clause-carries g c =
    let es = c.args.graph.now.edges in
    let b = g.D.StateRead.state c.args.rows.now in
    let made = c.args.made.now in
    let laws = g.met.O.Operator.laws in
    let meaning = g.O.Operator.meaning in
    let may = c.requires in
    let i = c.loop-step.step-index in
    let at = step_at meaning laws es b made c.args.set c.args.operators.now may c.as_slice-step-items.result.now c.in_ok-walk.walk i (record { operator = 0; backward = false }) c.as_slice-step-items.ensures c.in_ok-walk.ensures c.loop-step-test.true in
    let inv = c.loop-step.invariant in
    let crossed = c.in_err-make_step.ensures.crosses _ (crosses_at meaning laws es b made c.args.set c.args.operators.now may i at.0 at.1) (sym at.2) in
    let p = err_from_is_err_and c.from_residual-in_err-make_step.result c.from_residual-in_err-make_step.ensures.1 in
    rw (p.1, p.2) (step_refused meaning laws es b made c.args.set c.args.operators.now may c.loop-step.made c.make_step.new.made i at.0 c.in_err-make_step.field-0.0 at.1 inv.so_far inv.within inv.limit crossed)

pub returns-in_err-make_step-clause-steps : goal.returns-in_err-make_step-clause-steps
returns-in_err-make_step-clause-steps g c =
    let es = c.args.graph.now.edges in
    let b = g.D.StateRead.state c.args.rows.now in
    let made = c.args.made.now in
    let laws = g.met.O.Operator.laws in
    let meaning = g.O.Operator.meaning in
    let may = c.requires in
    let operators = c.args.operators.now in
    let i = c.loop-step.step-index in
    let shown = c.as_slice-step-items.result.now in
    let first : Step = record { operator = 0; backward = false } in
    let at = step_at meaning laws es b made c.args.set operators may shown c.in_ok-walk.walk i first c.as_slice-step-items.ensures c.in_ok-walk.ensures c.loop-step-test.true in
    let own = own_at meaning laws es b made c.args.set operators may shown i first at.0 true at.2 (sym c.holds.ensures ∙ c.if-holds.true) in
    let took = c.in_err-make_step.ensures.steps _ (crosses_at meaning laws es b made c.args.set operators may i at.0 at.1) (sym at.2) in
    named_within meaning operators (walk (forest es) c.args.set) made c.loop-step.made i c.args.steps.now c.loop-step.steps c.loop-step.invariant.named at.0 at.1 own c.make_step.new.steps took

pub loop-step-preserved : goal.loop-step-preserved
loop-step-preserved g c =
    let es = c.args.graph.now.edges in
    let b = g.D.StateRead.state c.args.rows.now in
    let made = c.args.made.now in
    let laws = g.met.O.Operator.laws in
    let meaning = g.O.Operator.meaning in
    let may = c.requires in
    let operators = c.args.operators.now in
    let path = walk (forest es) c.args.set in
    let i = c.loop-step.step-index in
    let shown = c.as_slice-step-items.result.now in
    let first : Step = record { operator = 0; backward = false } in
    let at = step_at meaning laws es b made c.args.set operators may shown c.in_ok-walk.walk i first c.as_slice-step-items.ensures c.in_ok-walk.ensures c.loop-step-test.true in
    let inv = c.loop-step.invariant in
    elim c.if-holds.branch [
      | then-holds+in_ok-make_step w ↦
          let here = crosses_at meaning laws es b made c.args.set operators may i at.0 at.1 in
          let own = own_at meaning laws es b made c.args.set operators may shown i first at.0 true at.2 (sym c.holds.ensures ∙ w.if-holds.true) in
          let next = step_made meaning laws es b made c.args.set operators may c.loop-step.made w.make_step.new.made i at.0 at.1 inv.so_far inv.within inv.limit (w.in_ok-make_step.ensures.crosses _ here (sym at.2)) in
          rw (w.made-is, w.steps-is) (record {
            so_far = next.0;
            within = next.1;
            limit = next.2;
            fit = next.3;
            named = named_more meaning operators path made c.loop-step.made i c.args.steps.now c.loop-step.steps inv.named at.0 at.1 own w.make_step.new.steps (w.in_ok-make_step.ensures.steps _ here (sym at.2)) w.make_step.new.made (w.in_ok-make_step.ensures.only _ here (sym at.2));
          })
      | else-holds w ↦
          let other = own_at meaning laws es b made c.args.set operators may shown i first at.0 false at.2 (sym c.holds.ensures ∙ w.if-holds.false) in
          rw (w.made-is, w.steps-is) (record {
            so_far = step_passed meaning laws es b made c.args.set operators may c.loop-step.made i at.0 at.1 other inv.so_far;
            within = inv.within;
            limit = inv.limit;
            fit = inv.fit;
            named = named_passed meaning operators path made c.loop-step.made i c.args.steps.now c.loop-step.steps inv.named;
          })
    ]

pub returns-clause-carries : goal.returns-clause-carries
returns-clause-carries g c =
    let es = c.args.graph.now.edges in
    let b = g.D.StateRead.state c.args.rows.now in
    let made = c.args.made.now in
    let laws = g.met.O.Operator.laws in
    let meaning = g.O.Operator.meaning in
    let may = c.requires in
    let inv = c.loop-step.invariant in
    let all = no_more meaning laws es b made c.args.set c.args.operators.now may c.as_slice-step-items.result.now c.in_ok-walk.walk c.loop-step.step-index c.as_slice-step-items.ensures c.in_ok-walk.ensures c.loop-step-test.false in
    let is = walk_made meaning laws es b made c.args.set c.args.operators.now may c.loop-step.made c.loop-step.step-index all inv.so_far in
    (subst (λ (s : State). s.next ≤ first_refused made.ids) is inv.within, is, inv.fit, inv.limit)

pub returns-clause-only : goal.returns-clause-only
returns-clause-only g c = c.loop-step.invariant.named.0

pub returns-clause-steps : goal.returns-clause-steps
returns-clause-steps g c =
    all_within g.O.Operator.meaning c.args.operators.now (walk (forest c.args.graph.now.edges) c.args.set) c.args.made.now c.loop-step.made c.loop-step.step-index c.args.steps.now c.loop-step.steps c.loop-step.invariant.named
