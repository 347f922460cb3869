use Rattle.std.proofs.Common.{◌≡◌, ◌+◌, ◌-◌, ◌<◌, ℕ, length, true, sym, ◌∙◌, subst, arith}
use Rattle.version_graph.specs.Forest.{forest}
use Rattle.version_graph.specs.Edges.{Drawn}
use Rattle.layout_rules.proofs.DownLaws.{below, below_all}
use Rattle.version_model.specs.Kept.{rows_now}
use Rattle.version_model.specs.Making.{ascending}
use Rattle.version_model.proofs.AscendingLaws.{length_ascending}
use Rattle.db_state.specs.Fields.{state_for}
use Rattle.db_state.specs.Parts.{seen_of}
use Rattle.db_state.specs.inner.Passes.{IsDownTo, passed_in}
use Rattle.db_state.proofs.BoundLaws.{seen_none}
use Rattle.db_state.proofs.PlaceLemmas.{WentDown, down_end, down_more, down_most, down_start, goes_down, may_down}
use Rattle.db_state.proofs.read.pass_down.Goals as goal

pub loop-left-init : goal.loop-left-init
loop-left-init g c =
    let p = c.args.db.now in
    let count : c.live_operators-left.result ≡ length p.graph.edges = c.live_operators-left.ensures.count ∙ Rattle.std.proofs.Common.ap (λ (d : Drawn _). length d.edges) c.graph.ensures.graph in
    let all = Rattle.std.proofs.Common.ap (λ l. passed_in p.layout.operators c.args.operators.now true l) (below_all p.graph.edges c.live_operators-left.result count) in
    record {
      within = omega (arith, count);
      so_far = down_start g.O.Operator.meaning p c.graph.ensures.kept c.args.operators.now c.args.sight c.live_operators-left.result count c.new-made.result c.new-made.ensures;
      took = record {
        count = 0;
        rest = omega (arith, all);
        within = seen_none 2 c.args.sight 0 c.args.steps.now;
      };
    }

pub pass_at-requires : goal.pass_at-requires
pass_at-requires g c =
    let p = c.args.db.now in
    let kept = c.graph.ensures.kept in
    let l = c.loop-left in
    let s = seen_of c.args.sight (state_for g.O.Operator.meaning p).tables in
    let some = c.loop-left-test.true in
    let one : l.left - 1 + 1 ≡ l.left = omega (arith, some) in
    let down = subst (λ (n : ℕ). IsDownTo (forest p.graph.edges) p.layout.operators c.args.operators.now s (below p.graph.edges n) (seen_of c.args.sight (rows_now p.stored l.made))) (sym one) l.invariant.so_far in
    record {
      near = may_down p.graph.edges kept.graph.edges p.layout.operators c.args.operators.now c.requires.covers s (l.left - 1) (seen_of c.args.sight (rows_now p.stored l.made)) down;
      may = c.requires.may;
    }

pub loop-left-preserved : goal.loop-left-preserved
loop-left-preserved g c =
    let p = c.args.db.now in
    let kept = c.graph.ensures.kept in
    let l = c.loop-left in
    let s = seen_of c.args.sight (state_for g.O.Operator.meaning p).tables in
    let some = c.loop-left-test.true in
    let one : l.left - 1 + 1 ≡ l.left = omega (arith, some) in
    let down = subst (λ (n : ℕ). IsDownTo (forest p.graph.edges) p.layout.operators c.args.operators.now s (below p.graph.edges n) (seen_of c.args.sight (rows_now p.stored l.made))) (sym one) l.invariant.so_far in
    let within : l.left - 1 < length (ascending p.graph.edges) = omega (arith, some, l.invariant.within, length_ascending p.graph.edges) in
    record {
      within = omega (arith, l.invariant.within);
      so_far = goes_down p.graph.edges kept.graph.edges p.layout.operators c.args.operators.now c.requires.covers s (l.left - 1) within (seen_of c.args.sight (rows_now p.stored l.made)) (seen_of c.args.sight (rows_now p.stored c.pass_at.new.made)) down c.in_ok-pass_at.ensures.passes;
      took = down_more p.graph.edges p.layout.operators c.args.operators.now true c.args.sight (l.left - 1) c.args.steps.now l.steps c.pass_at.new.steps within
          (subst (λ (n : ℕ). WentDown p.graph.edges p.layout.operators c.args.operators.now true c.args.sight n c.args.steps.now l.steps) (sym one) l.invariant.took) c.in_ok-pass_at.ensures.steps;
    }

pub returns-in_err-pass_at-clause-steps : goal.returns-in_err-pass_at-clause-steps
returns-in_err-pass_at-clause-steps g c =
    let p = c.args.db.now in
    let l = c.loop-left in
    let some = c.loop-left-test.true in
    let one : l.left - 1 + 1 ≡ l.left = omega (arith, some) in
    let within : l.left - 1 < length (ascending p.graph.edges) = omega (arith, some, l.invariant.within, length_ascending p.graph.edges) in
    let took = subst (λ (n : ℕ). WentDown p.graph.edges p.layout.operators c.args.operators.now true c.args.sight n c.args.steps.now l.steps) (sym one) l.invariant.took in
    down_most p.graph.edges p.layout.operators c.args.operators.now true c.args.sight (l.left - 1) c.args.steps.now c.pass_at.new.steps
    (down_more p.graph.edges p.layout.operators c.args.operators.now true c.args.sight (l.left - 1) c.args.steps.now l.steps c.pass_at.new.steps within took c.in_err-pass_at.ensures.steps)

pub returns-clause-steps : goal.returns-clause-steps
returns-clause-steps g c =
    let p = c.args.db.now in
    down_most p.graph.edges p.layout.operators c.args.operators.now true c.args.sight c.loop-left.left c.args.steps.now c.loop-left.steps c.loop-left.invariant.took

pub returns-clause-down : goal.returns-clause-down
returns-clause-down g c = down_end g.O.Operator.meaning c.args.db.now c.graph.ensures.kept c.args.operators.now c.args.sight c.loop-left.left c.loop-left-test.false c.loop-left.made c.loop-left.invariant.so_far
