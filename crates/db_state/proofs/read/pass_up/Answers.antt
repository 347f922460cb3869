use Rattle.std.proofs.Common.{◌≡◌, ◌+◌, ◌<◌, length, false, ap, ◌∙◌, arith}
use Rattle.version_graph.specs.Edges.{Drawn}
use Rattle.version_graph.specs.Forest.{forest}
use Rattle.version_graph.proofs.WalkLaws.{is_forest}
use Rattle.version_model.specs.Kept.{rows_now}
use Rattle.version_model.specs.Making.{ascending}
use Rattle.version_model.proofs.AscendingLaws.{length_ascending}
use Rattle.db_state.specs.Fields.{state_for}
use Rattle.db_state.specs.Parts.{seen_of}
use Rattle.layout_rules.proofs.DownLaws.{below}
use Rattle.db_state.specs.inner.Passes.{passed_in}
use Rattle.db_state.proofs.BoundLaws.{seen_none}
use Rattle.db_state.proofs.PassLaws.{turned}
use Rattle.db_state.proofs.PlaceLemmas.{goes_up, may_up, up_end, up_more, up_most}
use Rattle.db_state.proofs.read.pass_up.Goals as goal

pub loop-place-init : goal.loop-place-init
loop-place-init g c =
    let p = c.args.db.now in
    record {
      so_far = turned (forest p.graph.edges) (is_forest p.graph.edges c.graph.ensures.kept.graph.edges) p.layout.operators c.args.operators.now c.requires.covers (seen_of c.args.sight (state_for g.O.Operator.meaning p).tables) (seen_of c.args.sight (rows_now p.stored c.args.made.now)) c.requires.down;
      took = seen_none 2 c.args.sight (passed_in p.layout.operators c.args.operators.now false (below p.graph.edges 0)) c.args.steps.now;
    }

pub pass_at-requires : goal.pass_at-requires
pass_at-requires g c =
    let p = c.args.db.now in
    let l = c.loop-place in
    record {
      near = may_up p.graph.edges c.graph.ensures.kept.graph.edges p.layout.operators c.args.operators.now c.requires.covers (seen_of c.args.sight (state_for g.O.Operator.meaning p).tables) l.place (seen_of c.args.sight (rows_now p.stored l.made)) l.invariant.so_far;
      may = c.requires.may;
    }

pub loop-place-preserved : goal.loop-place-preserved
loop-place-preserved g c =
    let p = c.args.db.now in
    let l = c.loop-place in
    let count : c.live_operators-place-end.result ≡ length p.graph.edges = c.live_operators-place-end.ensures.count ∙ ap (λ (d : Drawn _). length d.edges) c.graph.ensures.graph in
    let inside = c.loop-place-test.true in
    let within : l.place < length (ascending p.graph.edges) = omega (arith, inside, count, length_ascending p.graph.edges) in
    record {
      so_far = goes_up p.graph.edges c.graph.ensures.kept.graph.edges p.layout.operators c.args.operators.now c.requires.covers (seen_of c.args.sight (state_for g.O.Operator.meaning p).tables) l.place within (seen_of c.args.sight (rows_now p.stored l.made)) (seen_of c.args.sight (rows_now p.stored c.pass_at.new.made)) l.invariant.so_far c.in_ok-pass_at.ensures.passes;
      took = up_more p.graph.edges p.layout.operators c.args.operators.now false c.args.sight l.place c.args.steps.now l.steps c.pass_at.new.steps within l.invariant.took c.in_ok-pass_at.ensures.steps;
    }

pub returns-clause-read : goal.returns-clause-read
returns-clause-read g c =
    let p = c.args.db.now in
    let l = c.loop-place in
    let count : c.live_operators-place-end.result ≡ length p.graph.edges = c.live_operators-place-end.ensures.count ∙ ap (λ (d : Drawn _). length d.edges) c.graph.ensures.graph in
    up_end g.O.Operator.meaning p c.graph.ensures.kept c.args.operators.now c.args.sight l.place c.live_operators-place-end.result count c.loop-place-test.false l.made l.invariant.so_far

pub returns-clause-steps : goal.returns-clause-steps
returns-clause-steps g c =
    let p = c.args.db.now in
    let l = c.loop-place in
    up_most p.graph.edges p.layout.operators c.args.operators.now false c.args.sight l.place c.args.steps.now l.steps l.invariant.took

pub returns-in_err-pass_at-clause-steps : goal.returns-in_err-pass_at-clause-steps
returns-in_err-pass_at-clause-steps g c =
    let p = c.args.db.now in
    let l = c.loop-place in
    let count : c.live_operators-place-end.result ≡ length p.graph.edges = c.live_operators-place-end.ensures.count ∙ ap (λ (d : Drawn _). length d.edges) c.graph.ensures.graph in
    let inside = c.loop-place-test.true in
    let within : l.place < length (ascending p.graph.edges) = omega (arith, inside, count, length_ascending p.graph.edges) in
    up_most p.graph.edges p.layout.operators c.args.operators.now false c.args.sight (l.place + 1) c.args.steps.now c.pass_at.new.steps
    (up_more p.graph.edges p.layout.operators c.args.operators.now false c.args.sight l.place c.args.steps.now l.steps c.pass_at.new.steps within l.invariant.took c.in_err-pass_at.ensures.steps)
