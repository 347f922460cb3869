use Rattle.std.proofs.Common.{◌-◌, true, false, sym, ◌∙◌, arith}
use Rattle.version_graph.specs.Edges.{version_sets}
use Rattle.version_graph.proofs.ShedLemmas.{a_node}
use Rattle.version_graph.proofs.FinishLemmas.{one_less}
use Rattle.version_graph.proofs.place.are_needed.Goals as goal

pub returns-then-not-is_last_needed : goal.returns-then-not-is_last_needed
returns-then-not-is_last_needed g c =
    let l = c.loop-left in
    let nodes = c.args.nodes.now in
    let sets = version_sets c.args.versions.now.entries in
    let here = a_node nodes (l.left - 1) (omega (arith, c.loop-left-test.true, l.invariant.within)) in
    let test = sym (c.is_last_needed.ensures here.0 here.1) ∙ c.if-not-is_last_needed.true in
    sym (one_less nodes l.left here.0 c.loop-left-test.true l.invariant.within here.1 sets false test) ∙ l.invariant.so_far

pub loop-left-preserved : goal.loop-left-preserved
loop-left-preserved g c =
    let l = c.loop-left in
    let nodes = c.args.nodes.now in
    let sets = version_sets c.args.versions.now.entries in
    let here = a_node nodes (l.left - 1) (omega (arith, c.loop-left-test.true, l.invariant.within)) in
    let test = sym (c.is_last_needed.ensures here.0 here.1) ∙ c.if-not-is_last_needed.false in
    record {
      within = omega (arith, l.invariant.within);
      so_far = sym (one_less nodes l.left here.0 c.loop-left-test.true l.invariant.within here.1 sets true test) ∙ l.invariant.so_far;
    }
