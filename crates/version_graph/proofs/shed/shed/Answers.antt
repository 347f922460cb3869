use Rattle.std.proofs.Common.{◌-◌, ◌≤◌, List, length, drop, get_or, sym, ap, ◌∙◌, arith}
use Rattle.version_graph.specs.Edges.{is_in, version_sets}
use Rattle.version_graph.specs.Kept.{needed_by}
use Rattle.version_graph.specs.declared.node.Node.{Node}
use Rattle.version_graph.proofs.ShedLemmas.{a_node, pass_kept, pass_gone, gone_within}
use Rattle.version_graph.proofs.shed.shed.Goals as goal

pub loop-left-preserved-then-not-needed : goal.loop-left-preserved-then-not-needed
loop-left-preserved-then-not-needed g c =
    let l = c.loop-left in
    let nodes = l.nodes.items in
    let sets = version_sets c.args.versions.now.entries in
    let here = a_node nodes (l.left - 1) (omega (arith, c.loop-left-test.true, l.invariant.within)) in
    let seen = c.as_slice.ensures.value in
    let told = c.is_last_needed-needed.ensures here.0 (here.1 ∙ ap (λ (x : List (Node _)). get_or x (l.left - 1) here.0) (sym seen)) in
    let off = c.if-not-needed.true in
    let test = sym (told ∙ ap (λ (x : List (Node _)). is_in here.0.placed.number (needed_by (drop l.left x) sets)) seen) ∙ off in
    let m = c.remove_node.ensures in
    let w : l.left - 1 ≤ length c.remove_node.new.nodes.items = omega (arith, gone_within nodes l.left c.remove_node.new.nodes.items m c.loop-left-test.true l.invariant.within) in
    record { within = w; so_far = pass_gone nodes l.left here.0 c.loop-left-test.true l.invariant.within here.1 c.remove_node.new.nodes.items sets _ m l.invariant.so_far test }

pub loop-left-preserved : goal.loop-left-preserved
loop-left-preserved g c =
    let l = c.loop-left in
    let nodes = l.nodes.items in
    let sets = version_sets c.args.versions.now.entries in
    let here = a_node nodes (l.left - 1) (omega (arith, c.loop-left-test.true, l.invariant.within)) in
    let seen = c.as_slice.ensures.value in
    let told = c.is_last_needed-needed.ensures here.0 (here.1 ∙ ap (λ (x : List (Node _)). get_or x (l.left - 1) here.0) (sym seen)) in
    let test = sym (told ∙ ap (λ (x : List (Node _)). is_in here.0.placed.number (needed_by (drop l.left x) sets)) seen) ∙ c.if-not-needed.false in
    record { within = omega (arith, l.invariant.within); so_far = pass_kept nodes l.left here.0 c.loop-left-test.true l.invariant.within here.1 sets _ l.invariant.so_far test }
