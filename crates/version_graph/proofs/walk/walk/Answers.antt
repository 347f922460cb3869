use Rattle.std.proofs.Common.{◌≡◌, ℕ, ◌-◌, List, subst, sym, ◌∙◌, arith}
use Rattle.std.proofs.lemmas.List.{map-append}
use Rattle.std.specs.Prelude.{◌==◌, IfOk}
use Rattle.version_graph.specs.declared.parts.Step.{Step}
use Rattle.version_graph.specs.Forest.{forest, tree, step_told, up, rest}
use Rattle.version_graph.specs.Kept.{edges_of}
use Rattle.version_graph.proofs.WalkStepLaws.{on_way, in_tree, elsewhere, same_tree, other_tree, walked}
use Rattle.version_graph.proofs.walk.walk.Goals as goal

pub loop-left-preserved-then-at-operator : goal.loop-left-preserved-then-at-operator
loop-left-preserved-then-at-operator g c =
    let nodes = c.args.nodes.now in
    let all = forest (edges_of nodes) in
    let k = c.index-nodes-left.result in
    let l = c.loop-left in
    let step = on_way nodes l.left k c.loop-left-test.true l.invariant.within c.index-nodes-left.is (λ n. tree all n == tree all c.args.set) l.at l.upward.items l.others.items _ _ l.invariant.upward l.invariant.others
    c.push.new.self.items c.in_ok-push.ensures.items c.if-at-operator.true in
    record { within = omega arith; upward = step.0; others = step.1 }

pub loop-left-preserved-in-Continue-branch-2 : goal.loop-left-preserved-in-Continue-branch-2
loop-left-preserved-in-Continue-branch-2 g c =
    let nodes = c.args.nodes.now in
    let all = forest (edges_of nodes) in
    let k = c.index-nodes-left.result in
    let l = c.loop-left in
    let test = same_tree nodes c.requires.right c.requires.edges (l.left - 1) k (omega arith) c.index-nodes-left.is c.args.set c.tree_of-tree.result c.tree_of-tree.ensures c.if-node-tree.true in
    let step = in_tree nodes l.left k c.loop-left-test.true l.invariant.within c.index-nodes-left.is (λ n. tree all n == tree all c.args.set) l.at l.upward.items l.others.items _ _ l.invariant.upward l.invariant.others
    c.push-then-node-tree.new.self.items c.in_ok-push-2.ensures.items c.if-at-operator.false test in
    record { within = omega arith; upward = step.0; others = step.1 }

pub loop-left-preserved : goal.loop-left-preserved
loop-left-preserved g c =
    let nodes = c.args.nodes.now in
    let all = forest (edges_of nodes) in
    let k = c.index-nodes-left.result in
    let l = c.loop-left in
    let test = other_tree nodes c.requires.right c.requires.edges (l.left - 1) k (omega arith) c.index-nodes-left.is c.args.set c.tree_of-tree.result c.tree_of-tree.ensures c.if-node-tree.false in
    let step = elsewhere nodes l.left k c.loop-left-test.true l.invariant.within c.index-nodes-left.is (λ n. tree all n == tree all c.args.set) l.at l.upward.items l.others.items _ _ l.invariant.upward l.invariant.others
    c.if-at-operator.false test in
    record { within = omega arith; upward = step.0; others = step.1 }

pub returns : goal.returns
returns g c =
    let nodes = c.args.nodes.now in
    let all = forest (edges_of nodes) in
    let l = c.loop-left in
    let none : l.left ≡ 0 = omega arith in
    let done = walked nodes l.left l.at (λ n. tree all n == tree all c.args.set) l.upward.items l.others.items _ _ none l.invariant.upward l.invariant.others in
    let test = λ (n : ℕ). tree all n == tree all c.args.set in
    subst (λ (r : List Step). IfOk c.joined.result (λ steps. steps ≡ r)) (done ∙ sym (map-append step_told (up all c.args.set) (rest test all c.args.set))) c.joined.ensures
