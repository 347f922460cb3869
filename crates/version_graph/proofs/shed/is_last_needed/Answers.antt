use Rattle.std.proofs.Common.{◌≡◌, ◌-◌, List, drop, sym, ap, ◌∙◌, arith, ◌<◌, length}
use Rattle.std.proofs.lemmas.List.{get_or_default, take_rest}
use Rattle.version_graph.specs.Edges.{is_in, version_sets}
use Rattle.version_graph.specs.Kept.{needed_by}
use Rattle.version_graph.specs.declared.node.Node.{Node}
use Rattle.version_graph.proofs.shed.is_last_needed.Goals as goal

pub returns : goal.returns
returns g c k is =
    let nodes = c.args.nodes.now in
    let at = c.args.count - 1 in
    let m = c.index-nodes-count.result in
    let within : at < length nodes = omega (arith, c.requires.some, c.requires.within) in
    let same : m ≡ k = c.index-nodes-count.is ∙ get_or_default nodes at m k within ∙ sym is in
    let sets = version_sets c.args.versions.now.entries in
    c.is_needed.ensures
    ∙ ap (λ (l : List (Node _)). is_in m.placed.number (needed_by l sets)) (take_rest nodes c.args.count)
    ∙ ap (λ (x : Node _). is_in x.placed.number (needed_by (drop c.args.count nodes) sets)) same
