use mathlib.Core.List.{reverse}
use Rattle.std.proofs.Common.{sym, ◌∙◌}
use Rattle.std.proofs.lemmas.Bool.{cond-false, cond-true, eq-eqb, ne_eqb}
use Rattle.version_graph.specs.Forest.{forest, tree}
use Rattle.version_graph.specs.Kept.{edges_of}
use Rattle.version_graph.proofs.NodeLaws.{tree_of_node, has_node}
use Rattle.version_graph.proofs.build.tree_on.Goals as goal

pub returns-then-placed-eq0 : goal.returns-then-placed-eq0
returns-then-placed-eq0 g c =
    let placed = c.args.placed.now in
    sym (cond-true (Rattle.std.specs.Prelude.◌==◌ placed.parent 0) placed.number (tree (forest (edges_of c.args.nodes.now)) placed.parent) (eq-eqb placed.parent 0 c.if-placed-eq0.true))

pub returns-in-Some : goal.returns-in-Some
returns-in-Some g c =
    let placed = c.args.placed.now in
    let es = edges_of c.args.nodes.now in
    sym (tree_of_node (reverse c.args.nodes.now) c.requires.right placed.parent c.in-Some.node.now (sym c.in-Some.ensures))
    ∙ sym (cond-false (Rattle.std.specs.Prelude.◌==◌ placed.parent 0) placed.number (tree (forest es) placed.parent) (ne_eqb placed.parent 0 c.if-placed-eq0.false))

pub returns-in-None : goal.returns-in-None
returns-in-None g c = absurd (has_node (reverse c.args.nodes.now) c.args.placed.now.parent c.requires.live c.if-placed-eq0.false (sym c.in-None.ensures))
