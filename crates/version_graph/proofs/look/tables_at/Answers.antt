use mathlib.Core.List.{reverse}
use Rattle.version_graph.specs.Kept.{edges_of}
use Rattle.std.proofs.Common.{sym, ap, ◌∙◌}
use Rattle.std.specs.Prelude.{option_map}
use Rattle.version_graph.proofs.NodeLaws.{set_of_node, not_zero}
use Rattle.version_graph.specs.declared.node.Node.{Node}
use Rattle.version_graph.proofs.look.tables_at.Goals as goal

pub returns-in-Some : goal.returns-in-Some
returns-in-Some g c = ap Rattle.std.specs.Prelude.Some c.as_slice.ensures ∙ ap (option_map (λ (k : Node _). k.set)) c.in-Some.ensures ∙ sym (set_of_node (reverse c.args.nodes.now) c.requires.right c.args.set) ∙ sym (not_zero (edges_of c.args.nodes.now) c.args.set c.if-set-eq0.false)

pub returns-in-None : goal.returns-in-None
returns-in-None g c = ap (option_map (λ (k : Node _). k.set)) c.in-None.ensures ∙ sym (set_of_node (reverse c.args.nodes.now) c.requires.right c.args.set) ∙ sym (not_zero (edges_of c.args.nodes.now) c.args.set c.if-set-eq0.false)
