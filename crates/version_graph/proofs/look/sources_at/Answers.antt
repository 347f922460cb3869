use mathlib.Core.List.{reverse}
use Rattle.std.proofs.Common.{sym, ap, ◌∙◌}
use Rattle.std.specs.Prelude.{option_map}
use Rattle.version_graph.proofs.NodeLaws.{sources_of_node}
use Rattle.version_graph.specs.declared.node.Node.{Node}
use Rattle.version_graph.proofs.look.sources_at.Goals as goal

pub returns-in-Some : goal.returns-in-Some
returns-in-Some g c = ap Rattle.std.specs.Prelude.Some c.as_slice.ensures ∙ ap (option_map (λ (k : Node _). k.sources)) c.in-Some.ensures ∙ sym (sources_of_node (reverse c.args.nodes.now) c.requires.right c.args.operator)

pub returns-in-None : goal.returns-in-None
returns-in-None g c = ap (option_map (λ (k : Node _). k.sources)) c.in-None.ensures ∙ sym (sources_of_node (reverse c.args.nodes.now) c.requires.right c.args.operator)
