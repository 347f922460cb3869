use mathlib.Core.List.{reverse}
use Rattle.std.proofs.Common.{sym, ap, ◌∙◌}
use Rattle.std.specs.Prelude.{option_and_then}
use Rattle.version_graph.specs.Kept.{heading_in}
use Rattle.version_graph.proofs.NodeLaws.{heading_of_node, counted_maker}
use Rattle.version_graph.specs.declared.node.Node.{Node}
use Rattle.version_graph.proofs.look.heading_of.Goals as goal

pub heading_in-requires : goal.heading_in-requires
heading_in-requires g c = counted_maker (reverse c.args.nodes.now) c.requires.edges c.args.table c.in-Some.node.now (sym c.in-Some.ensures)

pub returns-in-Some : goal.returns-in-Some
returns-in-Some g c = c.heading_in.ensures ∙ ap (option_and_then (λ (k : Node _). heading_in k.placed c.args.table)) c.in-Some.ensures ∙ sym (heading_of_node (reverse c.args.nodes.now) c.requires.edges c.args.table)

pub returns-in-None : goal.returns-in-None
returns-in-None g c = ap (option_and_then (λ (k : Node _). heading_in k.placed c.args.table)) c.in-None.ensures ∙ sym (heading_of_node (reverse c.args.nodes.now) c.requires.edges c.args.table)
