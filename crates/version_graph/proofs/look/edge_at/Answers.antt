use Rattle.std.proofs.Common.{sym, ap, ◌∙◌}
use Rattle.std.specs.Prelude.{option_map}
use Rattle.version_graph.proofs.NodeLaws.{edge_of_place}
use Rattle.version_graph.specs.declared.node.Node.{Node}
use Rattle.version_graph.proofs.look.edge_at.Goals as goal

pub returns-in-Some : goal.returns-in-Some
returns-in-Some g c = ap (option_map (λ (k : Node _). k.placed)) c.in-Some.ensures ∙ sym (edge_of_place c.args.nodes.now c.args.place)

pub returns-in-None : goal.returns-in-None
returns-in-None g c = ap (option_map (λ (k : Node _). k.placed)) c.in-None.ensures ∙ sym (edge_of_place c.args.nodes.now c.args.place)
