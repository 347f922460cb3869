use Rattle.std.proofs.Common.{List, ℕ, [], ap, ◌∙◌}
use Rattle.std.specs.Prelude.{Option, unwrap_or}
use Rattle.version_graph.specs.Kept.{edges_of}
use Rattle.version_graph.proofs.NodeLaws.{tables_or_none}
use Rattle.version_graph.proofs.look.tables_of_set.Goals as goal

pub returns-in-Some : goal.returns-in-Some
returns-in-Some g c =
    ap (λ (o : Option (List ℕ)). unwrap_or o []) c.in-Some.ensures ∙ tables_or_none (edges_of c.args.nodes.now) c.requires.edges c.args.set

pub returns-in-None : goal.returns-in-None
returns-in-None g c =
    ap (λ (o : Option (List ℕ)). unwrap_or o []) c.in-None.ensures ∙ tables_or_none (edges_of c.args.nodes.now) c.requires.edges c.args.set
