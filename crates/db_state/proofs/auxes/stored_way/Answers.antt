use Rattle.std.proofs.Common.{ap, ◌∙◌, List, ℕ}
use Rattle.version_graph.specs.Edges.{is_in}
use Rattle.db_state.proofs.AuxLaws.{way_is}
use Rattle.db_state.proofs.auxes.stored_way.Goals as goal

pub returns : goal.returns
returns g c e i number = way_is c.args.graph.now.edges c.requires c.args.layout.now.operators c.args.number _ (c.holds.ensures ∙ ap (λ (l : List ℕ). is_in c.args.number l) c.as_slice.ensures) _ c.way_of.ensures e i number
