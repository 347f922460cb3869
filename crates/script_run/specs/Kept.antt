-- What running statements keeps of a database.
use Rattle.std.specs.Prelude.{◌≡◌}
use Rattle.dump_graph.specs.Operators.{AnyView}
use Rattle.db_state.specs.declared.parts.Parts.{Parts}
use Rattle.dump_graph.specs.Texts.{AreSpelled}

-- the greatest identifier that may be drawn, and that the grammar spells the text of each live operator
pub record Keeps (old new : Parts AnyView) : Type 0 where
  pub limit : new.ids.limit ≡ old.ids.limit
  pub spelled : AreSpelled old.graph.edges → AreSpelled new.graph.edges
