-- The operators of the new layout, as they are chosen.
use Rattle.std.specs.Prelude.{ℕ, Bool, List}
use Rattle.version_graph.specs.declared.parts.Placed.{Placed}
use Rattle.layout_rules.specs.Lookups.{stays}
use Rattle.layout_rules.specs.declared.needing.Choice.{Choice}

abbrev pub is_chosen : {O : Type 0} → List (Placed O) → Choice → ℕ → Bool
is_chosen es choice n = stays es choice.trees.now choice.wanted.now choice.layout.now n
