use Rattle.std.proofs.Common.{◌≡◌, None, take}
use Rattle.std.specs.List.{find}
use mathlib.Core.List.{reverse}
use Rattle.layout_rules.specs.Lookups.{is_shared, tables_along}
use Rattle.layout_rules.proofs.sharing.first_shared.Given as goal

abbrev pub invariant-loop-place : goal.invariant-loop-place
invariant-loop-place g l = find (is_shared l.graph.edges l.wanted) (tables_along (take l.place (reverse l.graph.edges))) ≡ None
