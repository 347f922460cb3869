use Rattle.std.proofs.Common.{◌≡◌, filter, take}
use mathlib.Core.List.{reverse}
use Rattle.layout_rules.specs.Lookups.{is_stored, tables_along}
use Rattle.layout_rules.proofs.storing.all_stored.Given as goal

abbrev pub invariant-loop-place : goal.invariant-loop-place
invariant-loop-place g l = l.made ≡ filter (is_stored l.graph.edges l.layout) (tables_along (take l.place (reverse l.graph.edges)))
