use Rattle.std.proofs.Common.{◌≡◌, take}
use mathlib.Core.List.{reverse}
use Rattle.layout_rules.specs.Lookups.{tables_along}
use Rattle.dump_formats.proofs.tables.live_tables.Given as goal

abbrev pub invariant-loop-place : goal.invariant-loop-place
invariant-loop-place g l = l.made.items ≡ tables_along (take l.place (reverse l.graph.edges))
