use Rattle.std.proofs.Common.{◌≡◌, filter, take}
use mathlib.Core.List.{reverse}
use Rattle.layout_rules.specs.Lookups.{tables_along}
use Rattle.layout_planner.specs.inner.Walked.{is_walked}
use Rattle.layout_planner.proofs.trees.tables_of.Given as goal

abbrev pub invariant-loop-place : goal.invariant-loop-place
invariant-loop-place g l = l.made.items ≡ tables_along (filter (λ e. is_walked l.steps e.number) (take l.place (reverse l.graph.edges)))
