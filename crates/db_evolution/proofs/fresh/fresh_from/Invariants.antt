use mathlib.Core.List.{reverse}
use Rattle.db_evolution.proofs.FreshLemmas.{IsBegun}
use Rattle.db_evolution.proofs.fresh.fresh_from.Given as goal

abbrev pub invariant-loop-place : goal.invariant-loop-place
invariant-loop-place g l = IsBegun (reverse l.graph.edges) l.first l.place l.fresh
