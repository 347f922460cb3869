use Rattle.std.proofs.Common.{◌≡◌, filter, take}
use Rattle.version_graph.specs.Edges.{is_in}
use Rattle.version_model.specs.Kept.{numbers_in}
use Rattle.write_plans.proofs.copies.kept_of.Given as goal

abbrev pub invariant-loop-item : goal.invariant-loop-item
invariant-loop-item l = l.made ≡ filter (λ number. is_in number l.tables) (numbers_in (take l.item-index l.kept))
