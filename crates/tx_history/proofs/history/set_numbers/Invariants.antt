use Rattle.std.proofs.Common.{◌≡◌, if◌then◌else◌, ℕ, take}
use Rattle.version_graph.specs.Edges.{is_in}
use Rattle.version_graph.specs.Sets.{Within}
use Rattle.version_model.specs.Kept.{numbers_in}
use Rattle.tx_history.specs.History.{number_in}
use Rattle.tx_history.proofs.history.set_numbers.Given as goal

abbrev pub invariant-loop-table : goal.invariant-loop-table
invariant-loop-table l = record {
  rows : Within l.tables (numbers_in l.fn.changed.items) → (t : ℕ) → number_in l.changed.items t ≡ (if is_in t (take l.table-index l.tables) then l.at else number_in l.fn.changed.items t);
  numbers : numbers_in l.changed.items ≡ numbers_in l.fn.changed.items;
}
