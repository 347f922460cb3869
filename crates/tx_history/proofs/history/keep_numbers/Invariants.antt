use Rattle.std.proofs.Common.{◌≡◌, ℕ, take}
use Rattle.version_graph.specs.Sets.{Within}
use Rattle.version_model.specs.Kept.{numbers_in}
use Rattle.tx_history.specs.History.{number_in}
use Rattle.tx_history.proofs.history.keep_numbers.Given as goal

abbrev pub invariant-loop-table : goal.invariant-loop-table
invariant-loop-table l = record {
  same : (t : ℕ) → number_in l.changed t ≡ number_in l.fn.changed t;
  more : Within (numbers_in l.fn.changed) (numbers_in l.changed);
  kept : Within (take l.table-index l.tables) (numbers_in l.changed);
}
