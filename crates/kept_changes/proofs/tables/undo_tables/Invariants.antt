use Rattle.std.proofs.Common.{◌≡◌, List, vec_len, ℕ}
use Rattle.row_store.specs.States.{TableState}
use Rattle.version_model.specs.declared.numbered.Numbered.{Numbered}
use Rattle.version_model.specs.Kept.{numbers_in}
use Rattle.kept_changes.specs.Undo.{TablesLeadBack, TablesUndoable}
use Rattle.kept_changes.specs.Room.{capacity_at}
use Rattle.kept_changes.proofs.tables.undo_tables.Given as goal

abbrev pub invariant-loop-item : goal.invariant-loop-item
invariant-loop-item l = record {
  some : TablesUndoable l.made.items l.left.items;
  all : (before : List (Numbered TableState)) → TablesLeadBack before l.fn.tables l.fn.back → TablesLeadBack before l.made.items l.left.items;
  numbers : numbers_in l.made.items ≡ numbers_in l.fn.tables;
  capacity : (n : ℕ) → capacity_at l.made.items n ≡ capacity_at l.fn.tables n;
}

abbrev pub decreases-loop-item : goal.decreases-loop-item
decreases-loop-item l = vec_len l.left
