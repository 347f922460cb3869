use Rattle.std.proofs.Common.{◌≡◌, List, vec_len, ℕ}
use Rattle.op_law.specs.declared.side.Aux.{Aux}
use Rattle.version_model.specs.declared.numbered.Numbered.{Numbered}
use Rattle.version_model.specs.Kept.{numbers_in}
use Rattle.kept_changes.specs.Undo.{AuxesLeadBack, AuxesUndoable}
use Rattle.kept_changes.specs.Room.{capacities_at}
use Rattle.kept_changes.proofs.auxes.undo_auxes.Given as goal

abbrev pub invariant-loop-item : goal.invariant-loop-item
invariant-loop-item l = record {
  some : AuxesUndoable l.made.items l.left.items;
  all : (before : List (Numbered Aux)) → AuxesLeadBack before l.fn.auxes l.fn.back → AuxesLeadBack before l.made.items l.left.items;
  numbers : numbers_in l.made.items ≡ numbers_in l.fn.auxes;
  capacity : (n : ℕ) → capacities_at l.made.items n ≡ capacities_at l.fn.auxes n;
}

abbrev pub decreases-loop-item : goal.decreases-loop-item
decreases-loop-item l = vec_len l.left
