-- The engine's state, and the move in steps that is pending.
use Rattle.std.specs.Prelude.{ℕ, List, []}
use Rattle.op_any.specs.Operators.{AnyView}
use Rattle.db_state.specs.declared.parts.Parts.{Parts}
use Rattle.engine_core.specs.Laid.{Laid}
use Rattle.engine_core.specs.Kept.{state_of}

pub record Moving : Type 0 where
  -- the data with their layout
  pub laid : Laid
  -- the operators whose data are still to go to their other side, ascending; where there are none, no move is pending
  pub pending : List ℕ

-- the database that is kept, and what is pending
pub record KeptMove : Type 0 where
  pub database : Parts AnyView
  pub pending : List ℕ

abbrev pub moving_of : KeptMove → Moving
moving_of k = record { laid = state_of k.database; pending = k.pending }
