-- What a database can hold without memory.
use Rattle.std.specs.Prelude.{◌≡◌, ℕ, ◌≤◌}
use Rattle.db_state.specs.declared.parts.Parts.{Parts}
use Rattle.kept_changes.specs.Room.{capacity_at, capacities_at, memory_capacity_at, AreAtLeast}

-- under each number as much as before
pub record HoldsAsMuch {O : Type 0} (old new : Parts O) : Type 0 where
  pub stored : (n : ℕ) → capacity_at new.stored n ≡ capacity_at old.stored n
  pub aux : (n : ℕ) → capacities_at new.aux n ≡ capacities_at old.aux n
  pub memory : (n : ℕ) → memory_capacity_at new.memories n ≡ memory_capacity_at old.memories n

-- under each number at least as much
pub record HoldsAtLeast {O : Type 0} (old new : Parts O) : Type 0 where
  pub stored : (n : ℕ) → capacity_at old.stored n ≤ capacity_at new.stored n
  pub aux : (n : ℕ) → AreAtLeast (capacities_at old.aux n) (capacities_at new.aux n)
  pub memory : (n : ℕ) → memory_capacity_at old.memories n ≤ memory_capacity_at new.memories n
