-- A database with its layout, and MATERIALIZE.
use Rattle.std.specs.Prelude.{◌≡◌, ℕ, List, Result, Ok, Err}
use Rattle.par_base.specs.declared.fault.Fault.{Fault}
use Rattle.par_base.specs.declared.fault.Fault.TheVariants.{Refused, Memory}
use Rattle.par_base.specs.declared.limits.Target.{Target}
use Rattle.par_base.specs.declared.refusal.Refusal.{Refusal}
use Rattle.layout_rules.specs.Closed.{closing}
use Rattle.par_base.specs.Checked.{Checked, ◌then◌}
use Rattle.engine_state.specs.Operators.{AnyView, any_meaning}
use Rattle.db_state.specs.Fields.{database_for}
use Rattle.db_state.specs.declared.parts.Parts.{Parts}
use Rattle.migration.specs.Sides.{flip_count, flipped_layout}
use Rattle.engine_state.specs.AnyDatabase.{AnyDatabase}

-- the model's database, which has no layout, and beside it the operators that are stored on their target side
pub record Laid : Type 0 where
  pub database : AnyDatabase
  pub layout : List ℕ

abbrev pub laid_of : Parts AnyView → Laid
laid_of p = record { database = database_for any_meaning p; layout = p.layout.operators }

-- how many operators change sides
abbrev pub moved_count : Laid → List ℕ → ℕ
moved_count s new = flip_count s.database.graph.edges s.layout new

-- MATERIALIZE changes the layout alone: to the one that stores the named tables, or it is refused
abbrev pub materialized : Laid → List Target → Checked (ℕ × Laid)
materialized s named =
    closing s.database.graph s.layout named then λ new.
    Ok (moved_count s new, record s { layout = new })

-- a call answers and leaves that, or wants memory and leaves all as it was
abbrev pub Materializes : Laid → List Target → Result ℕ (Fault Refusal) → Laid → Type 0
Materializes s named (Ok count) new = materialized s named ≡ Ok (count, new)
Materializes s named (Err (Refused r)) new = (materialized s named ≡ Err r) × (new ≡ s)
Materializes s named (Err (Memory memory)) new = new ≡ s

-- one operator's data on its other side
abbrev pub flipped_laid : Laid → ℕ → Laid
flipped_laid s n = record s { layout = flipped_layout s.database.graph.edges n s.layout }
