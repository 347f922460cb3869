-- How many steps an INSERT takes at most.
use Rattle.std.specs.Prelude.{◌≡◌, ℕ, ◌+◌, ◌*◌, ◌≤◌, length, Ok, Result, IfOk, ⊤}
use Rattle.par_base.specs.declared.fault.Fault.{Fault}
use Rattle.par_base.specs.declared.refusal.Refusal.{Refusal}
use Rattle.statements.specs.Views.{StatementView, Insert}
use Rattle.version_graph.specs.Forest.{forest, walk}
use Rattle.op_any.specs.Operators.{any_meaning}
use Rattle.version_model.specs.Bounds.{AreLocal}
use Rattle.engine_state.specs.AnyDatabase.{AnyDatabase}
use Rattle.engine_statements.specs.Statements.{Planned, planned_insert}
use Rattle.engine_statements.specs.declared.write_plan.WritePlan.{WritePlan}

-- where each operator of the tree treats each identifier by itself, an INSERT takes at most sixteen steps for each of them and each new row
abbrev pub InsertTakes : AnyDatabase → StatementView → ℕ → ℕ → Type 0
InsertTakes s (Insert t rows) old new = (p : Planned) → planned_insert s t rows ≡ Ok p →
    (let path = walk (forest s.graph.edges) p.found.set in AreLocal any_meaning path → new ≤ old + 16 * (length rows * length path))
InsertTakes s _ old new = ⊤

-- planning an INSERT takes no step, and gives a change for each new row
abbrev pub PlansInsert : StatementView → Result WritePlan (Fault Refusal) → ℕ → ℕ → Type 0
PlansInsert (Insert t rows) plan old new = (new ≡ old) × IfOk plan (λ w. length w.changes ≡ length rows)
PlansInsert _ plan old new = ⊤
