-- The steps of an INSERT.
use Rattle.std.proofs.Common.{◌≡◌, ℕ, ◌+◌, ◌*◌, ◌≤◌, length, Ok, Err, refl, ap, sym, ◌∙◌, subst, arith}
use Rattle.par_base.specs.Checked.{Checked}
use Rattle.par_base.specs.declared.fault.Fault.{Fault}
use Rattle.par_base.specs.declared.refusal.Refusal.{Refusal}
use Rattle.statements.specs.Views.{StatementView, Insert}
use Rattle.version_graph.specs.Forest.{forest, walk}
use Rattle.op_any.specs.Operators.{AnyView, any_meaning}
use Rattle.db_state.specs.declared.parts.Parts.{Parts}
use Rattle.engine_state.specs.AnyDatabase.{AnyDatabase}
use Rattle.engine_statements.specs.Calls.{planned_view}
use Rattle.engine_statements.specs.Statements.{Planned}
use Rattle.engine_statements.specs.declared.write_plan.WritePlan.{WritePlan}
use Rattle.write_propagation.specs.Bounds.{PlansWithin}
use Rattle.engine_core.specs.Act.{planned_write}
use Rattle.engine_core.specs.Bounds.{InsertTakes, PlansInsert}
use Rattle.engine_core.specs.Kept.{data_of}

-- where no step was taken
pub takes_none : (s : AnyDatabase) (x : StatementView) (n : ℕ) → InsertTakes s x n n
takes_none s (Insert t rows) n = λ p is local. omega arith
takes_none s _ n = tt

-- a refusal at once
pub plans_none : (x : StatementView) (fault : Fault Refusal) (n : ℕ) → PlansInsert x (Err fault) n n
plans_none (Insert t rows) fault n = (refl, tt)
plans_none _ fault n = tt

-- a plan that was refused
pub plan_takes : (s : AnyDatabase) (x : StatementView) (fault : Fault Refusal) (old new : ℕ) → PlansInsert x (Err fault) old new → InsertTakes s x old new
plan_takes s (Insert t rows) fault old new plans = λ p is local. omega (arith, plans.0)
plan_takes s _ fault old new plans = tt

abbrev checked : Planned → Checked Planned
checked p = Ok p

same_plan : (a b : Planned) → checked a ≡ checked b → a ≡ b
same_plan a b h = cc

-- a plan that was carried out
pub write_takes : (k : Parts AnyView) (x : StatementView) (w : WritePlan) (old mid new : ℕ) → PlansInsert x (Ok w) old mid → planned_write (data_of k) x ≡ Ok (planned_view k w) → PlansWithin any_meaning k.graph.edges w.set w.changes mid new → InsertTakes (data_of k) x old new
write_takes k (Insert t rows) w old mid new plans is within = λ p planned local.
    let same : planned_view k w ≡ p = same_plan (planned_view k w) p (sym is ∙ planned) in
    let set : w.set ≡ p.found.set = ap (λ (q : Planned). q.found.set) same in
    let near = subst (λ (n : ℕ). PlansWithin any_meaning k.graph.edges n w.changes mid new) set within in
    let most = near local in
    let count = subst (λ (n : ℕ). new ≤ mid + 16 * (n * length (walk (forest k.graph.edges) p.found.set))) plans.1 most in
    omega (arith, count, plans.0)
write_takes k _ w old mid new plans is within = tt
