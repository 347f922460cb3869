-- What a write of a database gives is what the model says of a statement's write.
use Rattle.std.proofs.Common.{◌≡◌, ℕ, ◌<◌, Bool, true, false, Result, Ok, Err, refl, sym, ap, subst, ◌∙◌, arith}
use Rattle.std.specs.Prelude.{if◌then◌else◌}
use Rattle.std.proofs.lemmas.Bool.{le-ltb, lt-ltb}
use Rattle.par_base.specs.declared.fault.Fault.{Fault}
use Rattle.par_base.specs.declared.fault.Fault.TheVariants.{Memory, Refused}
use Rattle.row_store.specs.Rows.{Rows}
use Rattle.par_base.specs.declared.refusal.IdsSpent.{IdsSpent as Spent}
use Rattle.par_base.specs.declared.refusal.Refusal.TheVariants.{IdsSpent}
use Rattle.version_graph.specs.Edges.{AreEdges, Drawn}
use Rattle.layout_rules.specs.Changes.{layout_after}
use Rattle.layout_rules.specs.declared.layout.Layout.{Layout}
use Rattle.layout_rules.proofs.AfterLaws.{same_layout}
use Rattle.op_law.specs.Calls.{first_refused}
use Rattle.par_base.specs.Checked.{◌then◌}
use Rattle.op_any.specs.Operators.{AnyView, any_laws, any_meaning}
use Rattle.db_state.specs.Fields.{IsDatabase, database_for, state_for}
use Rattle.db_state.specs.declared.parts.Parts.{Parts}
use Rattle.version_model.specs.Sound.{IsSound}
use Rattle.version_model.specs.Databases.{Writes}
use Rattle.version_model.specs.Laws.{WriteIsOrdinary}
use Rattle.version_model.proofs.WriteLaws.{write_is_ordinary}
use Rattle.engine_state.specs.AnyDatabase.{AnyDatabase}
use Rattle.engine_statements.specs.Statements.{Planned, state_with, wrote}
use Rattle.engine_statements.specs.Calls.{planned_view, rows_after, TakesWrite}
use Rattle.engine_statements.specs.declared.write_plan.WritePlan.{WritePlan}
use Rattle.engine_core.specs.Act.{IsOrdinary}
use Rattle.engine_core.specs.Kept.{Follows}
use Rattle.write_plans.specs.Plans.{Plans, Puts}
use Rattle.write_plans.specs.declared.plans.Plan.{Plan}

module _ (k : Parts AnyView) (w : WritePlan) (edges : AreEdges k.graph.edges) (sound : IsSound any_meaning k.graph.edges (state_for any_meaning k)) (taken : TakesWrite k w) where
  abbrev d : AnyDatabase
  d = database_for any_meaning k

  abbrev p : Planned
  p = planned_view k w

  abbrev end : ℕ
  end = (state_with d p).state.next

  ordinary : WriteIsOrdinary any_meaning k.graph.edges d.state w.set w.table (rows_after k w) w.next
  ordinary = write_is_ordinary any_meaning k.graph.edges d.state sound w.set w.table (rows_after k w) w.next taken.may any_laws edges

  checked : (b : Bool) → Rattle.std.proofs.Math.Dec.ltb (first_refused k.ids) end ≡ b
      → wrote d p ≡ ((if b then Err (IdsSpent (first_refused k.ids) k.ids.limit) else Ok (tt {0})) then λ _. Ok (w.reply, state_with d p))
  checked b e = ap (λ (c : Bool). (if c then Err (IdsSpent (first_refused k.ids) k.ids.limit) else Ok (tt {0})) then λ _. Ok (w.reply, state_with d p)) e

  -- an identifier above the limit is drawn
  above : first_refused k.ids < end → wrote d p ≡ Err (IdsSpent (first_refused k.ids) k.ids.limit)
  above h = checked true (lt-ltb (first_refused k.ids) end h)

  -- by the statement's own rows already
  pub above_already : first_refused k.ids < w.next → wrote d p ≡ Err (IdsSpent (first_refused k.ids) k.ids.limit)
  above_already h = above (omega (arith, h, ordinary.rises))

  pub written_then : (new : AnyDatabase) → Writes any_meaning d w.set w.table (rows_after k w) w.next (Ok tt) new → wrote d p ≡ Ok (w.reply, new)
  written_then new e = checked false (le-ltb (first_refused k.ids) end e.0) ∙ ap (λ (s : AnyDatabase). Ok (w.reply, s)) (sym e.1)

  pub ordinary_then : (new : AnyDatabase) → Writes any_meaning d w.set w.table (rows_after k w) w.next (Ok tt) new → IsOrdinary d p new
  ordinary_then new e =
      subst (λ (s : AnyDatabase). IsOrdinary d p s) (sym e.1) (record { written = ordinary.table; others = ordinary.others; versions = refl })

-- the layout follows the graph where both stay
pub both_stay : (k n : Parts AnyView) → IsDatabase any_meaning k → n.graph ≡ k.graph → n.layout ≡ k.layout → Follows k n
both_stay k n is graph layout =
    let here : k.layout.operators ≡ layout_after k.layout.operators k.graph k.graph = sym (same_layout k.graph is.graph k.layout.operators is.valid) in
    ap (λ (l : Layout). l.operators) layout ∙ here ∙ ap (λ (g : Drawn AnyView). layout_after k.layout.operators k.graph g) (sym graph)

-- a plan that was put in is the model's write
pub plan_writes : (k n : Parts AnyView) (plan : Plan) (w t : ℕ) (rows : Rows) (next : ℕ) → Plans any_meaning k w t rows next (Ok plan) → Puts k plan n → Writes any_meaning (database_for any_meaning k) w t rows next (Ok tt) (database_for any_meaning n)
plan_writes k n plan w t rows next plans puts = (plans.0, (plans.1 n puts).1)

pub plan_refused : (k : Parts AnyView) (w t : ℕ) (rows : Rows) (next : ℕ) (fault : Fault Spent) → Plans any_meaning k w t rows next (Err fault) → Writes any_meaning (database_for any_meaning k) w t rows next (Err fault) (database_for any_meaning k)
plan_refused k w t rows next (Refused spent) plans = (plans, refl)
plan_refused k w t rows next (Memory memory) plans = refl

-- after a write, or an error
pub write_follows : (k n : Parts AnyView) (w t : ℕ) (rows : Rows) (next : ℕ) (r : Result (Unit {0}) (Fault Spent)) → IsDatabase any_meaning k → Writes any_meaning (database_for any_meaning k) w t rows next r (database_for any_meaning n) → n.layout ≡ k.layout → Follows k n
write_follows k n w t rows next (Ok done) is writes layout = both_stay k n is (ap (λ (d : AnyDatabase). d.graph) writes.1) layout
write_follows k n w t rows next (Err (Refused spent)) is writes layout = both_stay k n is (ap (λ (d : AnyDatabase). d.graph) writes.1) layout
write_follows k n w t rows next (Err (Memory memory)) is writes layout = both_stay k n is (ap (λ (d : AnyDatabase). d.graph) writes) layout
