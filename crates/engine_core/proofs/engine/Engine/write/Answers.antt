use Rattle.std.proofs.Common.{◌≡◌, ◌<◌, ℕ, Ok, refl, sym, subst, ap, arith}
use Rattle.std.proofs.lemmas.Result.{err_from_is_err_and}
use Rattle.par_base.specs.declared.fault.Fault.TheVariants.{Refused}
use Rattle.par_base.specs.declared.refusal.Refusal.TheVariants.{IdsSpent}
use Rattle.op_law.specs.Calls.{first_refused}
use Rattle.op_any.specs.BuiltOn.{AreBuiltOn}
use Rattle.id_memory.specs.States.{CounterState}
use Rattle.op_any.specs.Operators.{AnyView, any_meaning}
use Rattle.db_state.specs.Fields.{database_for, state_for}
use Rattle.db_state.specs.declared.parts.Parts.{Parts}
use Rattle.version_model.specs.Writes.{MayWrite}
use Rattle.version_model.specs.Databases.{Writes}
use Rattle.engine_statements.specs.Calls.{rows_after}
use Rattle.write_propagation.specs.Bounds.{PlansWithin}
use Rattle.engine_core.specs.Undo.{done_of}
use Rattle.write_plans.proofs.HoldLaws.{holds_self}
use Rattle.write_plans.proofs.UndoLaws.{same_again}
use Rattle.engine_core.proofs.LeftLemmas.{built_written}
use Rattle.engine_core.proofs.WriteLemmas.{above_already, both_stay, ordinary_then, write_follows, written_then}
use Rattle.engine_core.proofs.engine.Engine.write.Goals as goal

pub returns-in_err-ids-clause-answers : goal.returns-in_err-ids-clause-answers
returns-in_err-ids-clause-answers g c =
    let k = c.args.self.now in
    let w = c.args.plan in
    let p = err_from_is_err_and c.from_residual.result c.from_residual.ensures.1 in
    let e = subst (λ (x : Parts AnyView). (first_refused x.ids < w.next) × (c.in_err-ids.field-0.0 ≡ Refused (IdsSpent (first_refused x.ids) x.ids.limit))) c.self.view_is
    (subst (λ (i : CounterState). (first_refused i < w.next) × (c.in_err-ids.field-0.0 ≡ Refused (IdsSpent (first_refused i) i.limit))) c.ids.ensures c.in_err-ids.ensures.err) in
    rw (p.1, p.2, e.1) (above_already k w c.versions_always_agree.ensures.graph.edges c.versions_always_agree.ensures.agree c.requires e.0)

pub returns-in-Ok-clause-answers : goal.returns-in-Ok-clause-answers
returns-in-Ok-clause-answers g c =
    let k = c.args.self.now in
    let w = c.args.plan in
    let next : c.in_ok-ids.ids.next ≡ w.next = ap (λ i. i.next) c.in_ok-ids.ensures.ok.0 in
    let e = subst (λ (x : Parts AnyView). Writes any_meaning (database_for any_meaning x) w.set w.table (rows_after x w) w.next (Ok tt) (database_for any_meaning c.write_through.new.database)) c.self.view_is
    (subst (λ n. Writes any_meaning (database_for any_meaning c.self.inside.database) w.set w.table (rows_after c.self.inside.database w) n (Ok tt) (database_for any_meaning c.write_through.new.database)) next c.in-Ok.ensures.writes) in
    written_then k w c.versions_always_agree.ensures.graph.edges c.versions_always_agree.ensures.agree c.requires (database_for any_meaning c.write_through.new.database) e

pub returns-in-Ok-clause-ordinary : goal.returns-in-Ok-clause-ordinary
returns-in-Ok-clause-ordinary g c =
    let k = c.args.self.now in
    let w = c.args.plan in
    let next : c.in_ok-ids.ids.next ≡ w.next = ap (λ i. i.next) c.in_ok-ids.ensures.ok.0 in
    let e = subst (λ (x : Parts AnyView). Writes any_meaning (database_for any_meaning x) w.set w.table (rows_after x w) w.next (Ok tt) (database_for any_meaning c.write_through.new.database)) c.self.view_is
    (subst (λ n. Writes any_meaning (database_for any_meaning c.self.inside.database) w.set w.table (rows_after c.self.inside.database w) n (Ok tt) (database_for any_meaning c.write_through.new.database)) next c.in-Ok.ensures.writes) in
    ordinary_then k w c.versions_always_agree.ensures.graph.edges c.versions_always_agree.ensures.agree c.requires (database_for any_meaning c.write_through.new.database) e

pub returns-in_err-ids-clause-layout : goal.returns-in_err-ids-clause-layout
returns-in_err-ids-clause-layout g c = both_stay c.args.self.now c.args.self.now c.versions_always_agree.ensures.stored refl refl

pub returns-in-Ok-clause-layout : goal.returns-in-Ok-clause-layout
returns-in-Ok-clause-layout g c =
    let w = c.args.plan in
    let n = c.in_ok-ids.ids.next in
    let new = c.write_through.new.database in
    let writes = subst (λ (x : Parts AnyView). Writes any_meaning (database_for any_meaning x) w.set w.table (rows_after x w) n (done_of c.write_through.result) (database_for any_meaning new)) c.self.view_is c.write_through.ensures.writes in
    let layout = subst (λ (x : Parts AnyView). new.layout ≡ x.layout) c.self.view_is c.write_through.ensures.layout in
    write_follows c.args.self.now new w.set w.table (rows_after c.args.self.now w) n (done_of c.write_through.result) c.versions_always_agree.ensures.stored writes layout

pub returns-in-Err-Refused-clause-layout : goal.returns-in-Err-Refused-clause-layout
returns-in-Err-Refused-clause-layout g c =
    let w = c.args.plan in
    let n = c.in_ok-ids.ids.next in
    let new = c.write_through.new.database in
    let writes = subst (λ (x : Parts AnyView). Writes any_meaning (database_for any_meaning x) w.set w.table (rows_after x w) n (done_of c.write_through.result) (database_for any_meaning new)) c.self.view_is c.write_through.ensures.writes in
    let layout = subst (λ (x : Parts AnyView). new.layout ≡ x.layout) c.self.view_is c.write_through.ensures.layout in
    write_follows c.args.self.now new w.set w.table (rows_after c.args.self.now w) n (done_of c.write_through.result) c.versions_always_agree.ensures.stored writes layout

pub returns-clause-layout : goal.returns-clause-layout
returns-clause-layout g c =
    let w = c.args.plan in
    let n = c.in_ok-ids.ids.next in
    let new = c.write_through.new.database in
    let writes = subst (λ (x : Parts AnyView). Writes any_meaning (database_for any_meaning x) w.set w.table (rows_after x w) n (done_of c.write_through.result) (database_for any_meaning new)) c.self.view_is c.write_through.ensures.writes in
    let layout = subst (λ (x : Parts AnyView). new.layout ≡ x.layout) c.self.view_is c.write_through.ensures.layout in
    write_follows c.args.self.now new w.set w.table (rows_after c.args.self.now w) n (done_of c.write_through.result) c.versions_always_agree.ensures.stored writes layout

pub returns-in_err-ids-clause-steps : goal.returns-in_err-ids-clause-steps
returns-in_err-ids-clause-steps g c local = omega arith

pub returns-in-Ok-clause-steps : goal.returns-in-Ok-clause-steps
returns-in-Ok-clause-steps g c = subst (λ (x : Parts AnyView). PlansWithin any_meaning x.graph.edges c.args.plan.set c.args.plan.changes c.args.steps.now c.write_through.new.steps) c.self.view_is c.write_through.ensures.steps

pub returns-in-Err-Refused-clause-steps : goal.returns-in-Err-Refused-clause-steps
returns-in-Err-Refused-clause-steps g c = subst (λ (x : Parts AnyView). PlansWithin any_meaning x.graph.edges c.args.plan.set c.args.plan.changes c.args.steps.now c.write_through.new.steps) c.self.view_is c.write_through.ensures.steps

pub returns-clause-steps : goal.returns-clause-steps
returns-clause-steps g c = subst (λ (x : Parts AnyView). PlansWithin any_meaning x.graph.edges c.args.plan.set c.args.plan.changes c.args.steps.now c.write_through.new.steps) c.self.view_is c.write_through.ensures.steps

pub invariant_of-self : goal.invariant_of-self
invariant_of-self g c =
    let k = c.args.self.now in
    let w = c.args.plan in
    let rows = rows_after k w in
    let n = c.in_ok-ids.ids.next in
    let next : n ≡ w.next = ap (λ i. i.next) c.in_ok-ids.ensures.ok.0 in
    let may = subst (λ (m : ℕ). MayWrite k.graph.edges (state_for any_meaning k) w.set w.table rows m) (sym next) c.requires.may in
    let new = c.write_through.new.database in
    let writes = subst (λ (x : Parts AnyView). Writes any_meaning (database_for any_meaning x) w.set w.table (rows_after x w) n (done_of c.write_through.result) (database_for any_meaning new)) c.self.view_is c.write_through.ensures.writes in (
      built_written k new w.set w.table rows n (done_of c.write_through.result) c.versions_always_agree.ensures.graph.edges c.versions_always_agree.ensures.agree may writes (subst (λ (x : Parts AnyView). AreBuiltOn x.ids.next x.graph.edges) c.self.view_is c.self.invariant.0),
      c.write_through.ensures.right,
    )

pub returns-in_err-ids-clause-leaves : goal.returns-in_err-ids-clause-leaves
returns-in_err-ids-clause-leaves g c =
    let p = err_from_is_err_and c.from_residual.result c.from_residual.ensures.1 in
    rw p.1 (same_again c.args.self.now, holds_self c.args.self.now)
