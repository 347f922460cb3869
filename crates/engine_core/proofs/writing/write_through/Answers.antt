use Rattle.std.proofs.Common.{◌≡◌, ℕ, List, ◌++◌, length, take, drop, Ok, Err, refl, ap, sym, subst, ◌∙◌}
use Rattle.std.proofs.lemmas.List.{take_at}
use Rattle.std.proofs.lemmas.Result.{err_from_is_err_and}
use Rattle.row_store.specs.declared.change.Change.{Change}
use Rattle.op_any.specs.Operators.{any_meaning}
use Rattle.version_graph.specs.Sets.{Each}
use Rattle.version_model.specs.Databases.{Writes}
use Rattle.version_model.specs.declared.numbered.Numbered.{Numbered}
use Rattle.table_keys.specs.States.{KeysState}
use Rattle.kept_keys.specs.Changed.{Both, CommitsKeys, IsReadyOver}
use Rattle.db_state.specs.Fields.{database_for, state_for}
use Rattle.kept_keys.specs.Kept.{AreKeysOf}
use Rattle.engine_state.specs.AnyDatabase.{AnyDatabase}
use Rattle.write_plans.specs.Plans.{rows_written}
use Rattle.version_graph.specs.Edges.{is_in}
use Rattle.write_plans.specs.Told.{CarriedLead, TellsApart}
use Rattle.write_plans.proofs.HoldLaws.{holds_enough, holds_more}
use Rattle.write_plans.proofs.UndoLaws.{undoes_before}
use Rattle.write_plans.proofs.PlanLaws.{may_commit, puts_layout}
use Rattle.engine_core.proofs.WriteLemmas.{plan_refused, plan_writes}
use Rattle.engine_core.proofs.writing.write_through.Goals as goal

-- a slice that fills a list takes its place
filled : {X : Type 0} (n : ℕ) (made items : List X) → n ≡ length items → length made ≡ length items → take n (made ++ drop (length made) items) ≡ made
filled {X} n made items all same =
    ap (λ (k : ℕ). take k (made ++ drop (length made) items)) (all ∙ sym same) ∙ take_at made (drop (length made) items) (length made) refl

pub commit_keys-requires : goal.commit_keys-requires
commit_keys-requires g c = subst (λ (l : List (Numbered KeysState)). Each IsReadyOver l) (sym c.as_mut_slice.ensures.value) c.in_ok-plan.ensures.keys.ready

pub returns-clause-right : goal.returns-clause-right
returns-clause-right g c =
    let was = c.plan.new.keys in
    let long = c.commit_keys.auto.items ∙ ap (λ (l : List (Numbered KeysState)). length l) c.as_mut_slice.ensures.value in
    subst (AreKeysOf (state_for any_meaning c.commit-undo.new.db).tables) (sym (filled was.len c.commit_keys.new.items was.items was.ok.0 long))
    (c.in_ok-plan.ensures.keys.leads c.commit-undo.new.db c.commit-undo.ensures.puts c.commit_keys.new.items
    (subst (λ (l : List (Numbered KeysState)). Both CommitsKeys l c.commit_keys.new.items) c.as_mut_slice.ensures.value c.commit_keys.ensures))

pub returns-in_err-plan-clause-writes : goal.returns-in_err-plan-clause-writes
returns-in_err-plan-clause-writes g c =
    let w = c.args.written in
    let d = c.args.database.now in
    let n = c.plan.new.db in
    let p = err_from_is_err_and c.from_residual.result c.from_residual.ensures.1 in
    let writes = plan_refused n w.set w.table (rows_written any_meaning d w) w.ids.next c.in_err-plan.field-0.0 c.in_err-plan.ensures.plans in
    rw (p.1, p.2) (subst (λ (x : AnyDatabase). Writes any_meaning x w.set w.table (rows_written any_meaning d w) w.ids.next (Err c.in_err-plan.field-0.0) (database_for any_meaning n)) c.in_err-plan.ensures.data writes)

pub commit-undo-requires : goal.commit-undo-requires
commit-undo-requires g c =
    let w = c.args.written in
    may_commit any_meaning c.plan.new.db w.set w.table (rows_written any_meaning c.args.database.now w) w.ids.next c.in_ok-plan.plan c.in_ok-plan.ensures.plans c.in_ok-plan.ensures.ready

pub returns-clause-writes : goal.returns-clause-writes
returns-clause-writes g c =
    let w = c.args.written in
    let d = c.args.database.now in
    let writes = plan_writes c.plan.new.db c.commit-undo.new.db c.in_ok-plan.plan w.set w.table (rows_written any_meaning d w) w.ids.next c.in_ok-plan.ensures.plans c.commit-undo.ensures.puts in
    subst (λ (x : AnyDatabase). Writes any_meaning x w.set w.table (rows_written any_meaning d w) w.ids.next (Ok tt) (database_for any_meaning c.commit-undo.new.db)) c.in_ok-plan.ensures.data writes

pub returns-in_err-plan-clause-layout : goal.returns-in_err-plan-clause-layout
returns-in_err-plan-clause-layout g c = c.in_err-plan.ensures.same.layout

pub returns-clause-layout : goal.returns-clause-layout
returns-clause-layout g c = puts_layout c.plan.new.db c.commit-undo.new.db c.in_ok-plan.plan c.commit-undo.ensures.puts ∙ c.in_ok-plan.ensures.same.layout

pub returns-in_err-plan-clause-leaves : goal.returns-in_err-plan-clause-leaves
returns-in_err-plan-clause-leaves g c =
    let p = err_from_is_err_and c.from_residual.result c.from_residual.ensures.1 in
    rw p.1 (c.in_err-plan.ensures.same, c.in_err-plan.ensures.capacity)

pub returns-clause-leaves : goal.returns-clause-leaves
returns-clause-leaves g c =
    let w = c.args.written in
    let d = c.args.database.now in
    let mid = c.plan.new.db in
    let new = c.commit-undo.new.db in
    let undo = c.commit-undo.result in
    let writes = plan_writes mid new c.in_ok-plan.plan w.set w.table (rows_written any_meaning d w) w.ids.next c.in_ok-plan.ensures.plans c.commit-undo.ensures.puts in
    let wrote = subst (λ (x : AnyDatabase). Writes any_meaning x w.set w.table (rows_written any_meaning d w) w.ids.next (Ok tt) (database_for any_meaning new)) c.in_ok-plan.ensures.data writes in (
      record {
        undoes = undoes_before any_meaning d mid new undo c.graph-graph.ensures.kept c.in_ok-plan.ensures.same c.commit-undo.ensures.undoes;
        changed = λ t.
            subst (λ (l : List ℕ). TellsApart ((database_for any_meaning d).state.tables t) ((database_for any_meaning new).state.tables t) (is_in t l)) (sym c.commit-undo.ensures.changed)
            (subst (λ (x : AnyDatabase). TellsApart ((database_for any_meaning d).state.tables t) (x.state.tables t) (is_in t c.in_ok-plan.plan.changed)) (sym wrote.1) (c.in_ok-plan.ensures.tells t));
        carried =
            subst (λ (l : List ℕ). CarriedLead (database_for any_meaning d).state.tables (database_for any_meaning new).state.tables l undo.carried) (sym c.commit-undo.ensures.changed)
            (subst (λ (l : List (Numbered (List Change))). CarriedLead (database_for any_meaning d).state.tables (database_for any_meaning new).state.tables c.in_ok-plan.plan.changed l) (sym c.commit-undo.ensures.carried)
            (subst (λ (x : AnyDatabase). CarriedLead (database_for any_meaning d).state.tables x.state.tables c.in_ok-plan.plan.changed c.in_ok-plan.plan.carried) (sym wrote.1) c.in_ok-plan.ensures.carried));
      },
      holds_more d mid new c.in_ok-plan.ensures.capacity (holds_enough mid new c.commit-undo.ensures.capacity),
    )
