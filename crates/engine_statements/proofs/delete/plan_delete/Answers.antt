use Rattle.std.proofs.Common.{ℕ, Ok, Option, length, ap, sym, subst, ◌∙◌}
use Rattle.id_memory.specs.States.{CounterState}
use Rattle.expr_lang.specs.Terms.{Term}
use Rattle.row_store.specs.Rows.{Rows}
use Rattle.row_changes.specs.Changed.{changed}
use Rattle.statements.specs.Views.{filter_view}
use Rattle.ordinary_table.specs.Shown.{condition_of}
use Rattle.ordinary_table.specs.Laws.{IsTable}
use Rattle.ordinary_table.proofs.KeptLaws.{delete_keeps}
use Rattle.engine_statements.specs.Found.{shown_names}
use Rattle.engine_statements.specs.Calls.{condition_term, rows_in}
use Rattle.engine_statements.proofs.ExpressionLemmas.{lent_reads, lent_term}
use Rattle.engine_statements.proofs.StandLemmas.{may_get_same}
use Rattle.engine_statements.proofs.PlannedLemmas.{delete_planned}
use Rattle.engine_statements.proofs.delete.plan_delete.Goals as goal

pub delete_found-requires-clause-reads : goal.delete_found-requires-clause-reads
delete_found-requires-clause-reads g c =
    let columns = c.in_ok-found.found.heading.now.columns in
    let shown = c.as_slice-2.ensures ∙ c.in_ok-shown.ensures ∙ ap shown_names c.as_slice.ensures in
    lent_reads columns (filter_view c.args.filter.now) c.as_ref.result c.in_ok-condition.condition c.as_ref.ensures.value (c.in_ok-condition.ensures columns shown)

pub returns-clause-taken : goal.returns-clause-taken
returns-clause-taken g c =
    let k = c.args.reader.database.now in
    let f = c.in_ok-found.found in
    let width = length f.heading.now.columns in
    let table = c.in_ok-found.ensures.there in
    let next = c.next-next.ensures.value ∙ ap (λ (i : CounterState). i.next) c.ids.ensures in
    let changes = c.in_ok-changed.changed.changes in
    let condition = condition_of c.as_ref.result in
    let rows = c.in_ok-changed.ensures.rows in
    let stands = subst (λ (rs : Rows). IsTable width k.ids.next rs) (sym rows) (delete_keeps width k.ids.next (rows_in k f.number) condition table.stands) in
    record {
      lives = table.lives;
      may = may_get_same k f (changed (rows_in k f.number) changes) c.next-next.result table next stands;
      old = c.in_ok-changed.ensures.old;
    }

pub returns-clause-gives : goal.returns-clause-gives
returns-clause-gives g c =
    let k = c.args.reader.database.now in
    let f = c.in_ok-found.found in
    let shown = c.as_slice-2.ensures ∙ c.in_ok-shown.ensures ∙ ap shown_names c.as_slice.ensures in
    let next = c.next-next.ensures.value ∙ ap (λ (i : CounterState). i.next) c.ids.ensures in
    let lent = lent_term c.as_ref.result ∙ ap condition_term c.as_ref.ensures.value in
    let knows = c.in_ok-condition.ensures f.heading.now.columns shown ∙ ap (λ (t : Option (Term ℕ)). Ok t) (sym lent) in
    let changes = c.in_ok-changed.changed.changes in
    let condition = condition_of c.as_ref.result in
    let rows = c.in_ok-changed.ensures.rows in
    let many = c.in_ok-changed.ensures.chosen in
    delete_planned k c.args.name.now (filter_view c.args.filter.now) f condition (changed (rows_in k f.number) changes) c.next-next.result c.in_ok-changed.changed.chosen tt
    c.in_ok-found.ensures.gives c.in_ok-found.ensures.there next knows c.in_ok-check_condition_ids.ensures rows many
