use Rattle.std.proofs.Common.{◌≡◌, ℕ, List, Ok, Option, length, map, ap, sym, subst, ◌∙◌}
use Rattle.std.specs.List.{All}
use Rattle.expr_lang.specs.Terms.{Term}
use Rattle.id_memory.specs.States.{CounterState}
use Rattle.row_changes.specs.Changed.{changed}
use Rattle.statements.specs.Views.{assignment_view, filter_view}
use Rattle.ordinary_table.specs.declared.update.SetTo.{SetTo}
use Rattle.ordinary_table.specs.Shown.{condition_of}
use Rattle.ordinary_table.specs.Fits.{SetFits}
use Rattle.ordinary_table.specs.Written.{sets_of, updated}
use Rattle.engine_statements.specs.Found.{shown_names, condition_list}
use Rattle.engine_statements.specs.Statements.{known_sets}
use Rattle.engine_statements.specs.Calls.{condition_term, rows_in}
use Rattle.engine_statements.proofs.ExpressionLemmas.{lent_reads, lent_term, sets_fit}
use Rattle.engine_statements.proofs.TakenLemmas.{update_taken}
use Rattle.engine_statements.proofs.PlannedLemmas.{update_planned}
use Rattle.engine_statements.proofs.update.plan_update.Goals as goal

pub update_found-requires-clause-sets : goal.update_found-requires-clause-sets
update_found-requires-clause-sets g c =
    let columns = c.in_ok-found.found.heading.now.columns in
    let assignments = map assignment_view c.args.assignments.now in
    let known = subst (λ (names : List (List ℕ)). known_sets names assignments ≡ Ok (sets_of c.in_ok-sets.sets)) c.as_slice-columns.ensures c.in_ok-sets.ensures in
    subst (λ (sets : List SetTo). All (SetFits (length columns)) (sets_of sets)) (sym c.as_slice-sets.ensures) (sets_fit columns assignments (sets_of c.in_ok-sets.sets) known)

pub update_found-requires-clause-reads : goal.update_found-requires-clause-reads
update_found-requires-clause-reads g c =
    let columns = c.in_ok-found.found.heading.now.columns in
    let shown = c.as_slice-2.ensures ∙ c.in_ok-shown.ensures ∙ ap shown_names c.as_slice-columns.ensures in
    lent_reads columns (filter_view c.args.filter.now) c.as_ref.result c.in_ok-condition.condition c.as_ref.ensures.value (c.in_ok-condition.ensures columns shown)

pub returns-clause-taken : goal.returns-clause-taken
returns-clause-taken g c =
    let k = c.args.reader.database.now in
    let f = c.in_ok-found.found in
    let assignments = map assignment_view c.args.assignments.now in
    let condition = condition_of c.as_ref.result in
    let table = c.in_ok-found.ensures.there in
    let next = c.next-next.ensures.value ∙ ap (λ (i : CounterState). i.next) c.ids.ensures in
    let known = subst (λ (names : List (List ℕ)). known_sets names assignments ≡ Ok (sets_of c.in_ok-sets.sets)) c.as_slice-columns.ensures c.in_ok-sets.ensures in
    let changes = c.in_ok-changed.changed.changes in
    let given = c.in_ok-changed.ensures.rows in
    let rows = given ∙ ap (λ (sets : List SetTo). updated (rows_in k f.number) (sets_of sets) condition) c.as_slice-sets.ensures in
    record {
      lives = table.lives;
      may = update_taken k f assignments (condition_list (filter_view c.args.filter.now)) (sets_of c.in_ok-sets.sets) condition c.next-next.result (changed (rows_in k f.number) changes) tt table next known c.in_ok-check_update_ids.ensures c.requires.fits rows;
      old = c.in_ok-changed.ensures.old;
    }

pub returns-clause-gives : goal.returns-clause-gives
returns-clause-gives g c =
    let k = c.args.reader.database.now in
    let f = c.in_ok-found.found in
    let assignments = map assignment_view c.args.assignments.now in
    let condition = condition_of c.as_ref.result in
    let shown = c.as_slice-2.ensures ∙ c.in_ok-shown.ensures ∙ ap shown_names c.as_slice-columns.ensures in
    let next = c.next-next.ensures.value ∙ ap (λ (i : CounterState). i.next) c.ids.ensures in
    let known = subst (λ (names : List (List ℕ)). known_sets names assignments ≡ Ok (sets_of c.in_ok-sets.sets)) c.as_slice-columns.ensures c.in_ok-sets.ensures in
    let lent = lent_term c.as_ref.result ∙ ap condition_term c.as_ref.ensures.value in
    let knows = c.in_ok-condition.ensures f.heading.now.columns shown ∙ ap (λ (t : Option (Term ℕ)). Ok t) (sym lent) in
    let changes = c.in_ok-changed.changed.changes in
    let given = c.in_ok-changed.ensures.rows in
    let rows = given ∙ ap (λ (sets : List SetTo). updated (rows_in k f.number) (sets_of sets) condition) c.as_slice-sets.ensures in
    let many = c.in_ok-changed.ensures.chosen in
    update_planned k c.args.name.now assignments (filter_view c.args.filter.now) f (sets_of c.in_ok-sets.sets) condition (changed (rows_in k f.number) changes) c.next-next.result
    c.in_ok-changed.changed.chosen tt tt c.in_ok-found.ensures.gives c.in_ok-found.ensures.there next known knows c.in_ok-check_set_once.ensures c.in_ok-check_update_ids.ensures rows many
