use Rattle.std.proofs.Common.{◌≡◌, ◌≤◌, ℕ, List, length, ap, sym, subst, ◌∙◌}
use Rattle.std.specs.List.{All}
use Rattle.par_base.specs.declared.value.Value.{Value}
use Rattle.statements.specs.Views.{filter_view}
use Rattle.ordinary_table.specs.Shown.{condition_of}
use Rattle.ordinary_table.proofs.ColumnLaws.{selected_wide}
use Rattle.engine_statements.specs.Calls.{rows_in}
use Rattle.engine_statements.specs.Found.{shown_names}
use Rattle.engine_statements.proofs.ExpressionLemmas.{lent_reads}
use Rattle.engine_statements.proofs.ItemLemmas.{header_many, places_within}
use Rattle.engine_statements.proofs.select.select_rows.Goals as goal

pub select_found-requires-clause-shows : goal.select_found-requires-clause-shows
select_found-requires-clause-shows g c =
    let columns = c.in_ok-found.found.heading.now.columns in
    let names = c.in_ok-shown.ensures ∙ ap shown_names c.as_slice.ensures in
    let places = places_within columns c.args.items.now c.in_ok-places.places (c.in_ok-places.ensures columns (c.as_slice-2.ensures ∙ names)) in
    subst (λ (listed : List ℕ). All (λ place. place ≤ length columns) listed) (sym c.as_slice-places.ensures) places

pub select_found-requires-clause-reads : goal.select_found-requires-clause-reads
select_found-requires-clause-reads g c =
    let columns = c.in_ok-found.found.heading.now.columns in
    let names = c.in_ok-shown.ensures ∙ ap shown_names c.as_slice.ensures in
    lent_reads columns (filter_view c.args.filter.now) c.as_ref.result c.in_ok-condition.condition c.as_ref.ensures.value (c.in_ok-condition.ensures columns (c.as_slice-3.ensures ∙ names))

pub returns-clause-reply : goal.returns-clause-reply
returns-clause-reply g c =
    let columns = c.in_ok-found.found.heading.now.columns in
    let names = c.in_ok-shown.ensures ∙ ap shown_names c.as_slice.ensures in
    let many = header_many columns c.args.items.now c.in_ok-places.places (c.in_ok-places.ensures columns (c.as_slice-2.ensures ∙ names)) in
    let header = ap length (c.in_ok-header.ensures columns (c.as_slice-4.ensures ∙ names)) in
    let wide = selected_wide (rows_in c.args.reader.database.now c.in_ok-found.found.number) c.as_slice-places.result.now (condition_of c.as_ref.result) in
    let all = subst (λ (rows : List (List Value)). All (λ row. length row ≡ length c.as_slice-places.result.now) rows) (sym c.in_ok-rows.ensures) wide in
    λ k d within. all k d within ∙ ap length c.as_slice-places.ensures ∙ many ∙ sym header
