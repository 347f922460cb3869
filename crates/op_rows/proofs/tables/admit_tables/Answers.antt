use Rattle.std.proofs.Common.{◌≡◌, [], Option, List, ◌∙◌, ap, subst, length, arith}
use Rattle.row_store.specs.States.{TableState}
use Rattle.op_law.specs.Tables.{contents}
use Rattle.op_law.specs.Identifiers.{ids_over}
use Rattle.op_law.specs.Calls.{tables_of}
use Rattle.op_rows.specs.declared.near_side.NearSide.{NearSide}
use Rattle.op_rows.specs.NearSides.{seen_from, half_from, far_tables}
use Rattle.op_rows.specs.inner.Passes.{AdmitsEach}
use Rattle.op_rows.proofs.PremiseLemmas.{near_rows, few_made, contents_long}
use Rattle.op_rows.proofs.AdmissionLemmas.{admits_made, admits_no_row, admits_no_memory, admits_no_number}
use Rattle.op_rows.proofs.tables.admit_tables.Goals.{then-len-ne0-via-then-len-ne0, then-len-ne0-via-else-len-ne0+then-kept-count_aux}
use Rattle.op_rows.proofs.tables.admit_tables.Goals as goal

pub returns-then-len-ne0 : goal.returns-then-len-ne0
returns-then-len-ne0 g c =
    let it = c.args.each.now in
    let r = g.R.RowOperator.row_meaning it.operator.now in
    let half = half_from it.side r (g.met.R.RowOperator.row_laws it.operator.now) in
    elim c.then-len-ne0.branch [
      | then-len-ne0-via-then-len-ne0 w ↦
          admits_no_memory (seen_from it.side r) half it.near.now (tables_of it.aux.now) c.args.memory.now.entries
          (λ none. absurd (omega (arith, none, c.len.ensures, w.if-len-ne0.true)))
      | then-len-ne0-via-else-len-ne0+then-kept-count_aux w ↦
          admits_no_number (seen_from it.side r) half it.near.now (tables_of it.aux.now) c.args.memory.now.entries
          (λ same. absurd (omega (arith, same, contents_long it.aux.now.tables, ap length c.as_slice-kept.ensures, w.count_aux.ensures, w.if-kept-count_aux.true)))
    ]

pub admit_each-requires-clause-near : goal.admit_each-requires-clause-near
admit_each-requires-clause-near g c =
    let it = c.args.each.now in
    let r = g.R.RowOperator.row_meaning it.operator.now in
    near_rows (seen_from it.side r) (half_from it.side r (g.met.R.RowOperator.row_laws it.operator.now)) it.near.now c.requires

pub new-requires : goal.new-requires
new-requires g c =
    let it = c.args.each.now in
    let seen = seen_from it.side (g.R.RowOperator.row_meaning it.operator.now) in
    let each = subst (λ (answer : Option (List TableState)). AdmitsEach seen it.near.now (tables_of it.aux.now) c.count_tables-count.result c.as_slice.result.now answer) c.in-Some.is c.in_ok-tables.ensures in
    few_made c.in-Some.tables c.count_tables-count.result c.as_slice.result.now _ each.0 c.count_tables-count.ensures.few

pub returns-in-Some : goal.returns-in-Some
returns-in-Some g c =
    let it = c.args.each.now in
    let r = g.R.RowOperator.row_meaning it.operator.now in
    let seen = seen_from it.side r in
    let each = subst (λ (answer : Option (List TableState)). AdmitsEach seen it.near.now (tables_of it.aux.now) c.count_tables-count.result c.as_slice.result.now answer) c.in-Some.is c.in_ok-tables.ensures in
    let ids : c.as_slice.result.now ≡ ids_over (contents c.tables.result.now) (ids_over (contents c.as_slice-kept.result.now) []) = c.as_slice.ensures ∙ c.in_ok-ids.ensures.value in
    let count : c.count_tables-count.result ≡ seen.targets =
    c.count_tables-count.ensures.value ∙ ap (λ (side : NearSide). (seen_from side r).sources) c.far.ensures ∙ far_tables it.side r in
    admits_made seen (half_from it.side r (g.met.R.RowOperator.row_laws it.operator.now)) it.near.now (tables_of it.aux.now) c.args.memory.now.entries
    c.tables.result.now c.as_slice-kept.result.now c.in-Some.tables c.count_tables-count.result c.as_slice.result.now c.new.result
    c.tables.ensures.all (ap (λ (tables : List TableState). contents tables) c.as_slice-kept.ensures) c.in_ok-ids.ensures.first c.in_ok-ids.ensures.second ids
    (omega (arith, c.len.ensures, c.if-len-ne0.false)) (omega (arith, c.count_aux.ensures, c.if-kept-count_aux.false)) count each c.new.ensures

pub returns : goal.returns
returns g c =
    let it = c.args.each.now in
    let r = g.R.RowOperator.row_meaning it.operator.now in
    let seen = seen_from it.side r in
    let each = subst (λ (answer : Option (List TableState)). AdmitsEach seen it.near.now (tables_of it.aux.now) c.count_tables-count.result c.as_slice.result.now answer) c.in-None.is c.in_ok-tables.ensures in
    admits_no_row seen (half_from it.side r (g.met.R.RowOperator.row_laws it.operator.now)) it.near.now (tables_of it.aux.now) c.args.memory.now.entries each.0 each.1
