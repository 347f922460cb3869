use Rattle.std.proofs.Common.{sym, ◌∙◌}
use Rattle.std.proofs.lemmas.Result.{err_from_is_err_and}
use Rattle.layout_rules.specs.Closing.{named_tables, named_trees}
use Rattle.layout_rules.proofs.CloseLaws.{close_done, close_shared, close_unknown, close_unstored, new_is, wanted_is}
use Rattle.layout_rules.proofs.ClosedLemmas.{computed_done, computed_shared, computed_unknown, computed_unstored}
use Rattle.layout_rules.proofs.closing.close.Goals as goal

pub returns-in_err-tables-clause-closes : goal.returns-in_err-tables-clause-closes
returns-in_err-tables-clause-closes g c =
    let p = err_from_is_err_and c.from_residual.result c.from_residual.ensures.1 in
    rw (p.1, p.2) (close_unknown c.args.graph.now c.args.layout.now.operators c.args.named.now c.in_err-tables.field-0.0 c.in_err-tables.ensures)

pub returns-in_err-tables-clause-computed : goal.returns-in_err-tables-clause-computed
returns-in_err-tables-clause-computed g c =
    let p = err_from_is_err_and c.from_residual.result c.from_residual.ensures.1 in
    rw (p.1, p.2) (computed_unknown c.args.graph.now c.args.layout.now.operators c.args.named.now c.in_err-tables.field-0.0 c.in_err-tables.ensures)

pub returns-in_err-refuse_shared-clause-closes : goal.returns-in_err-refuse_shared-clause-closes
returns-in_err-refuse_shared-clause-closes g c =
    let d = c.args.graph.now in
    let named = c.args.named.now in
    let wanted = c.as_slice-2.result.now in
    let is = wanted_is d.edges (named_trees d named) c.as_slice.result.now (named_tables d named) c.into_vec.result.items wanted (c.as_slice-2.ensures.value ∙ c.in_ok-wanted.ensures.value) (c.as_slice.ensures.value ∙ c.in_ok-trees.ensures) (c.into_vec.ensures ∙ c.in_ok-tables.ensures.1) in
    let p = err_from_is_err_and c.from_residual-in_err-refuse_shared.result c.from_residual-in_err-refuse_shared.ensures.1 in
    rw (p.1, p.2) (close_shared d c.args.layout.now.operators named c.in_ok-wanted.ensures.edges c.in_ok-tables.ensures.0 wanted is c.in_err-refuse_shared.field-0.0 c.in_err-refuse_shared.ensures)

pub returns-in_err-refuse_shared-clause-computed : goal.returns-in_err-refuse_shared-clause-computed
returns-in_err-refuse_shared-clause-computed g c =
    let d = c.args.graph.now in
    let named = c.args.named.now in
    let wanted = c.as_slice-2.result.now in
    let is = wanted_is d.edges (named_trees d named) c.as_slice.result.now (named_tables d named) c.into_vec.result.items wanted (c.as_slice-2.ensures.value ∙ c.in_ok-wanted.ensures.value) (c.as_slice.ensures.value ∙ c.in_ok-trees.ensures) (c.into_vec.ensures ∙ c.in_ok-tables.ensures.1) in
    let p = err_from_is_err_and c.from_residual-in_err-refuse_shared.result c.from_residual-in_err-refuse_shared.ensures.1 in
    rw (p.1, p.2) (computed_shared d c.args.layout.now.operators named c.in_ok-tables.ensures.0 wanted is c.in_err-refuse_shared.field-0.0 c.in_err-refuse_shared.ensures)

pub returns-in_err-refuse_unstored-clause-closes : goal.returns-in_err-refuse_unstored-clause-closes
returns-in_err-refuse_unstored-clause-closes g c =
    let d = c.args.graph.now in
    let named = c.args.named.now in
    let wanted = c.as_slice-2.result.now in
    let trees = c.as_slice.ensures.value ∙ c.in_ok-trees.ensures in
    let is = wanted_is d.edges (named_trees d named) c.as_slice.result.now (named_tables d named) c.into_vec.result.items wanted (c.as_slice-2.ensures.value ∙ c.in_ok-wanted.ensures.value) trees (c.into_vec.ensures ∙ c.in_ok-tables.ensures.1) in
    let new = new_is d.edges (named_trees d named) c.as_slice-3.result.now wanted c.as_slice-4.result.now c.args.layout.now.operators c.as_slice-5.result.now c.as_slice-6.result.now
    (c.as_slice-6.ensures ∙ c.in_ok-operators.ensures.value) (c.as_slice-3.ensures.value ∙ c.in_ok-trees.ensures) (c.as_slice-4.ensures.value ∙ sym c.as_slice-2.ensures.value) c.as_slice-5.ensures in
    let p = err_from_is_err_and c.from_residual-in_err-refuse_unstored.result c.from_residual-in_err-refuse_unstored.ensures.1 in
    rw (p.1, p.2) (close_unstored d c.args.layout.now.operators named c.in_ok-wanted.ensures.edges c.in_ok-tables.ensures.0 wanted is c.in_ok-refuse_shared.ensures c.as_slice-6.result.now new c.in_err-refuse_unstored.field-0.0 c.in_err-refuse_unstored.ensures)

pub returns-in_err-refuse_unstored-clause-computed : goal.returns-in_err-refuse_unstored-clause-computed
returns-in_err-refuse_unstored-clause-computed g c =
    let d = c.args.graph.now in
    let named = c.args.named.now in
    let wanted = c.as_slice-2.result.now in
    let trees = c.as_slice.ensures.value ∙ c.in_ok-trees.ensures in
    let is = wanted_is d.edges (named_trees d named) c.as_slice.result.now (named_tables d named) c.into_vec.result.items wanted (c.as_slice-2.ensures.value ∙ c.in_ok-wanted.ensures.value) trees (c.into_vec.ensures ∙ c.in_ok-tables.ensures.1) in
    let new = new_is d.edges (named_trees d named) c.as_slice-3.result.now wanted c.as_slice-4.result.now c.args.layout.now.operators c.as_slice-5.result.now c.as_slice-6.result.now
    (c.as_slice-6.ensures ∙ c.in_ok-operators.ensures.value) (c.as_slice-3.ensures.value ∙ c.in_ok-trees.ensures) (c.as_slice-4.ensures.value ∙ sym c.as_slice-2.ensures.value) c.as_slice-5.ensures in
    let p = err_from_is_err_and c.from_residual-in_err-refuse_unstored.result c.from_residual-in_err-refuse_unstored.ensures.1 in
    rw (p.1, p.2) (computed_unstored d c.args.layout.now.operators named c.in_ok-tables.ensures.0 wanted is c.in_ok-refuse_shared.ensures c.as_slice-6.result.now new c.in_err-refuse_unstored.field-0.0 c.in_err-refuse_unstored.ensures)

pub returns-clause-closes : goal.returns-clause-closes
returns-clause-closes g c =
    let d = c.args.graph.now in
    let named = c.args.named.now in
    let wanted = c.as_slice-2.result.now in
    let trees = c.as_slice.ensures.value ∙ c.in_ok-trees.ensures in
    let is = wanted_is d.edges (named_trees d named) c.as_slice.result.now (named_tables d named) c.into_vec.result.items wanted (c.as_slice-2.ensures.value ∙ c.in_ok-wanted.ensures.value) trees (c.into_vec.ensures ∙ c.in_ok-tables.ensures.1) in
    let new = new_is d.edges (named_trees d named) c.as_slice-3.result.now wanted c.as_slice-4.result.now c.args.layout.now.operators c.as_slice-5.result.now c.as_slice-6.result.now
    (c.as_slice-6.ensures ∙ c.in_ok-operators.ensures.value) (c.as_slice-3.ensures.value ∙ c.in_ok-trees.ensures) (c.as_slice-4.ensures.value ∙ sym c.as_slice-2.ensures.value) c.as_slice-5.ensures in
    close_done d c.args.layout.now.operators named c.in_ok-wanted.ensures.edges c.in_ok-tables.ensures.0 wanted is c.in_ok-refuse_shared.ensures c.as_slice-6.result.now new (record { operators = c.in_ok-operators.operators }) (sym c.as_slice-6.ensures) c.in_ok-refuse_unstored.ensures

pub returns-clause-computed : goal.returns-clause-computed
returns-clause-computed g c =
    let d = c.args.graph.now in
    let named = c.args.named.now in
    let wanted = c.as_slice-2.result.now in
    let trees = c.as_slice.ensures.value ∙ c.in_ok-trees.ensures in
    let is = wanted_is d.edges (named_trees d named) c.as_slice.result.now (named_tables d named) c.into_vec.result.items wanted (c.as_slice-2.ensures.value ∙ c.in_ok-wanted.ensures.value) trees (c.into_vec.ensures ∙ c.in_ok-tables.ensures.1) in
    let new = new_is d.edges (named_trees d named) c.as_slice-3.result.now wanted c.as_slice-4.result.now c.args.layout.now.operators c.as_slice-5.result.now c.as_slice-6.result.now
    (c.as_slice-6.ensures ∙ c.in_ok-operators.ensures.value) (c.as_slice-3.ensures.value ∙ c.in_ok-trees.ensures) (c.as_slice-4.ensures.value ∙ sym c.as_slice-2.ensures.value) c.as_slice-5.ensures in
    computed_done d c.args.layout.now.operators named c.in_ok-tables.ensures.0 wanted is c.in_ok-refuse_shared.ensures c.as_slice-6.result.now new (record { operators = c.in_ok-operators.operators }) (sym c.as_slice-6.ensures) c.in_ok-refuse_unstored.ensures
