use Rattle.std.proofs.Common.{◌++◌, slice_index_or, take, sym, ap, ◌∙◌, subst}
use Rattle.row_store.specs.Rows.{AreBelow, Rows, row_of}
use Rattle.op_law.specs.Identifiers.{has_id}
use Rattle.db_state.specs.inner.Passes.{picked}
use Rattle.db_state.proofs.SeenLemmas.{before_below, below_only, id_more, none_seen}
use Rattle.db_state.proofs.sight.copy_rows_of.Goals as goal

pub loop-id-init : goal.loop-id-init
loop-id-init c = c.new-made.ensures ∙ sym (none_seen c.args.table.now.rows)

pub copy_row_of-requires : goal.copy_row_of-requires
copy_row_of-requires c =
    let ids = c.args.ids.now in
    let i = c.loop-id.id-index in
    subst (λ (rows : Rows). AreBelow rows (slice_index_or ids i 0)) (sym c.loop-id.invariant)
    (below_only (has_id (take i ids)) (slice_index_or ids i 0) (before_below ids i c.loop-id-test.true c.requires) c.args.table.now.rows)

pub loop-id-preserved : goal.loop-id-preserved
loop-id-preserved c =
    let ids = c.args.ids.now in
    let i = c.loop-id.id-index in
    let id = slice_index_or ids i 0 in
    let rows = c.args.table.now.rows in
    c.in_ok-copy_row_of.ensures.ok ∙ ap (λ (made : Rows). made ++ picked id (row_of rows id)) c.loop-id.invariant
    ∙ sym (id_more ids i c.loop-id-test.true c.requires rows c.in_ok-copy_row_of.ensures.rise)
