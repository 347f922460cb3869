use Rattle.std.proofs.Common.{ℕ, Option, ap, ◌∙◌, sym, subst, List, slice_index_or}
use Rattle.row_store.specs.Rows.{Rows, AreBelow, row_of}
use Rattle.op_rows.specs.inner.CellLemmas.{IdsRise}
use Rattle.row_parts.specs.RowCells.{Cell, or_else}
use Rattle.pair_rows.specs.Kept.{paired, part_at}
use Rattle.pair_rows.specs.Halves.{pick_of}
use Rattle.pair_rows.proofs.ReadingLemmas.{from_more, from_below, paired_at}
use Rattle.pair_rows.proofs.side_reading.side_read.Goals as goal

pub push_cell-requires : goal.push_cell-requires
push_cell-requires c =
    let f : ℕ → Cell = λ id. or_else (row_of c.args.aux.now.rows id) (paired (pick_of c.args.half) c.args.places.now c.args.target.now.rows c.args.entries.now id) in
    subst (λ (rows : Rows). AreBelow rows (slice_index_or c.as_slice-id-items.result.now c.loop-id.id-index 0)) (sym c.loop-id.invariant)
    (from_below f c.as_slice-id-items.result.now c.loop-id.id-index c.loop-id-test.true (subst (λ (ids : List ℕ). IdsRise 0 ids) (sym c.as_slice-id-items.ensures) c.in_ok-ids.ensures.rise))

pub loop-id-preserved : goal.loop-id-preserved
loop-id-preserved c =
    let pick = pick_of c.args.half in
    let r = c.args.target.now.rows in
    let id = slice_index_or c.as_slice-id-items.result.now c.loop-id.id-index 0 in
    let other = row_of c.args.aux.now.rows id in
    from_more (λ id. or_else (row_of c.args.aux.now.rows id) (paired pick c.args.places.now r c.args.entries.now id)) c.as_slice-id-items.result.now c.loop-id.id-index c.loop-id.made.rows c.push_cell.new.table.rows c.in_ok-cell.cell
    c.loop-id-test.true c.loop-id.invariant
    (c.in_ok-cell.ensures ∙ ap (λ (p : Option ℕ). or_else other (part_at c.args.places.now r p)) (c.in_ok-partners.ensures id)
    ∙ ap (λ (cell : Cell). or_else other cell) (paired_at pick c.args.places.now r c.args.entries.now id))
    c.in_ok-push_cell.ensures
