use Rattle.std.proofs.Common.{sym, subst, slice_index_or}
use Rattle.row_store.specs.Rows.{Rows, AreBelow}
use Rattle.outer_law.specs.Entries.{with_absent}
use Rattle.outer_entries.specs.Showings.{joining_of}
use Rattle.outer_entries.proofs.EntryLemmas.{below_next, joined_next}
use Rattle.outer_entries.proofs.matching.shown.Goals as goal

pub push_cell-requires : goal.push_cell-requires
push_cell-requires c =
    let j = joining_of c.args.join.now in
    subst (λ (rows : Rows). AreBelow rows (slice_index_or c.args.entries.now c.loop-entry.entry-index (0, 0, 0)).0) (sym c.loop-entry.invariant)
    (below_next j (with_absent j.first c.args.s.now.rows) (with_absent j.second c.args.t.now.rows) c.args.entries.now c.loop-entry.entry-index c.loop-entry-test.true c.requires)

pub loop-entry-preserved : goal.loop-entry-preserved
loop-entry-preserved c =
    let j = joining_of c.args.join.now in
    joined_next j (with_absent j.first c.args.s.now.rows) (with_absent j.second c.args.t.now.rows) c.args.entries.now c.loop-entry.entry-index c.loop-entry.made.rows c.push_cell.new.table.rows c.in_ok-cell.cell
    c.loop-entry-test.true c.loop-entry.invariant c.in_ok-cell.ensures c.in_ok-push_cell.ensures
