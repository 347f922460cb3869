-- The changes of one more table.
use Rattle.std.proofs.Common.{refl, slice_index_or}
use Rattle.version_notes.specs.Runs.{changed_table}
use Rattle.version_notes.proofs.ListLemmas.{next_made}
use Rattle.version_notes.proofs.changes.changes_in.Goals as goal

pub loop-number-preserved : goal.loop-number-preserved
loop-number-preserved g c =
    let numbers = c.args.numbers.now in
    let at = c.loop-number.number-index in
    next_made (changed_table c.args.graph.now.edges c.args.undo.now) numbers at 0 (slice_index_or numbers at 0) c.loop-number.tables c.push_table.new.tables c.loop-number-test.true refl c.loop-number.invariant c.in_ok-push_table.ensures
