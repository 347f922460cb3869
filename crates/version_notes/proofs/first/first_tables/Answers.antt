-- One more live table.
use Rattle.std.proofs.Common.{refl, slice_index_or}
use Rattle.db_state.specs.Fields.{state_for}
use Rattle.version_notes.specs.First.{first_change}
use Rattle.version_notes.proofs.ListLemmas.{in_at, next_made}
use Rattle.version_notes.proofs.first.first_tables.Goals as goal

pub push_first-requires : goal.push_first-requires
push_first-requires g c = c.requires _ (in_at c.args.numbers.now c.loop-number.number-index 0 c.loop-number-test.true)

pub loop-number-preserved : goal.loop-number-preserved
loop-number-preserved g c =
    let numbers = c.args.numbers.now in
    let at = c.loop-number.number-index in
    next_made (first_change c.args.database.now.graph.edges (state_for g.O.Operator.meaning c.args.database.now).tables) numbers at 0 (slice_index_or numbers at 0) c.loop-number.tables c.push_first.new.tables c.loop-number-test.true refl
    c.loop-number.invariant c.in_ok-push_first.ensures
