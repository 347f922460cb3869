use Rattle.key_index.specs.inner.Entries.{keys_by_id}
use Rattle.key_index.proofs.BuildLemmas.{below_next}
use Rattle.key_index.proofs.build.keyed_pages.Goals as goal

pub add_key-requires-clause-below : goal.add_key-requires-clause-below
add_key-requires-clause-below c =
    below_next c.args.columns.now (keys_by_id c.loop-row.pages.entries) c.loop-row.row-iterator c.next.new.self c.args.table.now.rows c.in-Some.row.now c.iter-row-items.ensures.rise c.loop-row.invariant.2 c.in-Some.ensures.steps
