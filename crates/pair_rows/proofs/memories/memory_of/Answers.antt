use Rattle.std.proofs.Common.{arith}
use Rattle.pair_rows.proofs.ShowingLemmas.{new_id, new_pair, put_more}
use Rattle.pair_rows.proofs.memories.memory_of.Goals as goal

pub put-requires-clause-new_id : goal.put-requires-clause-new_id
put-requires-clause-new_id c =
    let is = c.loop-entry.invariant.entries in
    rw is (new_id c.args.entries.now c.loop-entry.entry-index c.loop-entry-test.true c.requires.rise)

pub put-requires-clause-new_pair : goal.put-requires-clause-new_pair
put-requires-clause-new_pair c =
    let is = c.loop-entry.invariant.entries in
    rw is (new_pair c.args.entries.now c.loop-entry.entry-index c.loop-entry-test.true c.requires.one)

pub loop-entry-preserved : goal.loop-entry-preserved
loop-entry-preserved c = record {
  entries = put_more c.args.entries.now c.loop-entry.entry-index c.loop-entry.made.entries c.put.new.self.entries c.pairs_are_the_memory.ensures c.loop-entry-test.true c.requires.rise c.loop-entry.invariant.entries c.put.ensures.with;
  room = let a = c.put.ensures.room in let b = c.loop-entry.invariant.room in omega (arith, a, b);
}
