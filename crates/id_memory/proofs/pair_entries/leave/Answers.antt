use Rattle.std.proofs.Common.{arith}
use Rattle.id_memory.specs.inner.Orders.{pair_order, pair_total}
use Rattle.id_memory.proofs.CountLemmas.{counts_taken}
use Rattle.id_memory.proofs.pair_entries.leave.Goals as goal

pub returns : goal.returns
returns c = record {
  less_rises = c.take.ensures.rise;
  more_rises = c.requires.rises;
  counts = counts_taken pair_order pair_total (c.args.a, c.args.b, c.args.c) c.args.pairs.now.entries c.take.new.self.entries c.requires.rises c.take.ensures.rise c.requires.there c.take.ensures.entries;
  capacity = omega (arith, c.take.ensures.capacity);
}
