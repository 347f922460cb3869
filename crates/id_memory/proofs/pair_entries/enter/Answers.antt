use Rattle.std.proofs.Common.{Some, subst}
use Rattle.ordered_pages.specs.Entries.{PutsAt}
use Rattle.id_memory.specs.inner.Orders.{Triple, pair_order, pair_total}
use Rattle.id_memory.proofs.CountLemmas.{counts_put}
use Rattle.id_memory.proofs.pair_entries.enter.Goals as goal

pub returns : goal.returns
returns c = record {
  less_rises = c.requires.rises;
  more_rises = c.put.ensures.rise;
  counts = counts_put pair_order pair_total (c.args.a, c.args.b, c.args.c) c.args.pairs.now.entries c.put.new.self.entries c.requires.rises c.put.ensures.rise c.requires.absent
      (subst (λ (x : Triple). PutsAt pair_order (x.0, x.1) (Some x) c.args.pairs.now.entries c.put.new.self.entries) c.new.ensures c.put.ensures.entries);
  capacity = c.put.ensures.capacity;
}
