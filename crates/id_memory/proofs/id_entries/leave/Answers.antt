use Rattle.std.proofs.Common.{◌≡◌, None, ap, ◌∙◌, arith}
use Rattle.ordered_pages.specs.Entries.{count_of}
use Rattle.id_memory.specs.inner.Orders.{id_order, id_total}
use Rattle.id_memory.proofs.CountLemmas.{counts_taken}
use Rattle.id_memory.proofs.IdLemmas.{is_with, some_entry}
use Rattle.id_memory.proofs.id_entries.leave.Goals as goal

pub returns-clause-with : goal.returns-clause-with
returns-clause-with c = is_with c.args.entries.now.entries c.take.new.self.entries c.args.p None c.take.ensures.rise c.take.ensures.entries

pub returns-clause-more : goal.returns-clause-more
returns-clause-more c =
    let there = some_entry c.args.entries.now.entries c.args.p c.args.s c.args.t c.requires.there in
    record {
      less_rises = c.take.ensures.rise;
      more_rises = c.requires.rises;
      counts = counts_taken id_order id_total (c.args.p, c.args.s, c.args.t) c.args.entries.now.entries c.take.new.self.entries c.requires.rises c.take.ensures.rise there c.take.ensures.entries;
      capacity = omega (arith, c.take.ensures.capacity);
    }

pub returns-clause-len : goal.returns-clause-len
returns-clause-len c =
    let there = some_entry c.args.entries.now.entries c.args.p c.args.s c.args.t c.requires.there in
    let one : count_of c.take.result ≡ 1 = ap count_of (c.take.ensures.value ∙ there) in
    omega (arith, c.take.ensures.len, one)
