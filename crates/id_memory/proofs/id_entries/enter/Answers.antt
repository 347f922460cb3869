use Rattle.std.proofs.Common.{◌≡◌, None, Some, ap, subst, ◌∙◌, arith}
use Rattle.ordered_pages.specs.Entries.{count_of, entry_of, PutsAt}
use Rattle.id_memory.specs.inner.Orders.{Triple, id_order, id_total}
use Rattle.id_memory.proofs.CountLemmas.{counts_put}
use Rattle.id_memory.proofs.IdLemmas.{is_with, no_entry}
use Rattle.id_memory.proofs.id_entries.enter.Goals as goal

pub returns-clause-with : goal.returns-clause-with
returns-clause-with c =
    is_with c.args.entries.now.entries c.put.new.self.entries c.args.p (Some (c.args.p, c.args.s, c.args.t)) c.put.ensures.rise
    (subst (λ (e : Triple). PutsAt id_order e.0 (Some e) c.args.entries.now.entries c.put.new.self.entries) c.new.ensures c.put.ensures.entries)

pub returns-clause-more : goal.returns-clause-more
returns-clause-more c =
    let none = no_entry c.args.entries.now.entries c.args.p c.requires.absent in
    record {
      less_rises = c.requires.rises;
      more_rises = c.put.ensures.rise;
      counts = counts_put id_order id_total (c.args.p, c.args.s, c.args.t) c.args.entries.now.entries c.put.new.self.entries c.requires.rises c.put.ensures.rise none
          (subst (λ (e : Triple). PutsAt id_order e.0 (Some e) c.args.entries.now.entries c.put.new.self.entries) c.new.ensures c.put.ensures.entries);
      capacity = c.put.ensures.capacity;
    }

pub returns-clause-len : goal.returns-clause-len
returns-clause-len c =
    let gone : c.put.result ≡ None = c.put.ensures.value ∙ ap (λ (e : Triple). entry_of id_order c.args.entries.now.entries e.0) c.new.ensures ∙ no_entry c.args.entries.now.entries c.args.p c.requires.absent in
    let none : count_of c.put.result ≡ 0 = ap count_of gone in
    omega (arith, c.put.ensures.len, none)
