use Rattle.std.proofs.Common.{ap, ◌+◌, ◌-◌, ℕ, arith}
use Rattle.ordered_pages.proofs.BalanceLemmas.{gives}
use Rattle.ordered_pages.proofs.balance.give_next.Goals as goal

pub returns-clause-entries : goal.returns-clause-entries
returns-clause-entries g c = (gives c.args.pages.now.items c.args.at (c.args.at + 1) (c.len-last.result - 1) c.index_mut.result.now c.index_mut-2.result.now c.remove-entry.new.self c.index.result.now c.insert.new.self c.remove-entry.result
    c.requires.others c.requires.own c.requires.next (omega arith) c.index.ensures (ap (λ (k : ℕ). k - 1) c.len-last.ensures) c.index_mut.ensures.value c.remove-entry.ensures.value c.remove-entry.ensures.entries c.index_mut-2.ensures.value c.insert.ensures).entries

pub returns-clause-sized : goal.returns-clause-sized
returns-clause-sized g c = (gives c.args.pages.now.items c.args.at (c.args.at + 1) (c.len-last.result - 1) c.index_mut.result.now c.index_mut-2.result.now c.remove-entry.new.self c.index.result.now c.insert.new.self c.remove-entry.result
    c.requires.others c.requires.own c.requires.next (omega arith) c.index.ensures (ap (λ (k : ℕ). k - 1) c.len-last.ensures) c.index_mut.ensures.value c.remove-entry.ensures.value c.remove-entry.ensures.entries c.index_mut-2.ensures.value c.insert.ensures).sizes
