use Rattle.std.proofs.Common.{◌+◌, arith}
use Rattle.ordered_pages.proofs.BalanceLemmas.{takes}
use Rattle.ordered_pages.proofs.balance.take_next.Goals as goal

pub returns-clause-entries : goal.returns-clause-entries
returns-clause-entries g c = (takes c.args.pages.now.items c.args.at (c.args.at + 1) c.len-end.result c.index_mut-2.result.now c.index_mut.result.now c.remove-entry.new.self c.index.result.now c.insert.new.self c.remove-entry.result
    c.requires.others c.requires.own c.requires.next (omega arith) c.index_mut.ensures.value c.remove-entry.ensures.value c.remove-entry.ensures.entries c.index.ensures c.index_mut-2.ensures.value c.len-end.ensures c.insert.ensures).entries

pub returns-clause-sized : goal.returns-clause-sized
returns-clause-sized g c = (takes c.args.pages.now.items c.args.at (c.args.at + 1) c.len-end.result c.index_mut-2.result.now c.index_mut.result.now c.remove-entry.new.self c.index.result.now c.insert.new.self c.remove-entry.result
    c.requires.others c.requires.own c.requires.next (omega arith) c.index_mut.ensures.value c.remove-entry.ensures.value c.remove-entry.ensures.entries c.index.ensures c.index_mut-2.ensures.value c.len-end.ensures c.insert.ensures).sizes
