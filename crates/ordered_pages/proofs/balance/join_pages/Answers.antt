use Rattle.std.proofs.Common.{◌+◌, arith}
use Rattle.ordered_pages.proofs.BalanceLemmas.{joins}
use Rattle.ordered_pages.proofs.balance.join_pages.Goals as goal

pub returns-clause-entries : goal.returns-clause-entries
returns-clause-entries g c = (joins c.args.pages.now.items c.remove-next.new.self.items c.args.at (c.args.at + 1) c.index_mut.result.now c.remove-next.result c.join.new.self
    c.requires.others (omega arith) c.remove-next.ensures.value c.remove-next.ensures.items c.index_mut.ensures.value c.join.ensures.own c.requires.both).entries

pub returns-clause-sized : goal.returns-clause-sized
returns-clause-sized g c = (joins c.args.pages.now.items c.remove-next.new.self.items c.args.at (c.args.at + 1) c.index_mut.result.now c.remove-next.result c.join.new.self
    c.requires.others (omega arith) c.remove-next.ensures.value c.remove-next.ensures.items c.index_mut.ensures.value c.join.ensures.own c.requires.both).sizes
