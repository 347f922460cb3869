use Rattle.db_state.proofs.EmptyLemmas.{empty_is}
use Rattle.db_state.proofs.db.Db.new.Goals as goal

pub invariant_of-result : goal.invariant_of-result
invariant_of-result g c =
    (empty_is g.O.Operator.meaning g.met.O.Operator.laws c.requires.reads c.args.limit _ c.new.ensures.edges c.new.ensures.versions c.new.ensures.numbers.0 c.new.ensures.numbers.1 c.new-2.ensures c.new-3.ensures c.new-4.ensures c.new-5.ensures c.new-6.ensures).0

pub returns-clause-empty : goal.returns-clause-empty
returns-clause-empty g c =
    (empty_is g.O.Operator.meaning g.met.O.Operator.laws c.requires.reads c.args.limit (record {
      graph = c.new.result;
      layout = record { operators = c.new-2.result };
      stored = c.new-3.result;
      aux = c.new-4.result;
      memories = c.new-5.result;
      ids = c.new-6.result;
    }) c.new.ensures.edges c.new.ensures.versions c.new.ensures.numbers.0 c.new.ensures.numbers.1 c.new-2.ensures c.new-3.ensures c.new-4.ensures c.new-5.ensures c.new-6.ensures).1
