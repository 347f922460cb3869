use Rattle.table_keys.specs.States.{behind}
use Rattle.cond_closing.proofs.EntryLemmas.{second_is, second_none}
use Rattle.cond_closing.proofs.entries.second_with.Goals as goal

pub returns-in-Some : goal.returns-in-Some
returns-in-Some c =
    second_is c.id_of_is_the_other_way.ensures c.args.memory.now.entries c.iter.ensures.rise c.iter.ensures.one c.args.t (behind c.args.after) c.found_second.result c.in-Some.found c.in-Some.is c.found_second.ensures

pub returns-in-None : goal.returns-in-None
returns-in-None c =
    second_none c.id_of_is_the_other_way.ensures c.args.memory.now.entries c.iter.ensures.rise c.iter.ensures.one c.args.t (behind c.args.after) c.found_second.result c.in-None.is c.found_second.ensures
