use Rattle.table_keys.specs.States.{behind}
use Rattle.cond_closing.proofs.EntryLemmas.{first_is, first_none}
use Rattle.cond_closing.proofs.entries.first_with.Goals as goal

pub returns-in-Some : goal.returns-in-Some
returns-in-Some c =
    first_is c.id_of_is_the_other_way.ensures c.args.memory.now.entries c.iter.ensures.rise c.iter.ensures.one c.args.s (behind c.args.after) c.found_first.result c.in-Some.found c.in-Some.is c.found_first.ensures

pub returns-in-None : goal.returns-in-None
returns-in-None c =
    first_none c.id_of_is_the_other_way.ensures c.args.memory.now.entries c.iter.ensures.rise c.iter.ensures.one c.args.s (behind c.args.after) c.found_first.result c.in-None.is c.found_first.ensures
