use Rattle.std.proofs.Common.{◌≡◌, rules, Some}
use Rattle.pair_changes.proofs.PutLemmas.{no_id}
use Rattle.pair_changes.proofs.puts.put_one.Goals as goal

pub put-requires-clause-new_pair : goal.put-requires-clause-new_pair
put-requires-clause-new_pair c =
    let new : c.args.change.now.new ≡ Some (c.in-Some.s, c.in-Some.t) = search rules in
    no_id c.id_of_is_the_other_way.ensures c.args.memory.now.entries c.is_one_to_one.ensures.rise c.is_one_to_one.ensures.one c.in-Some.s c.in-Some.t (λ p has. c.requires.other p (c.in-Some.s, c.in-Some.t) new has)
