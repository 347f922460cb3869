use Rattle.std.proofs.Common.{◌≡◌, None, ap, ◌∙◌, true, arith}
use Rattle.id_memory.specs.Pairs.{id_of}
use Rattle.id_memory.specs.States.{MemoryState}
use Rattle.id_memory.proofs.CountLemmas.{same_length}
use Rattle.id_memory.proofs.IndexLemmas.{absent_first, absent_second}
use Rattle.id_memory.proofs.pair_memory.PairMemory.put.Goals as goal

pub enter_both-requires-clause-first : goal.enter_both-requires-clause-first
enter_both-requires-clause-first c =
    let it = c.self.invariant.0 in
    let new : id_of c.self.inside.entries.entries c.args.s c.args.t ≡ None = ap (λ (memory : MemoryState). id_of memory.entries c.args.s c.args.t) c.self.view_is ∙ c.requires.new_pair in
    let same = same_length c.self.inside.by_first.entries c.self.inside.entries.entries (it.first_lists (λ x. true)) in
    let room = ap (λ (memory : MemoryState). memory.room) c.self.view_is in
    record {
      rises = it.first_rises;
      absent = absent_first c.self.inside.entries.entries c.self.inside.by_first.entries c.self.inside.by_second.entries it c.args.s c.args.t new;
      room = omega (arith, same, room, c.requires.room);
    }

pub enter_both-requires-clause-second : goal.enter_both-requires-clause-second
enter_both-requires-clause-second c =
    let it = c.self.invariant.0 in
    let new : id_of c.self.inside.entries.entries c.args.s c.args.t ≡ None = ap (λ (memory : MemoryState). id_of memory.entries c.args.s c.args.t) c.self.view_is ∙ c.requires.new_pair in
    let same = same_length c.self.inside.by_second.entries c.self.inside.entries.entries (it.second_lists (λ x. true)) in
    let room = ap (λ (memory : MemoryState). memory.room) c.self.view_is in
    record {
      rises = it.second_rises;
      absent = absent_second c.self.inside.entries.entries c.self.inside.by_first.entries c.self.inside.by_second.entries it c.args.s c.args.t new;
      room = omega (arith, same, room, c.requires.room);
    }
