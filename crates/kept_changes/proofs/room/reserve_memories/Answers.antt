use Rattle.std.proofs.Common.{◌≡◌, ◌+◌, List, [], ◌∷◌, ◌++◌, take, ap, sym, ◌∙◌, subst, length, arith}
use Rattle.std.proofs.lemmas.List.{take_more}
use Rattle.pair_changes.specs.declared.change.PairChange.{PairChange}
use Rattle.version_graph.proofs.SetLaws.{each_append, each_more}
use Rattle.version_model.specs.declared.numbered.Numbered.{Numbered}
use Rattle.kept_changes.specs.Room.{IsMemoryFitAt, MemoriesFitAt, memory_room_at}
use Rattle.kept_changes.proofs.MemoryLemmas.{fit_more}
use Rattle.id_memory.specs.Pairs.{Pairs}
use Rattle.kept_changes.proofs.room.reserve_memories.Goals as goal

pub loop-item-preserved : goal.loop-item-preserved
loop-item-preserved c =
    let before = c.loop-item.memories.items in
    let after = c.reserve_memory.new.memories.items in
    let at = c.loop-item.item-index in
    let all = c.args.changes.now in
    let item = c.item-item.result in
    let next : take (at + 1) all ≡ take at all ++ item ∷ [] = take_more all at item c.loop-item-test.true ∙ ap (λ (x : Numbered (List PairChange)). take at all ++ x ∷ []) (sym c.item-item.is) in
    let kept : MemoriesFitAt after (take at all) =
    each_more (λ i. IsMemoryFitAt before i) (λ i. IsMemoryFitAt after i) (λ i fit. fit_more (memory_room_at before i.number) (memory_room_at after i.number) i.value (c.reserve_memory.ensures.grown i.number) fit) (take at all) c.loop-item.invariant.room in
    record {
      room = subst (λ (l : List (Numbered (List PairChange))). MemoriesFitAt after l) (sym next) (each_append (λ i. IsMemoryFitAt after i) (take at all) (item ∷ []) kept (c.in_ok-reserve_memory.ensures.room, tt));
      same = λ n. c.reserve_memory.ensures.same n ∙ c.loop-item.invariant.same n;
      numbers = c.reserve_memory.ensures.numbers ∙ c.loop-item.invariant.numbers;
      capacity = λ n. omega (arith, c.loop-item.invariant.capacity n, c.reserve_memory.ensures.grown n, ap (λ (ps : Pairs). length ps) (c.reserve_memory.ensures.same n));
    }
