use Rattle.std.specs.List.{position}
use Rattle.std.proofs.Common.{◌≡◌, ℕ, ◌==◌, List, [], slice_set, ap, sym, ◌∙◌, subst, ◌+◌, length}
use Rattle.id_memory.specs.Pairs.{Pairs}
use Rattle.id_memory.specs.States.{MemoryState}
use Rattle.pair_changes.specs.Changed.{AreMemoryChanges, changed_pairs}
use Rattle.version_graph.specs.Sets.{In}
use Rattle.version_model.specs.declared.numbered.Numbered.{Numbered}
use Rattle.version_model.specs.Kept.{pairs_at}
use Rattle.kept_changes.specs.Room.{memory_room_at}
use Rattle.pair_changes.specs.Undo.{PairsLeadBack, PairsFit}
use Rattle.kept_changes.proofs.PlaceLemmas.{has_place, put_here, put_made, put_numbers, put_other, read_here, put_both}
use Rattle.kept_changes.proofs.MemoryLemmas.{memory_same}
use Rattle.kept_changes.proofs.memories.change_memory.Goals as goal

pub unreachable-requires : goal.unreachable-requires
unreachable-requires c =
    let items = c.args.memories.now.items in
    let k = c.args.item.now.number in
    let found = ap (λ (l : List (Numbered _)). position (λ (i : Numbered _). k == i.number) l) (sym c.as_slice.ensures.value) ∙ sym c.place_of.ensures ∙ c.in_default.is in
    has_place items k c.requires.old.0 found

pub change-requires-clause-old : goal.change-requires-clause-old
change-requires-clause-old c =
    let items = c.args.memories.now.items in
    let k = c.args.item.now.number in
    let found = ap (λ (l : List (Numbered _)). position (λ (i : Numbered _). k == i.number) l) (sym c.as_slice.ensures.value) ∙ sym c.place_of.ensures ∙ c.in-Some.is in
    subst (λ (pairs : Pairs). AreMemoryChanges pairs c.args.item.now.value) (read_here (λ (memory : MemoryState). memory.entries) [] items k c.in-Some.at c.index_mut.result.now c.index_mut.ensures.value found) c.requires.old.1

pub change-requires-clause-room : goal.change-requires-clause-room
change-requires-clause-room c =
    let items = c.args.memories.now.items in
    let k = c.args.item.now.number in
    let found = ap (λ (l : List (Numbered _)). position (λ (i : Numbered _). k == i.number) l) (sym c.as_slice.ensures.value) ∙ sym c.place_of.ensures ∙ c.in-Some.is in
    subst (λ (room : ℕ). PairsFit room c.args.item.now.value) (read_here (λ (memory : MemoryState). memory.room) 0 items k c.in-Some.at c.index_mut.result.now c.index_mut.ensures.value found) c.requires.room

pub returns-clause-pairs : goal.returns-clause-pairs
returns-clause-pairs c =
    let items = c.args.memories.now.items in
    let k = c.args.item.now.number in
    let found = ap (λ (l : List (Numbered _)). position (λ (i : Numbered _). k == i.number) l) (sym c.as_slice.ensures.value) ∙ sym c.place_of.ensures ∙ c.in-Some.is in
    put_made (λ (memory : MemoryState). memory.entries) [] items k c.in-Some.at c.index_mut.result.now c.index_mut.ensures.value found c.change.new.memory (λ (pairs : Pairs). changed_pairs pairs c.args.item.now.value) c.change.ensures.pairs

pub returns-clause-back : goal.returns-clause-back
returns-clause-back c =
    let items = c.args.memories.now.items in
    let k = c.args.item.now.number in
    let x = c.index_mut.result.now in
    let is = c.index_mut.ensures.value in
    let new = c.change.new.memory in
    let found = ap (λ (l : List (Numbered _)). position (λ (i : Numbered _). k == i.number) l) (sym c.as_slice.ensures.value) ∙ sym c.place_of.ensures ∙ c.in-Some.is in
    let put = slice_set items c.in-Some.at (record { number = x.number; value = new }) in
    let old : x.value.entries ≡ pairs_at items k = sym (read_here (λ (memory : MemoryState). memory.entries) [] items k c.in-Some.at x is found) in (
      subst (λ (ns : List ℕ). In k ns) (sym (put_numbers items c.in-Some.at x is new)) c.requires.old.0,
      subst (λ (pairs : Pairs). PairsLeadBack pairs (pairs_at put k) (memory_room_at put k) c.change.new.changes) old
          (memory_same x.value.entries new.entries (pairs_at put k) new.room (memory_room_at put k) c.change.new.changes (sym (put_here (λ (memory : MemoryState). memory.entries) [] items k c.in-Some.at x is found new)) (sym (put_here (λ (memory : MemoryState). memory.room) 0 items k c.in-Some.at x is found new)) c.change.ensures.back),
    )

pub returns-clause-room : goal.returns-clause-room
returns-clause-room c =
    let items = c.args.memories.now.items in
    let k = c.args.item.now.number in
    let found = ap (λ (l : List (Numbered _)). position (λ (i : Numbered _). k == i.number) l) (sym c.as_slice.ensures.value) ∙ sym c.place_of.ensures ∙ c.in-Some.is in
    put_other (λ (memory : MemoryState). memory.room) 0 items k c.in-Some.at c.index_mut.result.now c.index_mut.ensures.value found c.change.new.memory

pub returns-clause-numbers : goal.returns-clause-numbers
returns-clause-numbers c = put_numbers c.args.memories.now.items c.in-Some.at c.index_mut.result.now c.index_mut.ensures.value c.change.new.memory

pub returns-clause-capacity : goal.returns-clause-capacity
returns-clause-capacity c =
    let items = c.args.memories.now.items in
    let k = c.args.item.now.number in
    let found = ap (λ (l : List (Numbered _)). position (λ (i : Numbered _). k == i.number) l) (sym c.as_slice.ensures.value) ∙ sym c.place_of.ensures ∙ c.in-Some.is in
    put_both (λ (memory : MemoryState). memory.room) 0 (λ (memory : MemoryState). memory.entries) [] (λ (room : ℕ) (pairs : Pairs). room + length pairs) items k c.in-Some.at c.index_mut.result.now c.index_mut.ensures.value found c.change.new.memory c.change.ensures.capacity
