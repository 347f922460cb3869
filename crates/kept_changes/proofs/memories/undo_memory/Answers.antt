use Rattle.std.specs.List.{position}
use Rattle.std.proofs.Common.{◌==◌, List, [], ap, sym, ◌∙◌, ◌+◌, ℕ, length}
use Rattle.id_memory.specs.States.{MemoryState}
use Rattle.version_model.specs.declared.numbered.Numbered.{Numbered}
use Rattle.version_model.specs.Kept.{pairs_at}
use Rattle.kept_changes.specs.Room.{memory_room_at}
use Rattle.kept_changes.proofs.PlaceLemmas.{has_place, put_here, put_numbers, put_other, read_here, put_both}
use Rattle.kept_changes.proofs.MemoryLemmas.{memory_same}
use Rattle.id_memory.specs.Pairs.{Pairs}
use Rattle.kept_changes.proofs.memories.undo_memory.Goals as goal

pub unreachable-requires : goal.unreachable-requires
unreachable-requires c =
    let items = c.args.memories.now.items in
    let k = c.args.item.number in
    let found = ap (λ (l : List (Numbered _)). position (λ (i : Numbered _). k == i.number) l) (sym c.as_slice.ensures.value) ∙ sym c.place_of.ensures ∙ c.in_default.is in
    has_place items k c.requires.kept found

pub undo-requires : goal.undo-requires
undo-requires c =
    let items = c.args.memories.now.items in
    let k = c.args.item.number in
    let x = c.index_mut.result.now in
    let is = c.index_mut.ensures.value in
    let found = ap (λ (l : List (Numbered _)). position (λ (i : Numbered _). k == i.number) l) (sym c.as_slice.ensures.value) ∙ sym c.place_of.ensures ∙ c.in-Some.is in
    let before = c.requires.back.0 in (
      before,
      memory_same before (pairs_at items k) x.value.entries (memory_room_at items k) x.value.room c.args.item.value (read_here (λ (memory : MemoryState). memory.entries) [] items k c.in-Some.at x is found) (read_here (λ (memory : MemoryState). memory.room) 0 items k c.in-Some.at x is found) c.requires.back.1,
    )

pub returns-clause-restores : goal.returns-clause-restores
returns-clause-restores c = λ before back.
    let items = c.args.memories.now.items in
    let k = c.args.item.number in
    let x = c.index_mut.result.now in
    let is = c.index_mut.ensures.value in
    let found = ap (λ (l : List (Numbered _)). position (λ (i : Numbered _). k == i.number) l) (sym c.as_slice.ensures.value) ∙ sym c.place_of.ensures ∙ c.in-Some.is in
    put_here (λ (memory : MemoryState). memory.entries) [] items k c.in-Some.at x is found c.undo.new.memory
    ∙ c.undo.ensures.restores before (memory_same before (pairs_at items k) x.value.entries (memory_room_at items k) x.value.room c.args.item.value (read_here (λ (memory : MemoryState). memory.entries) [] items k c.in-Some.at x is found) (read_here (λ (memory : MemoryState). memory.room) 0 items k c.in-Some.at x is found) back)

pub returns-clause-others : goal.returns-clause-others
returns-clause-others c = λ n other.
    let items = c.args.memories.now.items in
    let k = c.args.item.number in
    let x = c.index_mut.result.now in
    let is = c.index_mut.ensures.value in
    let found = ap (λ (l : List (Numbered _)). position (λ (i : Numbered _). k == i.number) l) (sym c.as_slice.ensures.value) ∙ sym c.place_of.ensures ∙ c.in-Some.is in
    (put_other (λ (memory : MemoryState). memory.entries) [] items k c.in-Some.at x is found c.undo.new.memory n other, put_other (λ (memory : MemoryState). memory.room) 0 items k c.in-Some.at x is found c.undo.new.memory n other)

pub returns-clause-numbers : goal.returns-clause-numbers
returns-clause-numbers c = put_numbers c.args.memories.now.items c.in-Some.at c.index_mut.result.now c.index_mut.ensures.value c.undo.new.memory

pub returns-clause-capacity : goal.returns-clause-capacity
returns-clause-capacity c =
    let items = c.args.memories.now.items in
    let k = c.args.item.number in
    let found = ap (λ (l : List (Numbered _)). position (λ (i : Numbered _). k == i.number) l) (sym c.as_slice.ensures.value) ∙ sym c.place_of.ensures ∙ c.in-Some.is in
    put_both (λ (memory : MemoryState). memory.room) 0 (λ (memory : MemoryState). memory.entries) [] (λ (room : ℕ) (pairs : Pairs). room + length pairs) items k c.in-Some.at c.index_mut.result.now c.index_mut.ensures.value found c.undo.new.memory c.undo.ensures.capacity
