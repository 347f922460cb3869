use Rattle.std.specs.List.{position}
use Rattle.std.proofs.Common.{◌≡◌, ℕ, ◌==◌, ◌≤◌, List, [], OnOk, refl, ap, sym, ◌∙◌, subst, arith}
use Rattle.id_memory.specs.Pairs.{Pairs}
use Rattle.id_memory.specs.States.{MemoryState}
use Rattle.pair_changes.specs.Undo.{PairsFit}
use Rattle.version_model.specs.declared.numbered.Numbered.{Numbered}
use Rattle.kept_changes.proofs.MemoryLemmas.{enough_ok}
use Rattle.kept_changes.proofs.PlaceLemmas.{has_place, put_here, put_numbers, put_related}
use Rattle.kept_changes.proofs.room.reserve_memory.Goals as goal

pub unreachable-requires : goal.unreachable-requires
unreachable-requires c =
    let items = c.args.memories.now.items in
    let k = c.args.item.now.number in
    let found = ap (λ (l : List (Numbered _)). position (λ (i : Numbered _). k == i.number) l) (sym c.as_slice.ensures.value) ∙ sym c.place_of.ensures ∙ c.in_default.is in
    has_place items k c.requires found

pub returns-clause-room : goal.returns-clause-room
returns-clause-room c =
    let items = c.args.memories.now.items in
    let k = c.args.item.now.number in
    let found = ap (λ (l : List (Numbered _)). position (λ (i : Numbered _). k == i.number) l) (sym c.as_slice.ensures.value) ∙ sym c.place_of.ensures ∙ c.in-Some.is in
    subst (λ (room : ℕ). OnOk c.reserve.result (PairsFit room c.args.item.now.value)) (sym (put_here (λ (memory : MemoryState). memory.room) 0 items k c.in-Some.at c.index_mut.result.now c.index_mut.ensures.value found c.reserve.new.self))
    (enough_ok c.reserve.result c.len.result c.reserve.new.self.room c.args.item.now.value c.len.ensures c.reserve.ensures.ok)

pub returns-clause-grown : goal.returns-clause-grown
returns-clause-grown c =
    let items = c.args.memories.now.items in
    let k = c.args.item.now.number in
    let found = ap (λ (l : List (Numbered _)). position (λ (i : Numbered _). k == i.number) l) (sym c.as_slice.ensures.value) ∙ sym c.place_of.ensures ∙ c.in-Some.is in
    put_related (λ (memory : MemoryState). memory.room) 0 items k c.in-Some.at c.index_mut.result.now c.index_mut.ensures.value found (λ (a b : ℕ). a ≤ b) (λ (a : ℕ). omega arith) c.reserve.new.self c.reserve.ensures.room

pub returns-clause-same : goal.returns-clause-same
returns-clause-same c =
    let items = c.args.memories.now.items in
    let k = c.args.item.now.number in
    let found = ap (λ (l : List (Numbered _)). position (λ (i : Numbered _). k == i.number) l) (sym c.as_slice.ensures.value) ∙ sym c.place_of.ensures ∙ c.in-Some.is in
    put_related (λ (memory : MemoryState). memory.entries) [] items k c.in-Some.at c.index_mut.result.now c.index_mut.ensures.value found (λ (a b : Pairs). b ≡ a) (λ (a : Pairs). refl) c.reserve.new.self c.reserve.ensures.same

pub returns-clause-numbers : goal.returns-clause-numbers
returns-clause-numbers c = put_numbers c.args.memories.now.items c.in-Some.at c.index_mut.result.now c.index_mut.ensures.value c.reserve.new.self
