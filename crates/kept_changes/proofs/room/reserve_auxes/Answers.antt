use Rattle.std.proofs.Common.{◌≡◌, ◌+◌, List, [], ◌∷◌, ◌++◌, take, refl, ap, sym, ◌∙◌, subst}
use Rattle.std.proofs.lemmas.List.{take_more}
use Rattle.version_graph.proofs.SetLaws.{each_append, each_more}
use Rattle.row_changes.specs.declared.change.SideChanges.{SideChanges}
use Rattle.version_model.specs.declared.numbered.Numbered.{Numbered}
use Rattle.kept_changes.specs.Room.{IsSideFitAt, SidesFitAt, rooms_at, capacities_at}
use Rattle.kept_changes.proofs.CapacityLaws.{at_least_more, at_least_same, capacities_grown}
use Rattle.kept_changes.proofs.RoomLemmas.{room_grown}
use Rattle.version_model.specs.Kept.{auxes_at}
use Rattle.kept_changes.proofs.room.reserve_auxes.Goals as goal

pub loop-item-preserved : goal.loop-item-preserved
loop-item-preserved c =
    let before = c.loop-item.auxes.items in
    let after = c.reserve_aux.new.auxes.items in
    let at = c.loop-item.item-index in
    let all = c.args.changes.now in
    let item = c.item-item.result in
    let next : take (at + 1) all ≡ take at all ++ item ∷ [] = take_more all at item c.loop-item-test.true ∙ ap (λ (x : Numbered SideChanges). take at all ++ x ∷ []) (sym c.item-item.is) in
    let kept : SidesFitAt after (take at all) =
    each_more (λ i. IsSideFitAt before i) (λ i. IsSideFitAt after i) (λ i fit. room_grown (rooms_at before i.number) (rooms_at after i.number) i.value.tables (c.reserve_aux.ensures.grown i.number) fit) (take at all) c.loop-item.invariant.room in
    record {
      room = subst (λ (l : List (Numbered SideChanges)). SidesFitAt after l) (sym next) (each_append (λ i. IsSideFitAt after i) (take at all) (item ∷ []) kept (c.in_ok-reserve_aux.ensures.room, tt));
      same = λ n. c.reserve_aux.ensures.same n ∙ c.loop-item.invariant.same n;
      numbers = c.reserve_aux.ensures.numbers ∙ c.loop-item.invariant.numbers;
      capacity = λ n. at_least_more (capacities_at c.args.auxes.now.items n) (capacities_at before n) (capacities_at after n) (c.loop-item.invariant.capacity n) (capacities_grown (rooms_at before n) (rooms_at after n) (auxes_at before n) (auxes_at after n) (c.reserve_aux.ensures.same n) (c.reserve_aux.ensures.grown n));
    }

pub loop-item-init : goal.loop-item-init
loop-item-init c = record {
  room = tt;
  same = λ n. refl;
  numbers = refl;
  capacity = λ n. at_least_same (capacities_at c.args.auxes.now.items n);
}

pub returns-in_err-reserve_aux-clause-capacity : goal.returns-in_err-reserve_aux-clause-capacity
returns-in_err-reserve_aux-clause-capacity c = λ n.
    let before = c.loop-item.auxes.items in
    let after = c.reserve_aux.new.auxes.items in
    at_least_more (capacities_at c.args.auxes.now.items n) (capacities_at before n) (capacities_at after n) (c.loop-item.invariant.capacity n) (capacities_grown (rooms_at before n) (rooms_at after n) (auxes_at before n) (auxes_at after n) (c.reserve_aux.ensures.same n) (c.reserve_aux.ensures.grown n))
