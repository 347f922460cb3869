use Rattle.std.proofs.Common.{◌≡◌, ◌≤◌, ◌+◌, ℕ, length, List, [], ◌∷◌, ◌++◌, take, slice_index_or, slice_set, refl, ap, sym, ◌∙◌, subst, arith}
use Rattle.std.proofs.lemmas.List.{length-take-le, take_more}
use Rattle.row_store.specs.declared.change.Change.{Change}
use Rattle.row_store.specs.States.{TableState}
use Rattle.row_changes.specs.Changed.{TableChanges}
use Rattle.kept_changes.specs.Room.{HaveRoom, spares, AreAtLeast}
use Rattle.kept_changes.proofs.CapacityLaws.{at_least_more, at_least_same}
use Rattle.kept_changes.proofs.RoomLemmas.{at_least_set, contents_set, no_need, room_grown, room_more}
use Rattle.kept_changes.proofs.side.reserve_each.Goals as goal

pub loop-at-init : goal.loop-at-init
loop-at-init c = record {
  room = no_need (spares c.args.tables.now.items);
  same = refl;
  grown = at_least_same (spares c.args.tables.now.items);
}

pub returns-in_err-reserve-clause-same : goal.returns-in_err-reserve-clause-same
returns-in_err-reserve-clause-same c =
    let d = c.index_mut.result.now in
    contents_set c.loop-at.tables.items c.loop-at.at c.reserve.new.self d (c.reserve.ensures.same ∙ ap (λ (t : TableState). t.rows) c.index_mut.ensures.value)
    ∙ c.loop-at.invariant.same

pub returns-in_err-reserve-clause-grown : goal.returns-in_err-reserve-clause-grown
returns-in_err-reserve-clause-grown c =
    let d = c.index_mut.result.now in
    let ts = c.loop-at.tables.items in
    let more : (slice_index_or ts c.loop-at.at d).spare ≤ c.reserve.new.self.spare = subst (λ (t : TableState). t.spare ≤ c.reserve.new.self.spare) c.index_mut.ensures.value c.reserve.ensures.room in
    at_least_more (spares c.args.tables.now.items) (spares ts) (spares (slice_set ts c.loop-at.at c.reserve.new.self)) c.loop-at.invariant.grown (at_least_set ts c.loop-at.at c.reserve.new.self d more)

pub loop-at-preserved : goal.loop-at-preserved
loop-at-preserved c =
    let d = c.index_mut.result.now in
    let ts = c.loop-at.tables.items in
    let at = c.loop-at.at in
    let t = c.reserve.new.self in
    let cs = c.args.changes.now in
    let one = c.index-changes-at.result in
    let more : (slice_index_or ts at d).spare ≤ t.spare = subst (λ (u : TableState). u.spare ≤ t.spare) c.index_mut.ensures.value c.reserve.ensures.room in
    let grown : AreAtLeast (spares ts) (spares (slice_set ts at t)) = at_least_set ts at t d more in
    let kept : HaveRoom (spares (slice_set ts at t)) (take at cs) = room_grown (spares ts) (spares (slice_set ts at t)) (take at cs) grown c.loop-at.invariant.room in
    let long : length (take at cs) ≡ at = length-take-le at cs (omega (arith, c.loop-at-test.true)) in
    let enough : length one ≤ t.spare = subst (λ (n : ℕ). n ≤ t.spare) c.len.ensures c.in_ok-reserve.ensures.ok in
    let next : take (at + 1) cs ≡ take at cs ++ one ∷ [] = take_more cs at one c.loop-at-test.true ∙ ap (λ (x : List Change). take at cs ++ x ∷ []) (sym c.index-changes-at.is) in
    record {
      room = subst (λ (l : TableChanges). HaveRoom (spares (slice_set ts at t)) l) (sym next) (room_more ts (take at cs) one at t long kept enough);
      same = contents_set ts at t d (c.reserve.ensures.same ∙ ap (λ (u : TableState). u.rows) c.index_mut.ensures.value) ∙ c.loop-at.invariant.same;
      grown = at_least_more (spares c.args.tables.now.items) (spares ts) (spares (slice_set ts at t)) c.loop-at.invariant.grown grown;
    }
