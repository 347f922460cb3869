use Rattle.std.specs.Prelude.{is_some}
use Rattle.std.proofs.Common.{◌≡◌, if◌then◌else◌, ℕ, ◌+◌, ◌<◌, suc, length, drop, slice_index_or, List, ◌∷◌, None, ap, sym, ◌∙◌, subst, arith}
use Rattle.id_memory.specs.Pairs.{pair_of}
use Rattle.pair_changes.specs.declared.change.PairChange.{PairChange}
use Rattle.pair_changes.specs.MemoryChanges.{pair_after}
use Rattle.pair_changes.specs.Undo.{puts}
use Rattle.pair_changes.specs.inner.Calls.{CanBePut, ChangesRise}
use Rattle.pair_changes.proofs.PutLemmas.{after_put, can_less, other_pairs}
use Rattle.pair_changes.proofs.TakeLemmas.{drop_at}
use Rattle.pair_changes.proofs.puts.put_in.Goals as goal

pub put_one-requires-clause-other : goal.put_one-requires-clause-other
put_one-requires-clause-other c =
    let all = c.args.changes.now in
    let i = c.loop-change.change-index in
    let d : PairChange = record { id = 0; old = None; new = None } in
    let mid = c.loop-change.memory.entries in
    let inside : i < length all = c.loop-change-test.true in
    let can = c.loop-change.invariant.can in
    other_pairs c.id_of_is_the_other_way.ensures mid (slice_index_or all i d) (drop (suc i) all) can.0 (subst (λ (l : List PairChange). CanBePut mid l can.0) (drop_at all i d inside) can.1)

pub loop-change-preserved : goal.loop-change-preserved
loop-change-preserved c =
    let all = c.args.changes.now in
    let i = c.loop-change.change-index in
    let d : PairChange = record { id = 0; old = None; new = None } in
    let x = slice_index_or all i d in
    let rest = drop (suc i) all in
    let mid = c.loop-change.memory.entries in
    let next = c.put_one.new.memory.entries in
    let inside : i < length all = c.loop-change-test.true in
    let split : drop i all ≡ x ∷ rest = drop_at all i d inside in
    let one : suc i ≡ i + 1 = omega arith in
    let can = c.loop-change.invariant.can in
    let rise = c.loop-change.invariant.rise in
    let rises : ChangesRise rise.0 (x ∷ rest) = subst (λ (l : List PairChange). ChangesRise rise.0 l) split rise.1 in
    let count : puts (drop i all) ≡ (if is_some x.new then 1 else 0) + puts rest = ap puts split in
    let behind : puts rest ≡ puts (drop (i + 1) all) = ap (λ (n : ℕ). puts (drop n all)) one in
    record {
      entries = c.put_one.ensures.with.rises;
      can = (can.0, subst (λ (n : ℕ). CanBePut next (drop n all) can.0) one (can_less mid next x rest rises.1 c.put_one.ensures.with can.0 (subst (λ (l : List PairChange). CanBePut mid l can.0) split can.1)));
      rise = (x.id + 1, subst (λ (n : ℕ). ChangesRise (x.id + 1) (drop n all)) one rises.1);
      pairs = λ q.
          ap (λ (n : ℕ). pair_after (drop n all) q (pair_of next q)) (sym one)
          ∙ after_put mid next x rest rises.1 c.put_one.ensures.with q
          ∙ ap (λ (l : List PairChange). pair_after l q (pair_of mid q)) (sym split)
          ∙ c.loop-change.invariant.pairs q;
      room = omega (arith, count, behind, c.loop-change.invariant.room, c.put_one.ensures.room);
      rooms = omega (arith, count, behind, c.loop-change.invariant.rooms, c.put_one.ensures.room);
      capacity = c.put_one.ensures.capacity ∙ c.loop-change.invariant.capacity;
    }
