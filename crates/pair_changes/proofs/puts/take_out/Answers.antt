use Rattle.std.proofs.Common.{◌≡◌, ℕ, ◌+◌, ◌-◌, ◌<◌, suc, length, drop, None, sym, ◌∙◌, subst, arith}
use Rattle.id_memory.specs.Pairs.{pair_of}
use Rattle.pair_changes.specs.declared.change.PairChange.{PairChange}
use Rattle.pair_changes.specs.Undo.{takes}
use Rattle.pair_changes.specs.inner.Calls.{pair_without}
use Rattle.pair_changes.proofs.TakeLemmas.{pairs_less, room_less}
use Rattle.pair_changes.proofs.puts.take_out.Goals as goal

pub loop-at-preserved : goal.loop-at-preserved
loop-at-preserved c =
    let all = c.args.changes.now in
    let bs = c.args.memory.now.entries in
    let mid = c.loop-at.memory.entries in
    let next = c.remove.new.self.entries in
    let k = c.loop-at.at - 1 in
    let d : PairChange = record { id = 0; old = None; new = None } in
    let inside : k < length all = omega (arith, c.loop-at-test.true, c.loop-at.invariant.within) in
    let more : suc k ≡ c.loop-at.at = omega (arith, c.loop-at-test.true) in
    let pairs : (q : ℕ) → pair_of mid q ≡ pair_without (drop (suc k) all) q (pair_of bs q) = λ q. subst (λ (n : ℕ). pair_of mid q ≡ pair_without (drop n all) q (pair_of bs q)) (sym more) (c.loop-at.invariant.pairs q) in
    let room : c.loop-at.memory.room ≡ c.args.memory.now.room + takes (drop (suc k) all) = subst (λ (n : ℕ). c.loop-at.memory.room ≡ c.args.memory.now.room + takes (drop n all)) (sym more) c.loop-at.invariant.room in
    record {
      within = omega (arith, inside);
      rise = c.remove.ensures.without.rises;
      pairs = pairs_less bs mid next all k d inside c.requires.old pairs c.remove.ensures.without;
      room = room_less bs mid next all k d inside c.requires.old pairs c.args.memory.now.room c.remove.new.self.room c.loop-at.memory.room c.remove.ensures.room c.remove.ensures.len room;
      capacity = c.remove.ensures.room ∙ c.loop-at.invariant.capacity;
    }
