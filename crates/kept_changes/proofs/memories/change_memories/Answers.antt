use Rattle.std.proofs.Common.{◌≡◌, if◌then◌else◌, ◌-◌, ◌<◌, ◌==◌, suc, length, ℕ, Bool, false, List, [], ◌∷◌, ◌++◌, take, drop, slice_index_or, slice_set, refl, ap, sym, ◌∙◌, subst, arith}
use Rattle.pair_changes.specs.declared.change.PairChange.{PairChange}
use Rattle.id_memory.specs.Pairs.{Pairs}
use Rattle.version_graph.specs.Sets.{Distinct, In}
use Rattle.pair_changes.specs.Changed.{AreMemoryChanges, changed_pairs}
use Rattle.version_model.specs.Kept.{pairs_at, numbers_in}
use Rattle.version_model.specs.declared.numbered.Numbered.{Numbered}
use Rattle.kept_changes.specs.Changes.{pair_changes_at, AreMemoriesAt, IsMemoryAt}
use Rattle.kept_changes.specs.Room.{MemoriesFitAt, IsMemoryFitAt}
use Rattle.kept_changes.specs.Undo.{MemoriesLeadBack}
use Rattle.pair_changes.specs.Undo.{PairsFit}
use Rattle.kept_changes.proofs.StepLemmas.{distinct_before, each_other, each_split, last_apart, step}
use Rattle.kept_changes.proofs.BackLemmas.{behind_apart, numbers_same}
use Rattle.kept_changes.proofs.MemoryLemmas.{memories_lead_more}
use Rattle.kept_changes.proofs.TakeLaws.{drop_set, length_set, take_last, take_set}
use Rattle.kept_changes.proofs.memories.change_memories.Goals as goal

pub loop-at-preserved : goal.loop-at-preserved
loop-at-preserved c =
    let before = c.args.memories in
    let made = c.loop-at.made.items in
    let next = c.change_memory.new.memories.items in
    let all = c.loop-at.left.items in
    let k = c.loop-at.at - 1 in
    let item = c.index_mut.result.now in
    let new = c.change_memory.new.item in
    let rest = take k all in
    let more : suc k ≡ c.loop-at.at = omega (arith, c.loop-at-test.true) in
    let inside : k < length all = omega (arith, c.loop-at-test.true, c.loop-at.invariant.within) in
    let is : item ≡ slice_index_or all k item = c.index_mut.ensures.value in
    let split : take c.loop-at.at all ≡ rest ++ item ∷ [] =
    ap (λ (n : ℕ). take n all) (sym more) ∙ take_last all k item inside ∙ ap (λ (i : Numbered (List PairChange)). rest ++ i ∷ []) (sym is) in
    let kept : take k (slice_set all k new) ≡ rest = take_set all k new in
    let same : new.number ≡ (slice_index_or all k item).number = c.change_memory.ensures.number ∙ ap (λ (i : Numbered (List PairChange)). i.number) is in
    let old : AreMemoriesAt made (rest ++ item ∷ []) = subst (λ (l : List (Numbered (List PairChange))). AreMemoriesAt made l) split c.loop-at.invariant.old in
    let room : MemoriesFitAt made (rest ++ item ∷ []) = subst (λ (l : List (Numbered (List PairChange))). MemoriesFitAt made l) split c.loop-at.invariant.room in
    let apart = last_apart rest item old.0 in
    let others : (n : ℕ) → (n == item.number) ≡ false → pairs_at next n ≡ pairs_at made n = λ n e.
    c.change_memory.ensures.pairs n ∙ ap (λ (b : Bool). if b then changed_pairs (pairs_at made n) item.value else pairs_at made n) e in
    let behind : MemoriesLeadBack before made (drop (suc k) all) = subst (λ (n : ℕ). MemoriesLeadBack before made (drop n all)) (sym more) c.loop-at.invariant.back in
    record {
      within = omega (arith, inside, length_set all k new);
      distinct = subst (λ (ns : List ℕ). Distinct ns) (sym (numbers_same all k new item same)) c.loop-at.invariant.distinct;
      pairs = λ n.
          ap (λ (l : List (Numbered (List PairChange))). changed_pairs (pairs_at next n) (pair_changes_at l n)) kept
          ∙ step (λ (changes : List PairChange). changes) [] changed_pairs (λ (pairs : Pairs). refl) (pairs_at made) (pairs_at next) rest item apart c.change_memory.ensures.pairs n
          ∙ ap (λ (l : List (Numbered (List PairChange))). changed_pairs (pairs_at made n) (pair_changes_at l n)) (sym split)
          ∙ c.loop-at.invariant.pairs n;
      old = subst (λ (l : List (Numbered (List PairChange))). AreMemoriesAt next l) (sym kept)
          (distinct_before rest item old.0, each_other (λ i. IsMemoryAt made i) (λ i. IsMemoryAt next i) item.number (λ i other old. (subst (λ (ns : List ℕ). In i.number ns) (sym c.change_memory.ensures.numbers) old.0, subst (λ (pairs : Pairs). AreMemoryChanges pairs i.value) (sym (others i.number other)) old.1)) rest apart (each_split (λ i. IsMemoryAt made i) rest item old.1).0);
      room = subst (λ (l : List (Numbered (List PairChange))). MemoriesFitAt next l) (sym kept)
          (each_other (λ i. IsMemoryFitAt made i) (λ i. IsMemoryFitAt next i) item.number (λ i other fit. subst (λ (room : ℕ). PairsFit room i.value) (sym (c.change_memory.ensures.room i.number other)) fit) rest apart (each_split (λ i. IsMemoryFitAt made i) rest item room).0);
      back = subst (λ (l : List (Numbered (List PairChange))). MemoriesLeadBack before next l) (sym (drop_set all k new inside))
          (memories_lead_more before made next new (drop (suc k) all) behind
          (λ i. behind_apart all k item inside c.loop-at.invariant.distinct (subst (λ (n : ℕ). In n (numbers_in (drop (suc k) all))) same i))
          c.change_memory.ensures.numbers c.change_memory.ensures.back
          (λ n e. let other : (n == item.number) ≡ false = subst (λ (m : ℕ). (n == m) ≡ false) c.change_memory.ensures.number e in (others n other, c.change_memory.ensures.room n other)));
      capacity = λ n. c.change_memory.ensures.capacity n ∙ c.loop-at.invariant.capacity n;
    }
