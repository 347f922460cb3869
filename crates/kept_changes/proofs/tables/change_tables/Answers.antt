use Rattle.std.proofs.Common.{◌≡◌, if◌then◌else◌, ◌-◌, ◌<◌, ◌≤◌, ◌==◌, suc, length, ℕ, Bool, false, List, [], ◌∷◌, ◌++◌, take, drop, slice_index_or, slice_set, refl, ap, sym, ◌∙◌, subst, arith}
use Rattle.row_store.specs.declared.change.Change.{Change}
use Rattle.row_store.specs.Rows.{Rows}
use Rattle.row_store.specs.Changes.{AreOld}
use Rattle.version_graph.specs.Sets.{Distinct, In}
use Rattle.row_changes.specs.Changed.{changed}
use Rattle.version_model.specs.Kept.{rows_at, numbers_in}
use Rattle.version_model.specs.declared.numbered.Numbered.{Numbered}
use Rattle.kept_changes.specs.Changes.{changes_at, AreOldAt, IsOldAt}
use Rattle.kept_changes.specs.Room.{FitAt, IsFitAt}
use Rattle.kept_changes.specs.Undo.{TablesLeadBack}
use Rattle.kept_changes.proofs.StepLemmas.{distinct_before, each_other, each_split, last_apart, step}
use Rattle.kept_changes.proofs.BackLemmas.{behind_apart, leads_more, numbers_same}
use Rattle.kept_changes.proofs.TakeLaws.{drop_set, length_set, take_last, take_set}
use Rattle.kept_changes.proofs.tables.change_tables.Goals as goal

pub loop-at-preserved : goal.loop-at-preserved
loop-at-preserved c =
    let before = c.args.tables in
    let made = c.loop-at.made.items in
    let next = c.change_table.new.tables.items in
    let all = c.loop-at.left.items in
    let k = c.loop-at.at - 1 in
    let item = c.index_mut.result.now in
    let new = c.change_table.new.item in
    let rest = take k all in
    let more : suc k ≡ c.loop-at.at = omega (arith, c.loop-at-test.true) in
    let inside : k < length all = omega (arith, c.loop-at-test.true, c.loop-at.invariant.within) in
    let is : item ≡ slice_index_or all k item = c.index_mut.ensures.value in
    let split : take c.loop-at.at all ≡ rest ++ item ∷ [] =
    ap (λ (n : ℕ). take n all) (sym more) ∙ take_last all k item inside ∙ ap (λ (i : Numbered (List Change)). rest ++ i ∷ []) (sym is) in
    let kept : take k (slice_set all k new) ≡ rest = take_set all k new in
    let same : new.number ≡ (slice_index_or all k item).number = c.change_table.ensures.number ∙ ap (λ (i : Numbered (List Change)). i.number) is in
    let old : AreOldAt made (rest ++ item ∷ []) = subst (λ (l : List (Numbered (List Change))). AreOldAt made l) split c.loop-at.invariant.old in
    let room : FitAt made (rest ++ item ∷ []) = subst (λ (l : List (Numbered (List Change))). FitAt made l) split c.loop-at.invariant.room in
    let apart = last_apart rest item old.0 in
    let others : (n : ℕ) → (n == item.number) ≡ false → rows_at next n ≡ rows_at made n = λ n e.
    c.change_table.ensures.rows n ∙ ap (λ (b : Bool). if b then changed (rows_at made n) item.value else rows_at made n) e in
    let behind : TablesLeadBack before made (drop (suc k) all) = subst (λ (n : ℕ). TablesLeadBack before made (drop n all)) (sym more) c.loop-at.invariant.back in
    record {
      within = omega (arith, inside, length_set all k new);
      distinct = subst (λ (ns : List ℕ). Distinct ns) (sym (numbers_same all k new item same)) c.loop-at.invariant.distinct;
      rows = λ n.
          ap (λ (l : List (Numbered (List Change))). changed (rows_at next n) (changes_at l n)) kept
          ∙ step (λ (changes : List Change). changes) [] changed (λ (rows : Rows). refl) (rows_at made) (rows_at next) rest item apart c.change_table.ensures.rows n
          ∙ ap (λ (l : List (Numbered (List Change))). changed (rows_at made n) (changes_at l n)) (sym split)
          ∙ c.loop-at.invariant.rows n;
      old = subst (λ (l : List (Numbered (List Change))). AreOldAt next l) (sym kept)
          (distinct_before rest item old.0, each_other (λ i. IsOldAt made i) (λ i. IsOldAt next i) item.number (λ i other old. (subst (λ (ns : List ℕ). In i.number ns) (sym c.change_table.ensures.numbers) old.0, subst (λ (rows : Rows). AreOld rows i.value) (sym (others i.number other)) old.1)) rest apart (each_split (λ i. IsOldAt made i) rest item old.1).0);
      room = subst (λ (l : List (Numbered (List Change))). FitAt next l) (sym kept)
          (each_other (λ i. IsFitAt made i) (λ i. IsFitAt next i) item.number (λ i other fit. subst (λ (room : ℕ). length i.value ≤ room) (sym (c.change_table.ensures.room i.number other)) fit) rest apart (each_split (λ i. IsFitAt made i) rest item room).0);
      back = subst (λ (l : List (Numbered (List Change))). TablesLeadBack before next l) (sym (drop_set all k new inside))
          (leads_more before made next new (drop (suc k) all) behind
          (λ i. behind_apart all k item inside c.loop-at.invariant.distinct (subst (λ (n : ℕ). In n (numbers_in (drop (suc k) all))) same i))
          c.change_table.ensures.numbers c.change_table.ensures.back
          (λ n e. let other : (n == item.number) ≡ false = subst (λ (m : ℕ). (n == m) ≡ false) c.change_table.ensures.number e in (others n other, c.change_table.ensures.room n other)));
      capacity = λ n. c.change_table.ensures.capacity n ∙ c.loop-at.invariant.capacity n;
    }
