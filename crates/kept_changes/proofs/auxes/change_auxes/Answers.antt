use Rattle.std.proofs.Common.{◌≡◌, if◌then◌else◌, ◌-◌, ◌<◌, ◌==◌, suc, length, ℕ, Bool, false, List, [], ◌∷◌, ◌++◌, take, drop, slice_index_or, slice_set, ap, sym, ◌∙◌, subst, arith}
use Rattle.version_graph.specs.Sets.{Distinct, In}
use Rattle.op_law.specs.Tables.{Tables}
use Rattle.op_law.specs.declared.side.Aux.{Aux}
use Rattle.row_changes.specs.declared.change.SideChanges.{SideChanges}
use Rattle.row_changes.specs.Changed.{AreChangesOf, changed_tables}
use Rattle.version_model.specs.declared.numbered.Numbered.{Numbered}
use Rattle.version_model.specs.Kept.{auxes_at, numbers_in}
use Rattle.kept_changes.specs.Changes.{sides_at, AreSidesAt, IsSideAt}
use Rattle.kept_changes.specs.Room.{HaveRoom, IsSideFitAt, SidesFitAt}
use Rattle.kept_changes.specs.Undo.{AuxesLeadBack}
use Rattle.kept_changes.proofs.ChangesLaws.{no_changes}
use Rattle.kept_changes.proofs.StepLemmas.{distinct_before, each_other, each_split, last_apart, step}
use Rattle.kept_changes.proofs.BackLemmas.{auxes_lead_more, behind_apart, numbers_same}
use Rattle.kept_changes.proofs.TakeLaws.{drop_set, length_set, take_last, take_set}
use Rattle.kept_changes.proofs.auxes.change_auxes.Goals as goal

pub loop-at-preserved : goal.loop-at-preserved
loop-at-preserved c =
    let before = c.args.auxes in
    let made = c.loop-at.made.items in
    let next = c.change_aux.new.auxes.items in
    let all = c.loop-at.left.items in
    let k = c.loop-at.at - 1 in
    let item = c.index_mut.result.now in
    let new = c.change_aux.new.item in
    let rest = take k all in
    let more : suc k ≡ c.loop-at.at = omega (arith, c.loop-at-test.true) in
    let inside : k < length all = omega (arith, c.loop-at-test.true, c.loop-at.invariant.within) in
    let is : item ≡ slice_index_or all k item = c.index_mut.ensures.value in
    let split : take c.loop-at.at all ≡ rest ++ item ∷ [] =
    ap (λ (n : ℕ). take n all) (sym more) ∙ take_last all k item inside ∙ ap (λ (i : Numbered SideChanges). rest ++ i ∷ []) (sym is) in
    let kept : take k (slice_set all k new) ≡ rest = take_set all k new in
    let same : new.number ≡ (slice_index_or all k item).number = c.change_aux.ensures.number ∙ ap (λ (i : Numbered SideChanges). i.number) is in
    let old : AreSidesAt made (rest ++ item ∷ []) = subst (λ (l : List (Numbered SideChanges)). AreSidesAt made l) split c.loop-at.invariant.old in
    let room : SidesFitAt made (rest ++ item ∷ []) = subst (λ (l : List (Numbered SideChanges)). SidesFitAt made l) split c.loop-at.invariant.room in
    let apart = last_apart rest item old.0 in
    let others : (n : ℕ) → (n == item.number) ≡ false → auxes_at next n ≡ auxes_at made n = λ n e.
    c.change_aux.ensures.rows n ∙ ap (λ (b : Bool). if b then changed_tables (auxes_at made n) item.value.tables else auxes_at made n) e in
    let behind : AuxesLeadBack before made (drop (suc k) all) = subst (λ (n : ℕ). AuxesLeadBack before made (drop n all)) (sym more) c.loop-at.invariant.back in
    record {
      within = omega (arith, inside, length_set all k new);
      distinct = subst (λ (ns : List ℕ). Distinct ns) (sym (numbers_same all k new item same)) c.loop-at.invariant.distinct;
      rows = λ n.
          ap (λ (l : List (Numbered SideChanges)). changed_tables (auxes_at next n) (sides_at l n)) kept
          ∙ step (λ (side : SideChanges). side.tables) [] changed_tables no_changes (auxes_at made) (auxes_at next) rest item apart c.change_aux.ensures.rows n
          ∙ ap (λ (l : List (Numbered SideChanges)). changed_tables (auxes_at made n) (sides_at l n)) (sym split)
          ∙ c.loop-at.invariant.rows n;
      old = subst (λ (l : List (Numbered SideChanges)). AreSidesAt next l) (sym kept)
          (distinct_before rest item old.0, each_other (λ i. IsSideAt made i) (λ i. IsSideAt next i) item.number (λ i other old. subst (λ (ts : Tables). AreChangesOf ts i.value.tables) (sym (others i.number other)) old) rest apart (each_split (λ i. IsSideAt made i) rest item old.1).0);
      room = subst (λ (l : List (Numbered SideChanges)). SidesFitAt next l) (sym kept)
          (each_other (λ i. IsSideFitAt made i) (λ i. IsSideFitAt next i) item.number (λ i other fit. subst (λ (rs : List ℕ). HaveRoom rs i.value.tables) (sym (c.change_aux.ensures.room i.number other)) fit) rest apart (each_split (λ i. IsSideFitAt made i) rest item room).0);
      back = subst (λ (l : List (Numbered SideChanges)). AuxesLeadBack before next l) (sym (drop_set all k new inside))
          (auxes_lead_more before made next new (drop (suc k) all) behind
          (λ i. behind_apart all k item inside c.loop-at.invariant.distinct (subst (λ (n : ℕ). In n (numbers_in (drop (suc k) all))) same i))
          c.change_aux.ensures.numbers c.change_aux.ensures.back
          (λ n e. let other : (n == item.number) ≡ false = subst (λ (m : ℕ). (n == m) ≡ false) c.change_aux.ensures.number e in (others n other, c.change_aux.ensures.room n other)));
      capacity = λ n. c.change_aux.ensures.capacity n ∙ c.loop-at.invariant.capacity n;
    }

pub returns-clause-rows : goal.returns-clause-rows
returns-clause-rows c n =
    let made = c.loop-at.made.items in
    let none : c.loop-at.at ≡ 0 = omega (arith, c.loop-at-test.false) in
    ap (λ (l : List (Numbered Aux)). auxes_at l n) c.from_vec.ensures
    ∙ sym (no_changes (auxes_at made n))
    ∙ ap (λ (k : ℕ). changed_tables (auxes_at made n) (sides_at (take k c.loop-at.left.items) n)) (sym none)
    ∙ c.loop-at.invariant.rows n
