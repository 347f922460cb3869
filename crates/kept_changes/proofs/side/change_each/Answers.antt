use Rattle.std.proofs.Common.{◌≡◌, ◌-◌, ◌<◌, ◌≤◌, ℕ, suc, length, List, [], ◌∷◌, ◌++◌, take, slice_index_or, slice_set, ap, sym, ◌∙◌, subst, arith, ◌+◌, refl}
use Rattle.row_store.specs.declared.change.Change.{Change}
use Rattle.row_store.specs.Changes.{AreOld}
use Rattle.row_store.specs.States.{TableState}
use Rattle.op_law.specs.Tables.{contents}
use Rattle.row_changes.specs.Changed.{TableChanges, changed, changed_tables}
use Rattle.kept_changes.specs.Undo.{LeadsBack}
use Rattle.kept_changes.specs.inner.Calls.{Fit}
use Rattle.kept_changes.proofs.ChangesLaws.{no_changes}
use Rattle.kept_changes.proofs.SideLemmas.{changed_last, fit_before, fit_last, fit_many}
use Rattle.kept_changes.proofs.BackLemmas.{LeadsBackFrom, from_end, from_less}
use Rattle.kept_changes.proofs.TakeLaws.{length_set, length_take, take_last, take_set, take_whole}
use Rattle.kept_changes.proofs.CapacityLaws.{capacities_set}
use Rattle.kept_changes.proofs.side.change_each.Goals as goal

pub loop-at-init : goal.loop-at-init
loop-at-init c =
    let ts = c.args.tables.now.items in
    let cs = c.args.changes.now.items in
    let count : c.len-at.result ≡ length cs = omega (arith, c.len-at.ensures) in
    let all : take c.len-at.result cs ≡ cs = ap (λ (n : ℕ). take n cs) count ∙ take_whole cs in
    record {
      within = omega (arith, count);
      rows = ap (λ (l : TableChanges). changed_tables (contents ts) l) all;
      fit = subst (λ (l : TableChanges). Fit ts l) (sym all) c.requires;
      back = subst (λ (n : ℕ). LeadsBackFrom n (contents ts) ts cs) (sym count) (from_end ts cs (fit_many ts cs c.requires));
      capacity = refl;
    }

pub index_mut-requires : goal.index_mut-requires
index_mut-requires c =
    let ts = c.loop-at.tables.items in
    let cs = c.loop-at.changes.items in
    let many : length (take c.loop-at.at cs) ≤ length ts = fit_many ts (take c.loop-at.at cs) c.loop-at.invariant.fit in
    let long : length (take c.loop-at.at cs) ≡ c.loop-at.at = length_take cs c.loop-at.at c.loop-at.invariant.within in
    omega (arith, many, long, c.loop-at-test.true)

pub change-requires-clause-old : goal.change-requires-clause-old
change-requires-clause-old c =
    let ts = c.loop-at.tables.items in
    let cs = c.loop-at.changes.items in
    let k = c.loop-at.at - 1 in
    let d = c.index_mut.result.now in
    let one = c.index_mut-in-loop-at.result.now in
    let more : suc k ≡ c.loop-at.at = omega (arith, c.loop-at-test.true) in
    let inside : k < length cs = omega (arith, c.loop-at-test.true, c.loop-at.invariant.within) in
    let split : take c.loop-at.at cs ≡ take k cs ++ one ∷ [] =
    ap (λ (n : ℕ). take n cs) (sym more) ∙ take_last cs k one inside ∙ ap (λ (i : List Change). take k cs ++ i ∷ []) (sym c.index_mut-in-loop-at.ensures.value) in
    let last = fit_last ts (take k cs) one d (subst (λ (l : TableChanges). Fit ts l) split c.loop-at.invariant.fit) in
    let long : length (take k cs) ≡ k = length_take cs k (omega (arith, inside)) in
    let here : slice_index_or ts (length (take k cs)) d ≡ d = ap (λ (n : ℕ). slice_index_or ts n d) long ∙ sym c.index_mut.ensures.value in
    subst (λ (t : TableState). AreOld t.rows one) here last.1

pub change-requires-clause-room : goal.change-requires-clause-room
change-requires-clause-room c =
    let ts = c.loop-at.tables.items in
    let cs = c.loop-at.changes.items in
    let k = c.loop-at.at - 1 in
    let d = c.index_mut.result.now in
    let one = c.index_mut-in-loop-at.result.now in
    let more : suc k ≡ c.loop-at.at = omega (arith, c.loop-at-test.true) in
    let inside : k < length cs = omega (arith, c.loop-at-test.true, c.loop-at.invariant.within) in
    let split : take c.loop-at.at cs ≡ take k cs ++ one ∷ [] =
    ap (λ (n : ℕ). take n cs) (sym more) ∙ take_last cs k one inside ∙ ap (λ (i : List Change). take k cs ++ i ∷ []) (sym c.index_mut-in-loop-at.ensures.value) in
    let last = fit_last ts (take k cs) one d (subst (λ (l : TableChanges). Fit ts l) split c.loop-at.invariant.fit) in
    let long : length (take k cs) ≡ k = length_take cs k (omega (arith, inside)) in
    let here : slice_index_or ts (length (take k cs)) d ≡ d = ap (λ (n : ℕ). slice_index_or ts n d) long ∙ sym c.index_mut.ensures.value in
    subst (λ (t : TableState). length one ≤ t.spare) here last.2

pub loop-at-preserved : goal.loop-at-preserved
loop-at-preserved c =
    let ts = c.loop-at.tables.items in
    let cs = c.loop-at.changes.items in
    let k = c.loop-at.at - 1 in
    let d = c.index_mut.result.now in
    let one = c.index_mut-in-loop-at.result.now in
    let t = c.change.new.table in
    let left = c.change.new.changes in
    let more : suc k ≡ c.loop-at.at = omega (arith, c.loop-at-test.true) in
    let inside : k < length cs = omega (arith, c.loop-at-test.true, c.loop-at.invariant.within) in
    let split : take c.loop-at.at cs ≡ take k cs ++ one ∷ [] =
    ap (λ (n : ℕ). take n cs) (sym more) ∙ take_last cs k one inside ∙ ap (λ (i : List Change). take k cs ++ i ∷ []) (sym c.index_mut-in-loop-at.ensures.value) in
    let fit : Fit ts (take k cs ++ one ∷ []) = subst (λ (l : TableChanges). Fit ts l) split c.loop-at.invariant.fit in
    let long : length (take k cs) ≡ k = length_take cs k (omega (arith, inside)) in
    let here : d ≡ slice_index_or ts (length (take k cs)) d = c.index_mut.ensures.value ∙ ap (λ (n : ℕ). slice_index_or ts n d) (sym long) in
    let kept : take k (slice_set cs k left) ≡ take k cs = take_set cs k left in
    let made : t.rows ≡ changed (slice_index_or ts (length (take k cs)) d).rows one = c.change.ensures.rows ∙ ap (λ (u : TableState). changed u.rows one) here in
    let behind : LeadsBackFrom (suc k) (contents c.args.tables.now.items) ts cs = subst (λ (n : ℕ). LeadsBackFrom n (contents c.args.tables.now.items) ts cs) (sym more) c.loop-at.invariant.back in
    record {
      within = omega (arith, inside, length_set cs k left);
      rows =
          ap (λ (l : TableChanges). changed_tables (contents (slice_set ts k t)) l) kept
          ∙ ap (λ (n : ℕ). changed_tables (contents (slice_set ts n t)) (take k cs)) (sym long)
          ∙ changed_last ts (take k cs) one t d fit made
          ∙ ap (λ (l : TableChanges). changed_tables (contents ts) l) (sym split)
          ∙ c.loop-at.invariant.rows;
      fit = subst (λ (l : TableChanges). Fit (slice_set ts k t) l) (sym kept) (subst (λ (n : ℕ). Fit (slice_set ts n t) (take k cs)) long (fit_before ts (take k cs) one t fit));
      back = from_less k (contents c.args.tables.now.items) ts cs t d left behind (subst (λ (u : TableState). LeadsBack u.rows t.rows t.spare left) c.index_mut.ensures.value c.change.ensures.back);
      capacity = capacities_set ts k t d (c.change.ensures.capacity ∙ ap (λ (u : TableState). u.spare + length u.rows) c.index_mut.ensures.value) ∙ c.loop-at.invariant.capacity;
    }

pub returns-clause-rows : goal.returns-clause-rows
returns-clause-rows c =
    let ts = c.loop-at.tables.items in
    let cs = c.loop-at.changes.items in
    let none : c.loop-at.at ≡ 0 = omega (arith, c.loop-at-test.false) in
    sym (no_changes (contents ts)) ∙ ap (λ (n : ℕ). changed_tables (contents ts) (take n cs)) (sym none) ∙ c.loop-at.invariant.rows
