use Rattle.std.proofs.Common.{◌≡◌, ◌+◌, ◌∷◌, [], ℕ, List, suc, length, drop, take, slice_get, slice_set, Some, ap, sym, subst, ◌∙◌, arith}
use Rattle.change_feed.specs.declared.note.TableChange.{TableChange}
use Rattle.feed_mirror.proofs.TellLemmas.{Told, tell_may, told_next, told_none}
use Rattle.feed_mirror.proofs.PlaceLemmas.{all_taken, get_there, left_get, left_next, set_length, split_at, take_one}
use Rattle.feed_mirror.proofs.telling.tell_note.Goals as goal

pub loop-at-init : goal.loop-at-init
loop-at-init c =
    let e : c.into_vec-changes.result.items ≡ c.args.note.now.tables = c.into_vec-changes.ensures ∙ c.replace.ensures.value in
    record { told = told_none c.args.tables.now.items; left = ap (drop 0) e; count = ap length e }

pub tell_change-requires : goal.tell_change-requires
tell_change-requires c =
    let all = c.args.note.now.tables in
    let cs = c.loop-at.changes.items in
    let i = c.loop-at.at in
    let x = c.index_mut.result.now in
    let here : slice_get all i ≡ Some x = sym (left_get cs all i c.loop-at.invariant.left) ∙ get_there cs i x (let m = ap (λ (xs : List TableChange). length xs) (c.into_vec-changes.ensures ∙ c.replace.ensures.value) in omega (arith, c.loop-at-test.true, c.len-at-end.ensures, m, c.loop-at.invariant.count)) c.index_mut.ensures.value in
    tell_may (take i all) (x ∷ []) (drop (suc i) all) all c.args.tables.now.items c.loop-at.tables.items (split_at all i x here) c.requires c.loop-at.invariant.told.left

pub loop-at-preserved : goal.loop-at-preserved
loop-at-preserved c =
    let all = c.args.note.now.tables in
    let cs = c.loop-at.changes.items in
    let i = c.loop-at.at in
    let x = c.index_mut.result.now in
    let y = c.tell_change.new.change in
    let next : i + 1 ≡ suc i = omega arith in
    let here : slice_get all i ≡ Some x = sym (left_get cs all i c.loop-at.invariant.left) ∙ get_there cs i x (let m = ap (λ (xs : List TableChange). length xs) (c.into_vec-changes.ensures ∙ c.replace.ensures.value) in omega (arith, c.loop-at-test.true, c.len-at-end.ensures, m, c.loop-at.invariant.count)) c.index_mut.ensures.value in
    record {
      told = told_next (take i all) (x ∷ []) (take (i + 1) all) c.args.tables.now.items c.loop-at.tables.items c.tell_change.new.tables.items (ap (λ (n : ℕ). take n all) next ∙ take_one all i x here) c.loop-at.invariant.told c.tell_change.ensures.rows c.tell_change.ensures.left;
      left = ap (λ (n : ℕ). drop n (slice_set cs i y)) next ∙ left_next cs all i y c.loop-at.invariant.left ∙ ap (λ (n : ℕ). drop n all) (sym next);
      count = set_length cs i y ∙ c.loop-at.invariant.count;
    }

pub returns-clause-rows : goal.returns-clause-rows
returns-clause-rows c =
    let all = c.args.note.now.tables in
    let e : take c.loop-at.at all ≡ all = all_taken all c.loop-at.at (let m = ap (λ (xs : List TableChange). length xs) (c.into_vec-changes.ensures ∙ c.replace.ensures.value) in omega (arith, c.loop-at-test.false, c.len-at-end.ensures, m)) in
    (subst (λ (ds : List TableChange). Told ds c.args.tables.now.items c.loop-at.tables.items) e c.loop-at.invariant.told).rows

pub returns-clause-left : goal.returns-clause-left
returns-clause-left c =
    let all = c.args.note.now.tables in
    let e : take c.loop-at.at all ≡ all = all_taken all c.loop-at.at (let m = ap (λ (xs : List TableChange). length xs) (c.into_vec-changes.ensures ∙ c.replace.ensures.value) in omega (arith, c.loop-at-test.false, c.len-at-end.ensures, m)) in
    (subst (λ (ds : List TableChange). Told ds c.args.tables.now.items c.loop-at.tables.items) e c.loop-at.invariant.told).left
