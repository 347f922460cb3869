use Rattle.std.proofs.Common.{◌≡◌, ◌+◌, ℕ, List, suc, length, drop, take, slice_get, slice_set, Some, ap, sym, subst, ◌∙◌, arith}
use Rattle.feed_mirror.specs.declared.kept.Ready.{Ready}
use Rattle.feed_mirror.specs.Kept.{changes_of}
use Rattle.feed_mirror.proofs.TellLemmas.{Told, changes_split, changes_take, tell_may, told_next, told_none}
use Rattle.feed_mirror.proofs.PlaceLemmas.{all_taken, get_there, left_get, left_next, set_length}
use Rattle.feed_mirror.proofs.telling.tell_notes.Goals as goal

pub loop-at-init : goal.loop-at-init
loop-at-init c =
    let e : c.into_vec-left.result.items ≡ c.args.ready = c.into_vec-left.ensures in
    record { told = told_none c.args.tables.now.items; left = ap (drop 0) e; count = ap length e }

pub tell_note-requires : goal.tell_note-requires
tell_note-requires c =
    let all = c.args.ready in
    let rs = c.loop-at.left.items in
    let i = c.loop-at.at in
    let r = c.index_mut.result.now in
    let here : slice_get all i ≡ Some r = sym (left_get rs all i c.loop-at.invariant.left) ∙ get_there rs i r (let m = ap (λ (xs : List Ready). length xs) (c.into_vec-left.ensures) in omega (arith, c.loop-at-test.true, c.len-at-end.ensures, m, c.loop-at.invariant.count)) c.index_mut.ensures.value in
    tell_may (changes_of (take i all)) r.note.tables (changes_of (drop (suc i) all)) (changes_of all) c.args.tables.now.items c.loop-at.tables.items (changes_split all i r here) c.requires c.loop-at.invariant.told.left

pub loop-at-preserved : goal.loop-at-preserved
loop-at-preserved c =
    let all = c.args.ready in
    let rs = c.loop-at.left.items in
    let i = c.loop-at.at in
    let r = c.index_mut.result.now in
    let s : Ready = record r { note = c.tell_note.new.note } in
    let next : i + 1 ≡ suc i = omega arith in
    let here : slice_get all i ≡ Some r = sym (left_get rs all i c.loop-at.invariant.left) ∙ get_there rs i r (let m = ap (λ (xs : List Ready). length xs) (c.into_vec-left.ensures) in omega (arith, c.loop-at-test.true, c.len-at-end.ensures, m, c.loop-at.invariant.count)) c.index_mut.ensures.value in
    record {
      told = told_next (changes_of (take i all)) r.note.tables (changes_of (take (i + 1) all)) c.args.tables.now.items c.loop-at.tables.items c.tell_note.new.tables.items (ap (λ (n : ℕ). changes_of (take n all)) next ∙ changes_take all i r here) c.loop-at.invariant.told c.tell_note.ensures.rows c.tell_note.ensures.left;
      left = ap (λ (n : ℕ). drop n (slice_set rs i s)) next ∙ left_next rs all i s c.loop-at.invariant.left ∙ ap (λ (n : ℕ). drop n all) (sym next);
      count = set_length rs i s ∙ c.loop-at.invariant.count;
    }

pub returns : goal.returns
returns c =
    let all = c.args.ready in
    let e : take c.loop-at.at all ≡ all = all_taken all c.loop-at.at (let m = ap (λ (xs : List Ready). length xs) (c.into_vec-left.ensures) in omega (arith, c.loop-at-test.false, c.len-at-end.ensures, m)) in
    (subst (λ (rs : List Ready). Told (changes_of rs) c.args.tables.now.items c.loop-at.tables.items) e c.loop-at.invariant.told).rows
