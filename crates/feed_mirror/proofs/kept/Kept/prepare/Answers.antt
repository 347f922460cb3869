use Rattle.std.proofs.Common.{◌≡◌, ◌+◌, ◌++◌, ◌∷◌, [], ℕ, List, length, take, refl, ap, sym, subst, ◌∙◌, arith}
use Rattle.change_feed.specs.declared.note.TableChange.{TableChange}
use Rattle.change_feed.specs.Shown.{Fit, after_notes}
use Rattle.feed_mirror.specs.declared.kept.Ready.{Ready}
use Rattle.feed_mirror.specs.declared.tables.Shown.{Shown}
use Rattle.feed_mirror.specs.Tables.{named}
use Rattle.feed_mirror.specs.Rooms.{total}
use Rattle.feed_mirror.specs.Kept.{AreKept, KeptState, notes_of}
use Rattle.feed_mirror.proofs.KeptLemmas.{back_shown, begins_take, kept_back, kept_more, notes_push, same_kept}
use Rattle.feed_mirror.proofs.kept.Kept.prepare.Goals as goal

pub invariant_of-self : goal.invariant_of-self
invariant_of-self c =
    let k = c.self.inside in
    let note = c.args.note.now in
    let r : Ready = record { note = note; tables = length k.tables.items; due = k.due } in
    kept_more k.tables.items c.make_ready.new.tables.items k.shown k.ready c.make_ready.new.ready r k.due c.in-Some.due c.self.invariant c.in-Ok.ensures.ok refl refl
    (c.in-Some.ensures ∙ ap (λ (cs : List TableChange). k.due + total cs) c.as_slice.ensures)
    (subst (λ (s : KeptState). Fit note.tables (after_notes s.prepared s.shown)) (sym c.self.view_is) c.requires)
    c.in-Ok.ensures.names c.in-Ok.ensures.begins c.in-Ok.ensures.rooms c.in-Ok.ensures.keeps

pub invariant_of-self-in-Err : goal.invariant_of-self-in-Err
invariant_of-self-in-Err c =
    let k = c.self.inside in
    let us = c.make_ready.new.tables.items in
    let n : c.len-before.result ≡ length k.tables.items = omega (arith, c.len-before.ensures) in
    let e : c.truncate.new.self.items ≡ take (length k.tables.items) us = c.truncate.ensures.items ∙ ap (λ (m : ℕ). take m us) n in
    subst (λ (ts : List Shown). AreKept ts k.shown c.make_ready.new.ready k.due) (sym e)
    (subst (λ (rs : List Ready). AreKept (take (length k.tables.items) us) k.shown rs k.due) (sym c.in-Err.ensures.err)
    (kept_back k.tables.items us k.shown k.ready k.due c.self.invariant c.in-Err.ensures.begins c.in-Err.ensures.keeps))

pub returns-in-Ok-clause-ok : goal.returns-in-Ok-clause-ok
returns-in-Ok-clause-ok c =
    let k = c.self.inside in
    let note = c.args.note.now in
    let r : Ready = record { note = note; tables = length k.tables.items; due = k.due } in
    same_kept _ _ _ _ _ _ (ap notes_of c.in-Ok.ensures.ok ∙ notes_push k.ready r) refl (begins_take k.shown k.tables.items c.make_ready.new.tables.items c.self.invariant.within c.in-Ok.ensures.begins)
    ∙ ap (λ (s : KeptState). record s { prepared = s.prepared ++ note ∷ [] }) c.self.view_is

pub returns-in-Err-clause-err : goal.returns-in-Err-clause-err
returns-in-Err-clause-err c =
    let k = c.self.inside in
    let us = c.make_ready.new.tables.items in
    let n : c.len-before.result ≡ length k.tables.items = omega (arith, c.len-before.ensures) in
    let e : c.truncate.new.self.items ≡ take (length k.tables.items) us = c.truncate.ensures.items ∙ ap (λ (m : ℕ). take m us) n in
    same_kept _ _ _ _ _ _ (ap notes_of c.in-Err.ensures.err) refl (ap (λ (ts : List Shown). named (take k.shown ts)) e ∙ back_shown k.tables.items us k.shown c.self.invariant.within c.in-Err.ensures.begins)
    ∙ c.self.view_is
