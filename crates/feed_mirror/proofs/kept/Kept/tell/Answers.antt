use Rattle.std.proofs.Common.{◌≡◌, ℕ, List, length, take, ap, sym, subst, ◌∙◌, arith}
use Rattle.change_feed.specs.Shown.{after_changes}
use Rattle.feed_mirror.specs.declared.kept.Ready.{Ready}
use Rattle.feed_mirror.specs.Tables.{named}
use Rattle.feed_mirror.specs.Rooms.{MayTell}
use Rattle.feed_mirror.specs.Kept.{AreKept, changes_of, kept_told, notes_of}
use Rattle.feed_mirror.proofs.PadLemmas.{whole}
use Rattle.feed_mirror.proofs.KeptLemmas.{kept_quiet, may_tell, notes_len, same_kept, told_all}
use Rattle.feed_mirror.proofs.kept.Kept.tell.Goals as goal

pub tell_notes-requires : goal.tell_notes-requires
tell_notes-requires c =
    let k = c.self.inside in
    subst (λ (rs : List Ready). MayTell (changes_of rs) k.tables.items) (sym c.replace-ready.ensures.value) (may_tell k.tables.items k.shown k.ready k.due c.self.invariant)

pub invariant_of-self : goal.invariant_of-self
invariant_of-self c =
    let new = c.tell_notes.new.tables.items in
    subst (λ (rs : List Ready). AreKept new c.len-shown.result rs 0) (sym (c.replace-ready.ensures.after ∙ c.new.ensures)) (kept_quiet new c.len-shown.result (omega (arith, c.len-shown.ensures)))

pub returns : goal.returns
returns c =
    let k = c.self.inside in
    let ts = k.tables.items in
    let new = c.tell_notes.new.tables.items in
    let n : c.len-shown.result ≡ length new = omega (arith, c.len-shown.ensures) in
    let all : take c.len-shown.result new ≡ new = ap (λ (m : ℕ). take m new) n ∙ whole new in
    let rows : named new ≡ after_changes (changes_of k.ready) (named ts) = c.tell_notes.ensures ∙ ap (λ (rs : List Ready). after_changes (changes_of rs) (named ts)) c.replace-ready.ensures.value in
    let same = ap (λ (rs : List Ready). length rs) c.replace-ready.ensures.value in
    let many = notes_len k.ready in
    same_kept _ _ _ _ _ _ (ap notes_of (c.replace-ready.ensures.after ∙ c.new.ensures))
    (omega (arith, c.saturating_add-self-inside.ensures, c.len-count.ensures, same, many))
    (ap named all ∙ told_all ts new k.shown k.ready k.due c.self.invariant rows)
    ∙ ap kept_told c.self.view_is
