use Rattle.std.proofs.Common.{sym, subst}
use Rattle.change_feed.specs.Watches.{note_for, without_note, HasHeard}
use Rattle.change_feed.specs.Places.{PutsAt}
use Rattle.change_feed.specs.inner.Live.{made_unready}
use Rattle.change_feed.proofs.LiveLemmas.{next_there, each_next}
use Rattle.change_feed.proofs.passes.unprepare_each.Goals as goal

pub unprepare_at-requires : goal.unprepare_at-requires
unprepare_at-requires g c =
    let n = c.args.notes.now in
    let h = next_there (λ version. HasHeard (note_for n version)) (made_unready n) c.args.taken.now c.args.watchers.now c.loop-at.watchers c.loop-at.at c.index-taken-at.result c.loop-at-test.true c.requires.within c.requires.has c.loop-at.invariant in
    (h.0, h.1, subst (λ o. HasHeard o h.0) (sym c.find_note.ensures) h.2)

pub loop-at-preserved : goal.loop-at-preserved
loop-at-preserved g c =
    let n = c.args.notes.now in
    each_next (made_unready n) c.args.taken.now c.args.watchers.now c.loop-at.watchers c.unprepare_at.new.watchers c.loop-at.at c.index-taken-at.result c.loop-at-test.true c.requires.within c.loop-at.invariant
    (subst (λ o. PutsAt c.loop-at.watchers c.loop-at.at (without_note o) c.unprepare_at.new.watchers) c.find_note.ensures c.unprepare_at.ensures)
