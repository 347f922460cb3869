use Rattle.std.proofs.Common.{length, take, sym, ap, subst, ◌∙◌, arith}
use Rattle.change_feed.specs.Watches.{note_for, with_note, MayHear}
use Rattle.change_feed.specs.Places.{PutsAt}
use Rattle.change_feed.specs.inner.Live.{each_taken, made_ready, made_unready, EachHas}
use Rattle.change_feed.proofs.LiveLemmas.{next_there, each_next, each_len, each_has, each_back, take_len}
use Rattle.change_feed.proofs.passes.prepare_each.Goals as goal

pub prepare_at-requires : goal.prepare_at-requires
prepare_at-requires g c =
    let n = c.args.notes.now in
    let h = next_there (λ version. MayHear (note_for n version)) (made_ready n) c.args.taken.now c.args.watchers.now c.loop-at.watchers c.loop-at.at c.index-taken-at.result c.loop-at-test.true c.requires.within c.requires.may c.loop-at.invariant in
    (h.0, h.1, subst (λ o. MayHear o h.0) (sym c.find_note-note.ensures) h.2)

pub unprepare_each-requires-clause-within : goal.unprepare_each-requires-clause-within
unprepare_each-requires-clause-within g c =
    omega (arith, c.requires.within, take_len c.loop-at.at c.args.taken.now, ap length (c.in-Err.ensures.err ∙ c.loop-at.invariant), each_len (made_ready c.args.notes.now) (take c.loop-at.at c.args.taken.now) c.args.watchers.now)

pub unprepare_each-requires-clause-has : goal.unprepare_each-requires-clause-has
unprepare_each-requires-clause-has g c =
    subst (λ ws. EachHas c.args.notes.now (take c.loop-at.at c.args.taken.now) ws) (sym (c.in-Err.ensures.err ∙ c.loop-at.invariant)) (each_has c.args.notes.now (take c.loop-at.at c.args.taken.now) c.args.watchers.now)

pub returns-in-Err-clause-err : goal.returns-in-Err-clause-err
returns-in-Err-clause-err g c =
    c.unprepare_each.ensures ∙ ap (λ ws. each_taken (made_unready c.args.notes.now) (take c.loop-at.at c.args.taken.now) ws) (c.in-Err.ensures.err ∙ c.loop-at.invariant)
    ∙ each_back c.args.notes.now (take c.loop-at.at c.args.taken.now) c.args.watchers.now

pub loop-at-preserved : goal.loop-at-preserved
loop-at-preserved g c =
    let n = c.args.notes.now in
    each_next (made_ready n) c.args.taken.now c.args.watchers.now c.loop-at.watchers c.prepare_at.new.watchers c.loop-at.at c.index-taken-at.result c.loop-at-test.true c.requires.within c.loop-at.invariant
    (subst (λ o. PutsAt c.loop-at.watchers c.loop-at.at (with_note o) c.prepare_at.new.watchers) c.find_note-note.ensures c.in_default.ensures.ok)
