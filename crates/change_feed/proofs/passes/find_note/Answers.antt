use Rattle.change_feed.proofs.LiveLemmas.{note_found, note_passed}
use Rattle.change_feed.proofs.passes.find_note.Goals as goal

pub returns-then-is_same : goal.returns-then-is_same
returns-then-is_same c = note_found c.args.notes.now c.args.version.now c.loop-own.own-index c.own-item.result c.own-item.is c.loop-own-test.true c.loop-own.invariant (c.is_same.ensures.0 c.if-is_same.true)

pub loop-own-preserved : goal.loop-own-preserved
loop-own-preserved c = note_passed c.args.notes.now c.args.version.now c.loop-own.own-index c.own-item.result c.own-item.is c.loop-own-test.true c.loop-own.invariant (λ e. let a = c.is_same.ensures.1 e in let b = c.if-is_same.false in cc)
