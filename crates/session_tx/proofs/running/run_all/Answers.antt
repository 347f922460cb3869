-- One more write was run, or none.
use Rattle.std.proofs.Common.{◌+◌, List, ◌∷◌, drop, subst, sym, ap, ◌∙◌}
use Rattle.std.proofs.lemmas.List.{drop_all, drop_more}
use Rattle.std.proofs.lemmas.Result.{err_from_is_err_and}
use Rattle.session_tx.specs.Commits.{RanFrom}
use Rattle.session_tx.proofs.RunLemmas.{ran_none, run_next, run_stopped}
use Rattle.session_tx.proofs.running.run_all.Goals as goal

pub loop-write-init : goal.loop-write-init
loop-write-init g c = λ s here. (s, (ran_none g.E.Executor.means c.args.writes.now s c.args.dones.now c.requires.none, here))

pub run_one-requires : goal.run_one-requires
run_one-requires g c = let led = c.loop-write.invariant c.requires.stands.0 c.requires.stands.1 in (led.0, led.1.1)

pub returns-in_err-run_one : goal.returns-in_err-run_one
returns-in_err-run_one g c = λ s here.
    let ws = c.args.writes.now in
    let i = c.loop-write.write-index in
    let next = drop_more ws i c.write-item.result c.loop-write-test.true ∙ ap (λ w. w ∷ drop (i + 1) ws) (sym c.write-item.is) in
    let ran = subst (λ (left : List g.row.E-Write.Denot). RanFrom (g.E.Executor.stands c.args.at.now) (g.E.Executor.stands c.loop-write.at) g.E.Executor.means ws left c.loop-write.dones) next c.loop-write.invariant in
    let p = err_from_is_err_and c.from_residual.result c.from_residual.ensures.1 in
    rw (p.1, p.2) (run_stopped (g.E.Executor.stands c.loop-write.at) (g.E.Executor.stands c.run_one.new.at) g.E.Executor.means ws c.write-item.result (drop (i + 1) ws) s c.loop-write.dones c.run_one.new.dones c.in_err-run_one.field-0.0 (ran s here) c.in_err-run_one.ensures)

pub loop-write-preserved : goal.loop-write-preserved
loop-write-preserved g c = λ s here.
    let ws = c.args.writes.now in
    let i = c.loop-write.write-index in
    let next = drop_more ws i c.write-item.result c.loop-write-test.true ∙ ap (λ w. w ∷ drop (i + 1) ws) (sym c.write-item.is) in
    let ran = subst (λ (left : List g.row.E-Write.Denot). RanFrom (g.E.Executor.stands c.args.at.now) (g.E.Executor.stands c.loop-write.at) g.E.Executor.means ws left c.loop-write.dones) next c.loop-write.invariant in
    run_next (g.E.Executor.stands c.loop-write.at) (g.E.Executor.stands c.run_one.new.at) g.E.Executor.means ws c.write-item.result (drop (i + 1) ws) s c.loop-write.dones c.run_one.new.dones (ran s here) c.in_ok-run_one.ensures

pub returns : goal.returns
returns g c = λ s here.
    let ws = c.args.writes.now in
    let none = drop_all c.loop-write.write-index ws c.loop-write-test.false in
    subst (λ (left : List g.row.E-Write.Denot). RanFrom (g.E.Executor.stands c.args.at.now) (g.E.Executor.stands c.loop-write.at) g.E.Executor.means ws left c.loop-write.dones) none c.loop-write.invariant s here
