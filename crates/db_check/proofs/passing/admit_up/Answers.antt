use Rattle.std.proofs.lemmas.Result.{err_from_is_err_and}
use Rattle.std.proofs.Common.{List, subst, arith}
use Rattle.version_graph.specs.Forest.{Link}
use Rattle.layout_rules.proofs.DownLaws.{below_past}
use Rattle.version_model.specs.Kept.{rows_now}
use Rattle.db_check.specs.inner.Calls.{WasUp}
use Rattle.db_check.proofs.PassLemmas.{passes_up, refused_up, turns}
use Rattle.db_check.proofs.passing.admit_up.Goals as goal

pub loop-place-init : goal.loop-place-init
loop-place-init g c = turns g.O.Operator.meaning g.met.O.Operator.laws c.args.parts.now c.requires.read (rows_now c.args.parts.now.stored c.args.made.now) c.requires.down

pub loop-place-preserved : goal.loop-place-preserved
loop-place-preserved g c =
    let p = c.args.parts.now in
    let l = c.loop-place in
    let inside = c.loop-place-test.true in
    let count = c.live_operators-place-end.ensures.count in
    passes_up g.O.Operator.meaning g.met.O.Operator.laws p c.requires.read l.place (omega (arith, inside, count)) (rows_now p.stored l.made) (rows_now p.stored c.admit_at.new.made) c.in_ok-admit_at.ensures l.invariant

pub returns-in_err-admit_at : goal.returns-in_err-admit_at
returns-in_err-admit_at g c =
    let p = c.args.parts.now in
    let l = c.loop-place in
    let q = err_from_is_err_and c.from_residual.result c.from_residual.ensures.1 in
    let done = refused_up g.O.Operator.meaning g.met.O.Operator.laws p c.requires.read l.place (rows_now p.stored l.made) (rows_now p.stored c.admit_at.new.made) (rows_now p.stored c.admit_at.new.made) c.in_err-admit_at.field-0.0 c.in_err-admit_at.ensures l.invariant in
    rw (q.1, q.2) done

pub returns : goal.returns
returns g c =
    let p = c.args.parts.now in
    let l = c.loop-place in
    subst (λ (k : List (Link _)). WasUp g.O.Operator.meaning p k (rows_now p.stored l.made)) (below_past p.graph.edges l.place c.live_operators-place-end.result c.live_operators-place-end.ensures.count c.loop-place-test.false) l.invariant
