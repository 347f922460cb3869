use Rattle.std.proofs.lemmas.Result.{err_from_is_err_and}
use Rattle.std.proofs.Common.{◌≡◌, ℕ, ◌+◌, ◌-◌, sym, subst, arith}
use Rattle.layout_rules.proofs.DownLaws.{below}
use Rattle.version_model.specs.Kept.{rows_now}
use Rattle.db_check.specs.inner.Calls.{WasDown}
use Rattle.db_check.proofs.PassLemmas.{begins, passes_down, refused_down}
use Rattle.db_check.proofs.passing.admit_down.Goals as goal

pub loop-left-init : goal.loop-left-init
loop-left-init g c =
    let p = c.args.parts.now in
    let count = c.live_operators-left.ensures.count in
    record {
      within = omega (arith, count);
      so_far = begins g.O.Operator.meaning g.met.O.Operator.laws p c.requires.read c.requires.well c.live_operators-left.result count c.new-made.result c.new-made.ensures;
    }

pub loop-left-preserved : goal.loop-left-preserved
loop-left-preserved g c =
    let p = c.args.parts.now in
    let l = c.loop-left in
    let some = c.loop-left-test.true in
    let inside = l.invariant.within in
    let one : l.left - 1 + 1 ≡ l.left = omega (arith, some) in
    record {
      within = omega (arith, inside);
      so_far = passes_down g.O.Operator.meaning g.met.O.Operator.laws p c.requires.read (l.left - 1) (omega (arith, some, inside)) (rows_now p.stored l.made) (rows_now p.stored c.admit_at.new.made) c.in_ok-admit_at.ensures
          (subst (λ (n : ℕ). WasDown g.O.Operator.meaning p (below p.graph.edges n) (rows_now p.stored l.made)) (sym one) l.invariant.so_far);
    }

pub returns-in_err-admit_at : goal.returns-in_err-admit_at
returns-in_err-admit_at g c =
    let p = c.args.parts.now in
    let l = c.loop-left in
    let some = c.loop-left-test.true in
    let one : l.left - 1 + 1 ≡ l.left = omega (arith, some) in
    let q = err_from_is_err_and c.from_residual.result c.from_residual.ensures.1 in
    let done = refused_down g.O.Operator.meaning g.met.O.Operator.laws p c.requires.read (l.left - 1) (rows_now p.stored l.made) (rows_now p.stored c.admit_at.new.made) c.in_err-admit_at.field-0.0 c.in_err-admit_at.ensures
    (subst (λ (n : ℕ). WasDown g.O.Operator.meaning p (below p.graph.edges n) (rows_now p.stored l.made)) (sym one) l.invariant.so_far) in
    rw (q.1, q.2) done

pub returns : goal.returns
returns g c =
    let p = c.args.parts.now in
    let l = c.loop-left in
    let none = c.loop-left-test.false in
    let zero : l.left ≡ 0 = omega (arith, none) in
    subst (λ (n : ℕ). WasDown g.O.Operator.meaning p (below p.graph.edges n) (rows_now p.stored l.made)) zero l.invariant.so_far
