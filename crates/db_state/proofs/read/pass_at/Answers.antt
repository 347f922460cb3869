use Rattle.std.proofs.Common.{None, Some, cond, false, true}
use Rattle.db_state.specs.inner.Passes.{is_passed}
use Rattle.db_state.proofs.BoundLaws.{seen_none}
use Rattle.db_state.proofs.PlaceLemmas.{takes_over, found_in, may_cross, passes_by, passes_nothing, passes_over, tested}
use Rattle.db_state.proofs.read.pass_at.Goals as goal

pub returns-in_default-clause-passes : goal.returns-in_default-clause-passes
returns-in_default-clause-passes g c =
    let p = c.args.db.now in
    passes_nothing g.O.Operator.meaning p c.graph.ensures.kept c.args.pass c.args.place c.args.made.now (found_in c.graph.result.now p.graph c.graph.ensures.graph c.args.place None c.in_default.ensures)

pub cross-requires : goal.cross-requires
cross-requires g c =
    let p = c.args.db.now in
    let e = c.in-Some.placed.now in
    let found = found_in c.graph.result.now p.graph c.graph.ensures.graph c.args.place (Some e) c.in-Some.ensures in
    let passed = tested c.layout.result.now p.layout c.layout.ensures c.as_slice.result.now c.as_slice.ensures c.args.pass e.number c.is_passed.result true c.is_passed.ensures c.if-is_passed.true in
    may_cross g.O.Operator.meaning p c.graph.ensures.kept c.args.pass c.args.place c.args.made.now e found c.requires passed

pub returns-in_ok-cross-clause-passes : goal.returns-in_ok-cross-clause-passes
returns-in_ok-cross-clause-passes g c =
    let p = c.args.db.now in
    let e = c.in-Some.placed.now in
    let found = found_in c.graph.result.now p.graph c.graph.ensures.graph c.args.place (Some e) c.in-Some.ensures in
    let passed = tested c.layout.result.now p.layout c.layout.ensures c.as_slice.result.now c.as_slice.ensures c.args.pass e.number c.is_passed.result true c.is_passed.ensures c.if-is_passed.true in
    passes_over g.O.Operator.meaning p c.graph.ensures.kept c.args.pass c.args.place c.args.made.now e found c.cross.new.made passed c.in_ok-cross.ensures.passes

pub returns-else-is_passed-clause-passes : goal.returns-else-is_passed-clause-passes
returns-else-is_passed-clause-passes g c =
    let p = c.args.db.now in
    let e = c.in-Some.placed.now in
    let found = found_in c.graph.result.now p.graph c.graph.ensures.graph c.args.place (Some e) c.in-Some.ensures in
    let off = tested c.layout.result.now p.layout c.layout.ensures c.as_slice.result.now c.as_slice.ensures c.args.pass e.number c.is_passed.result false c.is_passed.ensures c.if-is_passed.false in
    passes_by g.O.Operator.meaning p c.graph.ensures.kept c.args.pass c.args.place c.args.made.now e found off

pub returns-in_ok-cross-clause-steps : goal.returns-in_ok-cross-clause-steps
returns-in_ok-cross-clause-steps g c =
    let p = c.args.db.now in
    let e = c.in-Some.placed.now in
    let found = found_in c.graph.result.now p.graph c.graph.ensures.graph c.args.place (Some e) c.in-Some.ensures in
    let passed = tested c.layout.result.now p.layout c.layout.ensures c.as_slice.result.now c.as_slice.ensures c.args.pass e.number c.is_passed.result true c.is_passed.ensures c.if-is_passed.true in
    takes_over g.O.Operator.meaning p c.graph.ensures.kept c.args.pass c.args.place c.args.made.now e found c.args.steps.now c.cross.new.steps passed c.in_ok-cross.ensures.steps

pub returns-in_err-cross-clause-steps : goal.returns-in_err-cross-clause-steps
returns-in_err-cross-clause-steps g c =
    let p = c.args.db.now in
    let e = c.in-Some.placed.now in
    let found = found_in c.graph.result.now p.graph c.graph.ensures.graph c.args.place (Some e) c.in-Some.ensures in
    let passed = tested c.layout.result.now p.layout c.layout.ensures c.as_slice.result.now c.as_slice.ensures c.args.pass e.number c.is_passed.result true c.is_passed.ensures c.if-is_passed.true in
    takes_over g.O.Operator.meaning p c.graph.ensures.kept c.args.pass c.args.place c.args.made.now e found c.args.steps.now c.cross.new.steps passed c.in_err-cross.ensures.steps

pub returns-in_default-clause-steps : goal.returns-in_default-clause-steps
returns-in_default-clause-steps g c f here = seen_none 2 c.args.pass.sight (cond (is_passed c.args.db.now.layout.operators c.args.pass.operators.now c.args.pass.backward f.number) 1 0) c.args.steps.now

pub returns-else-is_passed-clause-steps : goal.returns-else-is_passed-clause-steps
returns-else-is_passed-clause-steps g c f here = seen_none 2 c.args.pass.sight (cond (is_passed c.args.db.now.layout.operators c.args.pass.operators.now c.args.pass.backward f.number) 1 0) c.args.steps.now
