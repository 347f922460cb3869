use Rattle.std.proofs.Common.{subst, Ok, Err}
use Rattle.std.proofs.lemmas.Result.{err_from_is_err_and}
use Rattle.id_memory.specs.States.{CounterState}
use Rattle.op_law.specs.Tables.{Tables}
use Rattle.op_law.specs.Calls.{seen, IsMapped}
use Rattle.op_law.proofs.ChainLemmas.{second_may, refused_first, refused_second}
use Rattle.op_law.proofs.chain.Chain.forward.Goals as goal

pub forward-requires-2 : goal.forward-requires-2
forward-requires-2 g c =
    let a = g.A.Operator.meaning c.args.self.now.first in
    let b = g.B.Operator.meaning c.args.self.now.second in
    let may = second_may a b (g.met.A.Operator.laws c.args.self.now.first).0 (g.met.B.Operator.laws c.args.self.now.second).0 c.args.near.now (seen c.args.first.now) (seen c.args.second.now) c.args.ids.now.next c.requires in
    let mapped = c.in_ok-middle.ensures.answer in
    rw (mapped.1.0, mapped.2, c.copy-drawn.ensures) (record { hs = c.requires.hm; ht = c.requires.ht; may = may })

pub returns-in_err-middle : goal.returns-in_err-middle
returns-in_err-middle g c =
    let a = g.A.Operator.meaning c.args.self.now.first in
    let b = g.B.Operator.meaning c.args.self.now.second in
    let la = (g.met.A.Operator.laws c.args.self.now.first).0 in
    let lb = (g.met.B.Operator.laws c.args.self.now.second).0 in
    let old = c.args.ids.now in
    let to = a.forward c.args.near.now (seen c.args.first.now) old.next in
    let may = second_may a b la lb c.args.near.now (seen c.args.first.now) (seen c.args.second.now) old.next c.requires in
    let far = b.forward to.far (seen c.args.second.now) to.next in
    let rises = (lb.below c.requires.hm c.requires.ht to.far (seen c.args.second.now) to.next may).rises in
    let is = subst (λ (start : CounterState). IsMapped (a.forward c.args.near.now (seen c.args.first.now) start.next) start c.forward.new.ids (Err c.in_err-middle.field-0.0)) c.copy-drawn.ensures c.in_err-middle.ensures.answer in
    let p = err_from_is_err_and c.from_residual.result c.from_residual.ensures.1 in
    rw (p.1, p.2) (refused_first to to far far.next old _ c.in_err-middle.field-0.0 rises is)

pub returns-in_err-far : goal.returns-in_err-far
returns-in_err-far g c =
    let a = g.A.Operator.meaning c.args.self.now.first in
    let b = g.B.Operator.meaning c.args.self.now.second in
    let la = (g.met.A.Operator.laws c.args.self.now.first).0 in
    let old = c.args.ids.now in
    let one = seen c.args.first.now in
    let two = seen c.args.second.now in
    let to = a.forward c.args.near.now one old.next in
    let far = b.forward to.far two to.next in
    let low = (la.below c.requires.hs c.requires.hm c.args.near.now one old.next c.requires.may).rises in
    let here = subst (λ (start : CounterState). IsMapped (a.forward c.args.near.now one start.next) start c.forward.new.ids (Ok c.in_ok-middle.middle)) c.copy-drawn.ensures c.in_ok-middle.ensures.answer in
    let there = subst (λ (side : Tables). IsMapped (b.forward side two c.forward.new.ids.next) c.forward.new.ids c.forward-2.new.ids (Err c.in_err-far.field-0.0)) here.1.0 c.in_err-far.ensures.answer in
    let is = subst (λ (ids : CounterState). IsMapped (b.forward to.far two ids.next) ids c.forward-2.new.ids (Err c.in_err-far.field-0.0)) here.2 there in
    let p = err_from_is_err_and c.from_residual-in_err-far.result c.from_residual-in_err-far.ensures.1 in
    rw (p.1, p.2) (refused_second far to far to.next old _ c.in_err-far.field-0.0 low here.0 is)
