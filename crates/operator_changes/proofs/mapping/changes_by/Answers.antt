use Rattle.std.proofs.Common.{◌≡◌, List, ℕ, Ok, Err, true, length, ap, sym, ◌∙◌, subst, arith}
use Rattle.std.proofs.lemmas.Result.{err_from_is_err_and}
use Rattle.id_memory.specs.States.{CounterState}
use Rattle.op_law.specs.Calls.{seen, IsMapped}
use Rattle.op_law.specs.Premises.{SomeMap}
use Rattle.op_law.specs.Tables.{Tables}
use Rattle.operator_changes.specs.Calls.{ahead, toward}
use Rattle.row_changes.specs.Changed.{changed_tables}
use Rattle.row_changes.specs.Picked.{PicksEach}
use Rattle.operator_changes.specs.Footprint.{passes, with_drawn}
use Rattle.op_rows.specs.inner.CellLemmas.{has_id}
use Rattle.operator_changes.proofs.DrawnLemmas.{with_passes}
use Rattle.row_changes.proofs.PickLaws.{each_pass_of}
use Rattle.operator_changes.proofs.FootLemmas.{answered, far_many, part_fits, part_may, part_next, part_rises, part_steps, spent, toward_laws}
use Rattle.operator_changes.proofs.PartLemmas.{part_ahead}
use Rattle.operator_changes.proofs.mapping.changes_by.Goals as goal

pub map_part-requires-clause-fit : goal.map_part-requires-clause-fit
map_part-requires-clause-fit g c =
    let b = c.args.backward in
    let o = g.O.Operator.meaning c.args.operator.now in
    let m = toward b o in
    let laws = toward_laws b o (g.met.O.Operator.laws c.args.operator.now) in
    let near = c.args.near.now.tables in
    let p = ahead b (g.V.PairRead.pair c.args.old.now) in
    let n = c.args.ids.now.next in
    let x = ahead b (seen c.in_ok-part.part) in
    let is = part_ahead b c.args.foot.now (seen c.in_ok-part.part) (g.V.PairRead.pair c.args.old.now) c.in_ok-part.ensures.part in
    part_fits m laws near p n c.requires.may c.args.foot.now c.requires.foot x is

pub map_part-requires-clause-may : goal.map_part-requires-clause-may
map_part-requires-clause-may g c =
    let b = c.args.backward in
    let o = g.O.Operator.meaning c.args.operator.now in
    let m = toward b o in
    let laws = toward_laws b o (g.met.O.Operator.laws c.args.operator.now) in
    let near = c.args.near.now.tables in
    let p = ahead b (g.V.PairRead.pair c.args.old.now) in
    let n = c.args.ids.now.next in
    let x = ahead b (seen c.in_ok-part.part) in
    let is = part_ahead b c.args.foot.now (seen c.in_ok-part.part) (g.V.PairRead.pair c.args.old.now) c.in_ok-part.ensures.part in
    subst (λ (start : CounterState). SomeMap m (changed_tables x.source near) x start.next) (sym c.copy-drawn.ensures) (part_may m laws near p n c.requires.may c.args.foot.now c.requires.foot x is)

pub returns-in_err-far-clause-answer : goal.returns-in_err-far-clause-answer
returns-in_err-far-clause-answer g c =
    let b = c.args.backward in
    let o = g.O.Operator.meaning c.args.operator.now in
    let m = toward b o in
    let laws = toward_laws b o (g.met.O.Operator.laws c.args.operator.now) in
    let near = c.args.near.now.tables in
    let p = ahead b (g.V.PairRead.pair c.args.old.now) in
    let n = c.args.ids.now.next in
    let x = ahead b (seen c.in_ok-part.part) in
    let is = part_ahead b c.args.foot.now (seen c.in_ok-part.part) (g.V.PairRead.pair c.args.old.now) c.in_ok-part.ensures.part in
    let mapped = subst (λ (start : CounterState). IsMapped (m.forward (changed_tables x.source near) x start.next) start c.map_part.new.ids (Err c.in_err-far.field-0.0)) c.copy-drawn.ensures c.in_err-far.ensures.answer in
    let e = err_from_is_err_and c.from_residual-in_err-far.result c.from_residual-in_err-far.ensures.1 in
    rw (e.1, e.2) (spent m laws near p n c.requires.may c.args.foot.now c.requires.foot x is c.args.ids.now c.map_part.new.ids c.in_err-far.field-0.0 mapped)

pub returns-in_err-far-clause-steps : goal.returns-in_err-far-clause-steps
returns-in_err-far-clause-steps g c =
    let b = c.args.backward in
    let o = g.O.Operator.meaning c.args.operator.now in
    let m = toward b o in
    let laws = toward_laws b o (g.met.O.Operator.laws c.args.operator.now) in
    let near = c.args.near.now.tables in
    let p = ahead b (g.V.PairRead.pair c.args.old.now) in
    let n = c.args.ids.now.next in
    let x = ahead b (seen c.in_ok-part.part) in
    let is = part_ahead b c.args.foot.now (seen c.in_ok-part.part) (g.V.PairRead.pair c.args.old.now) c.in_ok-part.ensures.part in
    part_steps m laws near p n c.requires.may c.args.foot.now c.requires.foot x is c.args.steps.now c.map_part.new.steps c.in_err-far.ensures.steps

pub returns-clause-steps : goal.returns-clause-steps
returns-clause-steps g c =
    let b = c.args.backward in
    let o = g.O.Operator.meaning c.args.operator.now in
    let m = toward b o in
    let laws = toward_laws b o (g.met.O.Operator.laws c.args.operator.now) in
    let near = c.args.near.now.tables in
    let p = ahead b (g.V.PairRead.pair c.args.old.now) in
    let n = c.args.ids.now.next in
    let x = ahead b (seen c.in_ok-part.part) in
    let is = part_ahead b c.args.foot.now (seen c.in_ok-part.part) (g.V.PairRead.pair c.args.old.now) c.in_ok-part.ensures.part in
    part_steps m laws near p n c.requires.may c.args.foot.now c.requires.foot x is c.args.steps.now c.map_part.new.steps c.in_ok-far.ensures.steps

pub far_changes-requires-clause-drawn : goal.far_changes-requires-clause-drawn
far_changes-requires-clause-drawn g c =
    let b = c.args.backward in
    let o = g.O.Operator.meaning c.args.operator.now in
    let m = toward b o in
    let laws = toward_laws b o (g.met.O.Operator.laws c.args.operator.now) in
    let near = c.args.near.now.tables in
    let p = ahead b (g.V.PairRead.pair c.args.old.now) in
    let n = c.args.ids.now.next in
    let x = ahead b (seen c.in_ok-part.part) in
    let is = part_ahead b c.args.foot.now (seen c.in_ok-part.part) (g.V.PairRead.pair c.args.old.now) c.in_ok-part.ensures.part in
    let mapped = subst (λ (start : CounterState). IsMapped (m.forward (changed_tables x.source near) x start.next) start c.map_part.new.ids (Ok c.in_ok-far.far)) c.copy-drawn.ensures c.in_ok-far.ensures.answer in
    let rises = part_rises m laws near p n c.requires.may c.args.foot.now c.requires.foot x is in
    omega (arith, rises, c.next.ensures.value, c.next-2.ensures.value, ap (λ (s : CounterState). s.next) mapped.2)

pub far_changes-requires-clause-many : goal.far_changes-requires-clause-many
far_changes-requires-clause-many g c =
    let b = c.args.backward in
    let o = g.O.Operator.meaning c.args.operator.now in
    let m = toward b o in
    let laws = toward_laws b o (g.met.O.Operator.laws c.args.operator.now) in
    let near = c.args.near.now.tables in
    let p = ahead b (g.V.PairRead.pair c.args.old.now) in
    let n = c.args.ids.now.next in
    let x = ahead b (seen c.in_ok-part.part) in
    let is = part_ahead b c.args.foot.now (seen c.in_ok-part.part) (g.V.PairRead.pair c.args.old.now) c.in_ok-part.ensures.part in
    let may = subst (λ (start : CounterState). SomeMap m (changed_tables x.source near) x start.next) (sym c.copy-drawn.ensures) (part_may m laws near p n c.requires.may c.args.foot.now c.requires.foot x is) in
    far_many m laws (changed_tables x.source near) x c.copy-drawn.result.next may ∙ ap (λ (ts : Tables). length ts) (sym c.in_ok-far.ensures.answer.1.0)

pub returns-in_err-changes-clause-steps : goal.returns-in_err-changes-clause-steps
returns-in_err-changes-clause-steps g c =
    let b = c.args.backward in
    let o = g.O.Operator.meaning c.args.operator.now in
    let m = toward b o in
    let laws = toward_laws b o (g.met.O.Operator.laws c.args.operator.now) in
    let near = c.args.near.now.tables in
    let p = ahead b (g.V.PairRead.pair c.args.old.now) in
    let n = c.args.ids.now.next in
    let x = ahead b (seen c.in_ok-part.part) in
    let is = part_ahead b c.args.foot.now (seen c.in_ok-part.part) (g.V.PairRead.pair c.args.old.now) c.in_ok-part.ensures.part in
    part_steps m laws near p n c.requires.may c.args.foot.now c.requires.foot x is c.args.steps.now c.map_part.new.steps c.in_ok-far.ensures.steps

pub returns-clause-answer : goal.returns-clause-answer
returns-clause-answer g c =
    let b = c.args.backward in
    let o = g.O.Operator.meaning c.args.operator.now in
    let m = toward b o in
    let laws = toward_laws b o (g.met.O.Operator.laws c.args.operator.now) in
    let near = c.args.near.now.tables in
    let p = ahead b (g.V.PairRead.pair c.args.old.now) in
    let n = c.args.ids.now.next in
    let x = ahead b (seen c.in_ok-part.part) in
    let is = part_ahead b c.args.foot.now (seen c.in_ok-part.part) (g.V.PairRead.pair c.args.old.now) c.in_ok-part.ensures.part in
    let foot = c.args.foot.now in
    let mapped = subst (λ (start : CounterState). IsMapped (m.forward (changed_tables x.source near) x start.next) start c.map_part.new.ids (Ok c.in_ok-far.far)) c.copy-drawn.ensures c.in_ok-far.ensures.answer in
    let upto = c.next-2.ensures.value ∙ ap (λ (s : CounterState). s.next) mapped.2 ∙ part_next m laws near p n c.requires.may foot c.requires.foot x is in
    let listed = ap (λ (k : ℕ). with_drawn foot k c.next-2.result) c.next.ensures.value ∙ ap (λ (k : ℕ). with_drawn foot n k) upto in
    let changes = c.in_ok-changes.changes in
    let both = subst (λ (l : List ℕ). PicksEach l x.target c.in_ok-far.far.side changes.side.tables) listed c.in_ok-changes.ensures.side in
    answered m laws near p n c.requires.may foot c.requires.foot x is c.args.ids.now c.map_part.new.ids c.in_ok-far.far changes.side.tables changes.memory mapped both c.in_ok-changes.ensures.memory

pub returns-clause-within : goal.returns-clause-within
returns-clause-within g c =
    let foot = c.args.foot.now in
    let n = c.args.ids.now.next in
    let x = ahead c.args.backward (seen c.in_ok-part.part) in
    each_pass_of (passes foot n) (with_drawn foot c.next.result c.next-2.result) x.target c.in_ok-far.far.side c.in_ok-changes.changes.side.tables
    (λ id has. with_passes foot n c.next-2.result id (subst (λ (l : List ℕ). has_id l id ≡ true) (ap (λ (k : ℕ). with_drawn foot k c.next-2.result) c.next.ensures.value) has))
    c.in_ok-changes.ensures.side
