use Rattle.std.proofs.Common.{◌≡◌, ℕ, List, ap, sym, ◌∙◌, subst}
use Rattle.op_law.specs.Local.{only}
use Rattle.op_law.specs.declared.side.Aux.{Aux}
use Rattle.version_model.specs.Kept.{auxes_at}
use Rattle.version_model.specs.declared.numbered.Numbered.{Numbered}
use Rattle.id_memory.specs.States.{CounterState}
use Rattle.changes_walk.specs.Auxiliary.{MayChangeAux}
use Rattle.version_model.specs.Calls.{crossing_of}
use Rattle.db_state.specs.Parts.{passes}
use Rattle.db_state.specs.Fields.{state_for}
use Rattle.write_plans.specs.Making.{copied_state, names_of}
use Rattle.write_plans.proofs.AuxLemmas.{change_is, change_takes, may_change, told_way}
use Rattle.write_plans.proofs.differing.aux_change.Goals as goal

pub aux_changes-requires-clause-may : goal.aux_changes-requires-clause-may
aux_changes-requires-clause-may g c =
    let m = g.O.Operator.meaning in
    let d = c.args.db.now in
    let over = crossing_of c.in-Some.over in
    let next_is : c.next.result ≡ d.ids.next = c.next.ensures.value ∙ ap (λ (x : CounterState). x.next) c.ids.ensures in
    subst (λ (k : ℕ). MayChangeAux m (copied_state c.args.making.now.copies k) c.args.making.now.made over) (sym next_is)
    (may_change m d c.args.making.now c.args.number over (told_way d c.args.number over c.graph.result.now c.layout.result.now c.graph.ensures.graph c.layout.ensures c.in-Some.ensures) (passes c.args.sight) (names_of c.args.sight) c.requires.may)

pub returns-clause-change : goal.returns-clause-change
returns-clause-change g c =
    let d = c.args.db.now in
    let over = crossing_of c.in-Some.over in
    change_is g.O.Operator.meaning d c.args.making.now c.args.number over (told_way d c.args.number over c.graph.result.now c.layout.result.now c.graph.ensures.graph c.layout.ensures c.in-Some.ensures) (passes c.args.sight) (names_of c.args.sight) c.requires.may
    _ c.in_ok-change.change.tables (c.in_ok-aux.ensures ∙ ap (λ (l : List (Numbered Aux)). only (passes c.args.sight) (auxes_at l c.args.number)) c.aux.ensures) c.in_ok-change.ensures.answer

pub returns-in_err-change-clause-steps : goal.returns-in_err-change-clause-steps
returns-in_err-change-clause-steps g c =
    let d = c.args.db.now in
    let over = crossing_of c.in-Some.over in
    change_takes g.O.Operator.meaning d c.args.making.now c.args.number over (told_way d c.args.number over c.graph.result.now c.layout.result.now c.graph.ensures.graph c.layout.ensures c.in-Some.ensures) c.args.sight c.requires.may (state_for g.O.Operator.meaning d) c.requires.sees
    c.args.steps.now c.aux_changes.new.steps c.in_err-change.ensures.steps

pub returns-clause-steps : goal.returns-clause-steps
returns-clause-steps g c =
    let d = c.args.db.now in
    let over = crossing_of c.in-Some.over in
    change_takes g.O.Operator.meaning d c.args.making.now c.args.number over (told_way d c.args.number over c.graph.result.now c.layout.result.now c.graph.ensures.graph c.layout.ensures c.in-Some.ensures) c.args.sight c.requires.may (state_for g.O.Operator.meaning d) c.requires.sees
    c.args.steps.now c.aux_changes.new.steps c.in_ok-change.ensures.steps
