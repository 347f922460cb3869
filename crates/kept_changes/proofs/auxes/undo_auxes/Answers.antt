use Rattle.std.proofs.Common.{List, [], ◌∷◌, ◌++◌, ap, ◌∙◌, subst, arith}
use Rattle.op_law.specs.declared.side.Aux.{Aux}
use Rattle.row_changes.specs.declared.change.SideChanges.{SideChanges}
use Rattle.version_model.specs.declared.numbered.Numbered.{Numbered}
use Rattle.version_model.specs.Kept.{auxes_at}
use Rattle.kept_changes.specs.Undo.{AuxesLeadBack, AuxesUndoable}
use Rattle.kept_changes.proofs.StepLemmas.{none_left}
use Rattle.kept_changes.proofs.BackLemmas.{auxes_lead_less, side_leads_last}
use Rattle.kept_changes.proofs.auxes.undo_auxes.Goals as goal

pub undo_aux-requires : goal.undo_aux-requires
undo_aux-requires c =
    let led : AuxesUndoable c.loop-item.made.items (c.pop.new.self.items ++ c.in-Some.item ∷ []) = subst (λ (l : List (Numbered SideChanges)). AuxesUndoable c.loop-item.made.items l) c.in-Some.ensures.items c.loop-item.invariant.some in
    (auxes_at led.0 c.in-Some.item.number, side_leads_last led.0 c.loop-item.made.items c.pop.new.self.items c.in-Some.item led.1)

pub loop-item-preserved : goal.loop-item-preserved
loop-item-preserved c =
    let made = c.loop-item.made.items in
    let next = c.undo_aux.new.auxes.items in
    let rest = c.pop.new.self.items in
    let item = c.in-Some.item in
    let less : (before : List (Numbered Aux)) → AuxesLeadBack before made c.loop-item.left.items → AuxesLeadBack before next rest = λ before led.
    let all : AuxesLeadBack before made (rest ++ item ∷ []) = subst (λ (l : List (Numbered SideChanges)). AuxesLeadBack before made l) c.in-Some.ensures.items led in
    auxes_lead_less before made next rest item all c.undo_aux.ensures.numbers (c.undo_aux.ensures.restores (auxes_at before item.number) (side_leads_last before made rest item all)) c.undo_aux.ensures.others in
    record {
      some = (c.loop-item.invariant.some.0, less c.loop-item.invariant.some.0 c.loop-item.invariant.some.1);
      all = λ before led. less before (c.loop-item.invariant.all before led);
      numbers = c.undo_aux.ensures.numbers ∙ c.loop-item.invariant.numbers;
      capacity = λ n. c.undo_aux.ensures.capacity n ∙ c.loop-item.invariant.capacity n;
    }

pub returns-clause-restores : goal.returns-clause-restores
returns-clause-restores c = λ before led n.
    let made = c.loop-item.made.items in
    let last : AuxesLeadBack before made [] = subst (λ (l : List (Numbered SideChanges)). AuxesLeadBack before made l) (none_left c.loop-item.left.items (omega (arith, c.in_default.ensures.cases.0))) (c.loop-item.invariant.all before led) in
    ap (λ (l : List (Numbered Aux)). auxes_at l n) c.from_vec.ensures ∙ last.others n (λ i. i)
