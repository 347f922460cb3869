use Rattle.std.proofs.Common.{List, [], ◌∷◌, ◌++◌, ap, ◌∙◌, subst, arith}
use Rattle.row_store.specs.declared.change.Change.{Change}
use Rattle.row_store.specs.States.{TableState}
use Rattle.version_model.specs.Kept.{rows_at}
use Rattle.version_model.specs.declared.numbered.Numbered.{Numbered}
use Rattle.kept_changes.specs.Undo.{TablesLeadBack, TablesUndoable}
use Rattle.kept_changes.proofs.StepLemmas.{none_left}
use Rattle.kept_changes.proofs.BackLemmas.{leads_last, leads_less}
use Rattle.kept_changes.proofs.tables.undo_tables.Goals as goal

pub undo_table-requires-clause-kept : goal.undo_table-requires-clause-kept
undo_table-requires-clause-kept c =
    let led : TablesUndoable c.loop-item.made.items (c.pop.new.self.items ++ c.in-Some.item ∷ []) = subst (λ (l : List (Numbered (List Change))). TablesUndoable c.loop-item.made.items l) c.in-Some.ensures.items c.loop-item.invariant.some in
    (leads_last led.0 c.loop-item.made.items c.pop.new.self.items c.in-Some.item led.1).0

pub undo_table-requires-clause-back : goal.undo_table-requires-clause-back
undo_table-requires-clause-back c =
    let led : TablesUndoable c.loop-item.made.items (c.pop.new.self.items ++ c.in-Some.item ∷ []) = subst (λ (l : List (Numbered (List Change))). TablesUndoable c.loop-item.made.items l) c.in-Some.ensures.items c.loop-item.invariant.some in
    (rows_at led.0 c.in-Some.item.number, (leads_last led.0 c.loop-item.made.items c.pop.new.self.items c.in-Some.item led.1).1)

pub loop-item-preserved : goal.loop-item-preserved
loop-item-preserved c =
    let made = c.loop-item.made.items in
    let next = c.undo_table.new.tables.items in
    let rest = c.pop.new.self.items in
    let item = c.in-Some.item in
    let less : (before : List (Numbered TableState)) → TablesLeadBack before made c.loop-item.left.items → TablesLeadBack before next rest = λ before led.
    let all : TablesLeadBack before made (rest ++ item ∷ []) = subst (λ (l : List (Numbered (List Change))). TablesLeadBack before made l) c.in-Some.ensures.items led in
    leads_less before made next rest item all c.undo_table.ensures.numbers (c.undo_table.ensures.restores (rows_at before item.number) (leads_last before made rest item all).1) c.undo_table.ensures.others in
    record {
      some = (c.loop-item.invariant.some.0, less c.loop-item.invariant.some.0 c.loop-item.invariant.some.1);
      all = λ before led. less before (c.loop-item.invariant.all before led);
      numbers = c.undo_table.ensures.numbers ∙ c.loop-item.invariant.numbers;
      capacity = λ n. c.undo_table.ensures.capacity n ∙ c.loop-item.invariant.capacity n;
    }

pub returns-clause-restores : goal.returns-clause-restores
returns-clause-restores c = λ before led n.
    let made = c.loop-item.made.items in
    let last : TablesLeadBack before made [] = subst (λ (l : List (Numbered (List Change))). TablesLeadBack before made l) (none_left c.loop-item.left.items (omega (arith, c.in_default.ensures.cases.0))) (c.loop-item.invariant.all before led) in
    ap (λ (l : List (Numbered TableState)). rows_at l n) c.from_vec.ensures ∙ last.others n (λ i. i)
