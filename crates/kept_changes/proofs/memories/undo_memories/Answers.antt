use Rattle.std.proofs.Common.{List, [], ◌∷◌, ◌++◌, ap, ◌∙◌, subst, arith}
use Rattle.pair_changes.specs.declared.change.PairChange.{PairChange}
use Rattle.id_memory.specs.States.{MemoryState}
use Rattle.version_model.specs.Kept.{pairs_at}
use Rattle.version_model.specs.declared.numbered.Numbered.{Numbered}
use Rattle.kept_changes.specs.Undo.{MemoriesLeadBack, MemoriesUndoable}
use Rattle.kept_changes.proofs.StepLemmas.{none_left}
use Rattle.kept_changes.proofs.MemoryLemmas.{memory_leads_last, memories_lead_less}
use Rattle.kept_changes.proofs.memories.undo_memories.Goals as goal

pub undo_memory-requires-clause-kept : goal.undo_memory-requires-clause-kept
undo_memory-requires-clause-kept c =
    let led : MemoriesUndoable c.loop-item.made.items (c.pop.new.self.items ++ c.in-Some.item ∷ []) = subst (λ (l : List (Numbered (List PairChange))). MemoriesUndoable c.loop-item.made.items l) c.in-Some.ensures.items c.loop-item.invariant.some in
    (memory_leads_last led.0 c.loop-item.made.items c.pop.new.self.items c.in-Some.item led.1).0

pub undo_memory-requires-clause-back : goal.undo_memory-requires-clause-back
undo_memory-requires-clause-back c =
    let led : MemoriesUndoable c.loop-item.made.items (c.pop.new.self.items ++ c.in-Some.item ∷ []) = subst (λ (l : List (Numbered (List PairChange))). MemoriesUndoable c.loop-item.made.items l) c.in-Some.ensures.items c.loop-item.invariant.some in
    (pairs_at led.0 c.in-Some.item.number, (memory_leads_last led.0 c.loop-item.made.items c.pop.new.self.items c.in-Some.item led.1).1)

pub loop-item-preserved : goal.loop-item-preserved
loop-item-preserved c =
    let made = c.loop-item.made.items in
    let next = c.undo_memory.new.memories.items in
    let rest = c.pop.new.self.items in
    let item = c.in-Some.item in
    let less : (before : List (Numbered MemoryState)) → MemoriesLeadBack before made c.loop-item.left.items → MemoriesLeadBack before next rest = λ before led.
    let all : MemoriesLeadBack before made (rest ++ item ∷ []) = subst (λ (l : List (Numbered (List PairChange))). MemoriesLeadBack before made l) c.in-Some.ensures.items led in
    memories_lead_less before made next rest item all c.undo_memory.ensures.numbers (c.undo_memory.ensures.restores (pairs_at before item.number) (memory_leads_last before made rest item all).1) c.undo_memory.ensures.others in
    record {
      some = (c.loop-item.invariant.some.0, less c.loop-item.invariant.some.0 c.loop-item.invariant.some.1);
      all = λ before led. less before (c.loop-item.invariant.all before led);
      numbers = c.undo_memory.ensures.numbers ∙ c.loop-item.invariant.numbers;
      capacity = λ n. c.undo_memory.ensures.capacity n ∙ c.loop-item.invariant.capacity n;
    }

pub returns-clause-restores : goal.returns-clause-restores
returns-clause-restores c = λ before led n.
    let made = c.loop-item.made.items in
    let last : MemoriesLeadBack before made [] = subst (λ (l : List (Numbered (List PairChange))). MemoriesLeadBack before made l) (none_left c.loop-item.left.items (omega (arith, c.in_default.ensures.cases.0))) (c.loop-item.invariant.all before led) in
    ap (λ (l : List (Numbered MemoryState)). pairs_at l n) c.from_vec.ensures ∙ last.others n (λ i. i)
