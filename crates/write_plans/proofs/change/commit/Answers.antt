use Rattle.std.proofs.Common.{refl, sym, subst}
use Rattle.db_state.specs.Fields.{IsDatabase}
use Rattle.db_state.specs.declared.parts.Parts.{Parts}
use Rattle.kept_changes.specs.Changes.{AreMemoriesAt, AreOldAt, AreSidesAt}
use Rattle.kept_changes.specs.Room.{FitAt, MemoriesFitAt, SidesFitAt}
use Rattle.write_plans.specs.Capacity.{HoldsAsMuch}
use Rattle.write_plans.specs.Plans.{Puts}
use Rattle.write_plans.specs.Undo.{LeadsTo}
use Rattle.write_plans.specs.declared.undo.Undo.{Undo}
use Rattle.write_plans.proofs.ChangeLemmas.{leads_back, puts_plan}
use Rattle.write_plans.proofs.change.commit.Goals as goal

pub change_tables-stored-requires-clause-old : goal.change_tables-stored-requires-clause-old
change_tables-stored-requires-clause-old g c = subst (λ (x : Parts _). AreOldAt x.stored c.args.plan.stored) (sym c.take_parts-parts.ensures.parts) c.requires.ready.0.stored

pub change_tables-stored-requires-clause-room : goal.change_tables-stored-requires-clause-room
change_tables-stored-requires-clause-room g c = subst (λ (x : Parts _). FitAt x.stored c.args.plan.stored) (sym c.take_parts-parts.ensures.parts) c.requires.ready.1.stored

pub change_auxes-auxes-requires-clause-old : goal.change_auxes-auxes-requires-clause-old
change_auxes-auxes-requires-clause-old g c = subst (λ (x : Parts _). AreSidesAt x.aux c.args.plan.auxes) (sym c.take_parts-parts.ensures.parts) c.requires.ready.0.auxes

pub change_auxes-auxes-requires-clause-room : goal.change_auxes-auxes-requires-clause-room
change_auxes-auxes-requires-clause-room g c = subst (λ (x : Parts _). SidesFitAt x.aux c.args.plan.auxes) (sym c.take_parts-parts.ensures.parts) c.requires.ready.1.auxes

pub change_memories-memories-requires-clause-old : goal.change_memories-memories-requires-clause-old
change_memories-memories-requires-clause-old g c = subst (λ (x : Parts _). AreMemoriesAt x.memories c.args.plan.memories) (sym c.take_parts-parts.ensures.parts) c.requires.ready.0.memories

pub change_memories-memories-requires-clause-room : goal.change_memories-memories-requires-clause-room
change_memories-memories-requires-clause-room g c = subst (λ (x : Parts _). MemoriesFitAt x.memories c.args.plan.memories) (sym c.take_parts-parts.ensures.parts) c.requires.ready.1.memories

pub put_parts-requires : goal.put_parts-requires
put_parts-requires g c =
    c.requires.leaves _ (puts_plan c.args.db.now c.take_parts-parts.result c.args.plan c.change_tables-stored.result.tables c.change_auxes-auxes.result.auxes c.change_memories-memories.result.memories c.take_parts-parts.ensures.parts
    (record { rows = c.change_tables-stored.ensures.rows; numbers = c.change_tables-stored.ensures.numbers }) (record { rows = c.change_auxes-auxes.ensures.rows; numbers = c.change_auxes-auxes.ensures.numbers })
    (record { pairs = c.change_memories-memories.ensures.pairs; numbers = c.change_memories-memories.ensures.numbers }))

pub returns-clause-puts : goal.returns-clause-puts
returns-clause-puts g c =
    subst (λ (x : Parts _). Puts c.args.db.now c.args.plan x) (sym c.put_parts.ensures)
    (puts_plan c.args.db.now c.take_parts-parts.result c.args.plan c.change_tables-stored.result.tables c.change_auxes-auxes.result.auxes c.change_memories-memories.result.memories c.take_parts-parts.ensures.parts
    (record { rows = c.change_tables-stored.ensures.rows; numbers = c.change_tables-stored.ensures.numbers }) (record { rows = c.change_auxes-auxes.ensures.rows; numbers = c.change_auxes-auxes.ensures.numbers })
    (record { pairs = c.change_memories-memories.ensures.pairs; numbers = c.change_memories-memories.ensures.numbers }))

pub returns-clause-undoes : goal.returns-clause-undoes
returns-clause-undoes g c =
    let undo : Undo = record { stored = c.change_tables-stored.result.back; auxes = c.change_auxes-auxes.result.back; memories = c.change_memories-memories.result.back; ids = c.take_parts-parts.result.ids; changed = c.args.plan.changed; carried = c.args.plan.carried } in
    let led = subst (λ (x : Parts _). LeadsTo c.args.db.now x undo) (sym c.put_parts.ensures)
    (leads_back c.args.db.now c.take_parts-parts.result c.args.plan undo c.change_tables-stored.result.tables c.change_auxes-auxes.result.auxes c.change_memories-memories.result.memories c.take_parts-parts.ensures.parts refl
    c.change_tables-stored.ensures.back c.change_auxes-auxes.ensures.back c.change_memories-memories.ensures.back) in
    record { kept = subst (λ (x : Parts _). IsDatabase g.O.Operator.meaning x) c.take_parts-parts.ensures.parts c.take_parts-parts.ensures.kept; leads = led }

pub returns-clause-capacity : goal.returns-clause-capacity
returns-clause-capacity g c =
    subst (λ (d : Parts _). HoldsAsMuch d c.put_parts.new.db) c.take_parts-parts.ensures.parts
    (subst (λ (x : Parts _). HoldsAsMuch c.take_parts-parts.result x) (sym c.put_parts.ensures)
    (record { stored = c.change_tables-stored.ensures.capacity; aux = c.change_auxes-auxes.ensures.capacity; memory = c.change_memories-memories.ensures.capacity }))
