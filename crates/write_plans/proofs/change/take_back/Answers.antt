use Rattle.std.proofs.Common.{sym, subst}
use Rattle.db_state.specs.declared.parts.Parts.{Parts}
use Rattle.kept_changes.specs.Undo.{AuxesLeadBack, MemoriesLeadBack, TablesLeadBack}
use Rattle.write_plans.specs.Capacity.{HoldsAsMuch}
use Rattle.write_plans.specs.Plans.{IsSame}
use Rattle.write_plans.proofs.ChangeLemmas.{is_again}
use Rattle.write_plans.proofs.LeadLemmas.{same_database}
use Rattle.write_plans.proofs.change.take_back.Goals as goal

pub undo_tables-stored-requires : goal.undo_tables-stored-requires
undo_tables-stored-requires g c = (c.requires.0.stored, subst (λ (x : Parts _). TablesLeadBack c.requires.0.stored x.stored c.args.undo.stored) (sym c.take_parts-parts.ensures.parts) c.requires.1.leads.stored)

pub undo_auxes-aux-requires : goal.undo_auxes-aux-requires
undo_auxes-aux-requires g c = (c.requires.0.aux, subst (λ (x : Parts _). AuxesLeadBack c.requires.0.aux x.aux c.args.undo.auxes) (sym c.take_parts-parts.ensures.parts) c.requires.1.leads.auxes)

pub undo_memories-memories-requires : goal.undo_memories-memories-requires
undo_memories-memories-requires g c = (c.requires.0.memories, subst (λ (x : Parts _). MemoriesLeadBack c.requires.0.memories x.memories c.args.undo.memories) (sym c.take_parts-parts.ensures.parts) c.requires.1.leads.memories)

pub put_parts-requires : goal.put_parts-requires
put_parts-requires g c =
    let before = c.requires.0 in
    let led = c.requires.1.leads in
    let parts = c.take_parts-parts.result in
    let is = c.take_parts-parts.ensures.parts in
    let same = is_again before c.args.db.now parts c.args.undo c.undo_tables-stored.result c.undo_auxes-aux.result c.undo_memories-memories.result is led c.undo_tables-stored.ensures.numbers
    (c.undo_tables-stored.ensures.restores before.stored (subst (λ (x : Parts _). TablesLeadBack before.stored x.stored c.args.undo.stored) (sym is) led.stored))
    c.undo_auxes-aux.ensures.numbers
    (c.undo_auxes-aux.ensures.restores before.aux (subst (λ (x : Parts _). AuxesLeadBack before.aux x.aux c.args.undo.auxes) (sym is) led.auxes))
    c.undo_memories-memories.ensures.numbers
    (c.undo_memories-memories.ensures.restores before.memories (subst (λ (x : Parts _). MemoriesLeadBack before.memories x.memories c.args.undo.memories) (sym is) led.memories)) in
    (same_database g.O.Operator.meaning g.met.O.Operator.laws before c.requires.1.kept _ same).0

pub returns-clause-same : goal.returns-clause-same
returns-clause-same g c = λ before led.
    let parts = c.take_parts-parts.result in
    let is = c.take_parts-parts.ensures.parts in
    subst (λ (x : Parts _). IsSame before x) (sym c.put_parts.ensures)
    (is_again before c.args.db.now parts c.args.undo c.undo_tables-stored.result c.undo_auxes-aux.result c.undo_memories-memories.result is led c.undo_tables-stored.ensures.numbers
    (c.undo_tables-stored.ensures.restores before.stored (subst (λ (x : Parts _). TablesLeadBack before.stored x.stored c.args.undo.stored) (sym is) led.stored))
    c.undo_auxes-aux.ensures.numbers
    (c.undo_auxes-aux.ensures.restores before.aux (subst (λ (x : Parts _). AuxesLeadBack before.aux x.aux c.args.undo.auxes) (sym is) led.auxes))
    c.undo_memories-memories.ensures.numbers
    (c.undo_memories-memories.ensures.restores before.memories (subst (λ (x : Parts _). MemoriesLeadBack before.memories x.memories c.args.undo.memories) (sym is) led.memories)))

pub returns-clause-capacity : goal.returns-clause-capacity
returns-clause-capacity g c =
    subst (λ (d : Parts _). HoldsAsMuch d c.put_parts.new.db) c.take_parts-parts.ensures.parts
    (subst (λ (x : Parts _). HoldsAsMuch c.take_parts-parts.result x) (sym c.put_parts.ensures)
    (record { stored = c.undo_tables-stored.ensures.capacity; aux = c.undo_auxes-aux.ensures.capacity; memory = c.undo_memories-memories.ensures.capacity }))
