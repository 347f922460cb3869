use Rattle.std.proofs.Common.{ℕ, ◌≤◌, List, sym, subst}
use Rattle.op_law.specs.declared.side.Aux.{Aux}
use Rattle.id_memory.specs.States.{MemoryState}
use Rattle.row_store.specs.States.{TableState}
use Rattle.version_model.specs.declared.numbered.Numbered.{Numbered}
use Rattle.db_state.specs.declared.parts.Parts.{Parts}
use Rattle.db_state.specs.Fields.{IsDatabase}
use Rattle.write_plans.specs.Calls.{KeepsAuxes, KeepsPairs, KeepsRows}
use Rattle.kept_changes.specs.Room.{AreAtLeast, capacities_at, capacity_at, memory_capacity_at}
use Rattle.write_plans.specs.Capacity.{HoldsAtLeast}
use Rattle.write_plans.specs.Plans.{IsSame}
use Rattle.write_plans.proofs.LeadLemmas.{room_made, same_database}
use Rattle.write_plans.proofs.room.make_room.Goals as goal

pub put_parts-requires : goal.put_parts-requires
put_parts-requires g c =
    let d = c.args.db.now in
    let good = subst (λ (x : Parts _). IsDatabase g.O.Operator.meaning x) c.take_parts-graph.ensures.parts c.take_parts-graph.ensures.kept in
    let same = room_made d c.take_parts-graph.result c.from_vec.result c.from_vec-2.result c.from_vec-3.result c.take_parts-graph.ensures.parts
    (subst (λ (l : List (Numbered TableState)). KeepsRows l c.from_vec.result) c.into_vec-tables.ensures (subst (λ (l : List (Numbered TableState)). KeepsRows c.into_vec-tables.result.items l) (sym c.from_vec.ensures) c.reserve_all-made.ensures.stored))
    (subst (λ (l : List (Numbered Aux)). KeepsAuxes l c.from_vec-2.result) c.into_vec-auxes.ensures (subst (λ (l : List (Numbered Aux)). KeepsAuxes c.into_vec-auxes.result.items l) (sym c.from_vec-2.ensures) c.reserve_all-made.ensures.aux))
    (subst (λ (l : List (Numbered MemoryState)). KeepsPairs l c.from_vec-3.result) c.into_vec-remembered.ensures (subst (λ (l : List (Numbered MemoryState)). KeepsPairs c.into_vec-remembered.result.items l) (sym c.from_vec-3.ensures) c.reserve_all-made.ensures.memories)) in
    (same_database g.O.Operator.meaning g.met.O.Operator.laws d good _ same).0

pub returns-clause-same : goal.returns-clause-same
returns-clause-same g c =
    let d = c.args.db.now in
    subst (λ (x : Parts _). IsSame d x) (sym c.put_parts.ensures)
    (room_made d c.take_parts-graph.result c.from_vec.result c.from_vec-2.result c.from_vec-3.result c.take_parts-graph.ensures.parts
    (subst (λ (l : List (Numbered TableState)). KeepsRows l c.from_vec.result) c.into_vec-tables.ensures (subst (λ (l : List (Numbered TableState)). KeepsRows c.into_vec-tables.result.items l) (sym c.from_vec.ensures) c.reserve_all-made.ensures.stored))
    (subst (λ (l : List (Numbered Aux)). KeepsAuxes l c.from_vec-2.result) c.into_vec-auxes.ensures (subst (λ (l : List (Numbered Aux)). KeepsAuxes c.into_vec-auxes.result.items l) (sym c.from_vec-2.ensures) c.reserve_all-made.ensures.aux))
    (subst (λ (l : List (Numbered MemoryState)). KeepsPairs l c.from_vec-3.result) c.into_vec-remembered.ensures (subst (λ (l : List (Numbered MemoryState)). KeepsPairs c.into_vec-remembered.result.items l) (sym c.from_vec-3.ensures) c.reserve_all-made.ensures.memories)))

pub returns-clause-capacity : goal.returns-clause-capacity
returns-clause-capacity g c =
    let made = c.reserve_all-made.ensures in
    let tables : (n : ℕ) → capacity_at c.take_parts-graph.result.stored n ≤ capacity_at c.from_vec.result n =
    subst (λ (l : List (Numbered TableState)). (n : ℕ) → capacity_at l n ≤ capacity_at c.from_vec.result n) c.into_vec-tables.ensures
    (subst (λ (l : List (Numbered TableState)). (n : ℕ) → capacity_at c.into_vec-tables.result.items n ≤ capacity_at l n) (sym c.from_vec.ensures) made.stored_capacity) in
    let auxes : (n : ℕ) → AreAtLeast (capacities_at c.take_parts-graph.result.aux n) (capacities_at c.from_vec-2.result n) =
    subst (λ (l : List (Numbered Aux)). (n : ℕ) → AreAtLeast (capacities_at l n) (capacities_at c.from_vec-2.result n)) c.into_vec-auxes.ensures
    (subst (λ (l : List (Numbered Aux)). (n : ℕ) → AreAtLeast (capacities_at c.into_vec-auxes.result.items n) (capacities_at l n)) (sym c.from_vec-2.ensures) made.aux_capacity) in
    let pairs : (n : ℕ) → memory_capacity_at c.take_parts-graph.result.memories n ≤ memory_capacity_at c.from_vec-3.result n =
    subst (λ (l : List (Numbered MemoryState)). (n : ℕ) → memory_capacity_at l n ≤ memory_capacity_at c.from_vec-3.result n) c.into_vec-remembered.ensures
    (subst (λ (l : List (Numbered MemoryState)). (n : ℕ) → memory_capacity_at c.into_vec-remembered.result.items n ≤ memory_capacity_at l n) (sym c.from_vec-3.ensures) made.memory_capacity) in
    subst (λ (d : Parts _). HoldsAtLeast d c.put_parts.new.db) c.take_parts-graph.ensures.parts
    (subst (λ (x : Parts _). HoldsAtLeast c.take_parts-graph.result x) (sym c.put_parts.ensures) (record { stored = tables; aux = auxes; memory = pairs }))
