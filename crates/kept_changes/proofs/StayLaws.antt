-- Changes still lead back where rows stay and at least as much can be held.
use Rattle.std.proofs.Common.{◌≡◌, ℕ, ◌+◌, ◌≤◌, List, [], ◌∷◌, length, refl, sym, ap, ◌∙◌, subst, arith}
use Rattle.row_store.specs.declared.change.Change.{Change}
use Rattle.row_store.specs.Changes.{WasApplied}
use Rattle.row_store.specs.Rows.{Rows}
use Rattle.row_store.specs.States.{TableState}
use Rattle.id_memory.specs.Pairs.{Pairs}
use Rattle.id_memory.specs.States.{MemoryState}
use Rattle.version_graph.specs.Sets.{In}
use Rattle.version_graph.proofs.SetLaws.{each_more}
use Rattle.op_law.specs.Tables.{Tables}
use Rattle.op_law.specs.declared.side.Aux.{Aux}
use Rattle.row_changes.specs.declared.change.SideChanges.{SideChanges}
use Rattle.row_changes.specs.Changed.{TableChanges}
use Rattle.pair_changes.specs.declared.change.PairChange.{PairChange}
use Rattle.pair_changes.specs.Changed.{PairsLeadTo}
use Rattle.pair_changes.specs.Undo.{PairsLeadBack}
use Rattle.version_model.specs.Kept.{rows_at, auxes_at, pairs_at, numbers_in}
use Rattle.version_model.specs.declared.numbered.Numbered.{Numbered}
use Rattle.kept_changes.specs.Room.{room_at, rooms_at, memory_room_at, capacity_at, capacities, capacities_at, memory_capacity_at, AreAtLeast}
use Rattle.kept_changes.specs.Undo.{AuxesLeadBack, LeadsBack, LeadsBackAt, MemoriesLeadBack, MemoryLeadsBackAt, SideLeadsBack, SideLeadsBackAt, TablesLeadBack}

leads_stay : (before now again : Rows) (room more : ℕ) (back : List Change) → again ≡ now → room + length now ≤ more + length again → LeadsBack before now room back → LeadsBack before again more back
leads_stay before now again room more back same enough led = (led.0, subst (λ (rows : Rows). WasApplied before led.0 rows back) (sym same) led.1, omega (arith, led.2, enough))

-- tables
pub tables_stay : (before now again : List (Numbered TableState)) (back : List (Numbered (List Change))) → TablesLeadBack before now back → numbers_in again ≡ numbers_in now → ((n : ℕ) → rows_at again n ≡ rows_at now n)
    → ((n : ℕ) → capacity_at now n ≤ capacity_at again n) → TablesLeadBack before again back
tables_stay before now again back led listed rows enough = record {
  listed = listed ∙ led.listed;
  distinct = led.distinct;
  changes =
      each_more (λ i. LeadsBackAt before now i) (λ i. LeadsBackAt before again i)
      (λ i h. (
        subst (λ (ns : List ℕ). In i.number ns) (sym listed) h.0,
        leads_stay (rows_at before i.number) (rows_at now i.number) (rows_at again i.number) (room_at now i.number) (room_at again i.number) i.value (rows i.number) (enough i.number) h.1,
      )) back led.changes;
  others = λ n out. rows n ∙ led.others n out;
}

side_more : (before now : Tables) (rooms more : List ℕ) (back : TableChanges) → AreAtLeast (capacities rooms now) (capacities more now) → SideLeadsBack before now rooms back → SideLeadsBack before now more back
side_more before now rooms more [] enough led = led
side_more [] now rooms more (c ∷ cs) enough led = absurd led
side_more (b ∷ bs) [] rooms more (c ∷ cs) enough led = absurd led
side_more (b ∷ bs) (t ∷ ts) [] more (c ∷ cs) enough led = absurd led
side_more (b ∷ bs) (t ∷ ts) (r ∷ rs) [] (c ∷ cs) enough led = absurd enough
side_more (b ∷ bs) (t ∷ ts) (r ∷ rs) (m ∷ ms) (c ∷ cs) enough led = (leads_stay b t t r m c refl enough.0 led.0, side_more bs ts rs ms cs enough.1 led.1)

side_stay : (before now again : Tables) (rooms more : List ℕ) (back : TableChanges) → again ≡ now → AreAtLeast (capacities rooms now) (capacities more again) → SideLeadsBack before now rooms back → SideLeadsBack before again more back
side_stay before now again rooms more back same enough led =
    subst (λ (ts : Tables). SideLeadsBack before ts more back) (sym same) (side_more before now rooms more back (subst (λ (ts : Tables). AreAtLeast (capacities rooms now) (capacities more ts)) same enough) led)

-- auxiliary tables
pub auxes_stay : (before now again : List (Numbered Aux)) (back : List (Numbered SideChanges)) → AuxesLeadBack before now back → numbers_in again ≡ numbers_in now → ((n : ℕ) → auxes_at again n ≡ auxes_at now n)
    → ((n : ℕ) → AreAtLeast (capacities_at now n) (capacities_at again n)) → AuxesLeadBack before again back
auxes_stay before now again back led listed rows enough = record {
  listed = listed ∙ led.listed;
  distinct = led.distinct;
  changes =
      each_more (λ i. SideLeadsBackAt before now i) (λ i. SideLeadsBackAt before again i)
      (λ i h. side_stay (auxes_at before i.number) (auxes_at now i.number) (auxes_at again i.number) (rooms_at now i.number) (rooms_at again i.number) i.value.tables (rows i.number) (enough i.number) h) back led.changes;
  others = λ n out. rows n ∙ led.others n out;
}

memory_stay : (before now again : Pairs) (room more : ℕ) (back : List PairChange) → again ≡ now → room + length now ≤ more + length again → PairsLeadBack before now room back → PairsLeadBack before again more back
memory_stay before now again room more back same enough led = record {
  lead = subst (λ (pairs : Pairs). PairsLeadTo pairs before back) (sym same) led.lead;
  room = omega (arith, led.room, enough, ap (λ (pairs : Pairs). length pairs) same);
}

-- memories
pub memories_stay : (before now again : List (Numbered MemoryState)) (back : List (Numbered (List PairChange))) → MemoriesLeadBack before now back → numbers_in again ≡ numbers_in now → ((n : ℕ) → pairs_at again n ≡ pairs_at now n)
    → ((n : ℕ) → memory_capacity_at now n ≤ memory_capacity_at again n) → MemoriesLeadBack before again back
memories_stay before now again back led listed pairs enough = record {
  listed = listed ∙ led.listed;
  distinct = led.distinct;
  changes =
      each_more (λ i. MemoryLeadsBackAt before now i) (λ i. MemoryLeadsBackAt before again i)
      (λ i h. (
        subst (λ (ns : List ℕ). In i.number ns) (sym listed) h.0,
        memory_stay (pairs_at before i.number) (pairs_at now i.number) (pairs_at again i.number) (memory_room_at now i.number) (memory_room_at again i.number) i.value (pairs i.number) (enough i.number) h.1,
      )) back led.changes;
  others = λ n out. pairs n ∙ led.others n out;
}
