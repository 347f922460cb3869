-- What takes a write back leads to every database that has the rows of the one before it.
use Rattle.std.proofs.Common.{◌≡◌, ℕ, List, ◌∙◌, subst}
use Rattle.row_store.specs.declared.change.Change.{Change}
use Rattle.row_store.specs.Rows.{Rows}
use Rattle.row_store.specs.States.{TableState}
use Rattle.id_memory.specs.Pairs.{Pairs}
use Rattle.id_memory.specs.States.{MemoryState}
use Rattle.version_graph.proofs.SetLaws.{each_more}
use Rattle.op_law.specs.Meaning.{Meaning}
use Rattle.op_law.specs.Tables.{Tables}
use Rattle.op_law.specs.declared.side.Aux.{Aux}
use Rattle.row_changes.specs.declared.change.SideChanges.{SideChanges}
use Rattle.pair_changes.specs.declared.change.PairChange.{PairChange}
use Rattle.pair_changes.specs.Undo.{PairsLeadBack}
use Rattle.version_model.specs.Kept.{auxes_at, numbers_in, pairs_at, rows_at}
use Rattle.version_model.specs.declared.numbered.Numbered.{Numbered}
use Rattle.db_state.specs.Fields.{IsDatabase}
use Rattle.db_state.specs.declared.parts.Parts.{Parts}
use Rattle.kept_changes.specs.Room.{memory_room_at, room_at, rooms_at}
use Rattle.kept_changes.specs.Undo.{AuxesLeadBack, LeadsBack, LeadsBackAt, MemoriesLeadBack, MemoryLeadsBackAt, SideLeadsBack, SideLeadsBackAt, TablesLeadBack}
use Rattle.kept_changes.proofs.ChangesLaws.{no_changes}
use Rattle.write_plans.specs.Plans.{IsSame}
use Rattle.write_plans.specs.Undo.{Undoes}
use Rattle.write_plans.specs.declared.undo.Undo.{Undo}
use Rattle.write_plans.proofs.LeadLemmas.{same_self}

tables_before : (old before now : List (Numbered TableState)) (back : List (Numbered (List Change))) → numbers_in before ≡ numbers_in old → ((n : ℕ) → rows_at before n ≡ rows_at old n) → TablesLeadBack before now back → TablesLeadBack old now back
tables_before old before now back listed rows led = record {
  listed = led.listed ∙ listed;
  distinct = led.distinct;
  changes = each_more (λ i. LeadsBackAt before now i) (λ i. LeadsBackAt old now i) (λ i h. (h.0, subst (λ (x : Rows). LeadsBack x (rows_at now i.number) (room_at now i.number) i.value) (rows i.number) h.1)) back led.changes;
  others = λ n out. led.others n out ∙ rows n;
}

auxes_before : (old before now : List (Numbered Aux)) (back : List (Numbered SideChanges)) → numbers_in before ≡ numbers_in old → ((n : ℕ) → auxes_at before n ≡ auxes_at old n) → AuxesLeadBack before now back → AuxesLeadBack old now back
auxes_before old before now back listed rows led = record {
  listed = led.listed ∙ listed;
  distinct = led.distinct;
  changes = each_more (λ i. SideLeadsBackAt before now i) (λ i. SideLeadsBackAt old now i) (λ i h. subst (λ (x : Tables). SideLeadsBack x (auxes_at now i.number) (rooms_at now i.number) i.value.tables) (rows i.number) h) back led.changes;
  others = λ n out. led.others n out ∙ rows n;
}

memories_before : (old before now : List (Numbered MemoryState)) (back : List (Numbered (List PairChange))) → numbers_in before ≡ numbers_in old → ((n : ℕ) → pairs_at before n ≡ pairs_at old n) → MemoriesLeadBack before now back → MemoriesLeadBack old now back
memories_before old before now back listed pairs led = record {
  listed = led.listed ∙ listed;
  distinct = led.distinct;
  changes = each_more (λ i. MemoryLeadsBackAt before now i) (λ i. MemoryLeadsBackAt old now i) (λ i h. (h.0, subst (λ (x : Pairs). PairsLeadBack x (pairs_at now i.number) (memory_room_at now i.number) i.value) (pairs i.number) h.1)) back led.changes;
  others = λ n out. led.others n out ∙ pairs n;
}

pub undoes_before : {O : Type 0} (meaning : O → Meaning) (old before now : Parts O) (undo : Undo) → IsDatabase meaning old → IsSame old before → Undoes meaning before now undo → Undoes meaning old now undo
undoes_before meaning old before now undo is same undoes =
    let led = undoes.leads in
    record {
      kept = is;
      leads = record {
        graph = led.graph ∙ same.graph;
        layout = led.layout ∙ same.layout;
        ids = led.ids ∙ same.ids;
        stored = tables_before old.stored before.stored now.stored undo.stored same.tables same.stored led.stored;
        auxes = auxes_before old.aux before.aux now.aux undo.auxes same.auxes (λ n. same.aux n ∙ no_changes (auxes_at old.aux n)) led.auxes;
        memories = memories_before old.memories before.memories now.memories undo.memories same.memories same.memory led.memories;
      };
    }

-- a database is the same as itself
pub same_again : {O : Type 0} (d : Parts O) → IsSame d d
same_again d = same_self d
