-- What is made of the source tables, laid over places for it.
use Rattle.std.specs.Option.{IsSome, option_map_or}
use Rattle.std.proofs.Common.{◌≡◌, ℕ, ◌≤◌, List, [], ◌++◌, Option, Some, None, refl, sym, ap, ◌∙◌, subst}
use Rattle.std.proofs.lemmas.Bool.{false≢true}
use Rattle.row_store.specs.Rows.{Rows}
use Rattle.row_store.specs.States.{TableState}
use Rattle.id_memory.specs.Pairs.{Pairs}
use Rattle.id_memory.specs.States.{CounterState, MemoryState}
use Rattle.version_graph.specs.Sets.{In, Each}
use Rattle.version_graph.specs.Edges.{numbers}
use Rattle.version_graph.specs.Forest.{Link}
use Rattle.version_graph.proofs.SetLaws.{each_at, in_right}
use Rattle.op_law.specs.Meaning.{Meaning}
use Rattle.op_law.specs.Calls.{first_refused, tables_of}
use Rattle.op_law.specs.declared.side.Aux.{Aux}
use Rattle.layout_rules.specs.declared.layout.Layout.{Layout}
use Rattle.version_model.specs.States.{State}
use Rattle.version_model.specs.Kept.{latest_of, newer_pairs, newer_rows, pairs_at, pairs_now, rows_at, rows_now, numbers_in}
use Rattle.version_model.specs.Making.{Has, WasMade, newer, with_links}
use Rattle.version_model.specs.declared.numbered.Numbered.{Numbered}
use Rattle.version_model.specs.declared.progress.Made.{Made}
use Rattle.storage_law.specs.Storage.{aux_of, stored_way}
use Rattle.db_state.specs.Calls.{AreAuxesOf}
use Rattle.db_state.specs.declared.parts.Parts.{Parts}
use Rattle.db_evolution.specs.Calls.{HasPlaces, IsFilled, filled_state, sources_state}
use Rattle.db_evolution.specs.News.{AddsEdges, IsLaidOver, newer_edges}
use Rattle.db_evolution.specs.declared.contents.Places.{Places}
use Rattle.db_evolution.specs.declared.fresh.Fresh.{Fresh}
use Rattle.db_evolution.proofs.LaidLemmas.{last_at, of_reverse, over_made}

told_rows : (found : Option TableState) (rows : Rows) → IsSome found → option_map_or (λ (table : TableState). table.rows) found [] ≡ newer_rows found rows
told_rows None rows h = absurd (false≢true h)
told_rows (Some x) rows h = refl

told_pairs : (found : Option MemoryState) (pairs : Pairs) → IsSome found → option_map_or (λ (memory : MemoryState). memory.entries) found [] ≡ newer_pairs found pairs
told_pairs None pairs h = absurd (false≢true h)
told_pairs (Some x) pairs h = refl

-- the state as it was made over the source tables
abbrev pub state_now : List (Numbered TableState) → Made → State
state_now sources made = record { tables = rows_now sources made.tables; memory = pairs_now [] made.memories; next = made.ids.next }

-- new operators were made over the source tables
abbrev pub MakesOver : {O : Type 0} → (O → Meaning) → List (Numbered TableState) → ℕ → CounterState → List (Link O) → Made → Type 0
MakesOver meaning sources next ids fs made =
    let end = with_links meaning (sources_state sources next) fs in
    (end.next ≤ first_refused ids) × (state_now sources made ≡ end) × (made.ids.limit ≡ ids.limit) × Each (WasMade made) fs

-- each value that was made is found in its place
pub filled_is : {O : Type 0} (meaning : O → Meaning) (p : Parts O) (first : ℕ) (sources : List (Numbered TableState)) (next : ℕ) (ids : CounterState) (made : Made) (fresh : Fresh) (layout : Layout) (auxes : List (Numbered Aux)) (places : Places)
    (stored : List (Numbered TableState)) (aux : List (Numbered Aux)) (memories : List (Numbered MemoryState)) (creates operators : List ℕ)
    → next ≡ p.ids.next → ids ≡ p.ids → MakesOver meaning sources next ids (newer p.graph.edges first) made → AddsEdges (newer_edges p.graph.edges first) (record { operators = []; creates = []; tables = [] }) fresh
    → creates ≡ fresh.creates → layout.operators ≡ p.layout.operators ++ creates → operators ≡ fresh.operators → AreAuxesOf meaning p.graph.edges layout.operators (state_now sources made) operators auxes → HasPlaces p fresh places
    → IsLaidOver places.stored made.tables stored → IsLaidOver places.aux auxes aux → IsLaidOver places.memories made.memories memories
    → IsFilled meaning p first (filled_state meaning p first sources) (record { layout = layout; stored = stored; aux = aux; memories = memories; ids = made.ids })
filled_is {O} meaning p first sources next ids made fresh layout auxes places stored aux memories creates operators begins same makes adds created longer listed are has over_stored over_aux over_memories =
    let fs = newer p.graph.edges first in
    let begun : filled_state meaning p first sources ≡ with_links meaning (sources_state sources next) fs = ap (λ (n : ℕ). with_links meaning (sources_state sources n) fs) (sym begins) in
    let end : state_now sources made ≡ filled_state meaning p first sources = makes.1 ∙ sym begun in
    record {
      layout = longer ∙ ap (λ (l : List ℕ). p.layout.operators ++ l) (created ∙ adds.creates);
      tables = over_stored.numbers ∙ has.stored ∙ ap (λ (l : List ℕ). numbers_in p.stored ++ l) adds.tables;
      rows = λ f i t j k.
          let there = each_at (Has made.tables) f.targets t j (each_at (WasMade made) fs f i makes.3).0 in
          ap (λ (o : Option TableState). option_map_or (λ (table : TableState). table.rows) o []) (over_made places.stored made.tables stored over_stored t (subst (λ (l : List ℕ). In t l) over_stored.numbers k) there)
          ∙ told_rows (latest_of made.tables t) (rows_at sources t) there ∙ ap (λ (s : State). s.tables t) end;
      operators = over_aux.numbers ∙ has.aux ∙ ap (λ (l : List ℕ). numbers_in p.aux ++ l) adds.operators;
      aux = λ e i j.
          let x = last_at auxes e.number (subst (λ (l : List ℕ). In e.number l) (sym (are.numbers ∙ listed ∙ adds.operators)) j) in
          let there : IsSome (latest_of auxes e.number) = subst (λ (o : Option Aux). IsSome o) (sym x.value) refl in
          let place = subst (λ (l : List ℕ). In e.number l) (sym (has.aux ∙ ap (λ (l : List ℕ). numbers_in p.aux ++ l) adds.operators)) (in_right e.number (numbers_in p.aux) (numbers (newer_edges p.graph.edges first)) j) in
          ap (λ (o : Option Aux). option_map_or tables_of o []) (over_made places.aux auxes aux over_aux e.number place there ∙ x.value)
          ∙ are.values x.item (of_reverse x.item auxes x.lists) e i x.number
          ∙ ap (λ (s : State). aux_of meaning s (stored_way layout.operators e)) end;
      memories = over_memories.numbers ∙ has.memories ∙ ap (λ (l : List ℕ). numbers_in p.memories ++ l) adds.operators;
      memory = λ f i k.
          let there = (each_at (WasMade made) fs f i makes.3).1 in
          ap (λ (o : Option MemoryState). option_map_or (λ (memory : MemoryState). memory.entries) o []) (over_made places.memories made.memories memories over_memories f.number (subst (λ (l : List ℕ). In f.number l) over_memories.numbers k) there)
          ∙ told_pairs (latest_of made.memories f.number) (pairs_at [] f.number) there ∙ ap (λ (s : State). s.memory f.number) end;
      next = ap (λ (s : State). s.next) end;
      limit = makes.2 ∙ ap (λ (k : CounterState). k.limit) same;
      within = subst (λ (s : State). s.next ≤ first_refused p.ids) (sym begun) (subst (λ (k : CounterState). (with_links meaning (sources_state sources next) fs).next ≤ first_refused k) same makes.0);
    }
