-- The database without versions.
use Rattle.std.proofs.Common.{◌≡◌, ℕ, List, [], refl, sym, ap, ◌∙◌, subst, arith}
use Rattle.id_memory.specs.States.{CounterState, MemoryState}
use Rattle.row_store.specs.States.{TableState}
use Rattle.version_graph.specs.Edges.{Drawn}
use Rattle.op_law.specs.Laws.{Laws}
use Rattle.op_law.specs.Meaning.{Meaning}
use Rattle.op_law.specs.declared.side.Aux.{Aux}
use Rattle.layout_rules.specs.declared.layout.Layout.{Layout}
use Rattle.version_model.specs.States.{State, empty_at}
use Rattle.version_model.specs.Databases.{empty_database}
use Rattle.version_model.specs.declared.numbered.Numbered.{Numbered}
use Rattle.version_graph.proofs.EvolveLaws.{drawn_is}
use Rattle.version_model.proofs.EvolveLaws.{empty_sound}
use Rattle.storage_law.specs.Reading.{ReadsSources}
use Rattle.db_state.specs.Fields.{IsDatabase, database_for}
use Rattle.db_state.specs.declared.parts.Parts.{Parts}
use Rattle.db_state.proofs.FieldLaws.{IsShaped, Store, is_database}

-- the fields without anything
abbrev bare : {O : Type 0} → ℕ → Parts O
bare limit = record {
  graph = record { edges = []; versions = []; last_operator = 0; last_table = 0 };
  layout = record { operators = [] };
  stored = [];
  aux = [];
  memories = [];
  ids = record { next = 1; limit = limit };
}

bare_shaped : {O : Type 0} (limit : ℕ) → IsShaped (bare {O = O} limit)
bare_shaped limit = record {
  graph = record { edges = tt; few = omega arith; operators = tt; tables = tt; named = tt; names_once = tt; sets_once = tt };
  finished = tt;
  sides = tt;
  valid = record { live = λ n i. absurd i; creates = λ e i none. absurd i; makers = λ e i a t b. absurd i; once = λ e f i j a b s. absurd i };
  ascending = tt;
  tables_ascending = tt;
  auxes = refl;
  memories = refl;
}

bare_store : {O : Type 0} (meaning : O → Meaning) (limit : ℕ) → Store meaning (bare {O = O} limit) (empty_at 1)
bare_store meaning limit = record {
  tables = λ t. ((λ i. absurd i), (λ k. absurd k.made.1));
  rows = λ t k. refl;
  auxes = λ n i. absurd i;
  aux = λ e i. absurd i;
  memories = λ n i. absurd i;
  memory = λ e i. absurd i;
  next = refl;
}

-- parts with the same fields
parts_are : {O : Type 0} (p q : Parts O) → p.graph ≡ q.graph → p.layout ≡ q.layout → p.stored ≡ q.stored → p.aux ≡ q.aux → p.memories ≡ q.memories → p.ids ≡ q.ids → p ≡ q
parts_are {O} p q graph layout stored aux memories ids =
    let a : p ≡ record p { graph = q.graph } = ap (λ (x : Drawn O). record p { graph = x }) graph in
    let b : record p { graph = q.graph } ≡ record q { stored = p.stored; aux = p.aux; memories = p.memories; ids = p.ids } = ap (λ (x : Layout). record q { layout = x; stored = p.stored; aux = p.aux; memories = p.memories; ids = p.ids }) layout in
    let c : record q { stored = p.stored; aux = p.aux; memories = p.memories; ids = p.ids } ≡ record q { aux = p.aux; memories = p.memories; ids = p.ids } = ap (λ (x : List (Numbered TableState)). record q { stored = x; aux = p.aux; memories = p.memories; ids = p.ids }) stored in
    let d : record q { aux = p.aux; memories = p.memories; ids = p.ids } ≡ record q { memories = p.memories; ids = p.ids } = ap (λ (x : List (Numbered Aux)). record q { aux = x; memories = p.memories; ids = p.ids }) aux in
    let e : record q { memories = p.memories; ids = p.ids } ≡ record q { ids = p.ids } = ap (λ (x : List (Numbered MemoryState)). record q { memories = x; ids = p.ids }) memories in
    a ∙ b ∙ c ∙ d ∙ e ∙ ap (λ (x : CounterState). record q { ids = x }) ids

pub empty_is : {O : Type 0} (meaning : O → Meaning) → ((o : O) → Laws (meaning o)) → ReadsSources meaning → (limit : ℕ) (p : Parts O) → p.graph.edges ≡ [] → p.graph.versions ≡ [] → p.graph.last_operator ≡ 0 → p.graph.last_table ≡ 0 → p.layout.operators ≡ [] → p.stored ≡ [] → p.aux ≡ [] → p.memories ≡ [] → p.ids ≡ record { next = 1; limit = limit }
    → IsDatabase meaning p × (database_for meaning p ≡ empty_database limit)
empty_is {O} meaning laws reads limit p edges versions operator table operators stored aux memories ids =
    let start : Parts O = bare limit in
    let graph : start.graph ≡ p.graph = drawn_is (sym edges) (sym versions) (sym operator) (sym table) in
    let lay : start.layout ≡ p.layout = ap (λ (l : List ℕ). record { operators = l }) (sym operators) in
    let same : start ≡ p = parts_are start p graph lay (sym stored) (sym aux) (sym memories) (sym ids) in
    let made = is_database meaning laws reads start (empty_at 1) (bare_shaped limit) (empty_sound meaning 1 (omega arith)) (bare_store meaning limit) in
    let d : database_for meaning start ≡ empty_database limit = ap (λ (s : State). record { graph = start.graph; state = s; limit = limit }) made.1 in
    subst (λ (x : Parts O). IsDatabase meaning x × (database_for meaning x ≡ empty_database limit)) same (made.0, d)
