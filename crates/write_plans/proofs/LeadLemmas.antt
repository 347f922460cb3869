-- Changes that are put into a database lead to the state for which they were made.
use Rattle.std.proofs.Common.{◌≡◌, ℕ, ◌≤◌, List, [], ◌∷◌, Result, Ok, Err, refl, sym, ap, ◌∙◌, subst}
use Rattle.par_base.specs.declared.fault.Fault.{Fault}
use Rattle.par_base.specs.declared.fault.Fault.TheVariants.{Refused, Memory as OutOfMemory}
use Rattle.par_base.specs.declared.refusal.IdsSpent.{IdsSpent}
use Rattle.row_store.specs.Changes.{AreOld}
use Rattle.row_store.specs.declared.change.Change.{Change}
use Rattle.op_law.specs.Calls.{IsSpent, first_refused}
use Rattle.row_changes.specs.declared.change.SideChanges.{SideChanges}
use Rattle.std.proofs.lemmas.List.{reverse-reverse}
use mathlib.Core.List.{reverse}
use Rattle.row_store.specs.Rows.{Rows}
use Rattle.id_memory.specs.Pairs.{Pairs}
use Rattle.id_memory.specs.States.{CounterState, MemoryState}
use Rattle.version_graph.specs.Sets.{In}
use Rattle.version_graph.specs.Edges.{Drawn, Rises, numbers}
use Rattle.version_graph.specs.Forest.{Link, forest}
use Rattle.version_graph.specs.declared.parts.Placed.{Placed}
use Rattle.version_graph.proofs.SetLaws.{each_at, each_more}
use Rattle.version_graph.proofs.WalkStepLaws.{in_reverse}
use Rattle.op_law.specs.Laws.{Laws}
use Rattle.op_law.specs.Meaning.{Meaning}
use Rattle.op_law.specs.Tables.{Tables}
use Rattle.layout_rules.specs.Layouts.{IsStored}
use Rattle.layout_rules.specs.declared.layout.Layout.{Layout}
use Rattle.row_store.specs.States.{TableState}
use Rattle.op_law.specs.declared.side.Aux.{Aux}
use Rattle.write_plans.specs.Calls.{KeepsAuxes, KeepsPairs, KeepsRows}
use Rattle.row_changes.specs.Changed.{AreChangesOf, changed, changed_tables}
use Rattle.pair_changes.specs.declared.change.PairChange.{PairChange}
use Rattle.pair_changes.specs.Changed.{AreMemoryChanges, changed_pairs}
use Rattle.version_model.specs.Kept.{Database, pairs_at, rows_at, auxes_at}
use Rattle.version_model.specs.Sound.{IsSound}
use Rattle.version_model.specs.States.{State, headings}
use Rattle.version_model.specs.Writes.{write}
use Rattle.version_model.specs.declared.numbered.Numbered.{Numbered}
use Rattle.storage_law.specs.Storage.{StandsOver, aux_of, stored_way}
use Rattle.db_state.specs.Fields.{IsDatabase, database_for, state_for, storage_in}
use Rattle.db_state.specs.declared.parts.Parts.{Parts}
use Rattle.db_state.proofs.FieldLaws.{IsShaped, Store, is_database}
use Rattle.kept_changes.specs.Changes.{IsMemoryAt, IsOldAt, IsSideAt, changes_at, pair_changes_at, sides_at}
use Rattle.table_keys.specs.States.{KeysState}
use Rattle.write_plans.specs.Keys.{KeysLead}
use Rattle.write_plans.specs.Plans.{IsSame, Plans, Puts}
use Rattle.write_plans.specs.Room.{HasOld}
use Rattle.write_plans.specs.declared.plans.Plan.{Plan}

-- no changes leave all tables
pub no_changes : (ts : Tables) → changed_tables ts [] ≡ ts
no_changes [] = refl
no_changes (t ∷ ts) = refl

turned : (n : ℕ) (ns : List ℕ) → In n (reverse ns) → In n ns
turned n ns i = subst (λ (l : List ℕ). In n l) (reverse-reverse ns) (in_reverse n (reverse ns) i)

-- the plan makes of what is stored of the old state what is stored of this one
pub record IsPlanTo {O : Type 0} (meaning : O → Meaning) (d : Parts O) (end : State) (plan : Plan) : Type 0 where
  pub stored : (t : ℕ) → IsStored (forest d.graph.edges) d.layout.operators t → changed ((state_for meaning d).tables t) (changes_at plan.stored t) ≡ end.tables t
  pub aux : (e : Link O) → In e (forest d.graph.edges) → changed_tables (aux_of meaning (state_for meaning d) (stored_way d.layout.operators e)) (sides_at plan.auxes e.number) ≡ aux_of meaning end (stored_way d.layout.operators e)
  pub memory : (e : Link O) → In e (forest d.graph.edges) → changed_pairs (pairs_at d.memories e.number) (pair_changes_at plan.memories e.number) ≡ end.memory e.number
  pub next : plan.ids.next ≡ end.next
  pub limit : plan.ids.limit ≡ d.ids.limit

module _ {O : Type 0} (meaning : O → Meaning) (laws : (o : O) → Laws (meaning o)) (d : Parts O) (good : IsDatabase meaning d) where
  abbrev es : List (Placed O)
  es = d.graph.edges

  abbrev s : State
  s = state_for meaning d

  module _ (end : State) (sound : IsSound meaning d.graph.edges end) (plan : Plan) (for : IsPlanTo meaning d end plan) (new : Parts O) (puts : Puts d plan new) where
    -- the fields over the old graph and layout
    abbrev over : Parts O
    over = record { graph = d.graph; layout = d.layout; stored = new.stored; aux = new.aux; memories = new.memories; ids = plan.ids }

    stood : (e : Link O) → In e (forest es) → StandsOver meaning (headings es) (storage_in d) s (stored_way d.layout.operators e)
    stood e i = each_at (λ (f : Link O). StandsOver meaning (headings es) (storage_in d) s (stored_way d.layout.operators f)) (forest es) e i good.stands.edges

    stored_rows : (k : ℕ) → IsStored (forest es) d.layout.operators k → rows_at new.stored k ≡ end.tables k
    stored_rows k here = puts.stored k ∙ ap (λ (x : Rows). changed x (changes_at plan.stored k)) (good.stands.stored k here) ∙ for.stored k here

    stored_aux : (e : Link O) → In e (forest es) → auxes_at new.aux e.number ≡ aux_of meaning end (stored_way d.layout.operators e)
    stored_aux e i = puts.aux e.number ∙ ap (λ (x : Tables). changed_tables x (sides_at plan.auxes e.number)) (stood e i).aux ∙ for.aux e i

    stored_memory : (e : Link O) → In e (forest es) → pairs_at new.memories e.number ≡ end.memory e.number
    stored_memory e i = puts.memory e.number ∙ for.memory e i

    store : Store meaning over end
    store = record {
      tables = λ k. (
        λ i. (good.tables k).0 (subst (λ (l : List ℕ). In k l) puts.tables i),
        λ h. subst (λ (l : List ℕ). In k l) (sym puts.tables) ((good.tables k).1 h),
      );
      rows = stored_rows;
      auxes = λ n i. turned n (numbers es) (subst (λ (l : List ℕ). In n l) (puts.auxes ∙ good.auxes) i);
      aux = stored_aux;
      memories = λ n i. turned n (numbers es) (subst (λ (l : List ℕ). In n l) (puts.memories ∙ good.memories) i);
      memory = stored_memory;
      next = for.next;
    }

    shaped : IsShaped over
    shaped = record {
      graph = good.graph;
      finished = good.finished;
      sides = good.sides;
      valid = good.valid;
      ascending = good.ascending;
      tables_ascending = subst (λ (l : List ℕ). Rises 0 l) (sym puts.tables) good.tables_ascending;
      auxes = puts.auxes ∙ good.auxes;
      memories = puts.memories ∙ good.memories;
    }

    over_is : over ≡ new
    over_is =
        ap (λ (x : Drawn O). record { graph = x; layout = d.layout; stored = new.stored; aux = new.aux; memories = new.memories; ids = plan.ids }) (sym puts.graph)
        ∙ ap (λ (x : Layout). record { graph = new.graph; layout = x; stored = new.stored; aux = new.aux; memories = new.memories; ids = plan.ids }) (sym puts.layout)
        ∙ ap (λ (x : CounterState). record { graph = new.graph; layout = new.layout; stored = new.stored; aux = new.aux; memories = new.memories; ids = x }) (sym puts.ids)

    -- WITH THE CHANGES THE DATABASE HAS THAT STATE
    pub leads : IsDatabase meaning new × (database_for meaning new ≡ record (database_for meaning d) { state = end })
    leads =
        let made = is_database meaning laws good.reads over end shaped sound store in
        let over_leads : IsDatabase meaning over × (database_for meaning over ≡ record (database_for meaning d) { state = end }) = (
          made.0,
          ap (λ (x : State). record { graph = d.graph; state = x; limit = plan.ids.limit }) made.1 ∙ ap (λ (n : ℕ). record { graph = d.graph; state = end; limit = n }) for.limit,
        ) in
        subst (λ (x : Parts O). IsDatabase meaning x × (database_for meaning x ≡ record (database_for meaning d) { state = end })) over_is over_leads

  -- ---- nothing is put

  abbrev none : Plan
  none = record { stored = []; auxes = []; memories = []; ids = d.ids; changed = []; carried = [] }

  still : IsPlanTo meaning d s none
  still = record {
    stored = λ t i. refl;
    aux = λ e i. no_changes (aux_of meaning s (stored_way d.layout.operators e));
    memory = λ e i. refl;
    next = refl;
    limit = refl;
  }

  -- the same database stands for the same state
  pub same_database : (new : Parts O) → IsSame d new → IsDatabase meaning new × (database_for meaning new ≡ database_for meaning d)
  same_database new same = leads s good.sound none still new same

-- ---- the same database

pub same_self : {O : Type 0} (d : Parts O) → IsSame d d
same_self d = record {
  graph = refl;
  layout = refl;
  ids = refl;
  tables = refl;
  auxes = refl;
  memories = refl;
  stored = λ n. refl;
  aux = λ n. sym (no_changes (auxes_at d.aux n));
  memory = λ n. refl;
}

-- a plan for the same database is one for the old one
pub puts_same : {O : Type 0} (d new last : Parts O) (plan : Plan) → IsSame d new → Puts new plan last → Puts d plan last
puts_same d new last plan same puts = record {
  graph = puts.graph ∙ same.graph;
  layout = puts.layout ∙ same.layout;
  ids = puts.ids;
  tables = puts.tables ∙ same.tables;
  auxes = puts.auxes ∙ same.auxes;
  memories = puts.memories ∙ same.memories;
  stored = λ n. puts.stored n ∙ ap (λ (x : Rows). changed x (changes_at plan.stored n)) (same.stored n);
  aux = λ n. puts.aux n ∙ ap (λ (x : Tables). changed_tables x (sides_at plan.auxes n)) (same.aux n ∙ no_changes (auxes_at d.aux n));
  memory = λ n. puts.memory n ∙ ap (λ (x : Pairs). changed_pairs x (pair_changes_at plan.memories n)) (same.memory n);
}

-- what leads from a database leads from the same one
pub keys_same : {O : Type 0} (meaning : O → Meaning) (d new : Parts O) (keys : List (Numbered KeysState)) (plan : Plan) → IsSame d new → KeysLead meaning d keys plan → KeysLead meaning new keys plan
keys_same meaning d new keys plan same lead = record { ready = lead.ready; leads = λ last puts after both. lead.leads last (puts_same d new last plan same puts) after both }

-- the old rows that a plan names are there in the same database
pub changes_same : {O : Type 0} (d new : Parts O) (plan : Plan) → IsSame d new → HasOld d plan → HasOld new plan
changes_same d new plan same old = record {
  stored = (
    old.stored.0,
    each_more (λ (i : Numbered (List Change)). IsOldAt d.stored i) (λ (i : Numbered (List Change)). IsOldAt new.stored i)
        (λ i h. (subst (λ (l : List ℕ). In i.number l) (sym same.tables) h.0, subst (λ (x : Rows). AreOld x i.value) (sym (same.stored i.number)) h.1)) plan.stored old.stored.1,
  );
  auxes = (
    old.auxes.0,
    each_more (λ (i : Numbered SideChanges). IsSideAt d.aux i) (λ (i : Numbered SideChanges). IsSideAt new.aux i)
        (λ i h. subst (λ (x : Tables). AreChangesOf x i.value.tables) (sym (same.aux i.number ∙ no_changes (auxes_at d.aux i.number))) h) plan.auxes old.auxes.1,
  );
  memories = (
    old.memories.0,
    each_more (λ (i : Numbered (List PairChange)). IsMemoryAt d.memories i) (λ (i : Numbered (List PairChange)). IsMemoryAt new.memories i)
        (λ i h. (subst (λ (l : List ℕ). In i.number l) (sym same.memories) h.0, subst (λ (x : Pairs). AreMemoryChanges x i.value) (sym (same.memory i.number)) h.1)) plan.memories old.memories.1,
  );
}

module _ {O : Type 0} (meaning : O → Meaning) (laws : (o : O) → Laws (meaning o)) (d : Parts O) (good : IsDatabase meaning d) (new : Parts O) (same : IsSame d new) (w t : ℕ) (rows : Rows) (next : ℕ) where
  abbrev before : State
  before = write meaning d.graph.edges (state_for meaning d) w t rows next

  abbrev after : State
  after = write meaning new.graph.edges (state_for meaning new) w t rows next

  data_is : database_for meaning new ≡ database_for meaning d
  data_is = (same_database meaning laws d good new same).1

  write_is : after ≡ before
  write_is = ap (λ (x : Database O). write meaning x.graph.edges x.state w t rows next) data_is

  -- WHAT IS PLANNED FOR A DATABASE IS PLANNED FOR THE SAME ONE
  pub plans_same : (r : Result Plan (Fault IdsSpent)) → Plans meaning d w t rows next r → Plans meaning new w t rows next r
  plans_same (Ok plan) h = (
    subst (λ (s : State). s.next ≤ first_refused new.ids) (sym write_is) (subst (λ (c : CounterState). before.next ≤ first_refused c) (sym same.ids) h.0),
    λ last puts.
        let led = h.1 last (puts_same d new last plan same puts) in
        (led.0, led.1 ∙ ap (λ (x : Database O). record x { state = before }) (sym data_is) ∙ ap (λ (s : State). record (database_for meaning new) { state = s }) (sym write_is)),
  )
  plans_same (Err (Refused spent)) h = subst (λ (s : State). IsSpent s.next new.ids new.ids spent) (sym write_is) (subst (λ (c : CounterState). IsSpent before.next c c spent) (sym same.ids) h)
  plans_same (Err (OutOfMemory memory)) h = tt

-- more room in the same tables and memories
pub room_made : {O : Type 0} (d parts : Parts O) (stored : List (Numbered TableState)) (aux : List (Numbered Aux)) (memories : List (Numbered MemoryState)) → parts ≡ d → KeepsRows parts.stored stored → KeepsAuxes parts.aux aux → KeepsPairs parts.memories memories
    → IsSame d (record { graph = parts.graph; layout = parts.layout; stored = stored; aux = aux; memories = memories; ids = parts.ids })
room_made {O} d parts stored aux memories same a b c =
    subst (λ (x : Parts O). IsSame x (record { graph = parts.graph; layout = parts.layout; stored = stored; aux = aux; memories = memories; ids = parts.ids })) same
    (record {
      graph = refl;
      layout = refl;
      ids = refl;
      tables = a.listed;
      auxes = b.listed;
      memories = c.listed;
      stored = a.rows;
      aux = λ n. b.rows n ∙ sym (no_changes (auxes_at parts.aux n));
      memory = c.pairs;
    })
