-- A database after an evolution.
use Rattle.std.specs.Option.{option_map_or}
use Rattle.std.specs.Prelude.{◌⊎◌}
use Rattle.std.proofs.Common.{◌≡◌, ℕ, ◌<◌, ◌≤◌, Bool, false, List, [], ◌++◌, Option, Some, None, Ok, Err, length, map, inl, inr, refl, sym, ap, ◌∙◌, subst, arith}
use mathlib.Core.List.{reverse}
use Rattle.par_base.specs.declared.fault.Fault.{Fault}
use Rattle.par_base.specs.declared.fault.Fault.TheVariants.{Refused, Memory as OutOfMemory}
use Rattle.par_base.specs.declared.refusal.IdsSpent.{IdsSpent}
use Rattle.par_base.specs.declared.refusal.Refusal.{Refusal}
use Rattle.par_base.specs.declared.refusal.Refusal.TheVariants.{IdsSpent as SpendsIds}
use Rattle.row_store.specs.States.{TableState}
use Rattle.row_store.specs.Rows.{Rows}
use Rattle.id_memory.specs.Pairs.{Pairs}
use Rattle.id_memory.specs.States.{CounterState, MemoryState}
use Rattle.version_graph.specs.Sets.{In, Distinct, Each, Within}
use Rattle.version_graph.specs.Tables.{table_numbers}
use Rattle.version_graph.specs.Edges.{AreEdges, Drawn, IsGraph, Rises, is_in, made, numbers}
use Rattle.version_graph.specs.Evolve.{IsEvolvedFrom, evolved, refusal_of, start_of}
use Rattle.version_graph.specs.Finished.{IsFinished}
use Rattle.version_graph.specs.Forest.{Link, crossing, forest}
use Rattle.version_graph.specs.declared.parts.Edge.{Edge}
use Rattle.version_graph.specs.declared.parts.Placed.{Placed}
use Rattle.version_graph.proofs.SetLaws.{each_at, each_of, in_append, in_left, in_right}
use Rattle.version_graph.proofs.TableLaws.{rises_apart}
use Rattle.version_graph.proofs.WalkStepLaws.{in_reverse}
use Rattle.op_law.specs.Tables.{Tables}
use Rattle.op_law.specs.Meaning.{Meaning, PairState}
use Rattle.op_law.specs.Premises.{IsPair}
use Rattle.op_law.specs.Laws.{Laws}
use Rattle.op_law.specs.Calls.{first_refused, tables_of}
use Rattle.op_law.specs.declared.side.Aux.{Aux}
use Rattle.layout_rules.specs.Changes.{creates_next, evolved_layout}
use Rattle.layout_rules.specs.Layouts.{IsStored}
use Rattle.layout_rules.specs.declared.layout.Layout.{Layout}
use Rattle.layout_rules.proofs.ChangeLaws.{evolved_valid, link_number}
use Rattle.version_model.specs.States.{State, headings}
use Rattle.version_model.specs.Steps.{IsRelated, pair_in, directed}
use Rattle.version_model.specs.Laws.{EvolutionKeeps}
use Rattle.version_model.specs.Kept.{Database, HasSides, pairs_at, rows_at, auxes_at, numbers_in}
use Rattle.version_model.specs.Databases.{Evolves, MayEvolveTo, RefusesEvolution, counter_of, evolved_state, start_in}
use Rattle.version_model.specs.Making.{MayMake, newer, refusal_for, with_links}
use Rattle.version_model.specs.declared.numbered.Numbered.{Numbered}
use Rattle.version_model.proofs.EvolveLaws.{MayGrow, evolution_keeps}
use Rattle.version_model.proofs.EvolvedLaws.{few_made, links_may_make, newer_links, sides_more, start_known}
use Rattle.version_model.proofs.GrownLaws.{grown_by_links, grown_links}
use Rattle.storage_law.specs.Storage.{StandsOver, aux_of, stored_way}
use Rattle.storage_law.proofs.LinkLaws.{same_test}
use Rattle.db_state.specs.Calls.{IsRelatedAt}
use Rattle.db_state.specs.Fields.{IsDatabase, database_for, state_for, storage_in}
use Rattle.db_state.specs.declared.parts.Parts.{Parts}
use Rattle.db_state.proofs.FieldLaws.{IsShaped, Store, is_database}
use Rattle.db_evolution.specs.Calls.{Fills, Installs, IsFilled, MayFill, filled_state, sources_state}
use Rattle.db_evolution.specs.News.{created_in, creates_in, newer_edges}
use Rattle.db_evolution.specs.Sources.{AreSources}
use Rattle.db_evolution.specs.declared.contents.Contents.{Contents}
use Rattle.db_evolution.proofs.AgreeLemmas.{Agree, TakesAmong, links_agree, may_agree, pair_same}
use Rattle.db_evolution.proofs.LaidLemmas.{of_reverse, over_newer, over_older}
use Rattle.db_evolution.proofs.NewLemmas.{IsNew, created_rise, creates_are, creates_rise, grown_edges, grown_new, grown_split, created_by, new_number, newer_are, number_new, numbers_on, numbers_once, rises_on}
use Rattle.db_evolution.proofs.SourceLemmas.{all_right, new_right}
use Rattle.db_evolution.proofs.StoredLemmas.{new_at, old_in, older_within, stored_created, stored_split, stored_still}

module _ {O : Type 0} (meaning : O → Meaning) (laws : (o : O) → Laws (meaning o)) (p : Parts O) (kept : IsDatabase meaning p) (name : List ℕ) (from : Option (List ℕ)) (edges : List (Edge O)) (may : MayEvolveTo meaning (database_for meaning p) from edges)
    (read : List (Numbered TableState)) (sources : AreSources p.graph (state_for meaning p) from edges read) (none : refusal_of p.graph name from edges ≡ None) where
  abbrev pub d : Database O
  d = database_for meaning p

  abbrev s : State
  s = state_for meaning p

  abbrev es : List (Placed O)
  es = p.graph.edges

  abbrev o : ℕ
  o = p.graph.last_operator

  abbrev t : ℕ
  t = p.graph.last_table

  abbrev w : ℕ
  w = start_in d from

  abbrev pub graph_after : Drawn O
  graph_after = evolved p.graph name w edges

  -- the fields with the new graph
  abbrev pub grown_parts : Parts O
  grown_parts = record p { graph = graph_after }

  abbrev fs : List (Link O)
  fs = grown_links es w o t edges

  abbrev pub end : State
  end = evolved_state meaning d from edges

  abbrev P : ℕ → Type 0
  P x = rows_at read x ≡ s.tables x

  abbrev Q : ℕ → Type 0
  Q n = In n (numbers es) → ⊥

  start : start_of p.graph.versions from ≡ Some w
  start = start_known p.graph.versions from _ none

  few : Each (λ n. n ≤ o) (numbers es)
  few = kept.graph.operators

  new_links : newer graph_after.edges (length es) ≡ fs
  new_links = newer_links es w o t edges

  ends : with_links meaning s fs ≡ end
  ends = sym (grown_by_links meaning es w o t edges s)

  alone : (x : ℕ) → (In x (table_numbers (made es)) → ⊥) → s.tables x ≡ []
  alone x out = kept.sound.alone.tables x out

  agree : Agree P Q (sources_state read p.ids.next) s
  agree = record { tables = λ x h. h; memories = λ n out. sym (kept.sound.alone.memories n out); next = refl }

  new_table : (x : ℕ) → (In x (table_numbers (made es)) → ⊥) → P x
  new_table x out = new_right p.graph kept.graph.edges s alone from edges read sources w start x out

  -- what is true once the new graph is one
  module _ (all : AreEdges graph_after.edges) where
    grows : MayGrow meaning es w o t edges s s.next
    grows = record { all = all; sound = kept.sound; built = may.built w start; drawn = omega arith }

    makes : MayMake meaning s fs
    makes = links_may_make meaning laws es w o t edges s s.next grows may.few

    keeps : EvolutionKeeps meaning es w o t edges s
    keeps = evolution_keeps meaning laws es w o t edges s s.next grows

    takes : Each (TakesAmong P) fs
    takes = all_right p.graph kept.graph.edges s alone from edges read sources w start o t all

    abbrev filled : State
    filled = with_links meaning (sources_state read p.ids.next) fs

    -- WHAT IS MADE OF THE SOURCES ALONE IS WHAT IS MADE OF THE WHOLE STATE
    agree_after : Agree P Q filled end
    agree_after = subst (λ (x : State). Agree P Q filled x) ends (links_agree meaning P Q fs (sources_state read p.ids.next) s agree takes)

    filled_is : filled_state meaning grown_parts (length es) read ≡ filled
    filled_is = ap (λ (l : List (Link O)). with_links meaning (sources_state read p.ids.next) l) new_links

    live : Within p.layout.operators (numbers es)
    live n i = let l = kept.valid.live n i in subst (λ (k : ℕ). In k (numbers es)) (sym l.2) (link_number es l.0 l.1)

    is_new : (f : Link O) → In f fs → IsNew es f
    is_new f i = new_at es w o t edges all p.layout.operators live few f i

    new_pair : (x : Bool) (f : Link O) → In f fs → pair_in filled (crossing x f) ≡ pair_in end (crossing x f)
    new_pair x f i =
        let new = is_new f i in
        pair_same filled end x f (λ y j. agree_after.tables y (each_at (TakesAmong P) fs f i takes y j)) (λ y j. agree_after.tables y (new_table y (new.targets y j)))
        (agree_after.memories f.number (λ j. let less = new.number f.number j in omega (arith, less)))

    new_related : (f : Link O) → In f fs → IsRelated meaning (headings graph_after.edges) filled (crossing false f)
    new_related f i =
        subst (λ (x : PairState). IsPair (meaning f.operator) (map (headings graph_after.edges) f.sources) (map (headings graph_after.edges) f.targets) x) (sym (new_pair false f i))
        (each_at (λ (g : Link O). IsRelated meaning (headings graph_after.edges) end (crossing false g)) (forest graph_after.edges) f (grown_new es w o t edges f i) keeps.sound.related)

    related_at : (n : ℕ) → In n (numbers (grown_edges w o t edges)) → IsRelatedAt meaning graph_after.edges filled n
    related_at n i =
        let f = number_new es w o t edges n i in
        record {
          over = f.0;
          lives = grown_new es w o t edges f.0 f.1;
          number = f.2;
          sides = each_at HasSides fs f.0 f.1 (few_made meaning s fs makes);
          related = new_related f.0 f.1;
        }

    -- THE NEW OPERATORS MAY BE MADE OF THE SOURCES
    pub may_fill : MayFill meaning grown_parts (length es) read
    may_fill = record {
      may = subst (λ (l : List (Link O)). MayMake meaning (sources_state read p.ids.next) l) (sym new_links) (may_agree meaning P Q fs (sources_state read p.ids.next) s agree takes makes);
      related = subst (λ (l : List (Placed O)). Each (IsRelatedAt meaning graph_after.edges (filled_state meaning grown_parts (length es) read)) (numbers l)) (sym (newer_are es w o t edges))
          (subst (λ (x : State). Each (IsRelatedAt meaning graph_after.edges x) (numbers (grown_edges w o t edges))) (sym filled_is)
          (each_of (IsRelatedAt meaning graph_after.edges filled) (numbers (grown_edges w o t edges)) related_at));
    }

    -- ---- the fields after it

    abbrev layout_after : List ℕ
    layout_after = evolved_layout p.graph edges p.layout.operators

    abbrev created : List ℕ
    created = created_in (grown_edges w o t edges)

    split : (x : ℕ) → IsStored (forest graph_after.edges) layout_after x → IsStored (forest es) p.layout.operators x ⊎ In x created
    split x k = stored_split es w o t edges all p.layout.operators live few x k

    older_made : (f : Link O) (x : ℕ) → In f (forest es) → In x f.targets → In x (table_numbers (made es))
    older_made f x i j = (older_within es w o t edges all p.layout.operators live few f i).far x j

    stored_made : (x : ℕ) → IsStored (forest es) p.layout.operators x → In x (table_numbers (made es))
    stored_made x k = older_made k.made.0 x k.made.1 k.made.3

    is_low : (xs : List ℕ) → ((x : ℕ) → In x xs → In x (table_numbers (made es))) → Each (λ x. x ≤ t) xs
    is_low xs within = each_of (λ x. x ≤ t) xs (λ x i. each_at (λ y. y ≤ t) (table_numbers (made es)) x (within x i) kept.graph.tables)

    layout_rises : Rises 0 layout_after
    layout_rises = rises_on 0 o p.layout.operators (creates_next o edges) (omega arith) kept.ascending (each_of (λ n. n ≤ o) p.layout.operators (λ n i. each_at (λ k. k ≤ o) (numbers es) n (live n i) few)) (creates_rise o edges)

    stored_low : (x : ℕ) → In x (numbers_in p.stored) → In x (table_numbers (made es))
    stored_low x i = stored_made x ((kept.tables x).0 i)

    stored_rise : Rises 0 (numbers_in p.stored ++ created)
    stored_rise = rises_on 0 t (numbers_in p.stored) created (omega arith) kept.tables_ascending (is_low (numbers_in p.stored) stored_low) (created_rise w o t edges)

    -- a pair of an older operator is as it was
    old_pair : (x : Bool) (f : Link O) → In f (forest es) → pair_in s (crossing x f) ≡ pair_in end (crossing x f)
    old_pair x f i =
        let within = older_within es w o t edges all p.layout.operators live few f i in
        pair_same s end x f (λ y j. sym (keeps.tables y (within.near y j))) (λ y j. sym (keeps.tables y (within.far y j))) (sym (keeps.memories f.number (link_number es f i)))

    module _ (graph : IsGraph graph_after) (finished : IsFinished graph_after) (c : Contents) (fill : IsFilled meaning grown_parts (length es) (filled_state meaning grown_parts (length es) read) c) (q : Parts O) (installs : Installs grown_parts c q) where
      news : newer_edges graph_after.edges (length es) ≡ grown_edges w o t edges
      news = newer_are es w o t edges

      operators_then : c.layout.operators ≡ layout_after
      operators_then = fill.layout ∙ ap (λ (l : List (Placed O)). p.layout.operators ++ creates_in l) news ∙ ap (λ (l : List ℕ). p.layout.operators ++ l) (creates_are w o t edges)

      pub operators_after : q.layout.operators ≡ layout_after
      operators_after = ap (λ (l : Layout). l.operators) installs.layout ∙ operators_then

      tables_then : numbers_in c.stored ≡ numbers_in p.stored ++ created
      tables_then = fill.tables ∙ ap (λ (l : List (Placed O)). numbers_in p.stored ++ created_in l) news

      auxes_then : numbers_in c.aux ≡ numbers_in p.aux ++ numbers (grown_edges w o t edges)
      auxes_then = fill.operators ∙ ap (λ (l : List (Placed O)). numbers_in p.aux ++ numbers l) news

      memories_then : numbers_in c.memories ≡ numbers_in p.memories ++ numbers (grown_edges w o t edges)
      memories_then = fill.memories ∙ ap (λ (l : List (Placed O)). numbers_in p.memories ++ numbers l) news

      auxes_after : numbers_in q.aux ≡ reverse (numbers graph_after.edges)
      auxes_after = installs.aux.numbers ∙ auxes_then ∙ ap (λ (l : List ℕ). l ++ numbers (grown_edges w o t edges)) kept.auxes ∙ sym (numbers_on es w o t edges)

      memories_after : numbers_in q.memories ≡ reverse (numbers graph_after.edges)
      memories_after = installs.memories.numbers ∙ memories_then ∙ ap (λ (l : List ℕ). l ++ numbers (grown_edges w o t edges)) kept.memories ∙ sym (numbers_on es w o t edges)

      next_then : (filled_state meaning grown_parts (length es) read).next ≡ end.next
      next_then = ap (λ (x : State). x.next) filled_is ∙ agree_after.next

      -- ---- tables

      stored_numbers : numbers_in q.stored ≡ numbers_in p.stored ++ created
      stored_numbers = installs.stored.numbers ∙ tables_then

      stored_are : (x : ℕ) → In x (numbers_in q.stored) → IsStored (forest graph_after.edges) layout_after x
      stored_are x i = elim (in_append x (numbers_in p.stored) created (subst (λ (l : List ℕ). In x l) stored_numbers i)) as (λ _. IsStored (forest graph_after.edges) layout_after x) [
        | inl j ↦ stored_still es w o t edges all p.layout.operators live few x ((kept.tables x).0 j)
        | inr j ↦ stored_created es w o t edges all p.layout.operators live few x j
      ]

      are_stored : (x : ℕ) → IsStored (forest graph_after.edges) layout_after x → In x (numbers_in q.stored)
      are_stored x k = subst (λ (l : List ℕ). In x l) (sym stored_numbers)
          (elim (split x k) as (λ _. In x (numbers_in p.stored ++ created)) [
            | inl old ↦ in_left x (numbers_in p.stored) created ((kept.tables x).1 old)
            | inr i ↦ in_right x (numbers_in p.stored) created i
          ])

      abbrev rows_of : Option TableState → Rows
      rows_of found = option_map_or (λ (table : TableState). table.rows) found []

      rows_old : (x : ℕ) → IsStored (forest es) p.layout.operators x → rows_at q.stored x ≡ end.tables x
      rows_old x k =
          let i = (kept.tables x).1 k in
          ap rows_of (over_newer c.stored p.stored q.stored installs.stored x (rises_apart 0 (numbers_in p.stored) kept.tables_ascending) i (subst (λ (l : List ℕ). In x l) (sym tables_then) (in_left x (numbers_in p.stored) created i)))
          ∙ kept.stands.stored x k ∙ sym (keeps.tables x (stored_made x k))

      rows_new : (x : ℕ) → In x created → rows_at q.stored x ≡ end.tables x
      rows_new x i =
          let m = created_by es w o t edges x i in
          let out = (is_new m.0 m.1).targets x m.3 in
          ap rows_of (over_older c.stored p.stored q.stored installs.stored x (rises_apart 0 (numbers_in p.stored) kept.tables_ascending) (λ j. out (stored_low x j)))
          ∙ fill.rows m.0 (subst (λ (l : List (Link O)). In m.0 l) (sym new_links) m.1) x m.3 (subst (λ (l : List ℕ). In x l) (sym tables_then) (in_right x (numbers_in p.stored) created i))
          ∙ ap (λ (y : State). y.tables x) filled_is ∙ agree_after.tables x (new_table x out)

      -- ---- auxiliary tables

      abbrev lists_of : Option Aux → Tables
      lists_of found = option_map_or tables_of found []

      old_listed : (f : Link O) → In f (forest es) → In f.number (reverse (numbers es))
      old_listed f i = in_reverse f.number (numbers es) (link_number es f i)

      new_unlisted : (f : Link O) → In f fs → In f.number (reverse (numbers es)) → ⊥
      new_unlisted f i j = let less = (is_new f i).number f.number (of_reverse f.number (numbers es) j) in omega (arith, less)

      once : Distinct (reverse (numbers es))
      once = numbers_once es kept.graph.edges

      side_same : (f : Link O) → In f (forest es) → is_in f.number p.layout.operators ≡ is_in f.number layout_after
      side_same f i = same_test f.number p.layout.operators layout_after (in_left f.number p.layout.operators (creates_next o edges), old_in es w o t edges all p.layout.operators live few f.number (link_number es f i))

      aux_old : (f : Link O) → In f (forest es) → auxes_at q.aux f.number ≡ aux_of meaning end (stored_way layout_after f)
      aux_old f i =
          let x = is_in f.number p.layout.operators in
          let here = subst (λ (l : List ℕ). In f.number l) (sym kept.auxes) (old_listed f i) in
          ap lists_of (over_newer c.aux p.aux q.aux installs.aux f.number (subst (λ (l : List ℕ). Distinct l) (sym kept.auxes) once) here (subst (λ (l : List ℕ). In f.number l) (sym auxes_then) (in_left f.number (numbers_in p.aux) (numbers (grown_edges w o t edges)) here)))
          ∙ (each_at (λ (g : Link O). StandsOver meaning (headings es) (storage_in p) s (stored_way p.layout.operators g)) (forest es) f i kept.stands.edges).aux
          ∙ ap (directed x (meaning f.operator)).aux_at_source (old_pair x f i)
          ∙ ap (λ (b : Bool). aux_of meaning end (crossing b f)) (side_same f i)

      aux_new : (f : Link O) → In f fs → auxes_at q.aux f.number ≡ aux_of meaning end (stored_way layout_after f)
      aux_new f i =
          let x = is_in f.number layout_after in
          ap lists_of (over_older c.aux p.aux q.aux installs.aux f.number (subst (λ (l : List ℕ). Distinct l) (sym kept.auxes) once) (λ j. new_unlisted f i (subst (λ (l : List ℕ). In f.number l) kept.auxes j)))
          ∙ fill.aux f (grown_new es w o t edges f i) (subst (λ (l : List (Placed O)). In f.number (numbers l)) (sym news) (new_number es w o t edges f i))
          ∙ ap (λ (y : State). aux_of meaning y (stored_way c.layout.operators f)) filled_is
          ∙ ap (λ (l : List ℕ). aux_of meaning filled (stored_way l f)) operators_then
          ∙ ap (directed x (meaning f.operator)).aux_at_source (new_pair x f i)

      -- ---- memories

      abbrev entries_of : Option MemoryState → Pairs
      entries_of found = option_map_or (λ (memory : MemoryState). memory.entries) found []

      memory_old : (f : Link O) → In f (forest es) → pairs_at q.memories f.number ≡ end.memory f.number
      memory_old f i =
          let here = subst (λ (l : List ℕ). In f.number l) (sym kept.memories) (old_listed f i) in
          ap entries_of (over_newer c.memories p.memories q.memories installs.memories f.number (subst (λ (l : List ℕ). Distinct l) (sym kept.memories) once) here (subst (λ (l : List ℕ). In f.number l) (sym memories_then) (in_left f.number (numbers_in p.memories) (numbers (grown_edges w o t edges)) here)))
          ∙ sym (keeps.memories f.number (link_number es f i))

      memory_new : (f : Link O) → In f fs → pairs_at q.memories f.number ≡ end.memory f.number
      memory_new f i =
          ap entries_of (over_older c.memories p.memories q.memories installs.memories f.number (subst (λ (l : List ℕ). Distinct l) (sym kept.memories) once) (λ j. new_unlisted f i (subst (λ (l : List ℕ). In f.number l) kept.memories j)))
          ∙ fill.memory f (subst (λ (l : List (Link O)). In f l) (sym new_links) i) (subst (λ (l : List ℕ). In f.number l) (sym memories_then) (in_right f.number (numbers_in p.memories) (numbers (grown_edges w o t edges)) (new_number es w o t edges f i)))
          ∙ ap (λ (y : State). y.memory f.number) filled_is
          ∙ agree_after.memories f.number (λ j. let less = (is_new f i).number f.number j in omega (arith, less))

      -- ---- the whole

      abbrev r : Parts O
      r = record { graph = graph_after; layout = record { operators = layout_after }; stored = q.stored; aux = q.aux; memories = q.memories; ids = q.ids }

      r_is : r ≡ q
      r_is = λ j. record { graph = sym installs.graph j; layout = record { operators = sym operators_after j }; stored = q.stored; aux = q.aux; memories = q.memories; ids = q.ids }

      store : Store meaning r end
      store = record {
        tables = λ x. (stored_are x, are_stored x);
        rows = λ x k. elim (split x k) as (λ _. rows_at q.stored x ≡ end.tables x) [ inl old ↦ rows_old x old | inr i ↦ rows_new x i ];
        auxes = λ n i. of_reverse n (numbers graph_after.edges) (subst (λ (l : List ℕ). In n l) auxes_after i);
        aux = λ f i. elim (grown_split es w o t edges f i) as (λ _. auxes_at q.aux f.number ≡ aux_of meaning end (stored_way layout_after f)) [ inl j ↦ aux_old f j | inr j ↦ aux_new f j ];
        memories = λ n i. of_reverse n (numbers graph_after.edges) (subst (λ (l : List ℕ). In n l) memories_after i);
        memory = λ f i. elim (grown_split es w o t edges f i) as (λ _. pairs_at q.memories f.number ≡ end.memory f.number) [ inl j ↦ memory_old f j | inr j ↦ memory_new f j ];
        next = ap (λ (x : CounterState). x.next) installs.ids ∙ fill.next ∙ next_then;
      }

      shaped : IsShaped r
      shaped = record {
        graph = graph;
        finished = finished;
        sides = sides_more es w o t edges kept.sides (few_made meaning s fs makes);
        valid = evolved_valid p.graph name w edges graph p.layout.operators kept.valid;
        ascending = layout_rises;
        tables_ascending = subst (λ (l : List ℕ). Rises 0 l) (sym stored_numbers) stored_rise;
        auxes = auxes_after;
        memories = memories_after;
      }

      -- THE FIELDS ARE A DATABASE AGAIN, AND STAND FOR THE STATE AFTER THE EVOLUTION
      pub evolved_database : IsDatabase meaning q × (state_for meaning q ≡ end)
      evolved_database = subst (λ (x : Parts O). IsDatabase meaning x × (state_for meaning x ≡ end)) r_is (is_database meaning laws kept.reads r end shaped keeps.sound store)

      pub evolution_done : Evolves meaning d name from edges (Ok tt) (database_for meaning q)
      evolution_done =
          let state_is = evolved_database.1 in
          let limit_is : q.ids.limit ≡ p.ids.limit = ap (λ (x : CounterState). x.limit) installs.ids ∙ fill.limit in (
            none,
            subst (λ (n : ℕ). n ≤ first_refused p.ids) next_then fill.within,
            λ j. record { graph = installs.graph j; state = state_is j; limit = limit_is j },
          )

    -- AN EVOLUTION THAT WOULD DRAW TOO MANY IDENTIFIERS
    pub evolution_refused : (fault : Fault IdsSpent) → Fills meaning grown_parts (length es) read (Err fault) → (q : Parts O) → q ≡ p → Evolves meaning d name from edges (Err (refusal_for fault)) (database_for meaning q)
    evolution_refused (OutOfMemory memory) h q same = ap (λ (x : Parts O). database_for meaning x) same
    evolution_refused (Refused spent) h q same =
        let next_is = ap (λ (x : State). x.next) filled_is ∙ agree_after.next in
        let over = subst (λ (n : ℕ). first_refused p.ids < n) next_is h.0 in (
          subst (λ (reason : Option Refusal). RefusesEvolution reason end.next (counter_of d) (SpendsIds spent.needed spent.limit)) (sym none)
              (over, ap (λ (n : ℕ). SpendsIds n spent.limit) h.1 ∙ ap (λ (n : ℕ). SpendsIds (first_refused p.ids) n) h.2),
          ap (λ (x : Parts O). database_for meaning x) same,
        )

  -- the graph may be taken back
  pub is_evolved : (g : Drawn O) (count operator table : ℕ) → g ≡ graph_after → count ≡ length es → operator ≡ o → table ≡ t → IsEvolvedFrom p.graph count operator table g
  is_evolved g count operator table is counted operators tables = record { graph = kept.graph; counted = counted; operator = operators; table = tables; evolved = (name, w, edges, is) }
