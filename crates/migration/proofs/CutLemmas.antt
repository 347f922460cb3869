-- A database after a drop.
use Rattle.std.specs.Prelude.{◌↔◌, ◌<◌}
use Rattle.std.proofs.Common.{◌≡◌, ℕ, List, [], ◌∷◌, Bool, true, false, cond, filter, inl, inr, refl, sym, ap, ◌∙◌, subst, arith}
use Rattle.std.proofs.Math.Path.{fun_ext}
use Rattle.row_store.specs.States.{TableState}
use Rattle.id_memory.specs.States.{MemoryState}
use Rattle.version_graph.specs.Sets.{In}
use Rattle.version_graph.specs.Tables.{table_numbers}
use Rattle.version_graph.specs.Edges.{AreEdges, Drawn, IsGraph, Rises, is_in, made, numbers, version_sets}
use Rattle.version_graph.specs.Dropped.{dropped, other_versions, staying}
use Rattle.version_graph.specs.Finished.{IsFinished}
use Rattle.version_graph.specs.Forest.{forest}
use Rattle.version_graph.specs.declared.parts.Placed.{Placed}
use Rattle.version_graph.proofs.SetLaws.{each_at, each_of, in_of_test, is_in_true}
use Rattle.version_graph.proofs.StayLaws.{dropped_graph, edges_stay, fewer_numbers}
use Rattle.version_graph.proofs.TableLaws.{in_filter, passes, rises_above}
use Rattle.op_law.specs.Calls.{tables_of}
use Rattle.op_law.specs.Laws.{Laws}
use Rattle.op_law.specs.Meaning.{Meaning}
use Rattle.op_law.specs.declared.side.Aux.{Aux}
use Rattle.layout_rules.specs.Layouts.{IsStored, IsValid}
use Rattle.layout_rules.specs.Lookups.{numbers_up}
use Rattle.layout_rules.proofs.ChangeLaws.{dropped_valid, filter_in}
use Rattle.layout_rules.proofs.CloseLaws.{numbers_rise}
use Rattle.layout_rules.proofs.LinkLaws.{target_listed}
use Rattle.layout_rules.proofs.PassLaws.{rises_filter}
use Rattle.version_model.specs.Databases.{dropped_database}
use Rattle.version_model.specs.Dropping.{staying_state}
use Rattle.version_model.specs.Kept.{HasSides, pairs_at, rows_at, auxes_at, numbers_in}
use Rattle.version_model.specs.Sound.{IsSound}
use Rattle.version_model.specs.States.{State}
use Rattle.version_model.specs.declared.numbered.Numbered.{Numbered}
use Rattle.version_model.proofs.CrossingLaws.{targets_linked}
use Rattle.version_model.proofs.DropLaws.{drop_sound, fewer_links}
use Rattle.version_model.proofs.LiveLaws.{read_passes}
use Rattle.storage_law.specs.Changes.{GoFromSources, staying_storage}
use Rattle.storage_law.specs.Storage.{Stands, Storage}
use Rattle.storage_law.proofs.DropLaws.{drop_stands, stored_before, stored_now}
use Rattle.db_state.specs.Fields.{IsDatabase, database_for, state_for, storage_in}
use Rattle.db_state.specs.declared.parts.Parts.{Parts}
use Rattle.db_state.proofs.FieldLaws.{state_is}
use Rattle.migration.proofs.SideLemmas.{up_in, up_lives}

-- ---- ascending lists

-- ascending lists with the same numbers are the same
one_list : (k j : ℕ) (xs ys : List ℕ) → Rises k xs → Rises j ys → ((n : ℕ) → In n xs ↔ In n ys) → xs ≡ ys
one_list k j [] [] a b both = refl
one_list k j [] (y ∷ ys) a b both = absurd ((both y).1 (inl refl))
one_list k j (x ∷ xs) [] a b both = absurd ((both x).0 (inl refl))
one_list k j (x ∷ xs) (y ∷ ys) a b both =
    let least_x : (n : ℕ) → In n xs → x < n = rises_above x xs a.1 in
    let least_y : (n : ℕ) → In n ys → y < n = rises_above y ys b.1 in
    let same : x ≡ y = elim ((both x).0 (inl refl)) as (λ _. x ≡ y) [
      | inl is ↦ is
      | inr i ↦ elim ((both y).1 (inl refl)) as (λ _. x ≡ y) [ inl is ↦ sym is | inr l ↦ (let one = least_y x i in let two = least_x y l in absurd (omega (arith, one, two))) ]
    ] in
    let rest : xs ≡ ys = one_list x y xs ys a.1 b.1 (λ n. (
      (λ i. elim ((both n).0 (inr i)) as (λ _. In n ys) [ inl is ↦ (let more = least_x n i in absurd (omega (arith, more, same, is))) | inr l ↦ l ]),
      (λ i. elim ((both n).1 (inr i)) as (λ _. In n xs) [ inl is ↦ (let more = least_y n i in absurd (omega (arith, more, same, is))) | inr l ↦ l ]),
    )) in
    cc

-- the numbers of values whose numbers pass
numbers_pass : {T : Type 0} (test : ℕ → Bool) (items : List (Numbered T)) → numbers_in (filter (λ (i : Numbered T). test i.number) items) ≡ filter test (numbers_in items)
numbers_pass test [] = refl
numbers_pass {T} test (x ∷ xs) =
    elim (test x.number) as (λ b. numbers_in (cond b (x ∷ filter (λ (i : Numbered T). test i.number) xs) (filter (λ (i : Numbered T). test i.number) xs)) ≡ cond b (x.number ∷ filter test (numbers_in xs)) (filter test (numbers_in xs))) [
      | true ↦ ap (λ (l : List ℕ). x.number ∷ l) (numbers_pass test xs)
      | false ↦ numbers_pass test xs
    ]

-- the operators that stay, ascending
stay_up : {O : Type 0} (es : List (Placed O)) (needed : List ℕ) → AreEdges es → filter (λ n. is_in n (numbers (staying needed es))) (numbers_up es) ≡ numbers_up (staying needed es)
stay_up es needed edges =
    let left = staying needed es in
    let test : ℕ → Bool = λ n. is_in n (numbers left) in
    one_list 0 0 (filter test (numbers_up es)) (numbers_up left) (rises_filter test 0 (numbers_up es) (numbers_rise es edges)) (numbers_rise left (edges_stay es needed edges)) (λ n. (
      (λ i. up_in left n (in_of_test n (numbers left) (passes test n (numbers_up es) i))),
      (λ i. let there = up_lives left n i in filter_in test n (numbers_up es) (up_in es n (fewer_numbers es needed n there)) (is_in_true n (numbers left) there)),
    ))

-- ---- the fields

module _ {O : Type 0} (old : Parts O) (name : List ℕ) where
  abbrev left : List (Placed O)
  left = staying (version_sets (other_versions old.graph.versions name)) old.graph.edges

  abbrev lives : ℕ → Bool
  lives n = is_in n (numbers left)

  abbrev has_table : ℕ → Bool
  has_table t = is_in t (table_numbers (made left))

  -- what stays of the fields
  abbrev pub cut_parts : Parts O
  cut_parts = record {
    graph = dropped old.graph name;
    layout = record { operators = filter lives old.layout.operators };
    stored = filter (λ (i : Numbered TableState). has_table i.number) old.stored;
    aux = filter (λ (i : Numbered Aux). lives i.number) old.aux;
    memories = filter (λ (i : Numbered MemoryState). lives i.number) old.memories;
    ids = old.ids;
  }

module _ {O : Type 0} (meaning : O → Meaning) (laws : (o : O) → Laws (meaning o)) (old : Parts O) (base : IsDatabase meaning old) (name : List ℕ) (aside : GoFromSources old.graph.edges (dropped old.graph name).edges old.layout.operators) where
  abbrev es : List (Placed O)
  es = old.graph.edges

  abbrev needed : List ℕ
  needed = version_sets (other_versions old.graph.versions name)

  abbrev stay : List (Placed O)
  stay = staying needed es

  abbrev s : State
  s = state_for meaning old

  abbrev new : Parts O
  new = cut_parts old name

  abbrev next : State
  next = staying_state stay s

  storage_stays : storage_in new ≡ staying_storage stay (storage_in old)
  storage_stays =
      let stored : rows_at new.stored ≡ (staying_storage stay (storage_in old)).stored = fun_ext (λ t. read_passes (λ (n : ℕ). is_in n (table_numbers (made stay))) (λ (x : TableState). x.rows) [] old.stored t) in
      let aux : auxes_at new.aux ≡ (staying_storage stay (storage_in old)).aux = fun_ext (λ n. read_passes (λ (m : ℕ). is_in m (numbers stay)) tables_of [] old.aux n) in
      let memory : pairs_at new.memories ≡ (staying_storage stay (storage_in old)).memory = fun_ext (λ n. read_passes (λ (m : ℕ). is_in m (numbers stay)) (λ (x : MemoryState). x.entries) [] old.memories n) in
      λ j. record { layout = new.layout.operators; stored = stored j; aux = aux j; memory = memory j }

  stands : Stands meaning stay (storage_in new) next
  stands = subst (λ (x : Storage). Stands meaning stay x next) (sym storage_stays) (drop_stands meaning es needed s base.graph.edges base.sound (storage_in old) aside base.stands)

  sound : IsSound meaning stay next
  sound = drop_sound meaning es needed s base.graph.edges base.sound

  graph : IsGraph new.graph
  graph = dropped_graph old.graph name base.graph

  valid : IsValid (forest stay) new.layout.operators
  valid = dropped_valid old.graph name base.graph old.layout.operators base.valid

  state_stays : state_for meaning new ≡ next
  state_stays = state_is meaning laws base.reads new next graph valid sound stands refl

  -- THE DATABASE AFTER A DROP
  pub cut_database : database_for meaning new ≡ dropped_database (database_for meaning old) name
  cut_database = λ j. record { graph = dropped old.graph name; state = state_stays j; limit = old.ids.limit }

  stored_numbers : numbers_in new.stored ≡ filter (λ t. is_in t (table_numbers (made stay))) (numbers_in old.stored)
  stored_numbers = numbers_pass (λ t. is_in t (table_numbers (made stay))) old.stored

  tables_stay : (t : ℕ) → In t (numbers_in new.stored) ↔ IsStored (forest stay) new.layout.operators t
  tables_stay t = (
    (λ i.
        let j = subst (λ (l : List ℕ). In t l) stored_numbers i in
        let test : ℕ → Bool = λ t. is_in t (table_numbers (made stay)) in
        stored_now meaning es needed s base.graph.edges base.sound (storage_in old) aside base.stands t (in_of_test t (table_numbers (made stay)) (passes test t (numbers_in old.stored) j)) ((base.tables t).0 (in_filter test t (numbers_in old.stored) j))),
    (λ k.
        let there = subst (λ (l : List ℕ). In t l) (targets_linked stay (edges_stay es needed base.graph.edges)) (target_listed (forest stay) k.made.0 t k.made.1 k.made.3) in
        subst (λ (l : List ℕ). In t l) (sym stored_numbers)
        (filter_in (λ t. is_in t (table_numbers (made stay))) t (numbers_in old.stored) ((base.tables t).1 (stored_before meaning es needed s base.graph.edges base.sound (storage_in old) aside base.stands t k)) (is_in_true t (table_numbers (made stay)) there))),
  )

  operators_stay : {T : Type 0} (items : List (Numbered T)) → numbers_in items ≡ numbers_up es → numbers_in (filter (λ (i : Numbered T). is_in i.number (numbers stay)) items) ≡ numbers_up stay
  operators_stay items all = numbers_pass (λ n. is_in n (numbers stay)) items ∙ ap (λ (l : List ℕ). filter (λ n. is_in n (numbers stay)) l) all ∙ stay_up es needed base.graph.edges

  pub cut_kept : IsFinished new.graph → IsDatabase meaning new
  cut_kept finished = record {
    reads = base.reads;
    graph = graph;
    finished = finished;
    sides = each_of HasSides (forest stay) (λ f i. each_at HasSides (forest es) f (fewer_links es needed f i) base.sides);
    valid = valid;
    ascending = rises_filter (λ n. is_in n (numbers stay)) 0 old.layout.operators base.ascending;
    tables = tables_stay;
    tables_ascending = subst (λ (l : List ℕ). Rises 0 l) (sym stored_numbers) (rises_filter (λ t. is_in t (table_numbers (made stay))) 0 (numbers_in old.stored) base.tables_ascending);
    auxes = operators_stay old.aux base.auxes;
    memories = operators_stay old.memories base.memories;
    stands = subst (λ (x : State). Stands meaning stay (storage_in new) x) (sym state_stays) stands;
    sound = subst (λ (x : State). IsSound meaning stay x) (sym state_stays) sound;
  }

-- the fields after a drop are these
pub cut_is : {O : Type 0} (old new : Parts O) (name : List ℕ) → new.graph ≡ dropped old.graph name
    → new.layout.operators ≡ filter (λ n. is_in n (numbers new.graph.edges)) old.layout.operators
    → new.stored ≡ filter (λ (i : Numbered TableState). is_in i.number (table_numbers (made new.graph.edges))) old.stored
    → new.aux ≡ filter (λ (i : Numbered Aux). is_in i.number (numbers new.graph.edges)) old.aux
    → new.memories ≡ filter (λ (i : Numbered MemoryState). is_in i.number (numbers new.graph.edges)) old.memories
    → new.ids ≡ old.ids → cut_parts old name ≡ new
cut_is {O} old new name graph layout stored aux memories ids =
    let want : Parts O = cut_parts old name in
    let edges : new.graph.edges ≡ want.graph.edges = ap (λ (x : Drawn O). x.edges) graph in
    let a : new.layout.operators ≡ want.layout.operators = layout ∙ ap (λ (es : List (Placed O)). filter (λ n. is_in n (numbers es)) old.layout.operators) edges in
    let b : new.stored ≡ want.stored = stored ∙ ap (λ (es : List (Placed O)). filter (λ (i : Numbered TableState). is_in i.number (table_numbers (made es))) old.stored) edges in
    let c : new.aux ≡ want.aux = aux ∙ ap (λ (es : List (Placed O)). filter (λ (i : Numbered Aux). is_in i.number (numbers es)) old.aux) edges in
    let d : new.memories ≡ want.memories = memories ∙ ap (λ (es : List (Placed O)). filter (λ (i : Numbered MemoryState). is_in i.number (numbers es)) old.memories) edges in
    λ j. record { graph = sym graph j; layout = record { operators = sym a j }; stored = sym b j; aux = sym c j; memories = sym d j; ids = sym ids j }
