-- The sources of new operators are tables that were read, or new ones.
use Rattle.std.specs.Prelude.{◌⊎◌, option_to_list, unwrap_or, option_map}
use Rattle.std.specs.Option.{option_map_or}
use Rattle.std.specs.Str.{bytes_eq}
use Rattle.std.proofs.Common.{◌≡◌, ℕ, ◌+◌, ◌==◌, Bool, true, false, not, filter, List, [], ◌∷◌, ◌++◌, Option, Some, None, length, inl, inr, refl, sym, ap, ◌∙◌, subst, arith}
use Rattle.std.proofs.lemmas.Bool.{cond-true, eq-eqb}
use Rattle.std.proofs.lemmas.List.{map-append}
use Rattle.std.proofs.lemmas.List.Elements.{filter-append}
use Rattle.row_store.specs.States.{TableState}
use Rattle.version_graph.specs.Sets.{In, Each, Within}
use Rattle.version_graph.specs.Tables.{TableVersion, is_among, passing, table_named, table_numbers, taken}
use Rattle.version_graph.specs.Edges.{AreEdges, Drawn, made, made_by_edge, set_after, working}
use Rattle.version_graph.specs.Evolve.{grown, placed_next, start_of}
use Rattle.version_graph.specs.declared.parts.Edge.{Edge}
use Rattle.version_graph.specs.declared.parts.Heading.{Heading}
use Rattle.version_graph.specs.declared.parts.Placed.{Placed}
use Rattle.version_graph.proofs.NameLaws.{name_is, same_name}
use Rattle.version_graph.proofs.NodeLaws.{tables_or_none}
use Rattle.version_graph.proofs.SetLaws.{each_more, each_of, in_append, in_map, origin}
use Rattle.version_graph.proofs.TableLaws.{in_filter, numbers_made, working_made}
use Rattle.version_graph.proofs.TakenLaws.{found_passes, heading_known}
use Rattle.layout_rules.proofs.ChangeLaws.{filter_in}
use Rattle.layout_rules.proofs.LookupLaws.{any_true}
use Rattle.version_model.specs.States.{State}
use Rattle.version_model.specs.Kept.{rows_at, numbers_in}
use Rattle.version_model.specs.declared.numbered.Numbered.{Numbered}
use Rattle.version_model.proofs.EvolveLaws.{before_grown}
use Rattle.version_model.proofs.GrownLaws.{grown_links}
use Rattle.version_model.proofs.HeadingLaws.{made_more, numbers_within}
use Rattle.db_state.proofs.FieldLaws.{none_at}
use Rattle.db_evolution.specs.Sources.{AreRead, AreSources, first_tables, is_named, is_source}
use Rattle.db_evolution.proofs.AgreeLemmas.{TakesAmong}
use Rattle.db_evolution.proofs.LaidLemmas.{stands_at}

-- ---- tables that were read

module _ (s : State) (numbers : List ℕ) (read : List (Numbered TableState)) (are : AreRead s numbers read) (t : ℕ) where
  pub read_at : In t numbers → rows_at read t ≡ s.tables t
  read_at i =
      let x = stands_at read t (subst (λ (l : List ℕ). In t l) (sym are.numbers) i) in
      ap (λ (o : Option TableState). option_map_or (λ (table : TableState). table.rows) o []) x.value ∙ are.values x.item x.lists ∙ ap s.tables (sym x.number)

  pub read_none : (In t numbers → ⊥) → rows_at read t ≡ []
  read_none none = ap (λ (o : Option TableState). option_map_or (λ (table : TableState). table.rows) o []) (none_at read t (λ i. none (subst (λ (l : List ℕ). In t l) are.numbers i)))

-- a table more was read
pub one_pushed : (s : State) (test : ℕ → Bool) (ts : List ℕ) (t : ℕ) (value : TableState) (read new : List (Numbered TableState)) → AreRead s (filter test ts) read → test t ≡ true → value.rows ≡ s.tables t → new ≡ read ++ record { number = t; value = value } ∷ [] → AreRead s (filter test (ts ++ t ∷ [])) new
one_pushed s test ts t value read new are is rows pushed =
    let item : Numbered TableState = record { number = t; value = value } in
    record {
      numbers = ap (λ (l : List (Numbered TableState)). numbers_in l) pushed ∙ map-append (λ (i : Numbered TableState). i.number) read (item ∷ []) ∙ ap (λ (l : List ℕ). l ++ t ∷ []) are.numbers
          ∙ ap (λ (l : List ℕ). filter test ts ++ l) (sym (cond-true (test t) (t ∷ []) [] is)) ∙ sym (filter-append test ts (t ∷ []));
      values = λ i j. elim (in_append i read (item ∷ []) (subst (λ (l : List (Numbered TableState)). In i l) pushed j)) as (λ _. i.value.rows ≡ s.tables i.number) [
        | inl k ↦ are.values i k
        | inr k ↦ elim k as (λ _. i.value.rows ≡ s.tables i.number) [ inl same ↦ subst (λ (x : Numbered TableState). x.value.rows ≡ s.tables x.number) (sym same) rows | inr none ↦ absurd none ]
      ];
    }

-- the tables of a version live
pub version_live : {O : Type 0} (es : List (Placed O)) (found : Option ℕ) (ts : List ℕ) → Some ts ≡ option_map (λ w. table_numbers (working es w)) found → Each (λ t. In t (table_numbers (made es))) ts
version_live es None ts is = absurd (let clash : Some ts ≡ None = is in cc)
version_live es (Some w) ts is =
    let same : ts ≡ table_numbers (working es w) = cc in
    subst (λ (l : List ℕ). Each (λ t. In t (table_numbers (made es))) l) (sym same)
    (each_of (λ t. In t (table_numbers (made es))) (table_numbers (working es w)) (λ t i.
    let v = origin (λ (u : TableVersion). u.number) t (working es w) i in
    subst (λ (n : ℕ). In n (table_numbers (made es))) (sym v.2) (in_map (λ (u : TableVersion). u.number) v.0 (made es) (working_made es w v.0 v.1))))

-- ---- where a source comes from

first_taken : (set : List TableVersion) (name : List ℕ) (names : List (List ℕ)) (v : TableVersion) (o : Option TableVersion) → table_named set name ≡ o → In v (option_to_list o) → In v set × In v.heading.name (name ∷ names)
first_taken set name names v None is i = absurd i
first_taken set name names v (Some u) is (inl same) =
    let p = found_passes (λ (t : TableVersion). bytes_eq t.heading.name name) set u is in
    (subst (λ (t : TableVersion). In t set) (sym same) p.0, inl (ap (λ (t : TableVersion). t.heading.name) same ∙ same_name u.heading.name name p.1))
first_taken set name names v (Some u) is (inr i) = absurd i

-- a table that is taken by names is there, and has one of the names
named_in : (set : List TableVersion) (names : List (List ℕ)) (v : TableVersion) → In v (taken set names) → In v set × In v.heading.name names
named_in set [] v i = absurd i
named_in set (name ∷ names) v i =
    elim (in_append v (option_to_list (table_named set name)) (taken set names) i) as (λ _. In v set × In v.heading.name (name ∷ names)) [
      | inl j ↦ first_taken set name names v (table_named set name) refl j
      | inr j ↦ (let r = named_in set names v j in (r.0, inr r.1))
    ]

-- a table is of the first working set, or new
abbrev Comes : {O : Type 0} → List (Placed O) → List TableVersion → TableVersion → Type 0
Comes old set v = In v set ⊎ (In v.number (table_numbers (made old)) → ⊥)

-- some edge names a table that is of the first working set or new
pub record IsTaken {O : Type 0} (old : List (Placed O)) (set : List TableVersion) (edges : List (Edge O)) (t : ℕ) : Type 0 where
  pub table : TableVersion
  pub number : t ≡ table.number
  pub comes : Comes old set table
  pub edge : Edge O
  pub lists : In edge edges
  pub names : In table.heading.name edge.sources

module _ {O : Type 0} (old : List (Placed O)) (set : List TableVersion) (whole : List (Edge O)) where
  next_comes : (es : List (Placed O)) (new : Placed O) → AreEdges (new ∷ es) → Within (table_numbers (made old)) (table_numbers (made es)) → ((v : TableVersion) → In v (working es new.parent) → Comes old set v) → (v : TableVersion) → In v (working (new ∷ es) new.number) → Comes old set v
  next_comes es new edges within comes v i =
      let here : In v (set_after (working es new.parent) new) = subst (λ (l : List TableVersion). In v l) (cond-true (new.number == new.number) (set_after (working es new.parent) new) (working es new.number) (eq-eqb new.number new.number refl)) i in
      elim (in_append v (passing (working es new.parent) new.edge.sources) (made_by_edge new) here) as (λ _. Comes old set v) [
        | inl j ↦ comes v (in_filter (λ (u : TableVersion). not (is_among new.edge.sources u.heading)) v (working es new.parent) j)
        | inr j ↦ inr (λ k.
            let own = subst (λ (l : List ℕ). In v.number l) (numbers_made new.tables new.edge.targets edges.0.counted) (in_map (λ (u : TableVersion). u.number) v (made_by_edge new) j) in
            let less = edges.0.above v.number v.number (within v.number k) own in
            omega (arith, less))
      ]

  one_taken : (es : List (Placed O)) (p : ℕ) (e : Edge O) → In e whole → ((v : TableVersion) → In v (working es p) → Comes old set v) → (t : ℕ) → In t (table_numbers (taken (working es p) e.sources)) → IsTaken old set whole t
  one_taken es p e i comes t j =
      let v = origin (λ (u : TableVersion). u.number) t (taken (working es p) e.sources) j in
      let n = named_in (working es p) e.sources v.0 v.1 in
      record { table = v.0; number = v.2; comes = comes v.0 n.0; edge = e; lists = i; names = n.1 }

  -- EACH SOURCE OF A NEW OPERATOR IS NAMED
  pub sources_taken : (es : List (Placed O)) (p o t : ℕ) (edges : List (Edge O)) → AreEdges (grown es p o t edges) → Within (table_numbers (made old)) (table_numbers (made es)) → ((v : TableVersion) → In v (working es p) → Comes old set v) → ((e : Edge O) → In e edges → In e whole) → Each (TakesAmong (IsTaken old set whole)) (grown_links es p o t edges)
  sources_taken es p o t [] all within comes listed = tt
  sources_taken es p o t (e ∷ edges) all within comes listed =
      let new = placed_next p o t e in
      let here = before_grown (new ∷ es) (o + 1) (o + 1) (t + length e.targets) edges all in (
        one_taken es p e (listed e (inl refl)) comes,
        sources_taken (new ∷ es) (o + 1) (o + 1) (t + length e.targets) edges all (λ x i. numbers_within es (new ∷ es) (made_more new es) x (within x i)) (next_comes es new here within comes) (λ d i. listed d (inr i)),
      )

-- ---- the tables that were read for an evolution

module _ {O : Type 0} (g : Drawn O) (all : AreEdges g.edges) (s : State) (alone : (t : ℕ) → (In t (table_numbers (made g.edges)) → ⊥) → s.tables t ≡ []) (from : Option (List ℕ)) (edges : List (Edge O)) (read : List (Numbered TableState)) (sources : AreSources g s from edges read)
    (w : ℕ) (start : start_of g.versions from ≡ Some w) where
  first_of : (o : Option (List ℕ)) → start_of g.versions o ≡ Some w → first_tables g o ≡ table_numbers (working g.edges w)
  first_of None is = let zero_is : 0 ≡ w = cc in tables_or_none g.edges all 0 ∙ ap (λ (n : ℕ). table_numbers (working g.edges n)) zero_is
  first_of (Some name) is = ap (λ (o : Option ℕ). unwrap_or (option_map (λ (n : ℕ). table_numbers (working g.edges n)) o) []) is

  first_is : first_tables g from ≡ table_numbers (working g.edges w)
  first_is = first_of from start

  abbrev test : ℕ → Bool
  test = is_source g.edges edges

  -- the first working set holds live tables alone
  set_live : (t : ℕ) → In t (table_numbers (working g.edges w)) → In t (table_numbers (made g.edges))
  set_live t i =
      let v = origin (λ (u : TableVersion). u.number) t (working g.edges w) i in
      subst (λ (n : ℕ). In n (table_numbers (made g.edges))) (sym v.2) (in_map (λ (u : TableVersion). u.number) v.0 (made g.edges) (working_made g.edges w v.0 v.1))

  -- nothing was read of a new table, and there is nothing of it
  pub new_right : (t : ℕ) → (In t (table_numbers (made g.edges)) → ⊥) → rows_at read t ≡ s.tables t
  new_right t none =
      read_none s (filter test (first_tables g from)) read sources t (λ i. none (set_live t (subst (λ (l : List ℕ). In t l) first_is (in_filter test t (first_tables g from) i))))
      ∙ sym (alone t none)

  named_passes : (v : TableVersion) → In v (working g.edges w) → (e : Edge O) → In e edges → In v.heading.name e.sources → test v.number ≡ true
  named_passes v i e j k =
      ap (λ (o : Option Heading). option_map_or (is_named edges) o false) (heading_known g.edges all v (working_made g.edges w v i))
      ∙ any_true (λ (d : Edge O). is_among d.sources v.heading) edges e j (any_true (bytes_eq v.heading.name) e.sources v.heading.name k (name_is v.heading.name v.heading.name refl))

  -- WHAT NEW OPERATORS TAKE WAS READ
  pub taken_right : (t : ℕ) → IsTaken g.edges (working g.edges w) edges t → rows_at read t ≡ s.tables t
  taken_right t k =
      let v = k.table in
      subst (λ (n : ℕ). rows_at read n ≡ s.tables n) (sym k.number)
      (elim k.comes as (λ _. rows_at read v.number ≡ s.tables v.number) [
        | inl i ↦ read_at s (filter test (first_tables g from)) read sources v.number (filter_in test v.number (first_tables g from) (subst (λ (l : List ℕ). In v.number l) (sym first_is) (in_map (λ (u : TableVersion). u.number) v (working g.edges w) i)) (named_passes v i k.edge k.lists k.names))
        | inr none ↦ new_right v.number none
      ])

  pub all_right : (o t : ℕ) → AreEdges (grown g.edges w o t edges) → Each (TakesAmong (λ n. rows_at read n ≡ s.tables n)) (grown_links g.edges w o t edges)
  all_right o t grows =
      each_more (TakesAmong (IsTaken g.edges (working g.edges w) edges)) (TakesAmong (λ n. rows_at read n ≡ s.tables n)) (λ f takes n i. taken_right n (takes n i)) (grown_links g.edges w o t edges)
      (sources_taken g.edges (working g.edges w) edges g.edges w o t edges grows (λ x i. i) (λ v i. inl i) (λ e i. i))
