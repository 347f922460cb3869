-- A dump is of one database.
use Rattle.std.specs.Prelude.{◌==◌, if◌then◌else◌}
use Rattle.std.specs.List.{find}
use Rattle.std.specs.Option.{option_map_or}
use Rattle.std.proofs.Common.{◌≡◌, ℕ, List, [], ◌∷◌, Bool, true, false, cond, filter, map, Option, Some, option_map, inl, inr, refl, sym, ap, ◌∙◌, subst}
use Rattle.std.proofs.Math.Path.{fun_ext}
use Rattle.std.proofs.lemmas.Bool.{cond-false, cond-true, eqb-true, ne_eqb}
use Rattle.row_store.specs.Rows.{Rows}
use Rattle.row_store.specs.States.{TableState}
use Rattle.id_memory.specs.Pairs.{Pairs}
use Rattle.id_memory.specs.States.{MemoryState}
use Rattle.serde_json.specs.Data.{Data}
use Rattle.version_graph.specs.Edges.{is_in, made}
use Rattle.version_graph.specs.Forest.{forest}
use Rattle.version_graph.specs.Sets.{Distinct, In}
use Rattle.version_graph.specs.Tables.{table_numbers}
use Rattle.version_graph.proofs.SetLaws.{each_at, origin}
use Rattle.op_law.specs.Calls.{tables_of}
use Rattle.op_any.specs.Operators.{AnyView, any_meaning}
use Rattle.version_model.specs.Kept.{pairs_at, rows_at, value_of, auxes_at, numbers_in}
use Rattle.version_model.specs.declared.numbered.Numbered.{Numbered}
use Rattle.version_model.proofs.ToldLaws.{some_is}
use Rattle.storage_law.specs.Reading.{read_all}
use Rattle.db_state.specs.Fields.{IsDatabase, database_for, state_for, storage_in}
use Rattle.db_state.specs.declared.parts.Parts.{Parts}
use Rattle.dump_values.specs.Dumps.{Dump}
use Rattle.dump_graph.specs.Texts.{AreFromTexts}
use Rattle.dump_graph.specs.Laws.{ToldGraphsAreOne}
use Rattle.dump_graph.specs.Told.{graph_told}
use Rattle.dump_file.specs.Laws.{DumpsAreOfOneDatabase, DumpsAreOfOneGraph}
use Rattle.dump_file.specs.Stands.{HasNoOther, Stands}
use Rattle.dump_file.specs.Told.{aux_line, dump_told, has_tables, is_some_table, memory_line, remembers}
use Rattle.dump_file.proofs.ListedLemmas.{numbers_once}

-- ---- look-ups in the lists of a dump

-- what stands under a number: nothing where there is no such line
abbrev look : {V : Type 0} → List (ℕ × List V) → ℕ → List V
look {V} lines n = option_map_or (λ (l : ℕ × List V). l.1) (find (λ (l : ℕ × List V). n == l.0) lines) []

-- lines of values hold what the values do
looked_up : {T V : Type 0} (f : T → List V) (items : List (Numbered T)) (n : ℕ) → option_map_or f (value_of items n) [] ≡ look (map (λ (i : Numbered T). (i.number, f i.value)) items) n
looked_up f [] n = refl
looked_up {T} {V} f (x ∷ xs) n =
    elim (n == x.number) as (λ b.
    option_map_or f (option_map (λ (i : Numbered T). i.value) (cond b (Some x) (find (λ (i : Numbered T). n == i.number) xs))) []
    ≡ option_map_or (λ (l : ℕ × List V). l.1) (cond b (Some (x.number, f x.value)) (find (λ (l : ℕ × List V). n == l.0) (map (λ (i : Numbered T). (i.number, f i.value)) xs))) []) [
      | true ↦ refl
      | false ↦ looked_up f xs n
    ]

-- the number of a line
abbrev number_of : {V : Type 0} → ℕ × List V → ℕ
number_of l = l.0

module _ {V : Type 0} where
  look_first : (l : ℕ × List V) (ls : List (ℕ × List V)) (n : ℕ) → (n == l.0) ≡ true → look (l ∷ ls) n ≡ l.1
  look_first l ls n here = ap (λ (o : Option (ℕ × List V)). option_map_or (λ (k : ℕ × List V). k.1) o []) (cond-true (n == l.0) (Some l) (find (λ (k : ℕ × List V). n == k.0) ls) here)

  look_later : (l : ℕ × List V) (ls : List (ℕ × List V)) (n : ℕ) → (n == l.0) ≡ false → look (l ∷ ls) n ≡ look ls n
  look_later l ls n other = ap (λ (o : Option (ℕ × List V)). option_map_or (λ (k : ℕ × List V). k.1) o []) (cond-false (n == l.0) (Some l) (find (λ (k : ℕ × List V). n == k.0) ls) other)

  unlisted : (ls : List (ℕ × List V)) (n : ℕ) → (In n (map number_of ls) → ⊥) → look ls n ≡ []
  unlisted [] n none = refl
  unlisted (l ∷ ls) n none = look_later l ls n (ne_eqb n l.0 (λ same. none (inl same))) ∙ unlisted ls n (λ i. none (inr i))

  -- lines that hold nothing may be left out
  left_out : (test : ℕ × List V → Bool) (ls : List (ℕ × List V)) → Distinct (map number_of ls) → ((l : ℕ × List V) → In l ls → test l ≡ false → l.1 ≡ []) → (n : ℕ) → look (filter test ls) n ≡ look ls n
  left_out test [] once empty n = refl
  left_out test (l ∷ ls) once empty n = turn (left_out test ls once.1 (λ k i. empty k (inr i)) n) (test l) refl (n == l.0) refl
    where
      turn : look (filter test ls) n ≡ look ls n → (b : Bool) → test l ≡ b → (c : Bool) → (n == l.0) ≡ c → look (filter test (l ∷ ls)) n ≡ look (l ∷ ls) n
      turn rest true kept true here =
          ap (λ (ks : List (ℕ × List V)). look ks n) (cond-true (test l) (l ∷ filter test ls) (filter test ls) kept)
          ∙ look_first l (filter test ls) n here ∙ sym (look_first l ls n here)
      turn rest true kept false other =
          ap (λ (ks : List (ℕ × List V)). look ks n) (cond-true (test l) (l ∷ filter test ls) (filter test ls) kept)
          ∙ look_later l (filter test ls) n other ∙ rest ∙ sym (look_later l ls n other)
      turn rest false out true here =
          ap (λ (ks : List (ℕ × List V)). look ks n) (cond-false (test l) (l ∷ filter test ls) (filter test ls) out)
          ∙ rest ∙ unlisted ls n (λ i. once.0 (subst (λ (k : ℕ). In k (map number_of ls)) (eqb-true n l.0 here) i))
          ∙ sym (empty l (inl refl) out) ∙ sym (look_first l ls n here)
      turn rest false out false other =
          ap (λ (ks : List (ℕ × List V)). look ks n) (cond-false (test l) (l ∷ filter test ls) (filter test ls) out)
          ∙ rest ∙ sym (look_later l ls n other)

  -- lines have the numbers of their values
  numbers_told : {T : Type 0} (f : T → List V) (items : List (Numbered T)) → map number_of (map (λ (i : Numbered T). (i.number, f i.value)) items) ≡ numbers_in items
  numbers_told f [] = refl
  numbers_told {T} f (x ∷ xs) = ap (λ (ns : List ℕ). x.number ∷ ns) (numbers_told f xs)

-- ---- what a dump tells is what is stored

none_told : (ts : List Rows) → is_some_table ts ≡ false → ts ≡ []
none_told [] is = refl
none_told (t ∷ ts) is = absurd (cc)

module _ (p : Parts AnyView) (is : IsDatabase any_meaning p) where
  aux_told_at : (n : ℕ) → look (filter has_tables (map aux_line p.aux)) n ≡ auxes_at p.aux n
  aux_told_at n =
      left_out has_tables (map aux_line p.aux)
      (subst (λ (l : List ℕ). Distinct l) (sym (numbers_told tables_of p.aux ∙ is.auxes)) (numbers_once p.graph.edges is.graph.edges))
      (λ l i out. none_told l.1 out) n
      ∙ sym (looked_up tables_of p.aux n)

  memory_told_at : HasNoOther p.graph.edges p.memories → (n : ℕ) → look (filter (λ (line : ℕ × Pairs). remembers p.graph.edges line.0) (map memory_line p.memories)) n ≡ pairs_at p.memories n
  memory_told_at others n =
      left_out (λ (line : ℕ × Pairs). remembers p.graph.edges line.0) (map memory_line p.memories)
      (subst (λ (l : List ℕ). Distinct l) (sym (numbers_told (λ (m : MemoryState). m.entries) p.memories ∙ is.memories)) (numbers_once p.graph.edges is.graph.edges))
      none n
      ∙ sym (looked_up (λ (m : MemoryState). m.entries) p.memories n)
    where
      none : (l : ℕ × Pairs) → In l (map memory_line p.memories) → remembers p.graph.edges l.0 ≡ false → l.1 ≡ []
      none l i out =
          let o = origin memory_line l p.memories i in
          let forgets = each_at (λ (j : Numbered MemoryState). remembers p.graph.edges j.number ≡ false → j.value.entries ≡ []) p.memories o.0 o.1 others in
          ap (λ (k : ℕ × Pairs). k.1) o.2 ∙ forgets (ap (λ (k : ℕ × Pairs). remembers p.graph.edges k.0) (sym o.2) ∙ out)

-- ---- two databases of which a dump tells

module _ (p q : Parts AnyView) (first : IsDatabase any_meaning p) (second : IsDatabase any_meaning q)
    (others : HasNoOther p.graph.edges p.memories) (others_too : HasNoOther q.graph.edges q.memories)
    (told : dump_told p ≡ dump_told q) (graph : p.graph ≡ q.graph) (limit : p.ids.limit ≡ q.ids.limit) where
  pub same_layout : p.layout.operators ≡ q.layout.operators
  same_layout = ap (λ (d : Dump). d.kept.layout) told

  same_next : p.ids.next ≡ q.ids.next
  same_next = ap (λ (d : Dump). d.kept.next) told

  same_stored : (t : ℕ) → rows_at p.stored t ≡ rows_at q.stored t
  same_stored t =
      looked_up (λ (table : TableState). table.rows) p.stored t ∙ ap (λ (d : Dump). look d.kept.stored t) told
      ∙ sym (looked_up (λ (table : TableState). table.rows) q.stored t)

  same_aux : (n : ℕ) → auxes_at p.aux n ≡ auxes_at q.aux n
  same_aux n = sym (aux_told_at p first n) ∙ ap (λ (d : Dump). look d.kept.auxes n) told ∙ aux_told_at q second n

  same_memory : (n : ℕ) → pairs_at p.memories n ≡ pairs_at q.memories n
  same_memory n = sym (memory_told_at p first others n) ∙ ap (λ (d : Dump). look d.kept.memories n) told ∙ memory_told_at q second others_too n

  same_storage : storage_in p ≡ storage_in q
  same_storage = λ i. record { layout = same_layout i; stored = fun_ext same_stored i; aux = fun_ext same_aux i; memory = fun_ext same_memory i }

  same_state : state_for any_meaning p ≡ state_for any_meaning q
  same_state = λ i. record {
    tables = λ t. if is_in t (table_numbers (made (graph i).edges)) then read_all any_meaning (same_storage i) (forest (graph i).edges) t else [];
    memory = fun_ext same_memory i;
    next = same_next i;
  }

  pub same_database : database_for any_meaning p ≡ database_for any_meaning q
  same_database = λ i. record { graph = graph i; state = same_state i; limit = limit i }

-- what is told of them is the same, and so is their graph
same_told : (d : Data) (p q : Parts AnyView) → Stands d p → Stands d q → dump_told p ≡ dump_told q
same_told d p q first second = some_is (dump_told p) (dump_told q) (sym first.told ∙ second.told)

same_graph : ToldGraphsAreOne → (d : Data) (p q : Parts AnyView) → Stands d p → Stands d q → p.graph ≡ q.graph
same_graph one d p q first second =
    let told = same_told d p q first second in
    let next : q.ids.next ≡ p.ids.next = sym (ap (λ (x : Dump). x.kept.next) told) in
    one p.ids.next (graph_told p.graph) p.graph q.graph
    (record { told = refl; texts = first.texts; names = first.names; finished = first.database.finished })
    (record {
      told = sym (ap (λ (x : Dump). x.graph) told);
      texts = subst (λ (n : ℕ). AreFromTexts n q.graph.edges) next second.texts;
      names = second.names;
      finished = second.database.finished;
    })

pub one_graph : ToldGraphsAreOne → DumpsAreOfOneGraph
one_graph one d p q first second = record {
  graph = same_graph one d p q first second;
  layout = ap (λ (x : Dump). x.kept.layout) (same_told d p q first second);
}

pub one_database : ToldGraphsAreOne → DumpsAreOfOneDatabase
one_database one d p q first second limit =
    let told = same_told d p q first second in
    let graph = same_graph one d p q first second in
    record {
      model = same_database p q first.database second.database first.others second.others told graph limit;
      layout = same_layout p q first.database second.database first.others second.others told graph limit;
    }
