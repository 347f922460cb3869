-- Fields that store a sound state are a database, and stand for that state.
use Rattle.std.specs.Prelude.{◌↔◌}
use Rattle.std.specs.List.{find}
use Rattle.std.specs.Option.{option_map_or}
use Rattle.std.proofs.Common.{◌≡◌, ℕ, ◌==◌, List, [], ◌∷◌, false, Option, Some, None, option_map, inl, inr, refl, sym, ap, ◌∙◌, subst}
use Rattle.std.proofs.Math.Path.{fun_ext}
use Rattle.std.proofs.lemmas.Bool.{cond-false, cond-true, ne_eqb}
use mathlib.Core.List.{reverse}
use Rattle.version_graph.specs.Sets.{In, Each}
use Rattle.version_graph.specs.Tables.{table_numbers}
use Rattle.version_graph.specs.Edges.{IsGraph, Rises, is_in, made, numbers}
use Rattle.version_graph.specs.Finished.{IsFinished}
use Rattle.version_graph.specs.Forest.{Link, crossing, forest}
use Rattle.version_graph.specs.declared.parts.Placed.{Placed}
use Rattle.version_graph.proofs.SetLaws.{each_at, each_of, is_in_true}
use Rattle.op_law.specs.Calls.{tables_of}
use Rattle.op_law.specs.Laws.{Laws}
use Rattle.op_law.specs.Meaning.{Meaning}
use Rattle.layout_rules.specs.Layouts.{IsStored, IsValid}
use Rattle.layout_rules.proofs.ChangeLaws.{number_lives}
use Rattle.version_model.specs.Kept.{HasSides, pairs_at, rows_at, value_of, auxes_at, numbers_in}
use Rattle.version_model.specs.Sound.{IsSound}
use Rattle.version_model.specs.States.{State, headings}
use Rattle.version_model.specs.Steps.{IsRelated}
use Rattle.version_model.specs.declared.numbered.Numbered.{Numbered}
use Rattle.version_model.proofs.HeadingLaws.{in_or_not}
use Rattle.version_model.proofs.ProgressLaws.{state_is as same_state}
use Rattle.storage_law.specs.Storage.{Stands, StandsOver, aux_of, stored_way}
use Rattle.storage_law.specs.Reading.{ReadsSources, read_all}
use Rattle.storage_law.proofs.CanonicalLaws.{either_way}
use Rattle.storage_law.proofs.LinkLaws.{not_in_false}
use Rattle.storage_law.proofs.ReadLaws.{read_back}
use Rattle.db_state.specs.Fields.{IsDatabase, state_for, storage_in}
use Rattle.db_state.specs.declared.parts.Parts.{Parts}

-- nothing stands under a number that isn't listed
pub none_at : {T : Type 0} (items : List (Numbered T)) (n : ℕ) → (In n (numbers_in items) → ⊥) → value_of items n ≡ None
none_at [] n none = refl
none_at {T} (x ∷ xs) n none =
    ap (λ (o : Option (Numbered T)). option_map (λ (i : Numbered T). i.value) o) (cond-false (n == x.number) (Some x) (find (λ (i : Numbered T). n == i.number) xs) (ne_eqb n x.number (λ same. none (inl same))))
    ∙ none_at xs n (λ i. none (inr i))

-- the fields store this state: what each list holds, and for which numbers
pub record Store {O : Type 0} (meaning : O → Meaning) (p : Parts O) (s : State) : Type 0 where
  pub tables : (t : ℕ) → In t (numbers_in p.stored) ↔ IsStored (forest p.graph.edges) p.layout.operators t
  pub rows : (t : ℕ) → IsStored (forest p.graph.edges) p.layout.operators t → rows_at p.stored t ≡ s.tables t
  pub auxes : (n : ℕ) → In n (numbers_in p.aux) → In n (numbers p.graph.edges)
  pub aux : (e : Link O) → In e (forest p.graph.edges) → auxes_at p.aux e.number ≡ aux_of meaning s (stored_way p.layout.operators e)
  pub memories : (n : ℕ) → In n (numbers_in p.memories) → In n (numbers p.graph.edges)
  pub memory : (e : Link O) → In e (forest p.graph.edges) → pairs_at p.memories e.number ≡ s.memory e.number
  pub next : p.ids.next ≡ s.next

module _ {O : Type 0} (meaning : O → Meaning) (p : Parts O) (s : State) (sound : IsSound meaning p.graph.edges s) (store : Store meaning p s) where
  -- they stand for it
  pub they_stand : Stands meaning p.graph.edges (storage_in p) s
  they_stand = record {
    edges = each_of (λ (e : Link O). StandsOver meaning (headings p.graph.edges) (storage_in p) s (stored_way p.layout.operators e)) (forest p.graph.edges) (λ e i. record {
      related = either_way meaning (headings p.graph.edges) s false (is_in e.number p.layout.operators) e (each_at (λ (f : Link O). IsRelated meaning (headings p.graph.edges) s (crossing false f)) (forest p.graph.edges) e i sound.related);
      aux = store.aux e i;
      memory = store.memory e i;
    });
    stored = store.rows;
    no_more = record {
      stored = λ t none. ap (λ o. option_map_or (λ x. x.rows) o []) (none_at p.stored t (λ i. none ((store.tables t).0 i)));
      aux = λ n none. ap (λ o. option_map_or tables_of o []) (none_at p.aux n (λ i. none (store.auxes n i)));
      memories = λ n none. ap (λ o. option_map_or (λ x. x.entries) o []) (none_at p.memories n (λ i. none (store.memories n i)));
    };
  }

-- fields that stand for a sound state have no other one
module _ {O : Type 0} (meaning : O → Meaning) (laws : (o : O) → Laws (meaning o)) (reads : ReadsSources meaning) (p : Parts O) (s : State)
    (graph : IsGraph p.graph) (valid : IsValid (forest p.graph.edges) p.layout.operators) (sound : IsSound meaning p.graph.edges s) (stands : Stands meaning p.graph.edges (storage_in p) s) (next : p.ids.next ≡ s.next) where
  abbrev es : List (Placed O)
  es = p.graph.edges

  tables_same : (t : ℕ) → (state_for meaning p).tables t ≡ s.tables t
  tables_same t =
      in_or_not t (table_numbers (made es)) ((state_for meaning p).tables t ≡ s.tables t)
      (λ i. cond-true (is_in t (table_numbers (made es))) (read_all meaning (storage_in p) (forest es) t) [] (is_in_true t (table_numbers (made es)) i) ∙ read_back meaning laws reads es (storage_in p) valid s graph.edges stands t i)
      (λ none. cond-false (is_in t (table_numbers (made es))) (read_all meaning (storage_in p) (forest es) t) [] (not_in_false t (table_numbers (made es)) none) ∙ sym (sound.alone.tables t none))

  memory_same : (n : ℕ) → pairs_at p.memories n ≡ s.memory n
  memory_same n =
      in_or_not n (numbers es) (pairs_at p.memories n ≡ s.memory n)
      (λ i.
      let l = number_lives es n i in
      let over = each_at (λ (f : Link O). StandsOver meaning (headings es) (storage_in p) s (stored_way p.layout.operators f)) (forest es) l.0 l.1 stands.edges in
      subst (λ (k : ℕ). pairs_at p.memories k ≡ s.memory k) (sym l.2) over.memory)
      (λ none. stands.no_more.memories n none ∙ sym (sound.alone.memories n none))

  pub state_is : state_for meaning p ≡ s
  state_is = same_state _ _ _ _ _ _ (fun_ext tables_same) (fun_ext memory_same) next

-- what else is asked of fields
pub record IsShaped {O : Type 0} (p : Parts O) : Type 0 where
  pub graph : IsGraph p.graph
  pub finished : IsFinished p.graph
  pub sides : Each HasSides (forest p.graph.edges)
  pub valid : IsValid (forest p.graph.edges) p.layout.operators
  pub ascending : Rises 0 p.layout.operators
  pub tables_ascending : Rises 0 (numbers_in p.stored)
  pub auxes : numbers_in p.aux ≡ reverse (numbers p.graph.edges)
  pub memories : numbers_in p.memories ≡ reverse (numbers p.graph.edges)

-- THE WAY TO MAKE A DATABASE: fields that store a sound state are one, and that state is theirs
pub is_database : {O : Type 0} (meaning : O → Meaning) → ((o : O) → Laws (meaning o)) → ReadsSources meaning → (p : Parts O) (s : State) → IsShaped p → IsSound meaning p.graph.edges s → Store meaning p s → IsDatabase meaning p × (state_for meaning p ≡ s)
is_database {O} meaning laws reads p s shaped sound store =
    let stands = they_stand meaning p s sound store in
    let is = state_is meaning laws reads p s shaped.graph shaped.valid sound stands store.next in (
      record {
        reads = reads;
        graph = shaped.graph;
        finished = shaped.finished;
        sides = shaped.sides;
        valid = shaped.valid;
        ascending = shaped.ascending;
        tables = store.tables;
        tables_ascending = shaped.tables_ascending;
        auxes = shaped.auxes;
        memories = shaped.memories;
        stands = subst (λ (x : State). Stands meaning p.graph.edges (storage_in p) x) (sym is) stands;
        sound = subst (λ (x : State). IsSound meaning p.graph.edges x) (sym is) sound;
      },
      is,
    )
