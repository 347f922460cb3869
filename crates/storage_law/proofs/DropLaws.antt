-- A drop moves no data.
use Rattle.std.proofs.Common.{◌≡◌, ℕ, List, [], refl, Bool, false, inl, inr, sym, ap, ◌∙◌, subst, map}
use Rattle.std.proofs.lemmas.Bool.{cond-false, cond-true}
use Rattle.version_graph.specs.Sets.{In}
use Rattle.version_graph.specs.Tables.{table_numbers}
use Rattle.version_graph.specs.Edges.{AreEdges, is_in, made, numbers}
use Rattle.version_graph.specs.Dropped.{staying}
use Rattle.version_graph.specs.Forest.{Link, crossing, forest}
use Rattle.version_graph.specs.declared.parts.Placed.{Placed}
use Rattle.version_graph.proofs.SetLaws.{each_at, each_of, is_in_true}
use Rattle.version_graph.proofs.StayLaws.{edges_stay}
use Rattle.version_graph.proofs.TableLaws.{in_filter}
use Rattle.version_graph.proofs.WalkLaws.{Of, all_of, is_forest}
use Rattle.op_law.specs.Meaning.{Meaning}
use Rattle.layout_rules.specs.Layouts.{IsCreate, IsStored, IsTaken, IsValid}
use Rattle.layout_rules.proofs.ChangeLaws.{filter_in, link_number, number_lives}
use Rattle.version_model.specs.States.{State, headings}
use Rattle.version_model.specs.Sound.{IsSound}
use Rattle.version_model.specs.Steps.{IsRelated, pair_in, directed}
use Rattle.version_model.specs.Dropping.{staying_state}
use Rattle.version_model.specs.Laws.{DropKeeps}
use Rattle.version_model.proofs.PutLaws.{map_same}
use Rattle.version_model.proofs.CrossingLaws.{is_within, targets_linked}
use Rattle.version_model.proofs.DropLaws.{drop_keeps, fewer_links}
use Rattle.version_model.proofs.HeadingLaws.{in_or_not}
use Rattle.storage_law.specs.Storage.{Storage, Stands, StandsOver, stored_way}
use Rattle.storage_law.specs.Changes.{GoFromSources, LeavesTo, staying_storage}
use Rattle.layout_rules.proofs.LinkLaws.{in_or_out, same_link, same_maker, source_made, target_link, target_listed}
use Rattle.storage_law.proofs.LinkLaws.{not_in_false, same_test}
use Rattle.storage_law.proofs.CanonicalLaws.{either_way}
use Rattle.storage_law.proofs.GrowLemmas.{either_of}

module _ {O : Type 0} (meaning : O → Meaning) (es : List (Placed O)) (needed : List ℕ) (s : State) (edges : AreEdges es) (sound : IsSound meaning es s) (storage : Storage) (go : GoFromSources es (staying needed es) storage.layout) (st : Stands meaning es storage s) where
  abbrev left : List (Placed O)
  left = staying needed es

  abbrev now : Storage
  now = staying_storage left storage

  abbrev next : State
  next = staying_state left s

  left_edges : AreEdges left
  left_edges = edges_stay es needed edges

  keeps : DropKeeps meaning es needed s
  keeps = drop_keeps meaning es needed s edges sound

  was : (n : ℕ) → In n now.layout → In n storage.layout
  was n i = in_filter (λ n. is_in n (numbers left)) n storage.layout i

  in_now : (f : Link O) → In f (forest left) → In f.number storage.layout → In f.number now.layout
  in_now f i a = filter_in (λ n. is_in n (numbers left)) f.number storage.layout a (is_in_true f.number (numbers left) (link_number left f i))

  -- ---- operators

  over_left : (f : Link O) → In f (forest left) → StandsOver meaning (headings left) now next (stored_way now.layout f)
  over_left f i =
      let x = is_in f.number storage.layout in
      let p = crossing x f in
      let old = each_at (λ (g : Link O). StandsOver meaning (headings es) storage s (stored_way storage.layout g)) (forest es) f (fewer_links es needed f i) st.edges in
      let within = is_within left left_edges p (either_of x (forest left) f (each_at (λ (g : Link O). Of (forest left) (crossing false g)) (forest left) f i (all_of (forest left) (is_forest left left_edges)))) in
      let near : map next.tables p.near ≡ map s.tables p.near = map_same next.tables s.tables p.near (λ t j. keeps.tables t (within.near t j)) in
      let far : map next.tables p.far ≡ map s.tables p.far = map_same next.tables s.tables p.far (λ t j. keeps.tables t (within.far t j)) in
      let memory : next.memory f.number ≡ s.memory f.number = keeps.memories f.number within.number in
      let pair : pair_in next p ≡ pair_in s p = cc in
      let here = is_in_true f.number (numbers left) (link_number left f i) in
      let side = same_test f.number now.layout storage.layout (was f.number, in_now f i) in
      subst (λ (b : Bool). StandsOver meaning (headings left) now next (crossing b f)) (sym side)
      (record {
        related = either_way meaning (headings left) next false x f (each_at (λ (g : Link O). IsRelated meaning (headings left) next (crossing false g)) (forest left) f i keeps.sound.related);
        aux = cond-true (is_in f.number (numbers left)) (storage.aux f.number) [] here ∙ old.aux ∙ ap (directed x (meaning f.operator)).aux_at_source (sym pair);
        memory = cond-true (is_in f.number (numbers left)) (storage.memory f.number) [] here ∙ old.memory ∙ sym memory;
      })

  -- ---- stored tables

  -- who takes a table of what stays stays, or is no operator of the layout
  taker_stays : (t : ℕ) → IsTaken (forest es) storage.layout t → IsTaken (forest left) now.layout t
  taker_stays t j =
      elim (in_or_out j.0.number (numbers left)) as (λ _. IsTaken (forest left) now.layout t) [
        | inl i ↦
            let g = number_lives left j.0.number i in
            let same = same_link (forest es) g.0 j.0 (is_forest es edges) (fewer_links es needed g.0 g.1) j.1 (sym g.2) in
            (g.0, g.1, in_now g.0 g.1 (subst (λ (y : Link O). In y.number storage.layout) (sym same) j.2), subst (λ (y : Link O). In t y.sources) (sym same) j.3)
        | inr out ↦ absurd (subst (λ (l : List ℕ). In t l) (go j.0 j.1 j.2 out) j.3)
      ]

  pub stored_before : (t : ℕ) → IsStored (forest left) now.layout t → IsStored (forest es) storage.layout t
  stored_before t k = record {
    made = (k.made.0, fewer_links es needed k.made.0 k.made.1, was k.made.0.number k.made.2, k.made.3);
    free = λ j. k.free (taker_stays t j);
  }

  pub stored_now : (t : ℕ) → In t (table_numbers (made left)) → IsStored (forest es) storage.layout t → IsStored (forest left) now.layout t
  stored_now t i k =
      let g = target_link (forest left) t (subst (λ (l : List ℕ). In t l) (sym (targets_linked left left_edges)) i) in
      let same = same_maker (forest es) g.0 k.made.0 t (is_forest es edges) (fewer_links es needed g.0 g.1) k.made.1 g.2 k.made.3 in
      record {
        made = (g.0, g.1, in_now g.0 g.1 (subst (λ (y : Link O). In y.number storage.layout) (sym same) k.made.2), g.2);
        free = λ j. k.free (j.0, fewer_links es needed j.0 j.1, was j.0.number j.2, j.3);
      }

  stored_is : (t : ℕ) → IsStored (forest left) now.layout t → now.stored t ≡ next.tables t
  stored_is t k =
      let i = subst (λ (l : List ℕ). In t l) (targets_linked left left_edges) (target_listed (forest left) k.made.0 t k.made.1 k.made.3) in
      cond-true (is_in t (table_numbers (made left))) (storage.stored t) [] (is_in_true t (table_numbers (made left)) i) ∙ st.stored t (stored_before t k) ∙ sym (keeps.tables t i)

  stored_none : (t : ℕ) → (IsStored (forest left) now.layout t → ⊥) → now.stored t ≡ []
  stored_none t none =
      in_or_not t (table_numbers (made left)) (now.stored t ≡ [])
      (λ i. cond-true (is_in t (table_numbers (made left))) (storage.stored t) [] (is_in_true t (table_numbers (made left)) i) ∙ st.no_more.stored t (λ k. none (stored_now t i k)))
      (λ out. cond-false (is_in t (table_numbers (made left))) (storage.stored t) [] (not_in_false t (table_numbers (made left)) out))

  -- A DROP MOVES NO DATA
  pub drop_stands : Stands meaning left now next
  drop_stands = record {
    edges = each_of (λ (f : Link O). StandsOver meaning (headings left) now next (stored_way now.layout f)) (forest left) over_left;
    stored = stored_is;
    no_more = record {
      stored = stored_none;
      aux = λ n none. cond-false (is_in n (numbers left)) (storage.aux n) [] (not_in_false n (numbers left) none);
      memories = λ n none. cond-false (is_in n (numbers left)) (storage.memory n) [] (not_in_false n (numbers left) none);
    };
  }

-- ---- before a drop

module _ {O : Type 0} (es : List (Placed O)) (needed : List ℕ) (edges : AreEdges es) (layout new : List ℕ) (valid : IsValid (forest es) layout) (leaves : LeavesTo es (staying needed es) layout new) where
  goes : GoFromSources es (staying needed es) new
  goes e i a out = ((leaves e.number).0 a).1 e i refl out

  -- who made a source table of what is left in the layout is left in it
  maker_left : (e m : Link O) (t : ℕ) → In e (forest es) → In e.number new → In t e.sources → In m (forest es) → In t m.targets → In m.number (numbers (staying needed es))
  maker_left e m t i a b j k =
      elim (in_or_out e.number (numbers (staying needed es))) as (λ _. In m.number (numbers (staying needed es))) [
        | inl n ↦
            let left = staying needed es in
            let links = is_forest left (edges_stay es needed edges) in
            let g = number_lives left e.number n in
            let same = same_link (forest es) e g.0 (is_forest es edges) i (fewer_links es needed g.0 g.1) g.2 in
            let h = target_link (forest left) t (source_made (forest left) g.0 t links g.1 (subst (λ (y : Link O). In t y.sources) same b)) in
            subst (λ (y : Link O). In y.number (numbers left)) (same_maker (forest es) h.0 m t (is_forest es edges) (fewer_links es needed h.0 h.1) j h.2 k) (link_number left h.0 h.1)
        | inr out ↦ absurd (subst (λ (l : List ℕ). In t l) (goes e i a out) b)
      ]

  -- OPERATORS THAT ARE DROPPED CAN GO TO THEIR SOURCE SIDE
  pub leaving_valid : IsValid (forest es) new × GoFromSources es (staying needed es) new
  leaving_valid = (
    record {
      live = λ n i. valid.live n ((leaves n).0 i).0;
      creates = λ e i none. (leaves e.number).1 (valid.creates e i none, (λ f j same out. subst (λ (y : Link O). IsCreate y) (same_link (forest es) e f (is_forest es edges) i j same) none));
      makers = λ e i a t b.
          let m = valid.makers e i ((leaves e.number).0 a).0 t b in
          (m.0, m.1, (leaves m.0.number).1 (m.2, (λ f j same out. absurd (out (maker_left e m.0 t i a b m.1 m.3)))), m.3);
      once = λ e f i j a b share. valid.once e f i j ((leaves e.number).0 a).0 ((leaves f.number).0 b).0 share;
    },
    goes,
  )
