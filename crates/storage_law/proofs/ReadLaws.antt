-- Two passes read everything back.
use Rattle.std.specs.Prelude.{◌==◌}
use Rattle.std.proofs.Common.{◌≡◌, ℕ, List, [], ◌∷◌, Bool, true, false, cond, inl, inr, refl, sym, ap, ◌∙◌, subst, map}
use Rattle.std.proofs.lemmas.Bool.{cases_eq, cond-false, cond-true, eq-eqb, ne_eqb}
use Rattle.row_store.specs.Rows.{Rows}
use Rattle.version_graph.specs.Sets.{In, Each}
use Rattle.version_graph.specs.Tables.{table_numbers}
use Rattle.version_graph.specs.Edges.{AreEdges, is_in, made}
use Rattle.version_graph.specs.Forest.{Crossing, Link, crossing, forest}
use Rattle.version_graph.specs.declared.parts.Placed.{Placed}
use Rattle.version_graph.proofs.SetLaws.{each_at, each_of, in_append, in_of_test}
use Rattle.version_graph.proofs.WalkLaws.{Fits, IsForest, is_forest, link_targets, sources_older}
use Rattle.op_law.specs.Tables.{Heading, Tables}
use Rattle.op_law.specs.Meaning.{Meaning}
use Rattle.op_law.specs.Laws.{Laws}
use Rattle.layout_rules.specs.Layouts.{IsMade, IsStored, IsValid}
use Rattle.layout_rules.proofs.ChangeLaws.{number_lives}
use Rattle.version_model.specs.Put.{put}
use Rattle.version_model.specs.States.{State, headings}
use Rattle.version_model.specs.Steps.{IsRelated, pair_in, directed}
use Rattle.version_model.proofs.PutLaws.{map_same, put_other}
use Rattle.version_model.proofs.RunLaws.{way_laws}
use Rattle.version_model.proofs.CrossingLaws.{targets_linked}
use Rattle.storage_law.specs.Storage.{Storage, Stands, StandsOver, stored_way}
use Rattle.storage_law.specs.Laws.{SameOf}
use Rattle.storage_law.specs.Reading.{ReadsSources, far_read, reach, read_all, read_down, read_up}
use Rattle.layout_rules.proofs.LinkLaws.{in_or_out}
use Rattle.storage_law.proofs.LinkLaws.{map_none, not_in_of_false, split, stored_here, stored_more}

-- a function's values are read back where they were put
pub put_in : {A : Type 0} (rows f : ℕ → A) (ks : List ℕ) (t : ℕ) → In t ks → put rows ks (map f ks) t ≡ f t
put_in rows f [] t i = absurd i
put_in rows f (k ∷ ks) t i =
    elim (cases_eq t k) as (λ _. put rows (k ∷ ks) (map f (k ∷ ks)) t ≡ f t) [
      | inl same ↦ cond-true (t == k) (f k) (put rows ks (map f ks) t) (eq-eqb t k same) ∙ ap f (sym same)
      | inr other ↦ cond-false (t == k) (f k) (put rows ks (map f ks) t) (ne_eqb t k other) ∙ put_in rows f ks t (elim i as (λ _. In t ks) [ inl same ↦ absurd (other same) | inr j ↦ j ])
    ]

-- the far side of a crossing can be read from what is stored
pub record IsRead {O : Type 0} (meaning : O → Meaning) (heading : ℕ → Heading) (storage : Storage) (s : State) (p : Crossing O) : Type 0 where
  pub stands : StandsOver meaning heading storage s p
  pub reads : (directed p.backward (meaning p.operator)).reads_target ≡ true

module _ {O : Type 0} (meaning : O → Meaning) (laws : (o : O) → Laws (meaning o)) (heading : ℕ → Heading) (storage : Storage) (s : State) where
  abbrev Right : (ℕ → Rows) → ℕ → Type 0
  Right rows t = rows t ≡ s.tables t

  pub far_right : (p : Crossing O) → IsRead meaning heading storage s p → (rows : ℕ → Rows) → ((t : ℕ) → In t p.near → Right rows t) → far_read meaning storage p rows ≡ map s.tables p.far
  far_right p st rows h =
      let m = directed p.backward (meaning p.operator) in
      let near : map rows p.near ≡ map s.tables p.near = map_same rows s.tables p.near h in
      let back : m.read_target (map s.tables p.near) (m.aux_at_source (pair_in s p)) (s.memory p.number) ≡ map s.tables p.far = (way_laws p.backward (meaning p.operator) (laws p.operator)).recovered (map heading p.near) (map heading p.far) (pair_in s p) st.reads st.stands.related in
      let aux : storage.aux p.number ≡ m.aux_at_source (pair_in s p) = st.stands.aux in
      let memory : storage.memory p.number ≡ s.memory p.number = st.stands.memory in
      cc

  pub still_right : (rows : ℕ → Rows) (ks : List ℕ) (t : ℕ) → Right rows t → Right (put rows ks (map s.tables ks)) t
  still_right rows ks t h = elim (in_or_out t ks) as (λ _. Right (put rows ks (map s.tables ks)) t) [ inl i ↦ put_in rows s.tables ks t i | inr o ↦ put_other rows ks (map s.tables ks) t o ∙ h ]

  -- reading the far side keeps what is right, and makes it right
  reach_right : (p : Crossing O) → IsRead meaning heading storage s p → (rows : ℕ → Rows) → ((t : ℕ) → In t p.near → Right rows t) → (t : ℕ) → (Right rows t → Right (reach meaning storage p rows) t) × (In t p.far → Right (reach meaning storage p rows) t)
  reach_right p st rows h t =
      subst (λ (vs : Tables). (Right rows t → Right (put rows p.far vs) t) × (In t p.far → Right (put rows p.far vs) t)) (sym (far_right p st rows h))
      (still_right rows p.far t, put_in rows s.tables p.far t)

  -- ---- down

  -- what is stored of these operators is right
  abbrev EndsRight : List (Link O) → (ℕ → Rows) → Type 0
  EndsRight es rows = (t : ℕ) → IsStored es storage.layout t → Right rows t

  -- after a pass what was right is, and so is what is made in the layout
  abbrev Passed : List (Link O) → (ℕ → Rows) → (ℕ → Rows) → Type 0
  Passed es rows new = (t : ℕ) → (Right rows t → Right new t) × (IsMade es storage.layout t → Right new t)

  down_one : (e : Link O) (es : List (Link O)) (x : Bool) → is_in e.number storage.layout ≡ x → Fits es e → IsForest es → IsRead meaning heading storage s (crossing x e) → (rows : ℕ → Rows) → EndsRight (e ∷ es) rows
      → ((next : ℕ → Rows) → EndsRight es next → Passed es next (read_down meaning storage es next)) → Passed (e ∷ es) rows (read_down meaning storage es (cond x (reach meaning storage (crossing true e) rows) rows))
  down_one e es true is fit forest st rows ends ih =
      let a = in_of_test e.number storage.layout is in
      let targets : (t : ℕ) → In t e.targets → Right rows t = λ t i. ends t (stored_here e es storage.layout t fit forest a i) in
      let next = reach meaning storage (crossing true e) rows in
      let right = reach_right (crossing true e) st rows targets in
      let older : EndsRight es next = λ t k. elim (in_or_out t e.sources) as (λ _. Right next t) [ inl i ↦ (right t).1 i | inr o ↦ (right t).0 (ends t (stored_more e es storage.layout t k (λ _ i. o i))) ] in
      let rest = ih next older in
      λ t. ((λ h. (rest t).0 ((right t).0 h)), (λ k. elim (split (λ (y : Link O). y.targets) e es storage.layout t k) as (λ _. Right (read_down meaning storage es next) t) [ inl h ↦ (rest t).0 ((right t).0 (targets t h.1)) | inr h ↦ (rest t).1 h ]))
  down_one e es false is fit forest st rows ends ih =
      let older : EndsRight es rows = λ t k. ends t (stored_more e es storage.layout t k (λ a _. not_in_of_false e.number storage.layout is a)) in
      let rest = ih rows older in
      λ t. ((rest t).0, (λ k. elim (split (λ (y : Link O). y.targets) e es storage.layout t k) as (λ _. Right (read_down meaning storage es rows) t) [ inl h ↦ absurd (not_in_of_false e.number storage.layout is h.0) | inr h ↦ (rest t).1 h ]))

  abbrev pub AreRead : List (Link O) → Type 0
  AreRead es = Each (λ e. IsRead meaning heading storage s (stored_way storage.layout e)) es

  down_right : (es : List (Link O)) → IsForest es → AreRead es → (rows : ℕ → Rows) → EndsRight es rows → Passed es rows (read_down meaning storage es rows)
  down_right [] forest st rows ends = λ t. ((λ h. h), (λ k. absurd k.1))
  down_right (e ∷ es) forest st rows ends = down_one e es (is_in e.number storage.layout) refl forest.0 forest.1 st.0 rows ends (λ next. down_right es forest.1 st.1 next)

  -- ---- up

  -- what was right is, and so are all tables of these operators
  abbrev Reached : List (Link O) → (ℕ → Rows) → (ℕ → Rows) → Type 0
  Reached es rows new = (t : ℕ) → (Right rows t → Right new t) × (In t (link_targets es) → Right new t)

  up_one : (e : Link O) (es : List (Link O)) (x : Bool) → is_in e.number storage.layout ≡ x → Fits es e → IsRead meaning heading storage s (crossing x e) → (rows : ℕ → Rows) → ((t : ℕ) → IsMade (e ∷ es) storage.layout t → Right rows t)
      → Reached es rows (read_up meaning storage es rows) → Reached (e ∷ es) rows (cond x (read_up meaning storage es rows) (reach meaning storage (crossing false e) (read_up meaning storage es rows)))
  up_one e es true is fit st rows made_right ih =
      let a = in_of_test e.number storage.layout is in
      λ t. ((ih t).0, (λ i. elim (in_append t e.targets (link_targets es) i) as (λ _. Right (read_up meaning storage es rows) t) [ inl j ↦ (ih t).0 (made_right t (e, inl refl, a, j)) | inr j ↦ (ih t).1 j ]))
  up_one e es false is fit st rows made_right ih =
      let next = read_up meaning storage es rows in
      let right = reach_right (crossing false e) st next (λ n i. (ih n).1 (sources_older es e fit n i)) in
      λ t. ((λ h. (right t).0 ((ih t).0 h)), (λ i. elim (in_append t e.targets (link_targets es) i) as (λ _. Right (reach meaning storage (crossing false e) next) t) [ inl j ↦ (right t).1 j | inr j ↦ (right t).0 ((ih t).1 j) ]))

  up_right : (es : List (Link O)) → IsForest es → AreRead es → (rows : ℕ → Rows) → ((t : ℕ) → IsMade es storage.layout t → Right rows t) → Reached es rows (read_up meaning storage es rows)
  up_right [] forest st rows made_right = λ t. ((λ h. h), (λ i. absurd i))
  up_right (e ∷ es) forest st rows made_right =
      up_one e es (is_in e.number storage.layout) refl forest.0 st.0 rows made_right (up_right es forest.1 st.1 rows (λ t m. made_right t (m.0, inr m.1, m.2, m.3)))

  all_right : (es : List (Link O)) → IsForest es → AreRead es → EndsRight es storage.stored → (t : ℕ) → In t (link_targets es) → read_all meaning storage es t ≡ s.tables t
  all_right es forest st ends t i =
      let down = down_right es forest st storage.stored ends in
      (up_right es forest st (read_down meaning storage es storage.stored) (λ n k. (down n).1 k) t).1 i

-- ---- each operator is stored on a side from which the other one is read

module _ {O : Type 0} (meaning : O → Meaning) (laws : (o : O) → Laws (meaning o)) (reads : ReadsSources meaning) (es : List (Placed O)) (storage : Storage) (valid : IsValid (forest es) storage.layout) (s : State) where
  reads_at : (e : Link O) → In e (forest es) → (x : Bool) → is_in e.number storage.layout ≡ x → IsRelated meaning (headings es) s (crossing x e) → (directed x (meaning e.operator)).reads_target ≡ true
  reads_at e at true is related = reads e.operator
  reads_at e at false is related =
      elim ((laws e.operator).0.readable (map (headings es) e.sources) (map (headings es) e.targets) related.fits) as (λ _. (meaning e.operator).reads_target ≡ true) [
        | inl none ↦ absurd (not_in_of_false e.number storage.layout is (valid.creates e at (map_none (headings es) e.sources none)))
        | inr h ↦ h
      ]

  pub read_at : Stands meaning es storage s → (e : Link O) → In e (forest es) → IsRead meaning (headings es) storage s (stored_way storage.layout e)
  read_at st e at =
      let over = each_at (λ (f : Link O). StandsOver meaning (headings es) storage s (stored_way storage.layout f)) (forest es) e at st.edges in
      record { stands = over; reads = reads_at e at (is_in e.number storage.layout) refl over.related }

  -- WHAT IS READ BACK IS THE STATE
  pub read_back : AreEdges es → Stands meaning es storage s → (t : ℕ) → In t (table_numbers (made es)) → read_all meaning storage (forest es) t ≡ s.tables t
  read_back edges st t i =
      all_right meaning laws (headings es) storage s (forest es) (is_forest es edges)
      (each_of (λ (e : Link O). IsRead meaning (headings es) storage s (stored_way storage.layout e)) (forest es) (read_at st)) st.stored t
      (subst (λ (l : List ℕ). In t l) (sym (targets_linked es edges)) i)

-- so the same parts stand for one state
pub one_state : {O : Type 0} (meaning : O → Meaning) → ((o : O) → Laws (meaning o)) → ReadsSources meaning → (es : List (Placed O)) → AreEdges es → (storage : Storage) → IsValid (forest es) storage.layout → (a b : State)
    → Stands meaning es storage a → Stands meaning es storage b → SameOf es a b
one_state {O} meaning laws reads es edges storage valid a b first second = record {
  tables = λ t i. sym (read_back meaning laws reads es storage valid a edges first t i) ∙ read_back meaning laws reads es storage valid b edges second t i;
  memories = λ n i.
      let l = number_lives es n i in
      let one = (read_at meaning laws reads es storage valid a first l.0 l.1).stands.memory in
      let two = (read_at meaning laws reads es storage valid b second l.0 l.1).stands.memory in
      subst (λ (k : ℕ). a.memory k ≡ b.memory k) (sym l.2) (sym one ∙ two);
}
