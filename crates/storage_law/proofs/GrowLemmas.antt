-- An evolution moves no data.
use Rattle.std.proofs.Common.{◌≡◌, ℕ, ◌+◌, List, [], ◌∷◌, ◌++◌, Bool, true, false, cond, inl, inr, refl, sym, ap, ◌∙◌, subst, map, length, arith}
use Rattle.std.proofs.lemmas.Bool.{cases_eq, false≢true}
use Rattle.std.proofs.lemmas.List.{append-nil}
use Rattle.version_graph.specs.Sets.{In, Within}
use Rattle.version_graph.specs.Edges.{AreEdges, is_in, numbers}
use Rattle.version_graph.specs.Evolve.{placed_next}
use Rattle.version_graph.specs.Forest.{Link, crossing, forest, link}
use Rattle.version_graph.specs.declared.parts.Edge.{Edge}
use Rattle.version_graph.specs.declared.parts.Placed.{Placed}
use Rattle.version_graph.proofs.SetLaws.{each_at, each_of, in_append, in_left, in_of_test, in_right, is_in_true}
use Rattle.version_graph.proofs.WalkLaws.{Fits, IsForest, Of, all_of, is_forest, leaves_front}
use Rattle.op_law.specs.Meaning.{Meaning, PairState}
use Rattle.op_law.specs.Laws.{Laws}
use Rattle.layout_rules.specs.Changes.{creates_next, is_empty}
use Rattle.layout_rules.proofs.ChangeLaws.{joined, no_name, link_number}
use Rattle.layout_rules.specs.Layouts.{IsMade, IsStored}
use Rattle.version_model.specs.States.{State, empty_at, headings}
use Rattle.version_model.specs.Sound.{IsSound}
use Rattle.version_model.specs.Steps.{IsRelated, mapped, pair_in, directed}
use Rattle.version_model.specs.Evolving.{with_link}
use Rattle.version_model.proofs.PutLaws.{put_else, put_one, put_other}
use Rattle.version_model.proofs.RunLaws.{leaves_pair}
use Rattle.version_model.proofs.EvolveLaws.{MayGrow, first_edges, link_sound, rest_may}
use Rattle.storage_law.specs.Storage.{Storage, Stands, StandsOver, aux_of, stored_way}
use Rattle.storage_law.specs.Changes.{with_storage}
use Rattle.storage_law.specs.Laws.{GrownStand}
use Rattle.layout_rules.proofs.LinkLaws.{in_or_out, target_listed}
use Rattle.storage_law.proofs.LinkLaws.{not_in_false, same_test, split, stored_here}
use Rattle.storage_law.proofs.CanonicalLaws.{either_way}
use Rattle.storage_law.proofs.ReadLaws.{put_in}

-- ---- the layout with one operator more

abbrev more_layout : List ℕ → ℕ → Bool → List ℕ
more_layout layout n create = layout ++ cond create (n ∷ []) []

older_in : (layout : List ℕ) (n m : ℕ) (create : Bool) → (m ≡ n → ⊥) → In m (more_layout layout n create) → In m layout
older_in layout n m true other i = elim (in_append m layout (n ∷ []) i) as (λ _. In m layout) [ inl j ↦ j | inr j ↦ elim j as (λ _. In m layout) [ inl same ↦ absurd (other same) | inr none ↦ absurd none ] ]
older_in layout n m false other i = subst (λ (l : List ℕ). In m l) (append-nil layout) i

side_is : (layout : List ℕ) (n : ℕ) (create : Bool) → (In n layout → ⊥) → is_in n (more_layout layout n create) ≡ create
side_is layout n true out = is_in_true n (layout ++ n ∷ []) (in_right n layout (n ∷ []) (inl refl))
side_is layout n false out = not_in_false n (layout ++ []) (λ i. out (subst (λ (l : List ℕ). In n l) (append-nil layout) i))

pub either_of : {O : Type 0} (x : Bool) (es : List (Link O)) (f : Link O) → Of es (crossing false f) → Of es (crossing x f)
either_of false es f o = o
either_of true es f o = record { near = o.far; far = o.near; number = o.number }

-- ---- one operator more

module _ {O : Type 0} (meaning : O → Meaning) (laws : (o : O) → Laws (meaning o)) (es : List (Placed O)) (new : Placed O) (edges : AreEdges (new ∷ es)) (s : State) (sound : IsSound meaning es s)
    (fits : (meaning new.edge.operator).Fits (map (headings (new ∷ es)) (link es new).sources) (map (headings (new ∷ es)) (link es new).targets)) (closed : (meaning new.edge.operator).Closed s.next)
    (storage : Storage) (live : Within storage.layout (numbers es)) (st : Stands meaning es storage s) (create : Bool) (is_create : create ≡ true → (link es new).sources ≡ []) where
  abbrev next : State
  next = with_link meaning s (link es new)

  abbrev now : Storage
  now = with_storage meaning storage next (link es new) create

  fit : Fits (forest es) (link es new)
  fit = (is_forest (new ∷ es) edges).0

  older : IsForest (forest es)
  older = (is_forest (new ∷ es) edges).1

  next_sound : IsSound meaning (new ∷ es) next
  next_sound = link_sound meaning laws es new edges s sound fits closed

  number_new : (n : ℕ) → In n (numbers es) → n ≡ new.number → ⊥
  number_new n i same = let less = edges.0.newest n (inr i) in omega arith

  out_before : In new.number storage.layout → ⊥
  out_before i = number_new new.number (live new.number i) refl

  link_new : (f : Link O) → In f (forest es) → f.number ≡ new.number → ⊥
  link_new f i = number_new f.number (link_number es f i)

  in_before : (f : Link O) → In f (forest es) → In f.number now.layout → In f.number storage.layout
  in_before f i = older_in storage.layout new.number f.number create (link_new f i)

  in_now : (n : ℕ) → In n storage.layout → In n now.layout
  in_now n i = in_left n storage.layout (cond create (new.number ∷ []) []) i

  -- ---- operators

  over_new : StandsOver meaning (headings (new ∷ es)) now next (stored_way now.layout (link es new))
  over_new =
      subst (λ (b : Bool). StandsOver meaning (headings (new ∷ es)) now next (crossing b (link es new))) (sym (side_is storage.layout new.number create out_before))
      (record {
        related = either_way meaning (headings (new ∷ es)) next false create (link es new) next_sound.related.0;
        aux = put_one storage.aux new.number (aux_of meaning next (crossing create (link es new)));
        memory = put_one storage.memory new.number (next.memory new.number);
      })

  over_older : (f : Link O) → In f (forest es) → StandsOver meaning (headings (new ∷ es)) now next (stored_way now.layout f)
  over_older f i =
      let x = is_in f.number storage.layout in
      let p = crossing x f in
      let old = each_at (λ (g : Link O). StandsOver meaning (headings es) storage s (stored_way storage.layout g)) (forest es) f i st.edges in
      let of_p = either_of x (forest es) f (each_at (λ (g : Link O). Of (forest es) (crossing false g)) (forest es) f i (all_of (forest es) older)) in
      let same : pair_in next p ≡ pair_in s p = leaves_pair meaning (empty_at s.next) s p (crossing false (link es new)) (leaves_front (link es new) (forest es) fit p of_p) in
      let side = same_test f.number now.layout storage.layout (in_before f i, in_now f.number) in
      subst (λ (b : Bool). StandsOver meaning (headings (new ∷ es)) now next (crossing b f)) (sym side)
      (record {
        related = either_way meaning (headings (new ∷ es)) next false x f (each_at (λ (g : Link O). IsRelated meaning (headings (new ∷ es)) next (crossing false g)) (forest es) f i next_sound.related.1);
        aux = put_else storage.aux new.number (aux_of meaning next (crossing create (link es new))) f.number (link_new f i) ∙ old.aux ∙ ap (directed x (meaning f.operator)).aux_at_source (sym same);
        memory = put_else storage.memory new.number (next.memory new.number) f.number (link_new f i) ∙ old.memory ∙ ap (λ (q : PairState). q.memory) (sym same);
      })

  -- ---- stored tables

  stored_before : (t : ℕ) → (In t new.tables → ⊥) → IsStored (forest (new ∷ es)) now.layout t → IsStored (forest es) storage.layout t
  stored_before t none k =
      let m = elim (split (λ (y : Link O). y.targets) (link es new) (forest es) now.layout t k.made) as (λ _. IsMade (forest es) now.layout t) [ inl j ↦ absurd (none j.1) | inr j ↦ j ] in
      record {
        made = (m.0, m.1, in_before m.0 m.1 m.2, m.3);
        free = λ j. k.free (j.0, inr j.1, in_now j.0.number j.2, j.3);
      }

  stored_now : (t : ℕ) → IsStored (forest es) storage.layout t → IsStored (forest (new ∷ es)) now.layout t
  stored_now t k = record {
    made = (k.made.0, inr k.made.1, in_now k.made.0.number k.made.2, k.made.3);
    free = λ j. elim (split (λ (y : Link O). y.sources) (link es new) (forest es) now.layout t j) as (λ _. ⊥) [
      | inl i ↦ takes_none create refl i.0 i.1
      | inr i ↦ k.free (i.0, i.1, in_before i.0 i.1 i.2, i.3)
    ];
  }
    where
      takes_none : (b : Bool) → create ≡ b → In new.number now.layout → In t (link es new).sources → ⊥
      takes_none true is a i = subst (λ (l : List ℕ). In t l) (is_create is) i
      takes_none false is a i = false≢true (sym is ∙ sym (side_is storage.layout new.number create out_before) ∙ is_in_true new.number now.layout a)

  next_older : (t : ℕ) → (In t new.tables → ⊥) → next.tables t ≡ s.tables t
  next_older t none = put_other s.tables new.tables (mapped meaning (empty_at s.next) s (crossing false (link es new))).far t none

  -- other tables are stored as before
  now_older : (t : ℕ) → (In t new.tables → ⊥) → now.stored t ≡ storage.stored t
  now_older t none =
      elim create as (λ b. (with_storage meaning storage next (link es new) b).stored t ≡ storage.stored t) [
        | true ↦ put_other storage.stored new.tables (map next.tables new.tables) t none
        | false ↦ refl
      ]

  -- the new tables are stored where the operator is a CREATE TABLE
  now_new : (t : ℕ) → In t new.tables → (b : Bool) → create ≡ b → (IsStored (forest (new ∷ es)) now.layout t → now.stored t ≡ next.tables t) × ((IsStored (forest (new ∷ es)) now.layout t → ⊥) → now.stored t ≡ [])
  now_new t i true is =
      let put_is = ap (λ (b : Bool). (with_storage meaning storage next (link es new) b).stored t) is in
      let there = put_in storage.stored next.tables new.tables t i in
      let at = in_of_test new.number now.layout (side_is storage.layout new.number create out_before ∙ is) in
      ((λ k. put_is ∙ there), (λ none. absurd (none (stored_here (link es new) (forest es) now.layout t fit older at i))))
  now_new t i false is =
      let unmade : IsStored (forest es) storage.layout t → ⊥ = λ k. fit.fresh t i (target_listed (forest es) k.made.0 t k.made.1 k.made.3) in
      let none_before = ap (λ (b : Bool). (with_storage meaning storage next (link es new) b).stored t) is ∙ st.no_more.stored t unmade in (
        (λ k. absurd (elim (split (λ (y : Link O). y.targets) (link es new) (forest es) now.layout t k.made) as (λ _. ⊥) [
          | inl j ↦ false≢true (sym is ∙ sym (side_is storage.layout new.number create out_before) ∙ is_in_true new.number now.layout j.0)
          | inr j ↦ fit.fresh t i (target_listed (forest es) j.0 t j.1 j.3)
        ])),
        (λ none. none_before),
      )

  stored_is : (t : ℕ) → IsStored (forest (new ∷ es)) now.layout t → now.stored t ≡ next.tables t
  stored_is t k =
      elim (in_or_out t new.tables) as (λ _. now.stored t ≡ next.tables t) [
        | inl i ↦ (now_new t i create refl).0 k
        | inr o ↦ now_older t o ∙ st.stored t (stored_before t o k) ∙ sym (next_older t o)
      ]

  stored_none : (t : ℕ) → (IsStored (forest (new ∷ es)) now.layout t → ⊥) → now.stored t ≡ []
  stored_none t none =
      elim (in_or_out t new.tables) as (λ _. now.stored t ≡ []) [
        | inl i ↦ (now_new t i create refl).1 none
        | inr o ↦ now_older t o ∙ st.no_more.stored t (λ k. none (stored_now t k))
      ]

  -- ONE OPERATOR MORE MOVES NO DATA
  pub link_stands : Stands meaning (new ∷ es) now next
  link_stands = record {
    edges = (over_new, each_of (λ (f : Link O). StandsOver meaning (headings (new ∷ es)) now next (stored_way now.layout f)) (forest es) over_older);
    stored = stored_is;
    no_more = record {
      stored = stored_none;
      aux = λ n none. put_else storage.aux new.number (aux_of meaning next (crossing create (link es new))) n (λ same. none (inl same)) ∙ st.no_more.aux n (λ i. none (inr i));
      memories = λ n none. put_else storage.memory new.number (next.memory new.number) n (λ same. none (inl same)) ∙ st.no_more.memories n (λ i. none (inr i));
    };
  }

  -- and its layout has live operators alone
  pub link_live : Within now.layout (numbers (new ∷ es))
  link_live n i = elim (in_or_out n storage.layout) as (λ _. In n (numbers (new ∷ es))) [
    | inl j ↦ inr (live n j)
    | inr o ↦ elim (cases_eq n new.number) as (λ _. In n (numbers (new ∷ es))) [ inl same ↦ inl same | inr other ↦ absurd (o (older_in storage.layout new.number n create other i)) ]
  ]

-- ---- an evolution

module _ {O : Type 0} (meaning : O → Meaning) (laws : (o : O) → Laws (meaning o)) where
  -- AN EVOLUTION MOVES NO DATA
  pub grown_stand : (es : List (Placed O)) (parent operator table : ℕ) (edges : List (Edge O)) (s : State) (n : ℕ) → MayGrow meaning es parent operator table edges s n → (storage : Storage) → Within storage.layout (numbers es) → Stands meaning es storage s
      → GrownStand meaning es parent operator table edges s storage
  grown_stand es parent operator table [] s n may storage live st = record { layout = sym (append-nil storage.layout); stands = st }
  grown_stand es parent operator table (e ∷ edges) s n may storage live st =
      let new = placed_next parent operator table e in
      let next = with_link meaning s (link es new) in
      let here = first_edges meaning laws es parent operator table e edges s n may in
      let closed = (laws e.operator).0.closed_more n s.next may.drawn may.built.1 in
      let create = is_empty e.sources in
      let is_create : create ≡ true → (link es new).sources ≡ [] = no_name es new e.sources refl in
      let grown_once = with_storage meaning storage next (link es new) create in
      let rest = grown_stand (new ∷ es) (operator + 1) (operator + 1) (table + length e.targets) edges next n (rest_may meaning laws es parent operator table e edges s n may) grown_once
      (link_live meaning laws es new here s may.sound may.built.0 closed storage live st create is_create) (link_stands meaning laws es new here s may.sound may.built.0 closed storage live st create is_create) in
      record { layout = rest.layout ∙ joined storage.layout (creates_next (operator + 1) edges) (operator + 1) create; stands = rest.stands }
