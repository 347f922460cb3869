-- A flip into a valid layout leaves the state.
use Rattle.std.specs.Prelude.{◌↔◌}
use Rattle.std.proofs.Common.{◌≡◌, ℕ, zero, suc, List, [], Bool, true, false, not, inl, inr, refl, sym, ap, ◌∙◌, subst, map}
use Rattle.std.proofs.lemmas.Bool.{cases_eq}
use Rattle.version_graph.specs.Sets.{In}
use Rattle.version_graph.specs.Edges.{AreEdges, is_in, numbers}
use Rattle.version_graph.specs.Forest.{Crossing, Link, crossing, forest}
use Rattle.version_graph.specs.declared.parts.Placed.{Placed}
use Rattle.version_graph.proofs.SetLaws.{each_at, each_of, is_in_true}
use Rattle.version_graph.proofs.WalkLaws.{IsForest, is_forest}
use Rattle.op_law.specs.Tables.{Tables}
use Rattle.op_law.specs.Meaning.{Meaning, PairState}
use Rattle.op_law.specs.Laws.{Laws}
use Rattle.layout_rules.specs.Layouts.{IsMade, IsStored, IsValid}
use Rattle.layout_rules.proofs.ChangeLaws.{link_number}
use Rattle.layout_rules.specs.Laws.{MovesStayValid}
use Rattle.layout_rules.specs.Moves.{Flips, PutsIn, TakesOut}
use Rattle.version_model.specs.Put.{put}
use Rattle.version_model.specs.States.{State, headings}
use Rattle.version_model.specs.Steps.{pair_in, directed}
use Rattle.version_model.proofs.PutLaws.{map_same, put_else, put_one, put_other}
use Rattle.storage_law.specs.Storage.{Storage, Stands, StandsOver, aux_of, stored_way}
use Rattle.storage_law.specs.Reading.{ReadsSources, far_read}
use Rattle.storage_law.specs.Flips.{MovesStorage, Turns, flipped, none_for, pair_read}
use Rattle.layout_rules.proofs.LinkLaws.{in_or_out, same_link, same_maker}
use Rattle.storage_law.proofs.LinkLaws.{apart_at, not_in_false, same_test}
use Rattle.storage_law.proofs.ReadLaws.{IsRead, far_right, put_in, read_at}
use Rattle.storage_law.proofs.CanonicalLaws.{either_way}

-- ---- layouts that differ at one operator

pub turned_back : (n : ℕ) (layout new : List ℕ) → Turns n layout new → Turns n new layout
turned_back n layout new (inl t) = inr (t.1.gone, record { there = t.0; others = λ m other. let o = t.1.others m other in (o.1, o.0) })
turned_back n layout new (inr t) = inl (t.1.there, record { gone = t.0; others = λ m other. let o = t.1.others m other in (o.1, o.0) })

others_stay : (n : ℕ) (layout new : List ℕ) → Turns n layout new → (m : ℕ) → (m ≡ n → ⊥) → In m new ↔ In m layout
others_stay n layout new (inl t) = t.1.others
others_stay n layout new (inr t) = t.1.others

pub side_turned : (n : ℕ) (layout new : List ℕ) → Turns n layout new → is_in n new ≡ not (is_in n layout)
side_turned n layout new (inl t) = not_in_false n new t.1.gone ∙ ap not (sym (is_in_true n layout t.0))
side_turned n layout new (inr t) = is_in_true n new t.1.there ∙ ap not (sym (not_in_false n layout t.0))

module _ {O : Type 0} (es : List (Link O)) (links : IsForest es) (e : Link O) (at : In e es) (layout new : List ℕ) (valid_new : IsValid es new) where
  -- an operator of the number is this one
  is_it : (f : Link O) → In f es → f.number ≡ e.number → (P : Link O → Type 0) → P f → P e
  is_it f i same P h = subst P (same_link es f e links i at same) h

  -- its targets are stored where it leaves the layout
  targets_stored : In e.number layout → TakesOut e.number layout new → (t : ℕ) → In t e.targets → IsStored es layout t
  targets_stored has out t i = record {
    made = (e, at, has, i);
    free = λ k. elim (cases_eq k.0.number e.number) as (λ _. ⊥) [
      | inl same ↦ apart_at es e t links at i (is_it k.0 k.1 same (λ (y : Link O). In t y.sources) k.3)
      | inr other ↦
          let m = valid_new.makers k.0 k.1 ((out.others k.0.number other).1 k.2) t k.3 in
          out.gone (subst (λ (y : Link O). In y.number new) (same_maker es m.0 e t links m.1 at m.3 i) m.2)
    ];
  }

  -- its sources are stored where it comes into the layout
  sources_stored : (In e.number layout → ⊥) → PutsIn e.number layout new → (t : ℕ) → In t e.sources → IsStored es layout t
  sources_stored lacks comes t i =
      let m = valid_new.makers e at comes.there t i in
      record {
        made = elim (cases_eq m.0.number e.number) as (λ _. IsMade es layout t) [
          | inl same ↦ absurd (apart_at es e t links at (is_it m.0 m.1 same (λ (y : Link O). In t y.targets) m.3) i)
          | inr other ↦ (m.0, m.1, (comes.others m.0.number other).0 m.2, m.3)
        ];
        free = λ k. elim (cases_eq k.0.number e.number) as (λ _. ⊥) [
          | inl same ↦ lacks (subst (λ (n : ℕ). In n layout) same k.2)
          | inr other ↦ other (valid_new.once k.0 e k.1 at ((comes.others k.0.number other).1 k.2) comes.there (t, k.3, i))
        ];
      }

  near_side : (turns : Turns e.number layout new) (t : ℕ) → In t (stored_way layout e).near → IsStored es layout t
  near_side (inl turns) t i = targets_stored turns.0 turns.1 t (subst (λ (b : Bool). In t (crossing b e).near) (is_in_true e.number layout turns.0) i)
  near_side (inr turns) t i = sources_stored turns.0 turns.1 t (subst (λ (b : Bool). In t (crossing b e).near) (not_in_false e.number layout turns.0) i)

  -- what is stored after was stored before, unless this operator made or takes it
  kept : ((m : ℕ) → (m ≡ e.number → ⊥) → In m new ↔ In m layout) → (t : ℕ) → IsStored es new t → (In e.number new → In t e.targets → ⊥) → (In e.number layout → In t e.sources → ⊥) → IsStored es layout t
  kept others t k unmade spares = record {
    made = elim (cases_eq k.made.0.number e.number) as (λ _. IsMade es layout t) [
      | inl same ↦ absurd (unmade (subst (λ (n : ℕ). In n new) same k.made.2) (is_it k.made.0 k.made.1 same (λ (y : Link O). In t y.targets) k.made.3))
      | inr other ↦ (k.made.0, k.made.1, (others k.made.0.number other).0 k.made.2, k.made.3)
    ];
    free = λ j. elim (cases_eq j.0.number e.number) as (λ _. ⊥) [
      | inl same ↦ spares (subst (λ (n : ℕ). In n layout) same j.2) (is_it j.0 j.1 same (λ (y : Link O). In t y.sources) j.3)
      | inr other ↦ k.free (j.0, j.1, (others j.0.number other).1 j.2, j.3)
    ];
  }

  -- so all but the far side was
  still_side : (turns : Turns e.number layout new) (t : ℕ) → IsStored es new t → (In t (stored_way layout e).far → ⊥) → IsStored es layout t
  still_side (inl turns) t k none = kept turns.1.others t k (λ a _. turns.1.gone a) (λ _ i. none (subst (λ (b : Bool). In t (crossing b e).far) (sym (is_in_true e.number layout turns.0)) i))
  still_side (inr turns) t k none = kept turns.1.others t k (λ _ i. none (subst (λ (b : Bool). In t (crossing b e).far) (sym (not_in_false e.number layout turns.0)) i)) (λ a _. turns.0 a)

-- ---- sides

other_near : {O : Type 0} (x : Bool) (e : Link O) → (crossing (not x) e).near ≡ (crossing x e).far
other_near false e = refl
other_near true e = refl

other_far : {O : Type 0} (x : Bool) (e : Link O) → (crossing (not x) e).far ≡ (crossing x e).near
other_far false e = refl
other_far true e = refl

-- the auxiliary tables of the far side are those of the other way's near side
other_aux : {O : Type 0} (meaning : O → Meaning) (s : State) (x : Bool) (e : Link O) → (directed x (meaning e.operator)).aux_at_target (pair_in s (crossing x e)) ≡ aux_of meaning s (crossing (not x) e)
other_aux meaning s false e = refl
other_aux meaning s true e = refl

-- ---- the parts

module _ {O : Type 0} (meaning : O → Meaning) (laws : (o : O) → Laws (meaning o)) (reads : ReadsSources meaning) (es : List (Placed O)) (edges : AreEdges es) (storage : Storage) (valid : IsValid (forest es) storage.layout)
    (e : Link O) (at : In e (forest es)) (new : List ℕ) (turns : Turns e.number storage.layout new) (valid_new : IsValid (forest es) new) (s : State) (st : Stands meaning es storage s) where
  abbrev x : Bool
  x = is_in e.number storage.layout

  abbrev here : Crossing O
  here = crossing x e

  abbrev after : Storage
  after = flipped meaning storage e new

  links : IsForest (forest es)
  links = is_forest es edges

  over_here : IsRead meaning (headings es) storage s here
  over_here = read_at meaning laws reads es storage valid s st e at

  near_right : (t : ℕ) → In t here.near → storage.stored t ≡ s.tables t
  near_right t i = st.stored t (near_side (forest es) links e at storage.layout new valid_new turns t i)

  near_is : map storage.stored here.near ≡ map s.tables here.near
  near_is = map_same storage.stored s.tables here.near near_right

  far_is : far_read meaning storage here storage.stored ≡ map s.tables here.far
  far_is = far_right meaning laws (headings es) storage s here over_here storage.stored near_right

  pair_is : pair_read meaning storage e ≡ pair_in s here
  pair_is =
      let near = near_is in
      let far = far_is in
      let memory : storage.memory e.number ≡ s.memory e.number = over_here.stands.memory in
      cc

  aux_is : after.aux e.number ≡ aux_of meaning s (crossing (not x) e)
  aux_is =
      put_one storage.aux e.number ((directed x (meaning e.operator)).aux_at_target (pair_read meaning storage e))
      ∙ ap (λ (p : PairState). (directed x (meaning e.operator)).aux_at_target p) pair_is ∙ other_aux meaning s x e

  -- ---- stored tables

  far_put : (t : ℕ) → In t here.far → after.stored t ≡ s.tables t
  far_put t i =
      let before = put storage.stored here.near (none_for here.near) in
      ap (λ (vs : Tables). put before here.far vs t) far_is ∙ put_in before s.tables here.far t i

  -- the near side isn't stored after
  near_gone : Turns e.number storage.layout new → (t : ℕ) → In t here.near → IsStored (forest es) new t → ⊥
  near_gone (inl out) t i k =
      let mine = subst (λ (b : Bool). In t (crossing b e).near) (is_in_true e.number storage.layout out.0) i in
      out.1.gone (subst (λ (y : Link O). In y.number new) (same_maker (forest es) k.made.0 e t links k.made.1 at k.made.3 mine) k.made.2)
  near_gone (inr comes) t i k = k.free (e, at, comes.1.there, subst (λ (b : Bool). In t (crossing b e).near) (not_in_false e.number storage.layout comes.0) i)

  away : (t : ℕ) → (In t here.far → ⊥) → (In t here.near → ⊥) → after.stored t ≡ storage.stored t
  away t far near = put_other (put storage.stored here.near (none_for here.near)) here.far (far_read meaning storage here storage.stored) t far ∙ put_other storage.stored here.near (none_for here.near) t near

  stored_is : (t : ℕ) → IsStored (forest es) new t → after.stored t ≡ s.tables t
  stored_is t k =
      elim (in_or_out t here.far) as (λ _. after.stored t ≡ s.tables t) [
        | inl i ↦ far_put t i
        | inr o ↦ away t o (λ i. near_gone turns t i k) ∙ st.stored t (still_side (forest es) links e at storage.layout new valid_new turns t k o)
      ]

  back : Turns e.number new storage.layout
  back = turned_back e.number storage.layout new turns

  -- the far side is stored after
  far_stored : (t : ℕ) → In t here.far → IsStored (forest es) new t
  far_stored t i =
      near_side (forest es) links e at new storage.layout valid back t
      (subst (λ (b : Bool). In t (crossing b e).near) (sym (side_turned e.number storage.layout new turns)) (subst (λ (l : List ℕ). In t l) (sym (other_near x e)) i))

  -- what was stored before is stored after, but the near side
  old_stored : (t : ℕ) → IsStored (forest es) storage.layout t → (In t here.near → ⊥) → IsStored (forest es) new t
  old_stored t k none =
      still_side (forest es) links e at new storage.layout valid back t k
      (λ i. none (subst (λ (l : List ℕ). In t l) (other_far x e) (subst (λ (b : Bool). In t (crossing b e).far) (side_turned e.number storage.layout new turns) i)))

  stored_none : (t : ℕ) → (IsStored (forest es) new t → ⊥) → after.stored t ≡ []
  stored_none t none =
      let out : In t here.far → ⊥ = λ i. none (far_stored t i) in
      elim (in_or_out t here.near) as (λ _. after.stored t ≡ []) [
        | inl i ↦ put_other (put storage.stored here.near (none_for here.near)) here.far (far_read meaning storage here storage.stored) t out ∙ put_in storage.stored (λ n. []) here.near t i
        | inr o ↦ away t out o ∙ st.no_more.stored t (λ k. none (old_stored t k o))
      ]

  -- ---- operators

  over_it : StandsOver meaning (headings es) after s (stored_way new e)
  over_it =
      subst (λ (b : Bool). StandsOver meaning (headings es) after s (crossing b e)) (sym (side_turned e.number storage.layout new turns))
      (record { related = either_way meaning (headings es) s x (not x) e over_here.stands.related; aux = aux_is; memory = over_here.stands.memory })

  over_other : (f : Link O) → In f (forest es) → (f.number ≡ e.number → ⊥) → StandsOver meaning (headings es) after s (stored_way new f)
  over_other f i other =
      let old = each_at (λ (g : Link O). StandsOver meaning (headings es) storage s (stored_way storage.layout g)) (forest es) f i st.edges in
      let side = same_test f.number new storage.layout (others_stay e.number storage.layout new turns f.number other) in
      subst (λ (b : Bool). StandsOver meaning (headings es) after s (crossing b f)) (sym side)
      (record { related = old.related; aux = put_else storage.aux e.number ((directed x (meaning e.operator)).aux_at_target (pair_read meaning storage e)) f.number other ∙ old.aux; memory = old.memory })

  over_each : (f : Link O) → In f (forest es) → StandsOver meaning (headings es) after s (stored_way new f)
  over_each f i =
      elim (cases_eq f.number e.number) as (λ _. StandsOver meaning (headings es) after s (stored_way new f)) [
        | inl same ↦ subst (λ (g : Link O). StandsOver meaning (headings es) after s (stored_way new g)) (sym (same_link (forest es) f e links i at same)) over_it
        | inr other ↦ over_other f i other
      ]

  -- A FLIP INTO A VALID LAYOUT LEAVES THE STATE
  pub flip_stands : Stands meaning es after s
  flip_stands = record {
    edges = each_of (λ (f : Link O). StandsOver meaning (headings es) after s (stored_way new f)) (forest es) over_each;
    stored = stored_is;
    no_more = record {
      stored = stored_none;
      aux = λ n none. put_else storage.aux e.number ((directed x (meaning e.operator)).aux_at_target (pair_read meaning storage e)) n (λ same. none (subst (λ (k : ℕ). In k (numbers es)) (sym same) (link_number es e at))) ∙ st.no_more.aux n none;
      memories = st.no_more.memories;
    };
  }

-- ---- a whole move

-- a flip of a move turns its operator
pub flip_turns : {O : Type 0} (es : List (Link O)) (goal layout new : List ℕ) (flip : Flips es goal layout new) → In flip.0 es × Turns flip.0.number layout new
flip_turns es goal layout new flip = elim flip.1 as (λ _. In flip.0 es × Turns flip.0.number layout new) [ inl d ↦ (d.0.lives, inl (d.0.stored, d.1)) | inr u ↦ (u.0.lives, inr (u.0.missing, u.1)) ]

-- EACH FLIP OF A MOVE LEAVES THE STATE
pub moves_stand : {O : Type 0} (meaning : O → Meaning) → ((o : O) → Laws (meaning o)) → ReadsSources meaning → MovesStayValid O → (es : List (Placed O)) → AreEdges es → (goal : List ℕ) → IsValid (forest es) goal → (s : State) (n : ℕ) (storage last : Storage) → IsValid (forest es) storage.layout
    → Stands meaning es storage s → MovesStorage meaning (forest es) goal n storage last → IsValid (forest es) last.layout × Stands meaning es last s
moves_stand meaning laws reads moves es edges goal valid_goal s zero storage last valid st same = subst (λ (p : Storage). IsValid (forest es) p.layout × Stands meaning es p s) same (valid, st)
moves_stand meaning laws reads moves es edges goal valid_goal s (suc n) storage last valid st rest =
    let t = flip_turns (forest es) goal storage.layout rest.0 rest.1 in
    let valid_next = moves es edges goal valid_goal 1 storage.layout rest.0 valid (rest.0, rest.1, refl) in
    moves_stand meaning laws reads moves es edges goal valid_goal s n (flipped meaning storage rest.1.0 rest.0) last valid_next
    (flip_stands meaning laws reads es edges storage valid rest.1.0 t.0 rest.0 t.1 valid_next s st) rest.2
