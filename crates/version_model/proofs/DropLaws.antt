-- A drop leaves a sound state, and what stays as it was.
use Rattle.std.proofs.Common.{◌≡◌, ℕ, List, [], ◌∷◌, true, false, cond, inl, inr, refl, sym, ap, ◌∙◌, subst, map, length}
use Rattle.row_store.specs.Rows.{Rows, RiseFrom}
use Rattle.id_memory.specs.Pairs.{Pairs}
use Rattle.version_graph.specs.Sets.{In, Within}
use Rattle.version_graph.specs.Tables.{TableVersion, table_numbers, taken}
use Rattle.version_graph.specs.Edges.{AreEdges, is_in, made, numbers}
use Rattle.version_graph.specs.Dropped.{staying}
use Rattle.version_graph.specs.Forest.{Link, crossing, forest, link}
use Rattle.version_graph.specs.declared.parts.Placed.{Placed}
use Rattle.op_law.specs.Tables.{Heading, RowsWide}
use Rattle.op_law.specs.Sound.{RowsSound, PairsSound}
use Rattle.op_law.specs.Meaning.{Meaning, PairState}
use Rattle.op_law.specs.Premises.{IsPair}
use Rattle.std.proofs.lemmas.Bool.{cond-true}
use Rattle.version_graph.proofs.SetLaws.{each_at, each_of, in_of_test, is_in_true}
use Rattle.version_graph.proofs.StayLaws.{edges_stay, fewer_made, working_stays}
use Rattle.version_graph.proofs.WalkLaws.{Of, all_of, is_forest}
use Rattle.version_model.specs.States.{State, headings}
use Rattle.version_model.specs.Sound.{IsSound}
use Rattle.version_model.specs.Steps.{IsRelated, pair_in}
use Rattle.version_model.specs.Dropping.{staying_state}
use Rattle.version_model.specs.Laws.{DropKeeps}
use Rattle.version_model.proofs.PutLaws.{map_same}
use Rattle.version_model.proofs.CrossingLaws.{is_within}
use Rattle.version_model.proofs.HeadingLaws.{same_heading, same_headings}

-- ---- the state that stays

module _ {O : Type 0} (fs : List (Placed O)) (s : State) where
  table_stays : (t : ℕ) → In t (table_numbers (made fs)) → (staying_state fs s).tables t ≡ s.tables t
  table_stays t i = cond-true (is_in t (table_numbers (made fs))) (s.tables t) [] (is_in_true t (table_numbers (made fs)) i)

  memory_stays : (n : ℕ) → In n (numbers fs) → (staying_state fs s).memory n ≡ s.memory n
  memory_stays n i = cond-true (is_in n (numbers fs)) (s.memory n) [] (is_in_true n (numbers fs) i)

  -- what is true of the old rows of a table that stays, and of no rows, is true of the rows after a drop
  table_is : (P : Rows → Type 0) (t : ℕ) → (In t (table_numbers (made fs)) → P (s.tables t)) → P [] → P ((staying_state fs s).tables t)
  table_is P t here none =
      (elim (is_in t (table_numbers (made fs))) as (λ b. is_in t (table_numbers (made fs)) ≡ b → P (cond b (s.tables t) [])) [
        | true ↦ λ is. here (in_of_test t (table_numbers (made fs)) is)
        | false ↦ λ is. none
      ]) refl

  memory_is : (P : Pairs → Type 0) (n : ℕ) → P (s.memory n) → P [] → P ((staying_state fs s).memory n)
  memory_is P n here none = elim (is_in n (numbers fs)) as (λ b. P (cond b (s.memory n) [])) [ true ↦ here | false ↦ none ]

  table_gone : (t : ℕ) → (In t (table_numbers (made fs)) → ⊥) → (staying_state fs s).tables t ≡ []
  table_gone t none = table_is (λ (rows : Rows). rows ≡ []) t (λ i. absurd (none i)) refl

  memory_gone : (n : ℕ) → (In n (numbers fs) → ⊥) → (staying_state fs s).memory n ≡ []
  memory_gone n none =
      (elim (is_in n (numbers fs)) as (λ b. is_in n (numbers fs) ≡ b → cond b (s.memory n) [] ≡ []) [
        | true ↦ λ is. absurd (none (in_of_test n (numbers fs) is))
        | false ↦ λ is. refl
      ]) refl

-- ---- links that stay are as they were

module _ {O : Type 0} where
  link_stays : (e : Placed O) (es : List (Placed O)) (needed : List ℕ) → link (staying (e.parent ∷ needed) es) e ≡ link es e
  link_stays e es needed =
      ap (λ (set : List TableVersion). record { number = e.number; parent = e.parent; operator = e.edge.operator; sources = table_numbers (taken set e.edge.sources); targets = e.tables }) (working_stays es e.parent (e.parent ∷ needed) (inl refl))

  pub fewer_links : (es : List (Placed O)) (needed : List ℕ) → Within (forest (staying needed es)) (forest es)
  fewer_links [] needed f i = i
  fewer_links (e ∷ es) needed f i =
      (elim (is_in e.number needed) as (λ b. In f (forest (cond b (e ∷ staying (e.parent ∷ needed) es) (staying needed es))) → In f (forest (e ∷ es))) [
        | true ↦ λ j. elim j as (λ _. In f (link es e ∷ forest es)) [ inl same ↦ inl (same ∙ link_stays e es needed) | inr k ↦ inr (fewer_links es (e.parent ∷ needed) f k) ]
        | false ↦ λ j. inr (fewer_links es needed f j)
      ]) i

-- ---- a drop

module _ {O : Type 0} (meaning : O → Meaning) (es : List (Placed O)) (needed : List ℕ) (s : State) (edges : AreEdges es) (sound : IsSound meaning es s) where
  abbrev left : List (Placed O)
  left = staying needed es

  left_edges : AreEdges left
  left_edges = edges_stay es needed edges

  related_left : (f : Link O) → In f (forest left) → IsRelated meaning (headings left) (staying_state left s) (crossing false f)
  related_left f i =
      let m = meaning f.operator in
      let old = each_at (λ (e : Link O). IsRelated meaning (headings es) s (crossing false e)) (forest es) f (fewer_links es needed f i) sound.related in
      let within = is_within left left_edges (crossing false f) (each_at (λ (e : Link O). Of (forest left) (crossing false e)) (forest left) f i (all_of (forest left) (is_forest left left_edges))) in
      let near_headings = same_headings left es left_edges edges (fewer_made es needed) f.sources within.near in
      let far_headings = same_headings left es left_edges edges (fewer_made es needed) f.targets within.far in
      let near = map_same (staying_state left s).tables s.tables f.sources (λ t j. table_stays left s t (within.near t j)) in
      let far = map_same (staying_state left s).tables s.tables f.targets (λ t j. table_stays left s t (within.far t j)) in
      let memory = memory_stays left s f.number within.number in
      let pair : pair_in (staying_state left s) (crossing false f) ≡ pair_in s (crossing false f) = cc in
      subst (λ (x : PairState). IsPair m (map (headings left) f.sources) (map (headings left) f.targets) x) (sym pair)
      (subst (λ (hs : List Heading). IsPair m hs (map (headings left) f.targets) (pair_in s (crossing false f))) (sym near_headings)
      (subst (λ (ht : List Heading). IsPair m (map (headings es) f.sources) ht (pair_in s (crossing false f))) (sym far_headings) old))

  pub drop_sound : IsSound meaning left (staying_state left s)
  drop_sound = record {
    related = each_of (λ (f : Link O). IsRelated meaning (headings left) (staying_state left s) (crossing false f)) (forest left) related_left;
    closed = each_of (λ (f : Link O). (meaning f.operator).Closed s.next) (forest left) (λ f i. each_at (λ (e : Link O). (meaning e.operator).Closed s.next) (forest es) f (fewer_links es needed f i) sound.closed);
    well = record {
      tables = λ t. table_is left s (λ (rows : Rows). RiseFrom 0 rows × RowsWide (length (headings left t).columns) rows) t
          (λ i. subst (λ (h : Heading). RiseFrom 0 (s.tables t) × RowsWide (length h.columns) (s.tables t)) (sym (same_heading left es left_edges edges (fewer_made es needed) t i)) (sound.well.tables t))
          (tt, tt);
      rows = λ t. table_is left s (λ (rows : Rows). RowsSound s.next rows) t (λ i. sound.well.rows t) tt;
      memories = λ n. memory_is left s (λ (pairs : Pairs). PairsSound s.next pairs) n (sound.well.memories n) tt;
    };
    alone = record { tables = λ t none. table_gone left s t none; memories = λ n none. memory_gone left s n none };
    drawn = sound.drawn;
  }

  -- A DROP LEAVES A SOUND STATE, AND WHAT STAYS AS IT WAS
  pub drop_keeps : DropKeeps meaning es needed s
  drop_keeps = record { sound = drop_sound; tables = table_stays left s; memories = memory_stays left s; next = refl }
