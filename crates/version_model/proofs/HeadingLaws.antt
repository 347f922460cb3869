-- A table has the same heading in each graph where it lives.
use Rattle.std.proofs.Common.{◌≡◌, ℕ, List, [], ◌∷◌, true, false, inl, inr, refl, sym, ap, ◌∙◌, subst, map, length}
use Rattle.std.specs.Prelude.{Option, Some}
use Rattle.std.specs.Option.{option_map_or}
use Rattle.row_store.specs.Rows.{Rows, RiseFrom}
use Rattle.version_graph.specs.Sets.{In, Within}
use Rattle.version_graph.specs.Tables.{TableVersion, headings_of, table_numbers}
use Rattle.version_graph.specs.Edges.{AreEdges, heading_of, is_in, made, made_by_edge}
use Rattle.version_graph.specs.declared.parts.Heading.{Heading as TableHeading}
use Rattle.version_graph.specs.declared.parts.Placed.{Placed}
use Rattle.op_law.specs.Tables.{Heading, RowsWide}
use Rattle.version_graph.proofs.SetLaws.{in_map, in_of_test, in_right, is_in_true, origin}
use Rattle.version_graph.proofs.TakenLaws.{heading_known}
use Rattle.version_model.specs.States.{State, as_seen, headings, IsWell, LivesAlone}
use Rattle.version_model.proofs.PutLaws.{map_same}

-- a number is in a list or not
pub in_or_not : (n : ℕ) (ks : List ℕ) (M : Type 0) → (In n ks → M) → ((In n ks → ⊥) → M) → M
in_or_not n ks M yes_in not_in =
    (elim (is_in n ks) as (λ b. is_in n ks ≡ b → M) [
      | true ↦ λ is. yes_in (in_of_test n ks is)
      | false ↦ λ is. not_in (λ i. let clash : true ≡ false = sym (is_in_true n ks i) ∙ is in cc)
    ]) refl

module _ {O : Type 0} where
  -- the tables of older edges live on
  pub made_more : (e : Placed O) (es : List (Placed O)) → Within (made es) (made (e ∷ es))
  made_more e es v i = in_right v (made_by_edge e) (made es) i

  pub numbers_within : (es fs : List (Placed O)) → Within (made es) (made fs) → Within (table_numbers (made es)) (table_numbers (made fs))
  numbers_within es fs within t i =
      let o = origin (λ (v : TableVersion). v.number) t (made es) i in
      subst (λ (n : ℕ). In n (table_numbers (made fs))) (sym o.2) (in_map (λ (v : TableVersion). v.number) o.0 (made fs) (within o.0 o.1))

  module _ (es fs : List (Placed O)) (old : AreEdges es) (new : AreEdges fs) (within : Within (made es) (made fs)) where
    pub same_heading : (t : ℕ) → In t (table_numbers (made es)) → headings es t ≡ headings fs t
    same_heading t i =
        let o = origin (λ (v : TableVersion). v.number) t (made es) i in
        let here : heading_of es t ≡ Some o.0.heading = ap (λ (n : ℕ). heading_of es n) o.2 ∙ heading_known es old o.0 o.1 in
        let there : heading_of fs t ≡ Some o.0.heading = ap (λ (n : ℕ). heading_of fs n) o.2 ∙ heading_known fs new o.0 (within o.0 o.1) in
        ap (λ (h : Option TableHeading). option_map_or as_seen h (record { name = []; columns = [] })) (here ∙ sym there)

    pub same_headings : (ks : List ℕ) → Within ks (table_numbers (made es)) → map (headings es) ks ≡ map (headings fs) ks
    same_headings ks live = map_same (headings es) (headings fs) ks (λ t i. same_heading t (live t i))

    -- a state of one graph, seen by the headings of a greater one
    pub well_in_more : (s : State) → IsWell (headings es) s → LivesAlone es s → IsWell (headings fs) s
    well_in_more s well alone = record {
      tables = λ t. in_or_not t (table_numbers (made es)) (RiseFrom 0 (s.tables t) × RowsWide (length (headings fs t).columns) (s.tables t))
          (λ i. subst (λ (h : Heading). RiseFrom 0 (s.tables t) × RowsWide (length h.columns) (s.tables t)) (same_heading t i) (well.tables t))
          (λ none. subst (λ (rows : Rows). RiseFrom 0 rows × RowsWide (length (headings fs t).columns) rows) (sym (alone.tables t none)) (tt, tt));
      rows = well.rows;
      memories = well.memories;
    }

module _ {O : Type 0} (es : List (Placed O)) (edges : AreEdges es) where
  -- tables by their numbers have the headings that they were made with
  pub seen_as : (set : List TableVersion) → Within set (made es) → map (headings es) (table_numbers set) ≡ map as_seen (headings_of set)
  seen_as [] within = refl
  seen_as (v ∷ set) within =
      let none : Heading = record { name = []; columns = [] } in
      let first : headings es v.number ≡ as_seen v.heading =
      ap (λ (o : Option TableHeading). option_map_or as_seen o none) (heading_known es edges v (within v (inl refl))) in
      let rest = seen_as set (λ u i. within u (inr i)) in
      ap (λ (h : Heading). h ∷ map (headings es) (table_numbers set)) first ∙ ap (λ (hs : List Heading). as_seen v.heading ∷ hs) rest
