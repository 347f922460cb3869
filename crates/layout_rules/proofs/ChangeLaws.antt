-- A layout stays valid when operators are added or dropped.
use Rattle.std.specs.Prelude.{◌⊎◌, Option, option_to_list}
use Rattle.std.specs.Str.{bytes_eq}
use Rattle.std.proofs.Common.{◌≡◌, ℕ, ◌+◌, List, [], ◌∷◌, ◌++◌, Bool, true, false, cond, filter, length, inl, inr, refl, sym, ap, ◌∙◌, subst, arith, append_assoc}
use Rattle.std.proofs.lemmas.Bool.{cond-true, false≢true}
use Rattle.std.proofs.lemmas.List.{append-nil}
use Rattle.version_graph.specs.Sets.{In, Each}
use Rattle.version_graph.specs.Tables.{TableVersion, headings_of, heading_names, table_numbers, taken}
use Rattle.version_graph.specs.Edges.{AreEdges, Drawn, Follows, IsGraph, is_in, numbers, version_sets, working}
use Rattle.version_graph.specs.Evolve.{evolved, grown, placed_next}
use Rattle.version_graph.specs.Dropped.{dropped, other_versions, staying}
use Rattle.version_graph.specs.Forest.{Link, forest, link}
use Rattle.version_graph.specs.declared.parts.Edge.{Edge}
use Rattle.version_graph.specs.declared.parts.Heading.{Heading}
use Rattle.version_graph.specs.declared.parts.Placed.{Placed}
use Rattle.version_graph.proofs.SetLaws.{in_append, in_left, in_of_test, in_right, is_in_true, origin}
use Rattle.version_graph.proofs.NameLaws.{name_is}
use Rattle.version_graph.proofs.TableLaws.{in_filter, passes}
use Rattle.version_graph.proofs.TakenLaws.{some_found}
use Rattle.version_graph.proofs.BackLaws.{grown_ends}
use Rattle.version_graph.proofs.StayLaws.{edges_stay, working_stays}
use Rattle.version_graph.proofs.WalkLaws.{IsForest, is_forest}
use Rattle.layout_rules.specs.Layouts.{IsCreate, IsMade, IsValid, Lives}
use Rattle.layout_rules.specs.Changes.{creates_next, dropped_layout, evolved_layout, is_empty}
use Rattle.layout_rules.proofs.LinkLaws.{number_listed, same_maker, source_made, target_link}

a_source : (set : List TableVersion) (name : List ℕ) (names : List (List ℕ)) → In name (heading_names (headings_of set)) → table_numbers (taken set (name ∷ names)) ≡ [] → ⊥
a_source set name names known none =
    let h = origin (λ (h : Heading). h.name) name (headings_of set) known in
    let v = origin (λ (v : TableVersion). v.heading) h.0 set h.1 in
    let u = some_found (λ (t : TableVersion). bytes_eq t.heading.name name) set v.0 v.1 (name_is v.0.heading.name name (sym (h.2 ∙ ap (λ (k : Heading). k.name) v.2))) in
    let clash : u.0.number ∷ table_numbers (taken set names) ≡ [] = ap (λ (o : Option TableVersion). table_numbers (option_to_list o ++ taken set names)) (sym u.1) ∙ none in
    cc

pub joined : (layout rest : List ℕ) (n : ℕ) (b : Bool) → (layout ++ cond b (n ∷ []) []) ++ rest ≡ layout ++ cond b (n ∷ rest) rest
joined layout rest n true = append_assoc layout (n ∷ []) rest
joined layout rest n false = ap (λ (l : List ℕ). l ++ rest) (append-nil layout)

pub filter_in : (test : ℕ → Bool) (n : ℕ) (ns : List ℕ) → In n ns → test n ≡ true → In n (filter test ns)
filter_in test n [] i is = i
filter_in test n (k ∷ ns) (inl same) is =
    subst (λ (l : List ℕ). In n l) (sym (cond-true (test k) (k ∷ filter test ns) (filter test ns) (ap test (sym same) ∙ is))) (inl same)
filter_in test n (k ∷ ns) (inr i) is =
    elim (test k) as (λ b. In n (cond b (k ∷ filter test ns) (filter test ns))) [ true ↦ inr (filter_in test n ns i is) | false ↦ filter_in test n ns i is ]

module _ {O : Type 0} where
  -- the numbers of edges are those of their links
  pub number_lives : (es : List (Placed O)) (n : ℕ) → In n (numbers es) → Lives (forest es) n
  number_lives [] n i = absurd i
  number_lives (e ∷ es) n (inl same) = (link es e, inl refl, same)
  number_lives (e ∷ es) n (inr i) = let l = number_lives es n i in (l.0, inr l.1, l.2)

  pub link_number : (es : List (Placed O)) (f : Link O) → In f (forest es) → In f.number (numbers es)
  link_number [] f i = i
  link_number (e ∷ es) f (inl same) = inl (ap (λ (y : Link O). y.number) same)
  link_number (e ∷ es) f (inr i) = inr (link_number es f i)

  -- ---- one operator more

  module _ (es : List (Link O)) (x : Link O) (forest : IsForest (x ∷ es)) (layout new : List ℕ) (valid : IsValid es layout) (more : (n : ℕ) → In n layout → In n new) (only : (n : ℕ) → In n new → In n layout ⊎ ((n ≡ x.number) × IsCreate x)) where
    back : (f : Link O) → In f es → In f.number new → In f.number layout
    back f i a = elim (only f.number a) as (λ _. In f.number layout) [
      | inl b ↦ b
      | inr c ↦ (let less = forest.0.newest f.number (inr (number_listed es f i)) in let same = c.0 in absurd (omega arith))
    ]

    -- the new operator of the layout takes no table
    no_source : (f : Link O) → f ≡ x → In f.number new → (t : ℕ) → In t f.sources → ⊥
    no_source f is a t b =
        elim (only x.number (subst (λ (y : Link O). In y.number new) is a)) as (λ _. ⊥) [
          | inl c ↦
              let l = valid.live x.number c in
              let less = forest.0.newest x.number (inr (subst (λ (k : ℕ). In k (Rattle.version_graph.proofs.WalkLaws.link_numbers es)) (sym l.2) (number_listed es l.0 l.1))) in
              omega arith
          | inr c ↦ subst (λ (l : List ℕ). In t l) c.1 (subst (λ (y : Link O). In t y.sources) is b)
        ]

    pub one_more : (IsCreate x → In x.number new) → IsValid (x ∷ es) new
    one_more create = record {
      live = λ n i. elim (only n i) as (λ _. Lives (x ∷ es) n) [ inl a ↦ (let l = valid.live n a in (l.0, inr l.1, l.2)) | inr c ↦ (x, inl refl, c.0) ];
      creates = λ f i none. elim i as (λ _. In f.number new) [
        | inl is ↦ subst (λ (y : Link O). In y.number new) (sym is) (create (subst (λ (y : Link O). IsCreate y) is none))
        | inr j ↦ more f.number (valid.creates f j none)
      ];
      makers = λ f i a t b. elim i as (λ _. IsMade (x ∷ es) new t) [
        | inl is ↦ absurd (no_source f is a t b)
        | inr j ↦ (let m = valid.makers f j (back f j a) t b in (m.0, inr m.1, more m.0.number m.2, m.3))
      ];
      once = λ f g i j a b s. elim i as (λ _. f.number ≡ g.number) [
        | inl is ↦ absurd (no_source f is a s.0 s.1)
        | inr i2 ↦ elim j as (λ _. f.number ≡ g.number) [
          | inl is ↦ absurd (no_source g is b s.0 s.2)
          | inr j2 ↦ valid.once f g i2 j2 (back f i2 a) (back g j2 b) s
        ]
      ];
    }

  -- ---- an evolution

  -- an edge without sources has a link without sources, and no other has
  pub no_name : (es : List (Placed O)) (e : Placed O) (names : List (List ℕ)) → e.edge.sources ≡ names → is_empty names ≡ true → IsCreate (link es e)
  no_name es e [] is none = ap (λ (l : List (List ℕ)). table_numbers (taken (working es e.parent) l)) is
  no_name es e (name ∷ names) is none = absurd (false≢true none)

  pub a_name : (es : List (Placed O)) (e : Placed O) (names : List (List ℕ)) → Follows es e → e.edge.sources ≡ names → is_empty names ≡ false → IsCreate (link es e) → ⊥
  a_name es e [] follows is some none = false≢true (sym some)
  a_name es e (name ∷ names) follows is some none =
      let known = subst (λ (l : List (List ℕ)). Each (λ n. In n (heading_names (headings_of (working es e.parent)))) l) is follows.fits.known in
      a_source (working es e.parent) name names known.0 (ap (λ (l : List (List ℕ)). table_numbers (taken (working es e.parent) l)) (sym is) ∙ none)

  edges_below : (newer es : List (Placed O)) → AreEdges (newer ++ es) → AreEdges es
  edges_below [] es edges = edges
  edges_below (e ∷ newer) es edges = edges_below newer es edges.1

  edges_before : (es : List (Placed O)) (p o t : ℕ) (edges : List (Edge O)) → AreEdges (grown es p o t edges) → AreEdges es
  edges_before es p o t edges all = let ends = grown_ends es p o t edges in edges_below ends.0 es (subst (λ (l : List (Placed O)). AreEdges l) ends.1 all)

  next_valid : (es : List (Placed O)) (e : Placed O) (layout : List ℕ) (b : Bool) → is_empty e.edge.sources ≡ b → AreEdges (e ∷ es) → IsValid (forest es) layout → IsValid (forest (e ∷ es)) (layout ++ cond b (e.number ∷ []) [])
  next_valid es e layout true is edges valid =
      one_more (forest es) (link es e) (is_forest (e ∷ es) edges) layout (layout ++ e.number ∷ []) valid (λ n i. in_left n layout (e.number ∷ []) i)
      (λ n i. elim (in_append n layout (e.number ∷ []) i) as (λ _. In n layout ⊎ ((n ≡ e.number) × IsCreate (link es e))) [
        | inl a ↦ inl a
        | inr a ↦ elim a as (λ _. In n layout ⊎ ((n ≡ e.number) × IsCreate (link es e))) [ inl same ↦ inr (same, no_name es e e.edge.sources refl is) | inr none ↦ absurd none ]
      ])
      (λ none. in_right e.number layout (e.number ∷ []) (inl refl))
  next_valid es e layout false is edges valid =
      one_more (forest es) (link es e) (is_forest (e ∷ es) edges) layout (layout ++ []) valid (λ n i. in_left n layout [] i)
      (λ n i. inl (subst (λ (l : List ℕ). In n l) (append-nil layout) i))
      (λ none. absurd (a_name es e e.edge.sources edges.0 refl is none))

  grown_valid : (edges : List (Edge O)) (es : List (Placed O)) (p o t : ℕ) (layout : List ℕ) → AreEdges (grown es p o t edges) → IsValid (forest es) layout → IsValid (forest (grown es p o t edges)) (layout ++ creates_next o edges)
  grown_valid [] es p o t layout all valid = subst (λ (l : List ℕ). IsValid (forest es) l) (sym (append-nil layout)) valid
  grown_valid (e ∷ edges) es p o t layout all valid =
      let new = placed_next p o t e in
      let table = t + length e.targets in
      let here = edges_before (new ∷ es) (o + 1) (o + 1) table edges all in
      let next = next_valid es new layout (is_empty e.sources) refl here valid in
      subst (λ (l : List ℕ). IsValid (forest (grown (new ∷ es) (o + 1) (o + 1) table edges)) l) (joined layout (creates_next (o + 1) edges) (o + 1) (is_empty e.sources))
      (grown_valid edges (new ∷ es) (o + 1) (o + 1) table (layout ++ cond (is_empty e.sources) ((o + 1) ∷ []) []) all next)

  pub evolved_valid : (g : Drawn O) (name : List ℕ) (w : ℕ) (edges : List (Edge O)) → IsGraph (evolved g name w edges) → (layout : List ℕ) → IsValid (forest g.edges) layout → IsValid (forest (evolved g name w edges).edges) (evolved_layout g edges layout)
  evolved_valid g name w edges graph layout valid = grown_valid edges g.edges w g.last_operator g.last_table layout graph.edges valid

  -- ---- a drop

  -- what stays keeps its sources
  links_stay : (es : List (Placed O)) (needed : List ℕ) (f : Link O) → In f (forest (staying needed es)) → In f (forest es)
  links_stay [] needed f i = i
  links_stay (e ∷ es) needed f i =
      (elim (is_in e.number needed) as (λ c. In f (forest (cond c (e ∷ staying (e.parent ∷ needed) es) (staying needed es))) → In f (forest (e ∷ es))) [
        | true ↦ λ j. elim j as (λ _. In f (forest (e ∷ es))) [
          | inl same ↦ inl (same ∙ ap (λ (s : List TableVersion). record { number = e.number; parent = e.parent; operator = e.edge.operator; sources = table_numbers (taken s e.edge.sources); targets = e.tables }) (working_stays es e.parent (e.parent ∷ needed) (inl refl)))
          | inr k ↦ inr (links_stay es (e.parent ∷ needed) f k)
        ]
        | false ↦ λ j. inr (links_stay es needed f j)
      ]) i

  module _ (es : List (Placed O)) (needed : List ℕ) (edges : AreEdges es) (layout : List ℕ) (valid : IsValid (forest es) layout) where
    abbrev less : List (Placed O)
    less = staying needed es

    abbrev kept : List ℕ
    kept = filter (λ n. is_in n (numbers less)) layout

    was : (n : ℕ) → In n kept → In n layout
    was n i = in_filter (λ n. is_in n (numbers less)) n layout i

    keeps : (f : Link O) → In f (forest less) → In f.number layout → In f.number kept
    keeps f i a = filter_in (λ n. is_in n (numbers less)) f.number layout a (is_in_true f.number (numbers less) (link_number less f i))

    maker_kept : (f : Link O) (t : ℕ) → In f (forest less) → In t f.sources → IsMade (forest es) layout t → IsMade (forest less) kept t
    maker_kept f t i b m =
        let g = target_link (forest less) t (source_made (forest less) f t (is_forest less (edges_stay es needed edges)) i b) in
        let same = same_maker (forest es) g.0 m.0 t (is_forest es edges) (links_stay es needed g.0 g.1) m.1 g.2 m.3 in
        (g.0, g.1, keeps g.0 g.1 (subst (λ (y : Link O). In y.number layout) (sym same) m.2), g.2)

    pub less_valid : IsValid (forest (staying needed es)) (filter (λ n. is_in n (numbers (staying needed es))) layout)
    less_valid = record {
      live = λ n i. number_lives less n (in_of_test n (numbers less) (passes (λ n. is_in n (numbers less)) n layout i));
      creates = λ f i none. keeps f i (valid.creates f (links_stay es needed f i) none);
      makers = λ f i a t b. maker_kept f t i b (valid.makers f (links_stay es needed f i) (was f.number a) t b);
      once = λ f g i j a b s. valid.once f g (links_stay es needed f i) (links_stay es needed g j) (was f.number a) (was g.number b) s;
    }

  pub dropped_valid : (g : Drawn O) (name : List ℕ) → IsGraph g → (layout : List ℕ) → IsValid (forest g.edges) layout → IsValid (forest (dropped g name).edges) (dropped_layout g name layout)
  dropped_valid g name graph layout valid = less_valid g.edges (version_sets (other_versions g.versions name)) graph.edges layout valid
