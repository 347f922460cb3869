-- Working sets: no table and no name stands twice, and what goes out by name goes out by number.
use Rattle.std.proofs.Common.{◌≡◌, ℕ, ◌<◌, List, [], ◌∷◌, ◌++◌, Bool, true, false, not, cond, refl, sym, ap, ◌∙◌, subst, map, length, arith, inl, inr, filter}
use Rattle.std.specs.Prelude.{◌==◌}
use Rattle.std.proofs.lemmas.List.{map-append}
use Rattle.version_graph.specs.Sets.{In, Apart, Distinct, Within}
use Rattle.version_graph.specs.Tables.{TableVersion, table_numbers, headings_of, heading_names, is_among, passing, tables_of, headings_passing, headings_after}
use Rattle.version_graph.specs.Edges.{AreEdges, working, set_after, made, made_by_edge, Rises}
use Rattle.version_graph.specs.declared.parts.Placed.{Placed}
use Rattle.version_graph.specs.declared.parts.Heading.{Heading}
use Rattle.version_graph.proofs.SetLaws.{in_append, in_left, in_right, in_map, origin}

-- ---- distinct lists

pub distinct_append : {X : Type 0} (xs ys : List X) → Distinct xs → Distinct ys → Apart xs ys → Distinct (xs ++ ys)
distinct_append [] ys a b apart = b
distinct_append (x ∷ xs) ys a b apart = (
  (λ i. elim (in_append x xs ys i) as (λ _. ⊥) [ inl j ↦ a.0 j | inr j ↦ apart x (inl refl) j ]),
  distinct_append xs ys a.1 b (λ z i j. apart z (inr i) j),
)

pub in_filter : {X : Type 0} (test : X → Bool) (x : X) (xs : List X) → In x (filter test xs) → In x xs
in_filter test x [] i = i
in_filter {X} test x (z ∷ xs) i =
    (elim (test z) as (λ b. In x (cond b (z ∷ filter test xs) (filter test xs)) → In x (z ∷ xs)) [
      | true ↦ λ j. elim j as (λ _. In x (z ∷ xs)) [ inl e ↦ inl e | inr k ↦ inr (in_filter test x xs k) ]
      | false ↦ λ j. inr (in_filter test x xs j)
    ]) i

passes_one : {X : Type 0} (test : X → Bool) (x z : X) (xs : List X) (b : Bool) → test z ≡ b → (In x (filter test xs) → test x ≡ true) → In x (cond b (z ∷ filter test xs) (filter test xs)) → test x ≡ true
passes_one test x z xs true is more (inl e) = ap test e ∙ is
passes_one test x z xs true is more (inr i) = more i
passes_one test x z xs false is more i = more i

pub passes : {X : Type 0} (test : X → Bool) (x : X) (xs : List X) → In x (filter test xs) → test x ≡ true
passes test x [] i = absurd i
passes test x (z ∷ xs) i = passes_one test x z xs (test z) refl (passes test x xs) i

-- what is distinct in a list is so in a part of it
pub distinct_part : {X Y : Type 0} (f : X → Y) (test : X → Bool) (xs : List X) → Distinct (map f xs) → Distinct (map f (filter test xs))
distinct_part f test [] d = d
distinct_part {X} {Y} f test (x ∷ xs) d =
    elim (test x) as (λ b. Distinct (map f (cond b (x ∷ filter test xs) (filter test xs)))) [
      | true ↦ ((λ i. let o = origin f (f x) (filter test xs) i in d.0 (subst (λ (y : Y). In y (map f xs)) (sym o.2) (in_map f o.0 xs (in_filter test o.0 xs o.1)))), distinct_part f test xs d.1)
      | false ↦ distinct_part f test xs d.1
    ]

-- ---- numbers

pub numbers_made : (ns : List ℕ) (hs : List Heading) → length ns ≡ length hs → table_numbers (tables_of ns hs) ≡ ns
numbers_made [] hs e = refl
numbers_made (n ∷ ns) [] e = absurd (omega arith)
numbers_made (n ∷ ns) (h ∷ hs) e = ap (λ (l : List ℕ). n ∷ l) (numbers_made ns hs (omega arith))

pub headings_made : (ns : List ℕ) (hs : List Heading) → length ns ≡ length hs → headings_of (tables_of ns hs) ≡ hs
headings_made [] [] e = refl
headings_made [] (h ∷ hs) e = absurd (omega arith)
headings_made (n ∷ ns) [] e = absurd (omega arith)
headings_made (n ∷ ns) (h ∷ hs) e = ap (λ (l : List Heading). h ∷ l) (headings_made ns hs (omega arith))

pub rises_above : (n : ℕ) (ks : List ℕ) → Rises n ks → (k : ℕ) → In k ks → n < k
rises_above n [] r k i = absurd i
rises_above n (x ∷ ks) r k (inl e) = let less = r.0 in omega arith
rises_above n (x ∷ ks) r k (inr i) = let less = r.0 in let more = rises_above x ks r.1 k i in omega arith

pub rises_apart : (n : ℕ) (ks : List ℕ) → Rises n ks → Distinct ks
rises_apart n [] r = tt
rises_apart n (k ∷ ks) r = ((λ i. let less = rises_above k ks r.1 k i in omega arith), rises_apart k ks r.1)

-- ascending lists of the same numbers are equal
pub same_rising : (n : ℕ) (xs ys : List ℕ) → Rises n xs → Rises n ys → ((k : ℕ) → In k xs → In k ys) → ((k : ℕ) → In k ys → In k xs) → xs ≡ ys
same_rising n [] [] rise others into back = refl
same_rising n [] (y ∷ ys) rise others into back = absurd (back y (inl refl))
same_rising n (x ∷ xs) [] rise others into back = absurd (into x (inl refl))
same_rising n (x ∷ xs) (y ∷ ys) rise others into back =
    let first : x ≡ y =
    elim (into x (inl refl)) as (λ _. x ≡ y) [
      | inl is ↦ is
      | inr i ↦ elim (back y (inl refl)) as (λ _. x ≡ y) [
        | inl is ↦ sym is
        | inr j ↦ (let a = rises_above y ys others.1 x i in let b = rises_above x xs rise.1 y j in absurd (omega arith))
      ]
    ] in
    let there : (k : ℕ) → In k xs → In k ys = λ k i. elim (into k (inr i)) as (λ _. In k ys) [ inl is ↦ (let a = rises_above x xs rise.1 k i in absurd (omega arith)) | inr j ↦ j ] in
    let here : (k : ℕ) → In k ys → In k xs = λ k i. elim (back k (inr i)) as (λ _. In k xs) [ inl is ↦ (let a = rises_above y ys others.1 k i in absurd (omega arith)) | inr j ↦ j ] in
    let rest = same_rising x xs ys rise.1 (subst (λ (k : ℕ). Rises k ys) (sym first) others.1) there here in
    ap (λ (k : ℕ). k ∷ xs) first ∙ ap (λ (l : List ℕ). y ∷ l) rest

-- ---- headings

pub headings_pass : (set : List TableVersion) (names : List (List ℕ)) → headings_of (passing set names) ≡ headings_passing (headings_of set) names
headings_pass [] names = refl
headings_pass (v ∷ set) names =
    elim (not (is_among names v.heading)) as (λ b. headings_of (cond b (v ∷ passing set names) (passing set names)) ≡ cond b (v.heading ∷ headings_passing (headings_of set) names) (headings_passing (headings_of set) names)) [
      | true ↦ ap (λ (l : List Heading). v.heading ∷ l) (headings_pass set names)
      | false ↦ headings_pass set names
    ]

module _ {O : Type 0} where
  pub made_once : (es : List (Placed O)) → AreEdges es → Distinct (table_numbers (made es))
  made_once [] edges = tt
  made_once (e ∷ es) edges =
      let follows = edges.0 in
      let here : table_numbers (made_by_edge e) ≡ e.tables = numbers_made e.tables e.edge.targets follows.counted in
      subst (λ (l : List ℕ). Distinct l) (sym (map-append (λ (v : TableVersion). v.number) (made_by_edge e) (made es)))
      (distinct_append (table_numbers (made_by_edge e)) (table_numbers (made es))
      (subst (λ (l : List ℕ). Distinct l) (sym here) (rises_apart 0 e.tables follows.rising))
      (made_once es edges.1)
      (λ t i j. let less = follows.above t t j (subst (λ (l : List ℕ). In t l) here i) in omega arith))

  pub after_made : (es : List (Placed O)) (e : Placed O) (set : List TableVersion) → Within set (made es) → Within (set_after set e) (made (e ∷ es))
  after_made es e set within v i =
      elim (in_append v (passing set e.edge.sources) (made_by_edge e) i) as (λ _. In v (made (e ∷ es))) [
        | inl j ↦ in_right v (made_by_edge e) (made es) (within v (in_filter (λ (t : TableVersion). not (is_among e.edge.sources t.heading)) v set j))
        | inr j ↦ in_left v (made_by_edge e) (made es) j
      ]

  pub working_made : (es : List (Placed O)) (w : ℕ) → Within (working es w) (made es)
  working_made [] w v i = i
  working_made (e ∷ es) w v i =
      (elim (w == e.number) as (λ b. In v (cond b (set_after (working es e.parent) e) (working es w)) → In v (made (e ∷ es))) [
        | true ↦ λ j. after_made es e (working es e.parent) (working_made es e.parent) v j
        | false ↦ λ j. in_right v (made_by_edge e) (made es) (working_made es w v j)
      ]) i

  -- no table stands twice in a working set
  pub tables_once : (es : List (Placed O)) → AreEdges es → (w : ℕ) → Distinct (table_numbers (working es w))
  tables_once [] edges w = tt
  tables_once (e ∷ es) edges w =
      let follows = edges.0 in
      let set = working es e.parent in
      let here : table_numbers (made_by_edge e) ≡ e.tables = numbers_made e.tables e.edge.targets follows.counted in
      elim (w == e.number) as (λ b. Distinct (table_numbers (cond b (set_after set e) (working es w)))) [
        | true ↦ subst (λ (l : List ℕ). Distinct l) (sym (map-append (λ (v : TableVersion). v.number) (passing set e.edge.sources) (made_by_edge e)))
            (distinct_append (table_numbers (passing set e.edge.sources)) (table_numbers (made_by_edge e))
            (distinct_part (λ (v : TableVersion). v.number) (λ (t : TableVersion). not (is_among e.edge.sources t.heading)) set (tables_once es edges.1 e.parent))
            (subst (λ (l : List ℕ). Distinct l) (sym here) (rises_apart 0 e.tables follows.rising))
            (λ t i j.
            let o = origin (λ (v : TableVersion). v.number) t (passing set e.edge.sources) i in
            let old = working_made es e.parent o.0 (in_filter (λ (t : TableVersion). not (is_among e.edge.sources t.heading)) o.0 set o.1) in
            let less = follows.above o.0.number t (in_map (λ (v : TableVersion). v.number) o.0 (made es) old) (subst (λ (l : List ℕ). In t l) here j) in
            let same = o.2 in
            omega arith))
        | false ↦ tables_once es edges.1 w
      ]

  pub headings_next : (set : List TableVersion) (e : Placed O) → length e.tables ≡ length e.edge.targets → headings_of (set_after set e) ≡ headings_after (headings_of set) e.edge
  headings_next set e counted =
      map-append (λ (v : TableVersion). v.heading) (passing set e.edge.sources) (made_by_edge e)
      ∙ ap (λ (l : List Heading). l ++ headings_of (made_by_edge e)) (headings_pass set e.edge.sources)
      ∙ ap (λ (l : List Heading). headings_passing (headings_of set) e.edge.sources ++ l) (headings_made e.tables e.edge.targets counted)

  -- no name stands twice in a working set
  pub names_once : (es : List (Placed O)) → AreEdges es → (w : ℕ) → Distinct (heading_names (headings_of (working es w)))
  names_once [] edges w = tt
  names_once (e ∷ es) edges w =
      let follows = edges.0 in
      let set = working es e.parent in
      let hs = headings_of set in
      let name = λ (h : Heading). h.name in
      elim (w == e.number) as (λ b. Distinct (heading_names (headings_of (cond b (set_after set e) (working es w))))) [
        | true ↦ subst (λ (l : List Heading). Distinct (heading_names l)) (sym (headings_next set e follows.counted))
            (subst (λ (l : List (List ℕ)). Distinct l) (sym (map-append name (headings_passing hs e.edge.sources) e.edge.targets))
            (distinct_append (heading_names (headings_passing hs e.edge.sources)) (heading_names e.edge.targets)
            (distinct_part name (λ (h : Heading). not (is_among e.edge.sources h)) hs (names_once es edges.1 e.parent))
            follows.fits.targets_once
            (λ n i j. follows.fits.targets_new n j i)))
        | false ↦ names_once es edges.1 w
      ]
