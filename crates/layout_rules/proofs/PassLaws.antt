-- Passes by place, and ascending lists.
use Rattle.std.specs.Prelude.{◌<◌, ◌≤◌, ◌&&◌, ◌↔◌, Option, Some, None, option_to_list, slice_get, Result, Ok, Err, IfOk}
use Rattle.std.specs.List.{list_all}
use Rattle.std.specs.Option.{option_map_or}
use Rattle.std.proofs.Common.{◌≡◌, ℕ, zero, suc, ◌+◌, List, [], ◌∷◌, ◌++◌, Bool, true, false, cond, filter, map, length, take, inl, inr, refl, sym, ap, ◌∙◌, subst, arith, add-one}
use Rattle.std.proofs.lemmas.Bool.{false≢true}
use Rattle.std.proofs.lemmas.List.{append_assoc, append-nil, length-reverse, map-append, reverse-append, take_all}
use Rattle.std.proofs.lemmas.List.Elements.{filter-append}
use Rattle.std.proofs.lemmas.List.Folds.{list_all-append}
use mathlib.Core.List.{reverse}
use Rattle.version_graph.specs.Sets.{In}
use Rattle.version_graph.specs.Tables.{TableVersion, table_numbers}
use Rattle.version_graph.specs.Edges.{AreEdges, Rises, made, made_by_edge, numbers}
use Rattle.version_graph.specs.Forest.{Link, forest}
use Rattle.version_graph.specs.declared.parts.Placed.{Placed}
use Rattle.version_graph.proofs.SetLaws.{in_append, in_left, in_right}
use Rattle.version_graph.proofs.TableLaws.{numbers_made, passes, rises_above}
use Rattle.layout_rules.specs.Layouts.{IsStored}
use Rattle.layout_rules.proofs.ChangeLaws.{filter_in}
use Rattle.layout_rules.proofs.LookupLaws.{stored_test, stored_told}
use Rattle.layout_rules.specs.Lookups.{is_stored, numbers_up, tables_along, tables_up}

-- what is true of a value follows
pub if_ok_more : {T E : Type 0} (P Q : T → Type 0) → ((x : T) → P x → Q x) → (r : Result T E) → IfOk r P → IfOk r Q
if_ok_more P Q f (Ok x) h = f x h
if_ok_more P Q f (Err e) h = h

module _ {X : Type 0} where
  -- one item more
  next_suc : (xs : List X) (i : ℕ) → take (suc i) xs ≡ take i xs ++ option_to_list (slice_get xs i)
  next_suc [] zero = refl
  next_suc [] (suc i) = refl
  next_suc (x ∷ xs) zero = refl
  next_suc (x ∷ xs) (suc i) = ap (λ (l : List X). x ∷ l) (next_suc xs i)

  pub take_next : (xs : List X) (i : ℕ) (o : Option X) → o ≡ slice_get xs i → take (i + 1) xs ≡ take i xs ++ option_to_list o
  take_next xs i o is = rw add-one (next_suc xs i ∙ ap (λ (p : Option X). take i xs ++ option_to_list p) (sym is))

  pub got_in : (xs : List X) (i : ℕ) (x : X) → Some x ≡ slice_get xs i → In x xs
  got_in [] i x e = let clash : Some x ≡ None = e in cc
  got_in (y ∷ xs) zero x e = inl (let same : x ≡ y = cc in same)
  got_in (y ∷ xs) (suc i) x e = inr (got_in xs i x e)

  -- what passes of one item more
  pub filter_next : (test : X → Bool) (xs : List X) (i : ℕ) (so_far more : List X) (o : Option X) → o ≡ slice_get xs i → so_far ≡ filter test (take i xs) → more ≡ so_far ++ filter test (option_to_list o) → more ≡ filter test (take (i + 1) xs)
  filter_next test xs i so_far more o got is m =
      m ∙ ap (λ (l : List X). l ++ filter test (option_to_list o)) is ∙ sym (ap (filter test) (take_next xs i o got) ∙ filter-append test (take i xs) (option_to_list o))

  pub filter_all : (test : X → Bool) (xs : List X) (i : ℕ) (so_far : List X) → length xs ≤ i → so_far ≡ filter test (take i xs) → so_far ≡ filter test xs
  filter_all test xs i so_far past is = is ∙ ap (filter test) (take_all i xs past)

  pub reverse_next : (x : X) (xs : List X) → reverse (x ∷ xs) ≡ reverse xs ++ x ∷ []
  reverse_next x xs = reverse-append (x ∷ []) xs

-- ---- tests of all items

module _ {X : Type 0} (test : X → Bool) where
  all_in : (xs : List X) (x : X) → In x xs → test x ≡ false → list_all test xs ≡ false
  all_in [] x i h = absurd i
  all_in (y ∷ xs) x (inl e) h = ap (λ (b : Bool). b && list_all test xs) (ap test (sym e) ∙ h)
  all_in (y ∷ xs) x (inr i) h = elim (test y) as (λ b. (b && list_all test xs) ≡ false) [ true ↦ all_in xs x i h | false ↦ refl ]

  -- an item at a place fails, or one more passes
  pub place_fails : (xs : List X) (i : ℕ) (o : Option X) → o ≡ slice_get xs i → option_map_or test o true ≡ false → false ≡ list_all test xs
  place_fails xs i None got h = absurd (false≢true (sym h))
  place_fails xs i (Some x) got h = sym (all_in xs x (got_in xs i x got) h)

  pub place_passes : (xs : List X) (i : ℕ) (o : Option X) → o ≡ slice_get xs i → option_map_or test o true ≡ true → list_all test (take i xs) ≡ true → list_all test (take (i + 1) xs) ≡ true
  place_passes xs i None got h so_far = ap (list_all test) (take_next xs i None got ∙ append-nil (take i xs)) ∙ so_far
  place_passes xs i (Some x) got h so_far =
      ap (list_all test) (take_next xs i (Some x) got) ∙ list_all-append test (take i xs) (x ∷ [])
      ∙ ap (λ (b : Bool). b && (test x && true)) so_far ∙ ap (λ (b : Bool). b && true) h

  pub all_pass : (xs : List X) (i : ℕ) → length xs ≤ i → list_all test (take i xs) ≡ true → true ≡ list_all test xs
  all_pass xs i past so_far = sym so_far ∙ ap (list_all test) (take_all i xs past)

-- ---- operators by place

module _ {O : Type 0} where
  pub map_reverse : (es : List (Placed O)) → numbers_up es ≡ map (λ (e : Placed O). e.number) (reverse es)
  map_reverse [] = refl
  map_reverse (e ∷ es) =
      reverse_next e.number (numbers es) ∙ ap (λ (l : List ℕ). l ++ e.number ∷ []) (map_reverse es)
      ∙ sym (ap (map (λ (x : Placed O). x.number)) (reverse_next e es) ∙ map-append (λ (x : Placed O). x.number) (reverse es) (e ∷ []))

  length_numbers : (es : List (Placed O)) → length (numbers es) ≡ length es
  length_numbers [] = refl
  length_numbers (e ∷ es) = ap suc (length_numbers es)

  pub past_numbers : (es : List (Placed O)) (i n : ℕ) → n ≡ length es → n ≤ i → length (numbers_up es) ≤ i
  past_numbers es i n is past = let same = length-reverse (numbers es) ∙ length_numbers es in omega (arith, same, is, past)

  pub past_edges : (es : List (Placed O)) (i n : ℕ) → n ≡ length es → n ≤ i → length (reverse es) ≤ i
  past_edges es i n is past = let same = length-reverse es in omega (arith, same, is, past)

  -- ---- tables by place

  pub along_both : (xs ys : List (Placed O)) → tables_along (xs ++ ys) ≡ tables_along xs ++ tables_along ys
  along_both [] ys = refl
  along_both (x ∷ xs) ys = ap (λ (l : List ℕ). x.tables ++ l) (along_both xs ys) ∙ sym (append_assoc x.tables (tables_along xs) (tables_along ys))

  module _ (test : ℕ → Bool) where
    pub tables_next : (xs : List (Placed O)) (i : ℕ) (so_far more : List ℕ) → so_far ≡ filter test (tables_along (take i xs)) → more ≡ so_far ++ filter test (tables_along (option_to_list (slice_get xs i))) → more ≡ filter test (tables_along (take (i + 1) xs))
    tables_next xs i so_far more is m =
        let here = option_to_list (slice_get xs i) in
        m ∙ ap (λ (l : List ℕ). l ++ filter test (tables_along here)) is
        ∙ sym (ap (λ (l : List (Placed O)). filter test (tables_along l)) (take_next xs i (slice_get xs i) refl) ∙ ap (filter test) (along_both (take i xs) here) ∙ filter-append test (tables_along (take i xs)) (tables_along here))

    pub tables_all : (xs : List (Placed O)) (i : ℕ) (so_far : List ℕ) → length xs ≤ i → so_far ≡ filter test (tables_along (take i xs)) → so_far ≡ filter test (tables_along xs)
    tables_all xs i so_far past is = is ∙ ap (λ (l : List (Placed O)). filter test (tables_along l)) (take_all i xs past)

-- ---- ascending lists

pub rises_lower : (n m : ℕ) (xs : List ℕ) → n ≤ m → Rises m xs → Rises n xs
rises_lower n m [] less r = tt
rises_lower n m (x ∷ xs) less r = (let a = r.0 in omega arith, r.1)

pub rises_filter : (test : ℕ → Bool) (n : ℕ) (xs : List ℕ) → Rises n xs → Rises n (filter test xs)
rises_filter test n [] r = tt
rises_filter test n (x ∷ xs) r =
    elim (test x) as (λ b. Rises n (cond b (x ∷ filter test xs) (filter test xs))) [
      | true ↦ (r.0, rises_filter test x xs r.1)
      | false ↦ rises_filter test n xs (rises_lower n x xs (let a = r.0 in omega arith) r.1)
    ]

rises_first : (n : ℕ) (ys : List ℕ) → Rises 0 ys → ((y : ℕ) → In y ys → n < y) → Rises n ys
rises_first n [] r h = tt
rises_first n (y ∷ ys) r h = (h y (inl refl), r.1)

pub rises_both : (n : ℕ) (xs ys : List ℕ) → Rises n xs → Rises 0 ys → ((y : ℕ) → In y ys → n < y) → ((x y : ℕ) → In x xs → In y ys → x < y) → Rises n (xs ++ ys)
rises_both n [] ys a b h k = rises_first n ys b h
rises_both n (x ∷ xs) ys a b h k = (a.0, rises_both x xs ys a.1 b (λ y j. k x y (inl refl) j) (λ z y i j. k z y (inr i) j))

module _ {O : Type 0} where
  up_next : (e : Placed O) (es : List (Placed O)) → tables_up (e ∷ es) ≡ tables_up es ++ e.tables
  up_next e es = ap (λ (l : List (Placed O)). tables_along l) (reverse_next e es) ∙ along_both (reverse es) (e ∷ []) ∙ ap (λ (l : List ℕ). tables_up es ++ l) (append-nil e.tables)

  pub up_made : (es : List (Placed O)) → AreEdges es → (t : ℕ) → In t (tables_up es) → In t (table_numbers (made es))
  up_made [] edges t i = absurd i
  up_made (e ∷ es) edges t i =
      let all : table_numbers (made (e ∷ es)) ≡ e.tables ++ table_numbers (made es) = map-append (λ (v : TableVersion). v.number) (made_by_edge e) (made es) ∙ ap (λ (l : List ℕ). l ++ table_numbers (made es)) (numbers_made e.tables e.edge.targets edges.0.counted) in
      subst (λ (l : List ℕ). In t l) (sym all)
      (elim (in_append t (tables_up es) e.tables (subst (λ (l : List ℕ). In t l) (up_next e es) i)) as (λ _. In t (e.tables ++ table_numbers (made es))) [
        | inl j ↦ in_right t e.tables (table_numbers (made es)) (up_made es edges.1 t j)
        | inr j ↦ in_left t e.tables (table_numbers (made es)) j
      ])

  pub tables_rise : (es : List (Placed O)) → AreEdges es → Rises 0 (tables_up es)
  tables_rise [] edges = tt
  tables_rise (e ∷ es) edges =
      subst (λ (l : List ℕ). Rises 0 l) (sym (up_next e es))
      (rises_both 0 (tables_up es) e.tables (tables_rise es edges.1) edges.0.rising (λ y j. rises_above 0 e.tables edges.0.rising y j) (λ x y i j. edges.0.above x y (up_made es edges.1 x i) j))

  -- each target is listed
  pub target_up : (es : List (Placed O)) (f : Link O) (t : ℕ) → In f (forest es) → In t f.targets → In t (tables_up es)
  target_up [] f t i a = i
  target_up (e ∷ es) f t (inl same) a = subst (λ (l : List ℕ). In t l) (sym (up_next e es)) (in_right t (tables_up es) e.tables (subst (λ (y : Link O). In t y.targets) same a))
  target_up (e ∷ es) f t (inr i) a = subst (λ (l : List ℕ). In t l) (sym (up_next e es)) (in_left t (tables_up es) e.tables (target_up es f t i a))

  -- the stored tables, listed
  pub stored_listed : (es : List (Placed O)) → AreEdges es → (layout made : List ℕ) → made ≡ filter (is_stored es layout) (tables_up es) → (t : ℕ) → In t made ↔ IsStored (forest es) layout t
  stored_listed es edges layout made is t = (
    (λ i. stored_told es edges layout t (passes (is_stored es layout) t (tables_up es) (subst (λ (l : List ℕ). In t l) is i))),
    (λ s. subst (λ (l : List ℕ). In t l) (sym is) (filter_in (is_stored es layout) t (tables_up es) (target_up es s.made.0 t s.made.1 s.made.3) (stored_test es edges layout t s))),
  )

  pub stored_rise : (es : List (Placed O)) → AreEdges es → (layout made : List ℕ) → made ≡ filter (is_stored es layout) (tables_up es) → Rises 0 made
  stored_rise es edges layout made is = subst (λ (l : List ℕ). Rises 0 l) (sym is) (rises_filter (is_stored es layout) 0 (tables_up es) (tables_rise es edges))
