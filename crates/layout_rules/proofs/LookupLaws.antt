-- What the look-ups of a graph say of its links.
use Rattle.std.specs.Prelude.{◌==◌, ◌&&◌, ◌||◌, ◌↔◌, Option, Some, None, option_map, is_some, unwrap_or}
use Rattle.std.specs.List.{find, list_all, list_any}
use Rattle.std.specs.Option.{option_map_or}
use Rattle.std.proofs.Common.{◌≡◌, ℕ, List, [], ◌∷◌, Bool, true, false, not, cond, inl, inr, refl, sym, ap, ◌∙◌, subst, arith}
use Rattle.std.proofs.lemmas.Bool.{and_from, and_parts, cases_eq, cond-false, cond-true, eq-eqb, eqb-true, false≢true, ne_eqb, false_from_ne_true}
use Rattle.std.proofs.lemmas.List.{reverse-reverse}
use mathlib.Core.List.{reverse}
use Rattle.version_graph.specs.Sets.{In}
use Rattle.version_graph.specs.Tables.{table_numbers}
use Rattle.version_graph.specs.Edges.{AreEdges, edge_of, is_in, maker_of, numbers, sources_at, sources_of}
use Rattle.version_graph.specs.Forest.{Link, forest, link}
use Rattle.version_graph.specs.declared.parts.Placed.{Placed}
use Rattle.version_graph.proofs.SetLaws.{in_of_test, is_in_true}
use Rattle.version_graph.proofs.NodeLaws.{live_edge}
use Rattle.version_graph.proofs.WalkStepLaws.{in_reverse}
use Rattle.version_graph.proofs.WalkLaws.{is_forest}
use Rattle.layout_rules.specs.Layouts.{IsMade, IsStored, IsTaken, IsValid, Lives, Share}
use Rattle.layout_rules.specs.Changes.{is_empty}
use Rattle.layout_rules.specs.Passes.{meet}
use Rattle.layout_rules.specs.Lookups.{clash, clashes, has_makers, is_made, is_stored, is_taken, is_valid, may_miss, may_stand, numbers_up, sources_or_none, takes}
use Rattle.layout_rules.proofs.LinkLaws.{target_listed}
use Rattle.layout_rules.proofs.ChangeLaws.{link_number, number_lives}
use Rattle.layout_rules.proofs.NeededLaws.{meet_at, meet_true}

-- ---- tests of lists

module _ {X : Type 0} (test : X → Bool) where
  pub any_true : (xs : List X) (x : X) → In x xs → test x ≡ true → list_any test xs ≡ true
  any_true [] x i h = absurd i
  any_true (y ∷ xs) x (inl e) h = ap (λ (b : Bool). b || list_any test xs) (ap test (sym e) ∙ h)
  any_true (y ∷ xs) x (inr i) h = elim (test y) as (λ b. (b || list_any test xs) ≡ true) [ true ↦ refl | false ↦ any_true xs x i h ]

  pub any_at : (xs : List X) → list_any test xs ≡ true → (x : X) × In x xs × (test x ≡ true)
  any_at [] h = absurd (false≢true h)
  any_at (y ∷ xs) h =
      (elim (test y) as (λ b. test y ≡ b → (b || list_any test xs) ≡ true → (x : X) × In x (y ∷ xs) × (test x ≡ true)) [
        | true ↦ λ is k. (y, inl refl, is)
        | false ↦ λ is k. (let m = any_at xs k in (m.0, inr m.1, m.2))
      ]) refl h

  pub all_true : (xs : List X) → ((x : X) → In x xs → test x ≡ true) → list_all test xs ≡ true
  all_true [] h = refl
  all_true (y ∷ xs) h = ap (λ (b : Bool). b && list_all test xs) (h y (inl refl)) ∙ all_true xs (λ x i. h x (inr i))

  pub all_at : (xs : List X) → list_all test xs ≡ true → (x : X) → In x xs → test x ≡ true
  all_at [] h x i = absurd i
  all_at (y ∷ xs) h x i =
      (elim (test y) as (λ b. test y ≡ b → (b && list_all test xs) ≡ true → test x ≡ true) [
        | true ↦ λ is k. elim i as (λ _. test x ≡ true) [ inl e ↦ ap test e ∙ is | inr j ↦ all_at xs k x j ]
        | false ↦ λ is k. absurd (false≢true k)
      ]) refl h

pub not_off : (b : Bool) → not b ≡ true → b ≡ true → ⊥
not_off true h k = false≢true h
not_off false h k = false≢true k

pub not_on : (b : Bool) → (b ≡ true → ⊥) → not b ≡ true
not_on b h = ap not (false_from_ne_true b h)

-- ---- sources and makers

module _ {O : Type 0} where
  pub sources_link : (es : List (Placed O)) → AreEdges es → (f : Link O) → In f (forest es) → sources_or_none es f.number ≡ f.sources
  sources_link [] edges f i = absurd i
  sources_link (e ∷ es) edges f (inl same) =
      ap (λ (y : Link O). sources_or_none (e ∷ es) y.number) same
      ∙ ap (λ (o : Option (List ℕ)). unwrap_or o []) (cond-true (e.number == e.number) (Some (table_numbers (sources_of es e))) (sources_at es e.number) (eq-eqb e.number e.number refl))
      ∙ ap (λ (y : Link O). y.sources) (sym same)
  sources_link (e ∷ es) edges f (inr i) =
      let less = edges.0.newest f.number (inr (link_number es f i)) in
      ap (λ (o : Option (List ℕ)). unwrap_or o []) (cond-false (f.number == e.number) (Some (table_numbers (sources_of es e))) (sources_at es f.number) (ne_eqb f.number e.number (λ same. omega arith)))
      ∙ sources_link es edges.1 f i

  -- who has a source is a link
  pub source_link : (es : List (Placed O)) (n t : ℕ) → In t (sources_or_none es n) → (f : Link O) × In f (forest es) × (n ≡ f.number) × In t f.sources
  source_link [] n t i = absurd i
  source_link (e ∷ es) n t i =
      (elim (n == e.number) as (λ b. (n == e.number) ≡ b → In t (unwrap_or (cond b (Some (table_numbers (sources_of es e))) (sources_at es n)) []) → (f : Link O) × In f (forest (e ∷ es)) × (n ≡ f.number) × In t f.sources) [
        | true ↦ λ is j. (link es e, inl refl, eqb-true n e.number is, j)
        | false ↦ λ is j. (let m = source_link es n t j in (m.0, inr m.1, m.2, m.3))
      ]) refl i

  pub maker_link : (es : List (Placed O)) → AreEdges es → (f : Link O) (t : ℕ) → In f (forest es) → In t f.targets → maker_of es t ≡ Some f.number
  maker_link [] edges f t i a = absurd i
  maker_link (e ∷ es) edges f t (inl same) a =
      ap (option_map (λ (x : Placed O). x.number)) (cond-true (is_in t e.tables) (Some e) (find (λ (x : Placed O). is_in t x.tables) es) (is_in_true t e.tables (subst (λ (y : Link O). In t y.targets) same a)))
      ∙ ap (λ (y : Link O). Some y.number) (sym same)
  maker_link (e ∷ es) edges f t (inr i) a =
      let fit = (is_forest (e ∷ es) edges).0 in
      let other = false_from_ne_true (is_in t e.tables) (λ h. fit.fresh t (in_of_test t e.tables h) (target_listed (forest es) f t i a)) in
      ap (option_map (λ (x : Placed O). x.number)) (cond-false (is_in t e.tables) (Some e) (find (λ (x : Placed O). is_in t x.tables) es) other) ∙ maker_link es edges.1 f t i a

  pub link_maker : (es : List (Placed O)) (t n : ℕ) → maker_of es t ≡ Some n → (f : Link O) × In f (forest es) × (n ≡ f.number) × In t f.targets
  link_maker [] t n h = cc
  link_maker (e ∷ es) t n h =
      (elim (is_in t e.tables) as (λ b. is_in t e.tables ≡ b → option_map (λ (x : Placed O). x.number) (cond b (Some e) (find (λ (x : Placed O). is_in t x.tables) es)) ≡ Some n → (f : Link O) × In f (forest (e ∷ es)) × (n ≡ f.number) × In t f.targets) [
        | true ↦ λ is k. (link es e, inl refl, (let same : e.number ≡ n = cc in sym same), in_of_test t e.tables is)
        | false ↦ λ is k. (let m = link_maker es t n k in (m.0, inr m.1, m.2, m.3))
      ]) refl h

  -- ---- stored tables

  module _ (es : List (Placed O)) (edges : AreEdges es) (layout : List ℕ) where
    made_test : (t : ℕ) → IsMade (forest es) layout t → is_made es layout t ≡ true
    made_test t m = ap (λ (o : Option ℕ). option_map_or (λ n. is_in n layout) o false) (maker_link es edges m.0 t m.1 m.3) ∙ is_in_true m.0.number layout m.2

    test_made : (t : ℕ) (o : Option ℕ) → maker_of es t ≡ o → option_map_or (λ n. is_in n layout) o false ≡ true → IsMade (forest es) layout t
    test_made t None is h = absurd (false≢true h)
    test_made t (Some n) is h = let m = link_maker es t n is in (m.0, m.1, subst (λ (k : ℕ). In k layout) m.2 (in_of_test n layout h), m.3)

    pub made_told : (t : ℕ) → is_made es layout t ≡ true → IsMade (forest es) layout t
    made_told t h = test_made t (maker_of es t) refl h

    taken_test : (t : ℕ) → IsTaken (forest es) layout t → is_taken es layout t ≡ true
    taken_test t m = any_true (takes es t) layout m.0.number m.2 (is_in_true t (sources_or_none es m.0.number) (subst (λ (l : List ℕ). In t l) (sym (sources_link es edges m.0 m.1)) m.3))

    taken_told : (t : ℕ) → is_taken es layout t ≡ true → IsTaken (forest es) layout t
    taken_told t h =
        let a = any_at (takes es t) layout h in
        let f = source_link es a.0 t (in_of_test t (sources_or_none es a.0) a.2) in
        (f.0, f.1, subst (λ (k : ℕ). In k layout) f.2 a.1, f.3)

    pub stored_test : (t : ℕ) → IsStored (forest es) layout t → is_stored es layout t ≡ true
    stored_test t s = and_from (is_made es layout t) (not (is_taken es layout t)) (made_test t s.made) (not_on (is_taken es layout t) (λ h. s.free (taken_told t h)))

    pub stored_told : (t : ℕ) → is_stored es layout t ≡ true → IsStored (forest es) layout t
    stored_told t h =
        let p = and_parts (is_made es layout t) (not (is_taken es layout t)) h in
        record { made = made_told t p.0; free = λ m. not_off (is_taken es layout t) p.1 (taken_test t m) }

    -- ---- valid layouts

    edge_listed : (fs : List (Placed O)) (n : ℕ) → is_some (edge_of fs n) ≡ true → In n (numbers fs)
    edge_listed [] n h = absurd (false≢true h)
    edge_listed (e ∷ fs) n h =
        (elim (n == e.number) as (λ b. (n == e.number) ≡ b → is_some (cond b (Some e) (edge_of fs n)) ≡ true → In n (numbers (e ∷ fs))) [
          | true ↦ λ is k. inl (eqb-true n e.number is)
          | false ↦ λ is k. inr (edge_listed fs n k)
        ]) refl h

    edge_some : (n : ℕ) → Lives (forest es) n → is_some (edge_of es n) ≡ true
    edge_some n l = let e = live_edge es n (subst (λ (k : ℕ). In k (numbers es)) (sym l.2) (link_number es l.0 l.1)) in ap is_some e.1

    shared : (n m : ℕ) → clash es n m ≡ true → (e : Link O) × (f : Link O) × In e (forest es) × In f (forest es) × (n ≡ e.number) × (m ≡ f.number) × Share e f × (n ≡ m → ⊥)
    shared n m h =
        let p = and_parts (not (n == m)) (meet (sources_or_none es n) (sources_or_none es m)) h in
        let t = meet_at (sources_or_none es n) (sources_or_none es m) p.1 in
        let e = source_link es n t.0 t.1 in
        let f = source_link es m t.0 t.2 in
        (e.0, f.0, e.1, f.1, e.2, f.2, (t.0, e.3, f.3), (λ same. not_off (n == m) p.0 (eq-eqb n m same)))

    sharing : (e f : Link O) → In e (forest es) → In f (forest es) → Share e f → (e.number ≡ f.number → ⊥) → clash es e.number f.number ≡ true
    sharing e f i j s apart =
        and_from (not (e.number == f.number)) (meet (sources_or_none es e.number) (sources_or_none es f.number)) (ap not (ne_eqb e.number f.number apart))
        (meet_true s.0 (sources_or_none es e.number) (sources_or_none es f.number)
        (subst (λ (l : List ℕ). In s.0 l) (sym (sources_link es edges e i)) s.1) (subst (λ (l : List ℕ). In s.0 l) (sym (sources_link es edges f j)) s.2))

    stands : IsValid (forest es) layout → (n : ℕ) → In n layout → may_stand es layout n ≡ true
    stands valid n i =
        let rest = has_makers es layout n && not (clashes es layout n) in
        and_from (is_some (edge_of es n)) rest (edge_some n (valid.live n i))
        (and_from (has_makers es layout n) (not (clashes es layout n))
        (all_true (is_made es layout) (sources_or_none es n) (λ t j.
        let f = source_link es n t j in
        made_test t (valid.makers f.0 f.1 (subst (λ (k : ℕ). In k layout) f.2 i) t f.3)))
        (not_on (clashes es layout n) (λ h.
        let a = any_at (clash es n) layout h in
        let s = shared n a.0 a.2 in
        s.7 (s.4 ∙ valid.once s.0 s.1 s.2 s.3 (subst (λ (k : ℕ). In k layout) s.4 i) (subst (λ (k : ℕ). In k layout) s.5 a.1) s.6 ∙ sym s.5))))

    none_missing : IsValid (forest es) layout → (n : ℕ) → In n (numbers es) → may_miss es layout n ≡ true
    none_missing valid n i =
        let l = number_lives es n i in
        let is : sources_or_none es n ≡ l.0.sources = ap (sources_or_none es) l.2 ∙ sources_link es edges l.0 l.1 in
        one_missing (sources_or_none es n) (is_in n layout) (λ none. is_in_true n layout (subst (λ (k : ℕ). In k layout) (sym l.2) (valid.creates l.0 l.1 (sym is ∙ none))))
      where
        one_missing : (xs : List ℕ) (b : Bool) → (xs ≡ [] → b ≡ true) → (not (is_empty xs) || b) ≡ true
        one_missing [] b h = h refl
        one_missing (x ∷ xs) b h = refl

    pub valid_test : IsValid (forest es) layout → is_valid es layout ≡ true
    valid_test valid =
        and_from (list_all (may_miss es layout) (numbers_up es)) (list_all (may_stand es layout) layout)
        (all_true (may_miss es layout) (numbers_up es) (λ n i. none_missing valid n (subst (λ (l : List ℕ). In n l) (reverse-reverse (numbers es)) (in_reverse n (reverse (numbers es)) i))))
        (all_true (may_stand es layout) layout (stands valid))

    create_in : (n : ℕ) → may_miss es layout n ≡ true → sources_or_none es n ≡ [] → In n layout
    create_in n h none = in_of_test n layout (sym (ap (λ (l : List ℕ). not (is_empty l) || is_in n layout) none) ∙ h)

    pub valid_told : is_valid es layout ≡ true → IsValid (forest es) layout
    valid_told h =
        let p = and_parts (list_all (may_miss es layout) (numbers_up es)) (list_all (may_stand es layout) layout) h in
        let stand : (n : ℕ) → In n layout → (is_some (edge_of es n) ≡ true) × (has_makers es layout n ≡ true) × (not (clashes es layout n) ≡ true) = λ n i.
        (let a = and_parts (is_some (edge_of es n)) (has_makers es layout n && not (clashes es layout n)) (all_at (may_stand es layout) layout p.1 n i) in
        let b = and_parts (has_makers es layout n) (not (clashes es layout n)) a.1 in
        (a.0, b.0, b.1)) in
        record {
          live = λ n i. number_lives es n (edge_listed es n (stand n i).0);
          creates = λ e i none. create_in e.number (all_at (may_miss es layout) (numbers_up es) p.0 e.number (in_reverse e.number (numbers es) (link_number es e i))) (sources_link es edges e i ∙ none);
          makers = λ e i a t b. made_told t (all_at (is_made es layout) (sources_or_none es e.number) (stand e.number a).1 t (subst (λ (l : List ℕ). In t l) (sym (sources_link es edges e i)) b));
          once = λ e f i j a b s. elim (cases_eq e.number f.number) as (λ _. e.number ≡ f.number) [
            | inl same ↦ same
            | inr apart ↦ absurd (not_off (clashes es layout e.number) (stand e.number a).2 (any_true (clash es e.number) layout f.number b (sharing e f i j s apart)))
          ];
        }

    pub valid_iff : (b : Bool) → b ≡ is_valid es layout → (b ≡ true) ↔ IsValid (forest es) layout
    valid_iff b is = ((λ h. valid_told (sym is ∙ h)), (λ valid. is ∙ valid_test valid))
