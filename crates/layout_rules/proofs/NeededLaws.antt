-- One pass finds what closing needs, and no more.
use Rattle.std.specs.Prelude.{◌&&◌, ◌||◌}
use Rattle.std.proofs.Common.{◌≡◌, ℕ, List, [], ◌∷◌, ◌++◌, Bool, true, false, cond, inl, inr, refl, sym, ap, ◌∙◌, subst, arith}
use Rattle.std.proofs.lemmas.Bool.{and_parts, cases_eq, cond-true, false≢true, or_cases}
use Rattle.version_graph.specs.Sets.{In}
use Rattle.version_graph.specs.Edges.{is_in}
use Rattle.version_graph.specs.Forest.{Link, tree}
use Rattle.version_graph.proofs.SetLaws.{in_append, in_left, in_of_test, in_right, is_in_true}
use Rattle.version_graph.proofs.WalkLaws.{Fits, IsForest, targets_apart}
use Rattle.layout_rules.specs.Layouts.{IsCreate, IsValid, Lives, Share}
use Rattle.layout_rules.specs.Changes.{is_empty}
use Rattle.layout_rules.specs.Closing.{HasNeeded, IsClosed, IsIn, IsNeeded, NoneIsShared}
use Rattle.layout_rules.specs.Passes.{meet, needed}
use Rattle.layout_rules.proofs.LinkLaws.{in_or_out, number_listed, source_made, target_link}
use Rattle.layout_rules.proofs.TreeLemmas.{source_tree}

-- ---- tests

pub meet_true : (t : ℕ) (xs ys : List ℕ) → In t xs → In t ys → meet xs ys ≡ true
meet_true t [] ys i j = absurd i
meet_true t (x ∷ xs) ys (inl e) j = ap (λ (b : Bool). b || meet xs ys) (is_in_true x ys (subst (λ (z : ℕ). In z ys) e j))
meet_true t (x ∷ xs) ys (inr i) j = elim (is_in x ys) as (λ b. (b || meet xs ys) ≡ true) [ true ↦ refl | false ↦ meet_true t xs ys i j ]

pub meet_at : (xs ys : List ℕ) → meet xs ys ≡ true → (t : ℕ) × In t xs × In t ys
meet_at [] ys h = absurd (false≢true h)
meet_at (x ∷ xs) ys h =
    (elim (is_in x ys) as (λ b. is_in x ys ≡ b → (b || meet xs ys) ≡ true → (t : ℕ) × In t (x ∷ xs) × In t ys) [
      | true ↦ λ is k. (x, inl refl, in_of_test x ys is)
      | false ↦ λ is k. (let m = meet_at xs ys k in (m.0, inr m.1, m.2))
    ]) refl h

empty_is : (xs : List ℕ) → is_empty xs ≡ true → xs ≡ []
empty_is [] h = refl
empty_is (x ∷ xs) h = absurd (false≢true h)

by_create : (a b c : Bool) → a ≡ true → b ≡ true → (a && (b || c)) ≡ true
by_create a b c is empty = ap (λ (x : Bool). x && (b || c)) is ∙ ap (λ (x : Bool). x || c) empty

by_table : (a b c : Bool) → a ≡ true → c ≡ true → (a && (b || c)) ≡ true
by_table a b c is met = ap (λ (x : Bool). x && (b || c)) is ∙ ap (λ (x : Bool). b || x) met ∙ elim b as (λ x. (x || true) ≡ true) [ true ↦ refl | false ↦ refl ]

-- ---- the pass

module _ {O : Type 0} (named : ℕ → Bool) where
  -- whether an operator is needed where these tables are
  abbrev test : Link O → List ℕ → Bool
  test x tables = named x.number && (is_empty x.sources || meet x.targets tables)

  taken_in : (x : Link O) (es : List (Link O)) (tables : List ℕ) → test x tables ≡ true → In x.number (needed named (x ∷ es) tables)
  taken_in x es tables is = subst (λ (l : List ℕ). In x.number l) (sym (cond-true (test x tables) (x.number ∷ needed named es (tables ++ x.sources)) (needed named es tables) is)) (inl refl)

  pub needed_live : (es : List (Link O)) (tables : List ℕ) (n : ℕ) → In n (needed named es tables) → Lives es n × (named n ≡ true)
  needed_live [] tables n i = absurd i
  needed_live (x ∷ es) tables n i =
      let later : (ts : List ℕ) → In n (needed named es ts) → Lives (x ∷ es) n × (named n ≡ true) = λ ts j. (let l = needed_live es ts n j in ((l.0.0, inr l.0.1, l.0.2), l.1)) in
      (elim (test x tables) as (λ b. test x tables ≡ b → In n (cond b (x.number ∷ needed named es (tables ++ x.sources)) (needed named es tables)) → Lives (x ∷ es) n × (named n ≡ true)) [
        | true ↦ λ is j. elim j as (λ _. Lives (x ∷ es) n × (named n ≡ true)) [
          | inl same ↦ ((x, inl refl, same), ap named same ∙ (and_parts (named x.number) (is_empty x.sources || meet x.targets tables) is).0)
          | inr k ↦ later (tables ++ x.sources) k
        ]
        | false ↦ λ is j. later tables j
      ]) refl i

  pub needed_creates : (es : List (Link O)) (tables : List ℕ) (e : Link O) → In e es → named e.number ≡ true → IsCreate e → In e.number (needed named es tables)
  needed_creates [] tables e i is none = i
  needed_creates (x ∷ es) tables e (inl same) is none =
      subst (λ (y : Link O). In y.number (needed named (x ∷ es) tables)) (sym same)
      (taken_in x es tables (by_create (named x.number) (is_empty x.sources) (meet x.targets tables) (subst (λ (y : Link O). named y.number ≡ true) same is) (ap is_empty (subst (λ (y : Link O). y.sources ≡ []) same none))))
  needed_creates (x ∷ es) tables e (inr i) is none =
      elim (test x tables) as (λ b. In e.number (cond b (x.number ∷ needed named es (tables ++ x.sources)) (needed named es tables))) [
        | true ↦ inr (needed_creates es (tables ++ x.sources) e i is none)
        | false ↦ needed_creates es tables e i is none
      ]

  pub needed_makers : (es : List (Link O)) (tables : List ℕ) (e : Link O) (t : ℕ) → In e es → named e.number ≡ true → In t e.targets → In t tables → In e.number (needed named es tables)
  needed_makers [] tables e t i is a b = i
  needed_makers (x ∷ es) tables e t (inl same) is a b =
      subst (λ (y : Link O). In y.number (needed named (x ∷ es) tables)) (sym same)
      (taken_in x es tables (by_table (named x.number) (is_empty x.sources) (meet x.targets tables) (subst (λ (y : Link O). named y.number ≡ true) same is) (meet_true t x.targets tables (subst (λ (y : Link O). In t y.targets) same a) b)))
  needed_makers (x ∷ es) tables e t (inr i) is a b =
      elim (test x tables) as (λ b. In e.number (cond b (x.number ∷ needed named es (tables ++ x.sources)) (needed named es tables))) [
        | true ↦ inr (needed_makers es (tables ++ x.sources) e t i is a (in_left t tables x.sources b))
        | false ↦ needed_makers es tables e t i is a b
      ]

  -- an older operator isn't the first one
  not_first : (x : Link O) (es : List (Link O)) (e : Link O) → Fits es x → In e es → e.number ≡ x.number → ⊥
  not_first x es e fit i same = let less = fit.newest e.number (inr (number_listed es e i)) in omega arith

  -- with an operator those that made its source tables
  source_one : (x : Link O) (es : List (Link O)) (tables : List ℕ) (e f : Link O) (t : ℕ) (b : Bool) → Fits es x → In e (x ∷ es) → In f es → named f.number ≡ true → In t e.sources → In t f.targets
      → ((ts : List ℕ) → In e es → In e.number (needed named es ts) → In f.number (needed named es ts))
      → In e.number (cond b (x.number ∷ needed named es (tables ++ x.sources)) (needed named es tables)) → In f.number (cond b (x.number ∷ needed named es (tables ++ x.sources)) (needed named es tables))
  source_one x es tables e f t true fit (inl same) j is a b more k =
      inr (needed_makers es (tables ++ x.sources) f t j is b (in_right t tables x.sources (subst (λ (y : Link O). In t y.sources) same a)))
  source_one x es tables e f t true fit (inr i) j is a b more (inl same) = absurd (not_first x es e fit i same)
  source_one x es tables e f t true fit (inr i) j is a b more (inr k) = inr (more (tables ++ x.sources) i k)
  source_one x es tables e f t false fit (inl same) j is a b more k =
      let l = (needed_live es tables e.number k).0 in
      absurd (not_first x es l.0 fit l.1 (sym l.2 ∙ ap (λ (y : Link O). y.number) same))
  source_one x es tables e f t false fit (inr i) j is a b more k = more tables i k

  pub needed_sources : (es : List (Link O)) → IsForest es → (tables : List ℕ) (e f : Link O) (t : ℕ) → In e es → In f es → named f.number ≡ true → In e.number (needed named es tables) → In t e.sources → In t f.targets → In f.number (needed named es tables)
  needed_sources [] forest tables e f t i j is k a b = absurd i
  needed_sources (x ∷ es) forest tables e f t (inl at) (inl same) is k a b = absurd (targets_apart es x forest.0 t (subst (λ (y : Link O). In t y.targets) same b) (subst (λ (y : Link O). In t y.sources) at a))
  needed_sources (x ∷ es) forest tables e f t (inr i) (inl same) is k a b = absurd (forest.0.fresh t (subst (λ (y : Link O). In t y.targets) same b) (source_made es e t forest.1 i a))
  needed_sources (x ∷ es) forest tables e f t i (inr j) is k a b =
      source_one x es tables e f t (test x tables) forest.0 i j is a b (λ ts m l. needed_sources es forest.1 ts e f t m j is l a b) k

  -- what has all this has these
  least_here : (x : Link O) (tables layout : List ℕ) → test x tables ≡ true → (named x.number ≡ true → IsCreate x → In x.number layout) → (named x.number ≡ true → (t : ℕ) → In t x.targets → In t tables → In x.number layout) → In x.number layout
  least_here x tables layout is creates makers =
      let p = and_parts (named x.number) (is_empty x.sources || meet x.targets tables) is in
      elim (or_cases (is_empty x.sources) (meet x.targets tables) p.1) as (λ _. In x.number layout) [
        | inl none ↦ creates p.0 (empty_is x.sources none)
        | inr met ↦ (let m = meet_at x.targets tables met in makers p.0 m.0 m.1 m.2)
      ]

  pub needed_least : (es : List (Link O)) (tables layout : List ℕ) → ((e : Link O) → In e es → named e.number ≡ true → IsCreate e → In e.number layout)
      → ((e : Link O) → In e es → named e.number ≡ true → (t : ℕ) → In t e.targets → In t tables → In e.number layout)
      → ((e f : Link O) → In e es → In f es → named e.number ≡ true → In e.number layout → (t : ℕ) → In t e.sources → In t f.targets → In f.number layout)
      → (n : ℕ) → In n (needed named es tables) → In n layout
  needed_least [] tables layout creates makers sources n i = absurd i
  needed_least (x ∷ es) tables layout creates makers sources n i =
      let rest : (ts : List ℕ) → ((e : Link O) → In e es → named e.number ≡ true → (t : ℕ) → In t e.targets → In t ts → In e.number layout) → In n (needed named es ts) → In n layout =
      λ ts more j. needed_least es ts layout (λ e k. creates e (inr k)) more (λ e f k l. sources e f (inr k) (inr l)) n j in
      (elim (test x tables) as (λ b. test x tables ≡ b → In n (cond b (x.number ∷ needed named es (tables ++ x.sources)) (needed named es tables)) → In n layout) [
        | true ↦ λ is j.
            let here = least_here x tables layout is (creates x (inl refl)) (makers x (inl refl)) in
            let mine = (and_parts (named x.number) (is_empty x.sources || meet x.targets tables) is).0 in
            elim j as (λ _. In n layout) [
              | inl same ↦ subst (λ (k : ℕ). In k layout) (sym same) here
              | inr k ↦ rest (tables ++ x.sources) (λ e l own t a b. elim (in_append t tables x.sources b) as (λ _. In e.number layout) [
                | inl c ↦ makers e (inr l) own t a c
                | inr c ↦ sources x e (inl refl) (inr l) mine here t c a
              ]) k
            ]
        | false ↦ λ is j. rest tables (λ e l. makers e (inr l)) j
      ]) refl i

-- ---- in named trees

module _ {O : Type 0} (es : List (Link O)) (forest : IsForest es) (trees tables : List ℕ) where
  abbrev pub in_trees : ℕ → Bool
  in_trees n = is_in (tree es n) trees

  abbrev pub found : List ℕ
  found = needed in_trees es tables

  tested : (n : ℕ) → IsIn es trees n → in_trees n ≡ true
  tested n i = is_in_true (tree es n) trees i

  told : (n : ℕ) → in_trees n ≡ true → IsIn es trees n
  told n is = in_of_test (tree es n) trees is

  same_trees : (e f : Link O) (t : ℕ) → In e es → In f es → In t e.sources → In t f.targets → IsIn es trees e.number → IsIn es trees f.number
  same_trees e f t i j a b own = subst (λ (r : ℕ). In r trees) (sym (source_tree es forest e f t i j a b)) own

  pub found_has : HasNeeded es trees tables found
  found_has = record {
    creates = λ e i own none. needed_creates in_trees es tables e i (tested e.number own) none;
    makers = λ e i own t a b. needed_makers in_trees es tables e t i (tested e.number own) a b;
    sources = λ e f i j own k t a b. needed_sources in_trees es forest tables e f t i j (tested f.number (same_trees e f t i j a b own)) k a b;
  }

  pub found_needed : (n : ℕ) → In n found → IsNeeded es trees tables n
  found_needed n i layout has =
      needed_least in_trees es tables layout (λ e j is. has.creates e j (told e.number is)) (λ e j is. has.makers e j (told e.number is)) (λ e f j k is. has.sources e f j k (told e.number is)) n i

  pub needed_lives : (n : ℕ) → IsNeeded es trees tables n → Lives es n
  needed_lives n need = (needed_live in_trees es tables n (need found found_has)).0

  -- ---- the closed layout is valid

  module _ (layout new : List ℕ) (valid : IsValid es layout) (closed : IsClosed es trees tables layout new) (none : NoneIsShared es trees tables) where
    others_in : (n : ℕ) → (IsIn es trees n → ⊥) → In n layout → In n new
    others_in n other i = (closed.others n other).1 (i, valid.live n i)

    closed_live : (n : ℕ) → In n new → Lives es n
    closed_live n i = elim (in_or_out (tree es n) trees) as (λ _. Lives es n) [ inl own ↦ needed_lives n ((closed.named n own).0 i) | inr other ↦ ((closed.others n other).0 i).1 ]

    closed_creates : (e : Link O) → In e es → IsCreate e → In e.number new
    closed_creates e i create = elim (in_or_out (tree es e.number) trees) as (λ _. In e.number new) [
      | inl own ↦ (closed.named e.number own).1 (λ l has. has.creates e i own create)
      | inr other ↦ others_in e.number other (valid.creates e i create)
    ]

    -- the maker of a source table
    maker_new : (e f : Link O) (t : ℕ) → In e es → In f es → In e.number new → In t e.sources → In t f.targets → In f.number new
    maker_new e f t i j k a b = elim (in_or_out (tree es e.number) trees) as (λ _. In f.number new) [
      | inl own ↦ (closed.named f.number (same_trees e f t i j a b own)).1 (λ l has. has.sources e f i j own ((closed.named e.number own).0 k l has) t a b)
      | inr other ↦
          let away : IsIn es trees f.number → ⊥ = λ own. other (subst (λ (r : ℕ). In r trees) (source_tree es forest e f t i j a b) own) in
          let m = valid.makers e i ((closed.others e.number other).0 k).0 t a in
          let same = Rattle.layout_rules.proofs.LinkLaws.same_maker es m.0 f t forest m.1 j m.3 b in
          others_in f.number away (subst (λ (y : Link O). In y.number layout) same m.2)
    ]

    closed_once : (e f : Link O) → In e es → In f es → In e.number new → In f.number new → Share e f → e.number ≡ f.number
    closed_once e f i j k l s =
        let g = target_link es s.0 (source_made es e s.0 forest i s.1) in
        let one = source_tree es forest e g.0 s.0 i g.1 s.1 g.2 in
        let two = source_tree es forest f g.0 s.0 j g.1 s.2 g.2 in
        let same : tree es f.number ≡ tree es e.number = sym two ∙ one in
        elim (in_or_out (tree es e.number) trees) as (λ _. e.number ≡ f.number) [
          | inl own ↦ elim (cases_eq e.number f.number) as (λ _. e.number ≡ f.number) [
            | inl is ↦ is
            | inr apart ↦ absurd (none s.0 (e, f, i, j, (closed.named e.number own).0 k, (closed.named f.number (subst (λ (r : ℕ). In r trees) (sym same) own)).0 l, apart, s.1, s.2))
          ]
          | inr other ↦
              let away : IsIn es trees f.number → ⊥ = λ own. other (subst (λ (r : ℕ). In r trees) same own) in
              valid.once e f i j ((closed.others e.number other).0 k).0 ((closed.others f.number away).0 l).0 s
        ]

    pub closed_valid : IsValid es new
    closed_valid = record {
      live = closed_live;
      creates = closed_creates;
      makers = λ e i k t a. let g = target_link es t (source_made es e t forest i a) in (g.0, g.1, maker_new e g.0 t i g.1 k a g.2, g.2);
      once = closed_once;
    }
