-- A move passes only through valid layouts, and its next flip is found.
use Rattle.std.specs.Prelude.{◌≤◌, ◌⊎◌}
use Rattle.std.proofs.Common.{◌≡◌, ℕ, zero, suc, List, [], ◌∷◌, inl, inr, refl, sym, ap, subst, arith}
use Rattle.std.proofs.lemmas.Bool.{cases_eq}
use Rattle.version_graph.specs.Sets.{In}
use Rattle.version_graph.specs.Forest.{Link}
use Rattle.version_graph.proofs.WalkLaws.{Fits, IsForest}
use Rattle.layout_rules.specs.Layouts.{IsValid, Lives}
use Rattle.layout_rules.specs.Moves.{Flips, IsDown, IsUp, Moves, PutsIn, SameOperators, TakesOut}
use Rattle.layout_rules.proofs.LinkLaws.{in_or_out, maker_in, number_listed, same_link, taker_newer}

module _ {O : Type 0} (es : List (Link O)) (forest : IsForest es) (layout goal : List ℕ) (valid : IsValid es layout) (valid_goal : IsValid es goal) where
  -- an operator that the goal lacks goes to its source side
  module _ (e : Link O) (new : List ℕ) (d : IsDown es layout goal e) (out : TakesOut e.number layout new) where
    not_it : (n : ℕ) → In n new → n ≡ e.number → ⊥
    not_it n i same = out.gone (subst (λ (k : ℕ). In k new) same i)

    was : (n : ℕ) → In n new → In n layout
    was n i = (out.others n (not_it n i)).0 i

    -- who takes a table of it isn't in the layout any more
    maker_stays : (f g : Link O) (t : ℕ) → In f es → In f.number new → In t f.sources → In g es → In g.number layout → In t g.targets → In g.number new
    maker_stays f g t i a b j k m =
        elim (cases_eq g.number e.number) as (λ _. In g.number new) [
          | inl same ↦
              let mine : In t e.targets = subst (λ (y : Link O). In t y.targets) (same_link es g e forest j d.lives same) m in
              let above = taker_newer es e f t forest d.lives i mine b in
              let lacks : In f.number goal → ⊥ = λ c. d.unwanted (maker_in es goal e t forest d.lives mine (valid_goal.makers f i c t b)) in
              let below = d.newest f i (was f.number a) lacks in
              absurd (omega arith)
          | inr other ↦ (out.others g.number other).1 k
        ]

    pub down_valid : IsValid es new
    down_valid = record {
      live = λ n i. valid.live n (was n i);
      creates = λ f i none. elim (cases_eq f.number e.number) as (λ _. In f.number new) [
        | inl same ↦ absurd (d.unwanted (subst (λ (k : ℕ). In k goal) same (valid_goal.creates f i none)))
        | inr other ↦ (out.others f.number other).1 (valid.creates f i none)
      ];
      makers = λ f i a t b. let m = valid.makers f i (was f.number a) t b in (m.0, m.1, maker_stays f m.0 t i a b m.1 m.2 m.3, m.3);
      once = λ f g i j a b s. valid.once f g i j (was f.number a) (was g.number b) s;
    }

  -- an operator of the goal goes to its target side
  module _ (e : Link O) (new : List ℕ) (u : IsUp es layout goal e) (put : PutsIn e.number layout new) where
    still : (n : ℕ) → In n layout → In n new
    still n i = elim (cases_eq n e.number) as (λ _. In n new) [ inl same ↦ subst (λ (k : ℕ). In k new) (sym same) put.there | inr other ↦ (put.others n other).1 i ]

    wanted : (f : Link O) → In f es → In f.number new → In f.number goal
    wanted f i a = elim (cases_eq f.number e.number) as (λ _. In f.number goal) [
      | inl same ↦ subst (λ (k : ℕ). In k goal) (sym same) u.wanted
      | inr other ↦ u.none_down f i ((put.others f.number other).0 a)
    ]

    -- who made a table that it takes is in the layout
    maker_there : (f g : Link O) (t : ℕ) → In f es → In f.number new → In t f.sources → In g es → In g.number goal → In t g.targets → In g.number new
    maker_there f g t i a b j k m =
        elim (in_or_out g.number layout) as (λ _. In g.number new) [
          | inl l ↦ still g.number l
          | inr lacks ↦
              let older = u.oldest g j lacks k in
              let above = taker_newer es g f t forest j i m b in
              elim (cases_eq f.number e.number) as (λ _. In g.number new) [
                | inl same ↦ absurd (omega arith)
                | inr other ↦ absurd (lacks (maker_in es layout g t forest j m (valid.makers f i ((put.others f.number other).0 a) t b)))
              ]
        ]

    pub up_valid : IsValid es new
    up_valid = record {
      live = λ n i. elim (cases_eq n e.number) as (λ _. Lives es n) [ inl same ↦ (e, u.lives, same) | inr other ↦ valid.live n ((put.others n other).0 i) ];
      creates = λ f i none. still f.number (valid.creates f i none);
      makers = λ f i a t b. let m = valid_goal.makers f i (wanted f i a) t b in (m.0, m.1, maker_there f m.0 t i a b m.1 m.2 m.3, m.3);
      once = λ f g i j a b s. valid_goal.once f g i j (wanted f i a) (wanted g j b) s;
    }

  flip_valid : (new : List ℕ) → Flips es goal layout new → IsValid es new
  flip_valid new flip = elim flip.1 as (λ _. IsValid es new) [ inl d ↦ down_valid flip.0 new d.0 d.1 | inr u ↦ up_valid flip.0 new u.0 u.1 ]

pub moves_valid : {O : Type 0} (es : List (Link O)) → IsForest es → (goal : List ℕ) → IsValid es goal → (n : ℕ) (layout last : List ℕ) → IsValid es layout → Moves es goal n layout last → IsValid es last
moves_valid es forest goal valid_goal zero layout last valid moves = subst (λ (l : List ℕ). IsValid es l) moves valid
moves_valid es forest goal valid_goal (suc n) layout last valid moves = moves_valid es forest goal valid_goal n moves.0 last (flip_valid es forest layout goal valid valid_goal moves.0 moves.1) moves.2

-- ---- the next flip

module _ {O : Type 0} (layout goal : List ℕ) where
  -- the newest that the goal lacks, or none
  abbrev DownFound : List (Link O) → Type 0
  DownFound es = ((f : Link O) → In f es → In f.number layout → In f.number goal) ⊎ ((e : Link O) × IsDown es layout goal e)

  down_later : (x : Link O) (es : List (Link O)) → (In x.number layout → In x.number goal) → DownFound es → DownFound (x ∷ es)
  down_later x es fine (inl none) = inl (λ f j a. elim j as (λ _. In f.number goal) [ inl h ↦ subst (λ (y : Link O). In y.number goal) (sym h) (fine (subst (λ (y : Link O). In y.number layout) h a)) | inr k ↦ none f k a ])
  down_later x es fine (inr d) = inr (
    d.0,
    record {
      lives = inr d.1.lives;
      stored = d.1.stored;
      unwanted = d.1.unwanted;
      newest = λ f j a b. elim j as (λ _. f.number ≤ d.0.number) [
        | inl h ↦ absurd (b (subst (λ (y : Link O). In y.number goal) (sym h) (fine (subst (λ (y : Link O). In y.number layout) h a))))
        | inr k ↦ d.1.newest f k a b
      ];
    },
  )

  down_here : (x : Link O) (es : List (Link O)) → Fits es x → In x.number layout → (In x.number goal → ⊥) → DownFound (x ∷ es)
  down_here x es fit a b = inr (
    x,
    record {
      lives = inl refl;
      stored = a;
      unwanted = b;
      newest = λ f j c d. elim j as (λ _. f.number ≤ x.number) [
        | inl h ↦ (let same = ap (λ (y : Link O). y.number) h in omega arith)
        | inr k ↦ (let less = fit.newest f.number (inr (number_listed es f k)) in omega arith)
      ];
    },
  )

  down_found : (es : List (Link O)) → IsForest es → DownFound es
  down_found [] forest = inl (λ f j a. absurd j)
  down_found (x ∷ es) forest =
      elim (in_or_out x.number goal) as (λ _. DownFound (x ∷ es)) [
        | inl want ↦ down_later x es (λ a. want) (down_found es forest.1)
        | inr lacks ↦ elim (in_or_out x.number layout) as (λ _. DownFound (x ∷ es)) [
          | inl has ↦ down_here x es forest.0 has lacks
          | inr out ↦ down_later x es (λ a. absurd (out a)) (down_found es forest.1)
        ]
      ]

  -- the oldest that the layout lacks, or none
  abbrev IsOldest : List (Link O) → Link O → Type 0
  IsOldest es e = In e es × (In e.number layout → ⊥) × In e.number goal × ((f : Link O) → In f es → (In f.number layout → ⊥) → In f.number goal → e.number ≤ f.number)

  abbrev UpFound : List (Link O) → Type 0
  UpFound es = ((f : Link O) → In f es → In f.number goal → In f.number layout) ⊎ ((e : Link O) × IsOldest es e)

  up_one : (x : Link O) (es : List (Link O)) → Fits es x → (In x.number layout ⊎ (In x.number layout → ⊥)) → (In x.number goal ⊎ (In x.number goal → ⊥)) → UpFound es → UpFound (x ∷ es)
  up_one x es fit a b (inr u) = inr (
    u.0,
    (
      inr u.1.0,
      u.1.1,
      u.1.2,
      (λ f j c d. elim j as (λ _. u.0.number ≤ f.number) [
        | inl h ↦ (let less = fit.newest u.0.number (inr (number_listed es u.0 u.1.0)) in let same = ap (λ (y : Link O). y.number) h in omega arith)
        | inr k ↦ u.1.3 f k c d
      ]),
    ),
  )
  up_one x es fit (inl has) b (inl none) = inl (λ f j c. elim j as (λ _. In f.number layout) [ inl h ↦ subst (λ (y : Link O). In y.number layout) (sym h) has | inr k ↦ none f k c ])
  up_one x es fit (inr out) (inr lacks) (inl none) = inl (λ f j c. elim j as (λ _. In f.number layout) [ inl h ↦ absurd (lacks (subst (λ (y : Link O). In y.number goal) h c)) | inr k ↦ none f k c ])
  up_one x es fit (inr out) (inl want) (inl none) = inr (
    x,
    (
      inl refl,
      out,
      want,
      (λ f j c d. elim j as (λ _. x.number ≤ f.number) [
        | inl h ↦ (let same = ap (λ (y : Link O). y.number) h in omega arith)
        | inr k ↦ absurd (c (none f k d))
      ]),
    ),
  )

  up_found : (es : List (Link O)) → IsForest es → UpFound es
  up_found [] forest = inl (λ f j a. absurd j)
  up_found (x ∷ es) forest = up_one x es forest.0 (in_or_out x.number layout) (in_or_out x.number goal) (up_found es forest.1)

  abbrev Found : List (Link O) → Type 0
  Found es = SameOperators layout goal ⊎ ((e : Link O) × (IsDown es layout goal e ⊎ IsUp es layout goal e))

  among : (es : List (Link O)) (a b : List ℕ) → ((n : ℕ) → In n a → Lives es n) → ((f : Link O) → In f es → In f.number a → In f.number b) → (n : ℕ) → In n a → In n b
  among es a b live h n i =
      let l = live n i in
      subst (λ (k : ℕ). In k b) (sym l.2) (h l.0 l.1 (subst (λ (k : ℕ). In k a) l.2 i))

  pub flip_found : (es : List (Link O)) → IsForest es → IsValid es layout → IsValid es goal → Found es
  flip_found es forest valid valid_goal =
      elim (down_found es forest) as (λ _. Found es) [
        | inr d ↦ inr (d.0, inl d.1)
        | inl none_down ↦ elim (up_found es forest) as (λ _. Found es) [
          | inl none_up ↦ inl (λ n. (among es layout goal valid.live none_down n, among es goal layout valid_goal.live none_up n))
          | inr u ↦ inr (u.0, inr (record { lives = u.1.0; missing = u.1.1; wanted = u.1.2; none_down = none_down; oldest = u.1.3 }))
        ]
      ]
