-- item { op item }, within limits: for any operators, items and trees.
use Rattle.std.proofs.Common.{◌≡◌, ◌++◌, ◌∷◌, [], ℕ, zero, suc, ◌+◌, ◌-◌, ◌≤◌, List, Bool, true, false, refl, ap, append_assoc, ◌∙◌, subst, inl, inr, arith}
use Rattle.std.specs.Prelude.{Option, Some}
use Rattle.std.proofs.lemmas.Bool.{or_parts}
use Rattle.phrases.specs.Reading.{and_then, starts, is, is_some, none, or}
use Rattle.phrases.specs.Phrases.{Nothing, Seq, Either, OneOf}
use Rattle.phrases.specs.Reads.{Reads}
use Rattle.phrases.specs.Chains.{Part, Item, Within, opens, Joined, Chain, joined, chain}
use Rattle.phrases.proofs.ReadersLaws.{then-reads, done-reads, unless-reads, either-reads, one-reads, respell, starts_left, starts_right, starts_none}

pub opens-append : {Tok : Type 0} (weight : Tok → ℕ) (us vs : List Tok) → opens weight (us ++ vs) ≡ opens weight us + opens weight vs
opens-append weight [] vs = omega arith
opens-append weight (t ∷ us) vs = omega (arith, opens-append weight us vs)

abbrev pub part : {E : Type 0} → E → ℕ → ℕ → Part E
part a ops parens = (a, ops, parens)

pub part_is : {E : Type 0} (a : E) (ops parens : ℕ) (y : Part E) → a ≡ y.0 → ops ≡ y.1 → parens ≡ y.2 → part a ops parens ≡ y
part_is a ops parens y p q r = ap (λ v. part v ops parens) p ∙ ap (λ (v : ℕ). part y.0 v parens) q ∙ ap (λ (v : ℕ). part y.0 y.1 v) r

module _ {Tok Op E : Type 0} (join : Op → E → E → E) (cost : E → ℕ) (weight : Tok → ℕ) (joins : (o : Op) (a b : E) → cost (join o a b) ≡ cost a + cost b + 1)
    (ci : Tok → Bool) (op : Tok → Option Op) (I : List Tok → E → Type 0) (item : Item Tok E)
    (items : (ops parens : ℕ) → Reads ci (Within cost weight I ops parens) (item ops parens))
    (sign : Tok) (that : Op) (known : op sign ≡ Some that)
    (fresh : (t : Tok) (o : Op) → op t ≡ Some o → ci t ≡ false)
    (not_open : (t : Tok) (o : Op) → op t ≡ Some o → weight t ≡ 0) where
  no_open : (t : Tok) (o : Op) (n : ℕ) → op t ≡ Some o → weight t + n ≡ n
  no_open t o n h = omega (arith, not_open t o h)

  abbrev goes : Tok → Bool
  goes = or (is op) ci

  -- at most n further items behind a, and what is left of the limits
  abbrev JoinedIn : ℕ → E → ℕ → ℕ → List Tok → Part E → Type 0
  JoinedIn n a ops parens ts y = (k : ℕ) × (k ≤ n) × Joined join op I k a ts y.0 × (y.1 + cost y.0 ≡ ops + cost a) × (y.2 + opens weight ts ≡ parens)

  joined_cost : (k : ℕ) (a e : E) (ts : List Tok) → Joined join op I k a ts e → cost a + k ≤ cost e
  joined_cost zero a e ts h = omega (arith, ap cost h.1)
  joined_cost (suc k) a e ts h = omega (arith, joins h.1 a h.3, joined_cost k (join h.1 a h.3) e h.4 h.8)

  apart : (n ops parens : ℕ) (a : E) (right us : List Tok) (y : Part E) → JoinedIn n a ops parens right y → starts goes us ≡ false → starts ci (right ++ us) ≡ false
  apart n ops parens a right us y h clear = by_count h.0 h.2
    where
      by_count : (k : ℕ) → Joined join op I k a right y.0 → starts ci (right ++ us) ≡ false
      by_count zero j = ap (λ (l : List Tok). starts ci (l ++ us)) j.0 ∙ starts_right (is op) ci us clear
      by_count (suc k) j = ap (λ (l : List Tok). starts ci (l ++ us)) j.6 ∙ fresh j.0 j.1 j.5

  ends : (n : ℕ) (a : E) (ops parens : ℕ) (front : List Tok) (y : Part E) → Nothing (a, ops, parens) front y → JoinedIn n a ops parens front y
  ends n a ops parens front y h = (
    0,
    omega arith,
    (h.0, ap (λ (p : Part E). p.0) h.1),
    subst (λ (p : Part E). p.1 + cost p.0 ≡ ops + cost a) h.1 refl,
    subst (λ (p : Part E). p.2 + opens weight front ≡ parens) h.1 (omega (arith, ap (opens weight) h.0)),
  )

  abbrev Further : ℕ → E → ℕ → ℕ → List Tok → Part E → Type 0
  Further n a ops parens = Seq (OneOf op) (λ o. Seq (Within cost weight I ops parens) (λ x. JoinedIn n (join o a x.0) x.1 x.2))

  further_to : (n : ℕ) (a : E) (ops parens : ℕ) (front : List Tok) (y : Part E) → Further n a ops parens front y → JoinedIn (suc n) a (suc ops) parens front y
  further_to n a ops parens front y h =
      let s = h.second in
      let t = h.first in
      let j = s.second in
      let w = s.first in
      let whole : front ≡ t.0 ∷ (s.left ++ s.right) = h.whole ∙ ap (λ (l : List Tok). l ++ h.right) t.1 ∙ ap (λ (l : List Tok). t.0 ∷ l) s.whole in
      let few : j.0 ≤ n = j.1 in
      let spent : y.1 + cost y.0 ≡ s.value.1 + (cost a + cost s.value.0 + 1) = j.3 ∙ ap (λ (n : ℕ). s.value.1 + n) (joins h.value a s.value.0) in
      let had : s.value.1 + cost s.value.0 ≡ ops = w.1 in
      let inner : y.2 + opens weight s.right ≡ s.value.2 = j.4 in
      let outer : s.value.2 + opens weight s.left ≡ parens = w.2 in
      let parts : opens weight front ≡ opens weight s.left + opens weight s.right = ap (opens weight) whole ∙ no_open t.0 h.value (opens weight (s.left ++ s.right)) t.2 ∙ opens-append weight s.left s.right in
      (suc j.0, omega arith, (t.0, h.value, s.left, s.value.0, s.right, t.2, whole, w.0, j.2), omega arith, omega arith)

  joined_zero : (a : E) (ops parens : ℕ) (front : List Tok) (y : Part E) → JoinedIn 0 a ops parens front y → Nothing (a, ops, parens) front y
  joined_zero a ops parens front y h = at h.0 h.1 h.2
    where
      at : (k : ℕ) → k ≤ 0 → Joined join op I k a front y.0 → Nothing (a, ops, parens) front y
      at (suc k) few j = absurd (omega arith)
      at zero few j =
          let spent : y.1 + cost y.0 ≡ ops + cost a = h.3 in
          let left : y.2 + opens weight front ≡ parens = h.4 in
          let same : ops ≡ y.1 = omega (arith, ap cost j.1) in
          let same2 : parens ≡ y.2 = omega (arith, ap (opens weight) j.0) in
          (j.0, part_is a ops parens y j.1 same same2)

  joined_none : (n : ℕ) (a : E) (parens : ℕ) (front : List Tok) (y : Part E) → JoinedIn n a 0 parens front y → Nothing (a, 0, parens) front y
  joined_none n a parens front y h = at h.0 h.2
    where
      at : (k : ℕ) → Joined join op I k a front y.0 → Nothing (a, 0, parens) front y
      at (suc k) j =
          let spent : y.1 + cost y.0 ≡ 0 + cost a = h.3 in
          absurd (omega (arith, joined_cost (suc k) a y.0 front j))
      at zero j = joined_zero a 0 parens front y (0, omega arith, j, h.3, h.4)

  further_from : (n : ℕ) (a : E) (ops parens : ℕ) (front : List Tok) (y : Part E) → JoinedIn (suc n) a (suc ops) parens front y
      → Either (Further n a ops parens) (Nothing (a, suc ops, parens)) front y
  further_from n a ops parens front y h = at h.0 h.1 h.2
    where
      at : (k : ℕ) → k ≤ suc n → Joined join op I k a front y.0 → Either (Further n a ops parens) (Nothing (a, suc ops, parens)) front y
      at zero few j = inr (joined_zero a (suc ops) parens front y (0, omega arith, j, h.3, h.4))
      at (suc k) few j =
          let rest = j.8 in
          let more : cost (join j.1 a j.3) + k ≤ cost y.0 = joined_cost k (join j.1 a j.3) y.0 j.4 rest in
          let whole : cost (join j.1 a j.3) ≡ cost a + cost j.3 + 1 = joins j.1 a j.3 in
          let spent : y.1 + cost y.0 ≡ suc ops + cost a = h.3 in
          let left : y.2 + opens weight front ≡ parens = h.4 in
          let parts : opens weight front ≡ opens weight j.2 + opens weight j.4 = ap (opens weight) j.6 ∙ no_open j.0 j.1 (opens weight (j.2 ++ j.4)) j.5 ∙ opens-append weight j.2 j.4 in
          inl (record {
            value = j.1;
            left = j.0 ∷ [];
            right = j.2 ++ j.4;
            whole = j.6;
            first = (j.0, refl, j.5);
            second = record {
              value = (j.3, ops - cost j.3, parens - opens weight j.2);
              left = j.2;
              right = j.4;
              whole = refl;
              first = (j.7, omega arith, omega arith);
              second = (k, omega arith, rest, omega arith, omega arith);
            };
          })

  begins : (n : ℕ) (a : E) (ops parens : ℕ) (front us : List Tok) (y : Part E) → Further n a ops parens front y → starts (is op) (front ++ us) ≡ true
  begins n a ops parens front us y h =
      ap (λ (l : List Tok). starts (is op) (l ++ us)) (h.whole ∙ ap (λ (l : List Tok). l ++ h.right) h.first.1) ∙ ap is_some h.first.2

  pub joined-reads : (n : ℕ) (a : E) (ops parens : ℕ) → Reads goes (JoinedIn n a ops parens) (joined join op item n a ops parens)
  unfolding joined
  joined-reads zero a ops parens = respell goes goes _ _ _ (done-reads goes (a, ops, parens)) (ends 0 a ops parens) (joined_zero a ops parens) (λ t h. h)
  joined-reads (suc n) a zero parens = respell (is op) goes _ _ _ (unless-reads (is op) (a, 0, parens)) (ends (suc n) a 0 parens) (joined_none (suc n) a parens) (λ t h. (or_parts (is op t) (ci t) h).0)
  joined-reads (suc n) a (suc ops) parens =
      respell goes goes _ _ _
      (either-reads goes (is op) (Further n a ops parens) (Nothing (a, suc ops, parens)) _ _
      (then-reads goes none (OneOf op) (λ o. Seq (Within cost weight I ops parens) (λ x. JoinedIn n (join o a x.0) x.1 x.2)) _ _ (one-reads none op sign that known)
      (λ o. then-reads goes ci (Within cost weight I ops parens) (λ x. JoinedIn n (join o a x.0) x.1 x.2) _ _ (items ops parens)
      (λ x. joined-reads n (join o a x.0) x.1 x.2)
      (λ x right us y h clear. apart n x.1 x.2 (join o a x.0) right us y h clear))
      (λ o right us y h clear. starts_none (right ++ us)))
      (done-reads goes (a, suc ops, parens))
      (begins n a ops parens)
      (λ front us y h clear. ap (λ (l : List Tok). starts (is op) (l ++ us)) h.0 ∙ starts_left (is op) ci us clear))
      (λ front y h. elim h [ inl f ↦ further_to n a ops parens front y f | inr f ↦ ends (suc n) a (suc ops) parens front y f ])
      (further_from n a ops parens)
      (λ t h. h)

  pub chain_cost : (ts : List Tok) (e : E) (h : Chain join op I ts e) → cost h.first + h.further ≤ cost e
  chain_cost ts e h = joined_cost h.further h.first e h.right h.rest

  pub chain_first : (f : Tok → Bool) (b : Bool) → ((ts us : List Tok) (e : E) → I ts e → starts f (ts ++ us) ≡ b)
      → (ts us : List Tok) (e : E) → Chain join op I ts e → starts f (ts ++ us) ≡ b
  chain_first f b items_first ts us e h =
      ap (λ (l : List Tok). starts f l) (ap (λ (l : List Tok). l ++ us) h.whole ∙ append_assoc h.left h.right us) ∙ items_first h.left (h.right ++ us) h.first h.item

  -- an item, and so many further ones at most as n says of what is left
  module _ (n : ℕ → ℕ) where
    abbrev Parts : ℕ → ℕ → List Tok → Part E → Type 0
    Parts ops parens = Seq (Within cost weight I ops parens) (λ x. JoinedIn (n x.1) x.0 x.1 x.2)

    parts_to : (ops parens : ℕ) (front : List Tok) (y : Part E) → Parts ops parens front y
        → (h : Chain join op I front y.0) × (h.further ≤ n (ops - cost h.first)) × (y.1 + cost y.0 ≡ ops) × (y.2 + opens weight front ≡ parens)
    parts_to ops parens front y s =
        let w = s.first in
        let j = s.second in
        let had : s.value.1 + cost s.value.0 ≡ ops = w.1 in
        let spent : y.1 + cost y.0 ≡ s.value.1 + cost s.value.0 = j.3 in
        let outer : s.value.2 + opens weight s.left ≡ parens = w.2 in
        let inner : y.2 + opens weight s.right ≡ s.value.2 = j.4 in
        let parts : opens weight front ≡ opens weight s.left + opens weight s.right = ap (opens weight) s.whole ∙ opens-append weight s.left s.right in
        let left : s.value.1 ≡ ops - cost s.value.0 = omega arith in (
          record { first = s.value.0; further = j.0; left = s.left; right = s.right; whole = s.whole; item = w.0; rest = j.2 },
          subst (λ (m : ℕ). j.0 ≤ n m) left j.1,
          omega arith,
          omega arith,
        )

    parts_from : (ops parens : ℕ) (front : List Tok) (y : Part E) (h : Chain join op I front y.0) → h.further ≤ n (ops - cost h.first)
        → y.1 + cost y.0 ≡ ops → y.2 + opens weight front ≡ parens → Parts ops parens front y
    parts_from ops parens front y h few spent left =
        let more : cost h.first + h.further ≤ cost y.0 = chain_cost front y.0 h in
        let parts : opens weight front ≡ opens weight h.left + opens weight h.right = ap (opens weight) h.whole ∙ opens-append weight h.left h.right in
        record {
          value = (h.first, ops - cost h.first, parens - opens weight h.left);
          left = h.left;
          right = h.right;
          whole = h.whole;
          first = (h.item, omega arith, omega arith);
          second = (h.further, few, h.rest, omega arith, omega arith);
        }

    parts-reads : (ops parens : ℕ) → Reads goes (Parts ops parens) (and_then (item ops parens) λ x. joined join op item (n x.1) x.0 x.1 x.2)
    parts-reads ops parens = then-reads goes ci (Within cost weight I ops parens) (λ x. JoinedIn (n x.1) x.0 x.1 x.2) _ _ (items ops parens)
        (λ x. joined-reads (n x.1) x.0 x.1 x.2)
        (λ x right us y h clear. apart (n x.1) x.1 x.2 x.0 right us y h clear)

  pub chain-reads : (ops parens : ℕ) → Reads goes (Within cost weight (Chain join op I) ops parens) (chain join op item ops parens)
  chain-reads ops parens = respell goes goes _ _ _ (parts-reads (λ m. m) ops parens)
      (λ front y s. let t = parts_to (λ m. m) ops parens front y s in (t.0, t.2, t.3))
      (λ front y w. let more : cost w.0.first + w.0.further ≤ cost y.0 = chain_cost front y.0 w.0 in let all : y.1 + cost y.0 ≡ ops = w.1 in
      parts_from (λ m. m) ops parens front y w.0 (omega arith) w.1 w.2)
      (λ t h. h)
