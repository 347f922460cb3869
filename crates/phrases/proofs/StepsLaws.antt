-- The turns of a loop that reads a chain or a list, one by one.
use Rattle.std.proofs.Common.{◌≡◌, ◌≢◌, ◌++◌, ◌∷◌, [], ℕ, zero, suc, ◌-◌, List, Bool, true, false, Ok, Err, refl, ap, append_assoc, append-nil, ◌∙◌, sym, cond, sub-one}
use Rattle.std.specs.Prelude.{Option, Some, None}
use Rattle.phrases.specs.Reading.{Read, ◌>>=◌, and_then, starts, taken, one_at, done, is, is_some, either, many_at, behind_at, with_front}
use Rattle.phrases.specs.Chains.{Part, Item, joined}

taken_some : {Tok A : Type 0} (o : Option A) (t : Tok) (ts : List Tok) (x : A × List Tok) → taken o t ts ≡ Ok x → is_some o ≡ true
taken_some (Some a) t ts x h = refl
taken_some None t ts x h = cc

pub one_starts : {Tok A : Type 0} (f : Tok → Option A) (ts : List Tok) (x : A × List Tok) → one_at f ts ≡ Ok x → starts (is f) ts ≡ true
one_starts f [] x h = cc
one_starts f (t ∷ ts) x h = taken_some (f t) t ts x h

module _ {Tok Op E : Type 0} (join : Op → E → E → E) (op : Tok → Option Op) (item : Item Tok E) where
  pub chain_ends : (n : ℕ) (a : E) (ops parens : ℕ) (ts : List Tok) → starts (is op) ts ≡ false → joined join op item n a ops parens ts ≡ Ok ((a, ops, parens), ts)
  unfolding joined
  chain_ends zero a ops parens ts h = refl
  chain_ends (suc n) a zero parens ts h = ap (λ (b : Bool). cond b (Err ts) (Ok ((a, 0, parens), ts))) h
  chain_ends (suc n) a (suc ops) parens ts h =
      ap (λ (b : Bool). cond b (and_then (one_at op) (λ o. and_then (item ops parens) λ x. joined join op item n (join o a x.0) x.1 x.2) ts) (Ok ((a, suc ops, parens), ts))) h

  pub chain_full : (n : ℕ) (a : E) (ops parens : ℕ) (ts : List Tok) → n ≡ 0 → joined join op item n a ops parens ts ≡ Ok ((a, ops, parens), ts)
  unfolding joined
  chain_full n a ops parens ts h = rw h refl

  pub chain_spent : (k n : ℕ) (a : E) (ops parens : ℕ) (ts : List Tok) (x : Op × List Tok) → k ≡ suc n → ops ≡ 0 → one_at op ts ≡ Ok x → joined join op item k a ops parens ts ≡ Err ts
  unfolding joined
  chain_spent k n a ops parens ts x e z h = rw (e, z) (ap (λ (b : Bool). cond b (Err ts) (Ok ((a, 0, parens), ts))) (one_starts op ts x h))

  at_op : (n : ℕ) (a : E) (ops parens : ℕ) (ts : List Tok) (x : Op × List Tok) → ops ≢ 0 → one_at op ts ≡ Ok x
      → joined join op item (suc n) a ops parens ts ≡ (item (ops - 1) parens x.1 >>= λ y. joined join op item n (join x.0 a y.0.0) y.0.1 y.0.2 y.1)
  unfolding joined
  at_op n a zero parens ts x z h = absurd (z refl)
  at_op n a (suc ops) parens ts x z h =
      rw sub-one (ap (λ (b : Bool). cond b (and_then (one_at op) (λ o. and_then (item ops parens) λ x. joined join op item n (join o a x.0) x.1 x.2) ts) (Ok ((a, suc ops, parens), ts))) (one_starts op ts x h)
      ∙ ap (λ (r : Read Tok Op). r >>= λ o. item ops parens o.1 >>= λ y. joined join op item n (join o.0 a y.0.0) y.0.1 y.0.2 y.1) h)

  pub chain_goes : (k n : ℕ) (a : E) (ops parens : ℕ) (ts vs : List Tok) (x : Op × List Tok) (y : Part E) → k ≡ suc n → ops ≢ 0 → one_at op ts ≡ Ok x
      → item (ops - 1) parens x.1 ≡ Ok (y, vs) → joined join op item n (join x.0 a y.0) y.1 y.2 vs ≡ joined join op item k a ops parens ts
  chain_goes k n a ops parens ts vs x y e z h i =
      sym (ap (λ (m : ℕ). joined join op item m a ops parens ts) e ∙ at_op n a ops parens ts x z h ∙ ap (λ (r : Read Tok (Part E)). r >>= λ y. joined join op item n (join x.0 a y.0.0) y.0.1 y.0.2 y.1) i)

  pub chain_stops : (k n : ℕ) (a : E) (ops parens : ℕ) (ts e : List Tok) (x : Op × List Tok) → k ≡ suc n → ops ≢ 0 → one_at op ts ≡ Ok x
      → item (ops - 1) parens x.1 ≡ Err e → joined join op item k a ops parens ts ≡ Err e
  chain_stops k n a ops parens ts e x s z h i =
      ap (λ (m : ℕ). joined join op item m a ops parens ts) s ∙ at_op n a ops parens ts x z h ∙ ap (λ (r : Read Tok (Part E)). r >>= λ y. joined join op item n (join x.0 a y.0.0) y.0.1 y.0.2 y.1) i

pub with_front-twice : {Tok A : Type 0} (a b : List A) (r : Read Tok (List A)) → with_front a (with_front b r) ≡ with_front (a ++ b) r
with_front-twice a b (Ok x) = ap (λ l. Ok (l, x.1)) (sym (append_assoc a b x.0))
with_front-twice a b (Err e) = refl

module _ {Tok A : Type 0} (knows : Bool → List Tok → Bool) (item : List Tok → Read Tok A) where
  pub many_full : (ended : Bool) (n : ℕ) (front : List A) (ts : List Tok) → n ≡ 0 → with_front front (many_at knows item ended n ts) ≡ Ok (front, ts)
  unfolding many_at
  many_full ended n front ts h = rw h (ap (λ l. Ok (l, ts)) (append-nil front))

  pub many_ends : (ended : Bool) (n : ℕ) (front : List A) (ts : List Tok) → knows ended ts ≡ false → with_front front (many_at knows item ended n ts) ≡ Ok (front, ts)
  unfolding many_at
  many_ends ended zero front ts h = ap (λ l. Ok (l, ts)) (append-nil front)
  many_ends ended (suc n) front ts h =
      ap (λ (b : Bool). with_front front (cond b (and_then item (λ a. and_then (many_at knows item ended n) λ as'. done (a ∷ as')) ts) (Ok ([], ts)))) h ∙ ap (λ l. Ok (l, ts)) (append-nil front)

  consed : (a : A) (r : Read Tok (List A)) → (r >>= λ x. Ok (a ∷ x.0, x.1)) ≡ with_front (a ∷ []) r
  consed a (Ok x) = refl
  consed a (Err e) = refl

  at_item : (ended : Bool) (n : ℕ) (ts : List Tok) → knows ended ts ≡ true → many_at knows item ended (suc n) ts ≡ (item ts >>= λ x. with_front (x.0 ∷ []) (many_at knows item ended n x.1))
  unfolding many_at
  at_item ended n ts h =
      ap (λ (b : Bool). cond b (and_then item (λ a. and_then (many_at knows item ended n) λ as'. done (a ∷ as')) ts) (Ok ([], ts))) h ∙ by (item ts)
    where
      by : (r : Read Tok A) → (r >>= λ x. many_at knows item ended n x.1 >>= λ y. Ok (x.0 ∷ y.0, y.1)) ≡ (r >>= λ x. with_front (x.0 ∷ []) (many_at knows item ended n x.1))
      by (Ok x) = consed x.0 (many_at knows item ended n x.1)
      by (Err e) = refl

  pub many_goes : (ended : Bool) (k n : ℕ) (front : List A) (a : A) (ts us : List Tok) → k ≡ suc n → knows ended ts ≡ true → item ts ≡ Ok (a, us)
      → with_front (front ++ a ∷ []) (many_at knows item ended n us) ≡ with_front front (many_at knows item ended k ts)
  many_goes ended k n front a ts us e h i =
      sym (ap (λ (m : ℕ). with_front front (many_at knows item ended m ts)) e
      ∙ ap (with_front front) (at_item ended n ts h ∙ ap (λ (r : Read Tok A). r >>= λ x. with_front (x.0 ∷ []) (many_at knows item ended n x.1)) i)
      ∙ with_front-twice front (a ∷ []) (many_at knows item ended n us))

  pub many_stops : (ended : Bool) (k n : ℕ) (front : List A) (ts e : List Tok) → k ≡ suc n → knows ended ts ≡ true → item ts ≡ Err e
      → with_front front (many_at knows item ended k ts) ≡ Err e
  many_stops ended k n front ts e s h i =
      ap (λ (m : ℕ). with_front front (many_at knows item ended m ts)) s
      ∙ ap (with_front front) (at_item ended n ts h ∙ ap (λ (r : Read Tok A). r >>= λ x. with_front (x.0 ∷ []) (many_at knows item ended n x.1)) i)

-- a token of f, and then p
pub behind_is : {Tok X A : Type 0} (f : Tok → Option X) (p : List Tok → Read Tok A) (ts us : List Tok) (x : X) → one_at f ts ≡ Ok (x, us) → behind_at f p ts ≡ p us
behind_is f p ts us x h = ap (λ (r : Read _ _). r >>= λ y. p y.1) h

-- the turns of a list whose items stand behind tokens of f
module _ {Tok X A : Type 0} (f : Tok → Option X) (p : List Tok → Read Tok A) where
  abbrev pub rest_turns : ℕ → List Tok → Read Tok (List A)
  rest_turns n = many_at (λ _. starts (is f)) (behind_at f p) true n

  pub rest_full : (n : ℕ) (front : List A) (ts : List Tok) → n ≡ 0 → with_front front (rest_turns n ts) ≡ Ok (front, ts)
  rest_full = many_full (λ _. starts (is f)) (behind_at f p) true

  pub rest_ends : (n : ℕ) (front : List A) (ts : List Tok) → starts (is f) ts ≡ false → with_front front (rest_turns n ts) ≡ Ok (front, ts)
  rest_ends = many_ends (λ _. starts (is f)) (behind_at f p) true

  pub rest_goes : (k n : ℕ) (front : List A) (a : A) (ts us vs : List Tok) (x : X) → k ≡ suc n → one_at f ts ≡ Ok (x, us) → p us ≡ Ok (a, vs)
      → with_front (front ++ a ∷ []) (rest_turns n vs) ≡ with_front front (rest_turns k ts)
  rest_goes k n front a ts us vs x e h i =
      many_goes (λ _. starts (is f)) (behind_at f p) true k n front a ts vs e (one_starts f ts (x, us) h) (behind_is f p ts us x h ∙ i)

  pub rest_stops : (k n : ℕ) (front : List A) (ts us e : List Tok) (x : X) → k ≡ suc n → one_at f ts ≡ Ok (x, us) → p us ≡ Err e → with_front front (rest_turns k ts) ≡ Err e
  rest_stops k n front ts us e x s h i =
      many_stops (λ _. starts (is f)) (behind_at f p) true k n front ts e s (one_starts f ts (x, us) h) (behind_is f p ts us x h ∙ i)

-- a choice by the next token
pub either_left : {Tok A : Type 0} (g : Tok → Bool) (p q : List Tok → Read Tok A) (ts : List Tok) → starts g ts ≡ true → either g p q ts ≡ p ts
either_left g p q ts h = ap (λ (b : Bool). cond b (p ts) (q ts)) h
