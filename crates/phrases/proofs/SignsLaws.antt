-- A minus is a sign before a number, and else an operator, within limits.
use Rattle.std.proofs.Common.{◌≡◌, ◌++◌, ◌∷◌, [], ℕ, zero, suc, ◌+◌, ◌<◌, List, Bool, true, false, refl, ap, append-nil, ◌∙◌, sym, inl, inr, arith, length, length-append}
use Rattle.std.specs.Prelude.{Option, Some}
use Rattle.phrases.specs.Reading.{starts, is, none}
use Rattle.phrases.specs.Phrases.{Nothing, Seq, Either, OneOf}
use Rattle.phrases.specs.Reads.{Reads, OrElse}
use Rattle.phrases.specs.Chains.{Part, Item, Within, opens}
use Rattle.phrases.specs.Levels.{Signed, Minuses, Unary, signed_at, unary_at}
use Rattle.phrases.proofs.ReadersLaws.{either-reads, done-reads, respell, word, begins_one, known}
use Rattle.phrases.proofs.ChainsLaws.{part, part_is, opens-append}
use Rattle.phrases.proofs.Elses.{else-reads}
use Rattle.phrases.proofs.ListsLaws.{made-reads}

module _ {Tok X N E : Type 0} (make : E → E) (literal : N → E) (cost : E → ℕ) (weight : Tok → ℕ)
    (costs : (a : E) → cost (make a) ≡ cost a + 1) (free : (n : N) → cost (literal n) ≡ 0)
    (minus : Tok → Option X) (mark : Tok) (that : X) (knows : minus mark ≡ Some that) (minus_open : (t : Tok) (x : X) → minus t ≡ Some x → weight t ≡ 0)
    (number : Tok → Option N) (digit : Tok) (value' : N) (counts : number digit ≡ Some value') (number_open : (t : Tok) (n : N) → number t ≡ Some n → weight t ≡ 0)
    (ci : Tok → Bool) (P : List Tok → E → Type 0) (prim : Item Tok E) (prims : (ops parens : ℕ) → Reads ci (Within cost weight P ops parens) (prim ops parens))
    (no_minus : (ts us : List Tok) (e : E) → P ts e → starts (is minus) (ts ++ us) ≡ false)
    (long : (ts : List Tok) (e : E) → P ts e → 0 < length ts) where
  abbrev Inner : ℕ → ℕ → List Tok → Part E → Type 0
  Inner = Within cost weight (Unary make literal minus number P)

  -- the number behind a sign
  abbrev Digits : ℕ → ℕ → List Tok → Part E → Type 0
  Digits ops parens = Seq (OneOf number) (λ n. Nothing (part (literal n) ops parens))

  digits-reads : (ops parens : ℕ) → Reads none (Digits ops parens) (signed_at literal number ops parens)
  digits-reads ops parens = word none number digit value' counts _ _ (λ n. done-reads none (part (literal n) ops parens))

  signed_long : (ts : List Tok) (e : E) → Signed literal minus number ts e → 0 < length ts
  signed_long ts e h = omega (arith, ap length h.whole, length-append h.left h.right, ap length h.first.1)

  minuses_long : (k : ℕ) (ts : List Tok) (e : E) → Minuses make literal minus number P k ts e → 0 < length ts
  minuses_long zero ts e (inl h) = signed_long ts e h
  minuses_long zero ts e (inr h) = long ts e h
  minuses_long (suc k) ts e h = omega (arith, ap length h.5)

  abbrev Sign : ℕ → ℕ → List Tok → Part E → Type 0
  Sign ops parens = Seq (OneOf minus) (λ _. Digits ops parens)

  -- no parenthesis opens among the tokens of a signed number
  sign_opens : (front left right right' end : List Tok) (t u : Tok) → front ≡ left ++ right → left ≡ t ∷ [] → right ≡ right' ++ end → right' ≡ u ∷ [] → end ≡ []
      → weight t ≡ 0 → weight u ≡ 0 → opens weight front ≡ 0
  sign_opens front left right right' end t u w a v b c m n =
      omega (arith, ap (opens weight) w, opens-append weight left right, ap (opens weight) a, ap (opens weight) v, opens-append weight right' end, ap (opens weight) b, ap (opens weight) c, m, n)

  sign_to : (ops parens : ℕ) (front : List Tok) (y : Part E) → Sign ops parens front y → Inner ops parens front y
  sign_to ops parens front y h =
      let d = h.second in
      let same : literal d.value ≡ y.0 = ap (λ (p : Part E). p.0) d.second.1 in
      let ops_is : ops ≡ y.1 = ap (λ (p : Part E). p.1) d.second.1 in
      let parens_is : parens ≡ y.2 = ap (λ (p : Part E). p.2) d.second.1 in
      let none_open : opens weight front ≡ 0 = sign_opens front h.left h.right d.left d.right h.first.0 d.first.0 h.whole h.first.1 d.whole d.first.1 d.second.0
      (minus_open h.first.0 h.value h.first.2) (number_open d.first.0 d.value d.first.2) in (
        record {
          minuses = 0;
          spelled = inl (record {
            value = h.value;
            left = h.left;
            right = h.right;
            whole = h.whole;
            first = h.first;
            second = record { value = d.value; left = d.left; right = d.right; whole = d.whole; first = d.first; second = (d.second.0, same) };
          });
        },
        omega (arith, ap cost same, free d.value),
        omega arith,
      )

  sign_from : (ops parens : ℕ) (front : List Tok) (y : Part E) → Signed literal minus number front y.0 → y.1 + cost y.0 ≡ ops → y.2 + opens weight front ≡ parens → Sign ops parens front y
  sign_from ops parens front y h spent left =
      let d = h.second in
      let none_open : opens weight front ≡ 0 = sign_opens front h.left h.right d.left d.right h.first.0 d.first.0 h.whole h.first.1 d.whole d.first.1 d.second.0
      (minus_open h.first.0 h.value h.first.2) (number_open d.first.0 d.value d.first.2) in
      record {
        value = h.value;
        left = h.left;
        right = h.right;
        whole = h.whole;
        first = h.first;
        second = record {
          value = d.value;
          left = d.left;
          right = d.right;
          whole = d.whole;
          first = d.first;
          second = (d.second.0, part_is (literal d.value) ops parens y d.second.1 (omega (arith, ap cost d.second.1, free d.value)) (omega arith));
        };
      }

  prim_to : (ops parens : ℕ) (front : List Tok) (y : Part E) → Within cost weight P ops parens front y → Inner ops parens front y
  prim_to ops parens front y w = (record { minuses = 0; spelled = inr w.0 }, w.1, w.2)

  prim_lacks : (ops parens : ℕ) (front us : List Tok) (y : Part E) → Within cost weight P ops parens front y → starts ci us ≡ false → starts (is minus) (front ++ us) ≡ false
  prim_lacks ops parens front us y w h = no_minus front us y.0 w.0

  abbrev Negated : ℕ → ℕ → List Tok → Part E → Type 0
  Negated ops parens = Seq (Inner ops parens) (λ x. Nothing (part (make x.0) x.1 x.2))

  abbrev Op : ℕ → ℕ → List Tok → Part E → Type 0
  Op ops parens = Seq (OneOf minus) (λ _. OrElse (is number) (Digits (suc ops) parens) (Negated ops parens))

  negated_long : (ops parens : ℕ) (front : List Tok) (y : Part E) → Negated ops parens front y → 0 < length front
  negated_long ops parens front y h = let u = h.first.0 in omega (arith, minuses_long u.minuses h.left h.value.0 u.spelled, ap length h.whole, length-append h.left h.right)

  op_to : (ops parens : ℕ) (front : List Tok) (y : Part E) → Op ops parens front y → Inner (suc ops) parens front y
  op_to ops parens front y h = elim h.second [ inl d ↦ sign_to (suc ops) parens front y (record { value = h.value; left = h.left; right = h.right; whole = h.whole; first = h.first; second = d }) | inr n ↦ by n ]
    where
      by : Negated ops parens h.right y × (starts (is number) h.right ≡ false) → Inner (suc ops) parens front y
      by n =
          let s = n.0 in
          let w = s.first in
          let d = s.second in
          let t = h.first in
          let all : h.right ≡ s.left = s.whole ∙ ap (λ (l : List Tok). s.left ++ l) d.0 ∙ append-nil s.left in
          let whole : front ≡ t.0 ∷ s.left = h.whole ∙ ap (λ (l : List Tok). l ++ h.right) t.1 ∙ ap (λ (l : List Tok). t.0 ∷ l) all in
          let had : s.value.1 + cost s.value.0 ≡ ops = w.1 in
          let outer : s.value.2 + opens weight s.left ≡ parens = w.2 in
          let same : make s.value.0 ≡ y.0 = ap (λ (p : Part E). p.0) d.1 in
          let ops_is : s.value.1 ≡ y.1 = ap (λ (p : Part E). p.1) d.1 in
          let parens_is : s.value.2 ≡ y.2 = ap (λ (p : Part E). p.2) d.1 in (
            record { minuses = suc w.0.minuses; spelled = (t.0, h.value, s.left, s.value.0, t.2, whole, sym (ap (starts (is number)) all) ∙ n.1, same, w.0.spelled) },
            omega (arith, ap cost same, costs s.value.0),
            omega (arith, ap (opens weight) whole, minus_open t.0 h.value t.2),
          )

  op_from : (ops parens : ℕ) (front : List Tok) (y : Part E) → Inner (suc ops) parens front y → Either (Op ops parens) (Within cost weight P (suc ops) parens) front y
  op_from ops parens front y h = at h.0.minuses h.0.spelled
    where
      at : (k : ℕ) → Minuses make literal minus number P k front y.0 → Either (Op ops parens) (Within cost weight P (suc ops) parens) front y
      at zero (inl s) = let d = sign_from (suc ops) parens front y s h.1 h.2 in inl (record { value = d.value; left = d.left; right = d.right; whole = d.whole; first = d.first; second = inl d.second })
      at zero (inr s) = inr (s, h.1, h.2)
      at (suc k) n =
          let spent : y.1 + cost y.0 ≡ suc ops = h.1 in
          let left : y.2 + opens weight front ≡ parens = h.2 in
          inl (record {
            value = n.1;
            left = n.0 ∷ [];
            right = n.2;
            whole = n.5;
            first = (n.0, refl, n.4);
            second = inr (
              record {
                value = (n.3, y.1, y.2);
                left = n.2;
                right = [];
                whole = sym (append-nil n.2);
                first = (record { minuses = k; spelled = n.8 }, omega (arith, ap cost n.7, costs n.3), omega (arith, ap (opens weight) n.5, minus_open n.0 n.1 n.4));
                second = (refl, part_is (make n.3) y.1 y.2 y n.7 refl refl);
              },
              n.6,
            );
          })

  none_from : (parens : ℕ) (front : List Tok) (y : Part E) → Inner 0 parens front y → Either (Sign 0 parens) (Within cost weight P 0 parens) front y
  none_from parens front y h = at h.0.minuses h.0.spelled
    where
      at : (k : ℕ) → Minuses make literal minus number P k front y.0 → Either (Sign 0 parens) (Within cost weight P 0 parens) front y
      at zero (inl s) = inl (sign_from 0 parens front y s h.1 h.2)
      at zero (inr s) = inr (s, h.1, h.2)
      at (suc k) n = absurd (omega (arith, ap cost n.7, costs n.3, h.1))

  pub unary-reads : (ops parens : ℕ) → Reads ci (Inner ops parens) (unary_at make literal minus number prim ops parens)
  unfolding unary_at
  unary-reads zero parens = respell ci ci _ _ _
      (either-reads ci (is minus) (Sign 0 parens) (Within cost weight P 0 parens) _ _
      (respell none ci _ _ _ (word none minus mark that knows _ _ (λ _. digits-reads 0 parens)) (λ front y h. h) (λ front y h. h) (λ t h. refl))
      (prims 0 parens) (begins_one (is minus) minus true _ (known minus)) (prim_lacks 0 parens))
      (λ front y h. elim h [ inl s ↦ sign_to 0 parens front y s | inr w ↦ prim_to 0 parens front y w ])
      (none_from parens)
      (λ t h. h)
  unary-reads (suc ops) parens = respell ci ci _ _ _
      (either-reads ci (is minus) (Op ops parens) (Within cost weight P (suc ops) parens) _ _
      (word ci minus mark that knows _ _ (λ _.
      else-reads ci (is number) (Digits (suc ops) parens) (Negated ops parens) _ _
      (respell none ci _ _ _ (digits-reads (suc ops) parens) (λ front y h. h) (λ front y h. h) (λ t h. refl))
      (made-reads ci (Inner ops parens) (unary_at make literal minus number prim ops parens) (λ x. part (make x.0) x.1 x.2) (unary-reads ops parens))
      (begins_one (is number) number true _ (known number))
      (negated_long ops parens)))
      (prims (suc ops) parens) (begins_one (is minus) minus true _ (known minus)) (prim_lacks (suc ops) parens))
      (λ front y h. elim h [ inl s ↦ op_to ops parens front y s | inr w ↦ prim_to (suc ops) parens front y w ])
      (op_from ops parens)
      (λ t h. h)
