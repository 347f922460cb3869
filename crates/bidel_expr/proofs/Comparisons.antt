-- A sum, and what may compare or test it, within limits.
use Rattle.std.proofs.Common.{◌≡◌, ◌++◌, ◌∷◌, [], ℕ, zero, suc, ◌+◌, ◌-◌, ◌≤◌, List, Bool, true, false, refl, ap, ◌∙◌, subst, inl, inr, arith}
use Rattle.std.specs.Prelude.{Some, codes}
use Rattle.std.proofs.lemmas.Bool.{or_parts}
use Rattle.expr_lang.specs.Terms.{Unary as UnaryTerm, Binary}
use Rattle.expr_lang.specs.declared.tree.UnaryOp.{UnaryOp}
use Rattle.expr_lang.specs.declared.tree.UnaryOp.TheVariants.{IsNull, IsNotNull}
use Rattle.expr_lang.specs.declared.tree.BinaryOp.{BinaryOp}
use Rattle.expr_lang.specs.declared.tree.BinaryOp.TheVariants.{Equal}
use Rattle.phrases.specs.Phrases.{Nothing, Seq, Either, OneOf}
use Rattle.phrases.specs.Reading.{starts, and_then, one_at, done, is, none, or}
use Rattle.phrases.specs.Reads.{Reads}
use Rattle.phrases.specs.Chains.{Part, Item, Within, opens}
use Rattle.phrases.proofs.ReadersLaws.{then-reads, done-reads, unless-reads, either-reads, respell, word as then_word, closed, begins_one, known, starts_left, starts_right}
use Rattle.phrases.proofs.ListsLaws.{made-reads}
use Rattle.phrases.proofs.ChainsLaws.{part, part_is, opens-append}
use Rattle.bidel_expr.specs.Lexemes.{Lexeme, word, symbol}
use Rattle.bidel_expr.specs.Literals.{null_of}
use Rattle.bidel_expr.specs.Operators.{not_of, is_of, compare_of}
use Rattle.bidel_expr.specs.Expressions.{Tree, Spelling, cost, weight, NullTest, CompTail, CompRule, null_test_at, comp_tail}
use Rattle.bidel_expr.proofs.WordLaws.{by_keyword, keyword_is}
use Rattle.bidel_expr.proofs.OperatorLemmas.{by_compare}

-- what holds of one token holds of tokens that are that one alone
pub one_free : (t : Lexeme) (ts : List Lexeme) → ts ≡ t ∷ [] → weight t ≡ 0 → opens weight ts ≡ 0
one_free t ts h k = ap (opens weight) h ∙ omega (arith, k)

pub halves : (ts left right : List Lexeme) → ts ≡ left ++ right → opens weight ts ≡ opens weight left + opens weight right
halves ts left right h = ap (opens weight) h ∙ opens-append weight left right

null_weight : (t : Lexeme) (u : Unit {0}) → null_of t ≡ Some u → weight t ≡ 0
null_weight t u h = ap weight (keyword_is (codes "null") t u h) ∙ refl

not_weight : (t : Lexeme) (u : Unit {0}) → not_of t ≡ Some u → weight t ≡ 0
not_weight t u h = ap weight (keyword_is (codes "not") t u h) ∙ refl

is_weight : (t : Lexeme) (u : Unit {0}) → is_of t ≡ Some u → weight t ≡ 0
is_weight t u h = ap weight (keyword_is (codes "is") t u h) ∙ refl

compare_weight : (t : Lexeme) (o : BinaryOp) → compare_of t ≡ Some o → weight t ≡ 0
compare_weight = by_compare weight 0 (refl, (refl, (refl, (refl, (refl, (refl, tt))))))

-- [ NOT ] NULL opens no parenthesis
test_free : (ts : List Lexeme) (op : UnaryOp) → NullTest ts op → opens weight ts ≡ 0
test_free ts op (inl h) =
    let s = h.second in
    omega (
      arith,
      halves ts h.left h.right h.whole,
      halves h.right s.left s.right s.whole,
      one_free h.first.0 h.left h.first.1 (not_weight h.first.0 h.value h.first.2),
      one_free s.first.0 s.left s.first.1 (null_weight s.first.0 s.value s.first.2),
      ap (opens weight) s.second.0,
    )
test_free ts op (inr h) =
    omega (arith, halves ts h.left h.right h.whole, one_free h.first.0 h.left h.first.1 (null_weight h.first.0 h.value h.first.2), ap (opens weight) h.second.0)

null_word : Lexeme
null_word = word (codes "null")

test-reads : Reads none NullTest null_test_at
unfolding null_word
test-reads = either-reads none (is not_of) (Seq (OneOf not_of) λ _. Seq (OneOf null_of) λ _. Nothing IsNotNull) (Seq (OneOf null_of) λ _. Nothing IsNull) _ _
    (then_word none not_of (word (codes "not")) tt refl _ _ (λ _. then_word none null_of null_word tt refl _ _ (λ _. done-reads none IsNotNull)))
    (then_word none null_of null_word tt refl _ _ (λ _. done-reads none IsNull))
    (begins_one (is not_of) not_of true _ (known not_of))
    (λ front us op h clear. begins_one (is not_of) null_of false _ (by_keyword (is not_of) false (codes "null") refl) front us op h)

module _ (cs : Lexeme → Bool) (S : Spelling) (sum : Item Lexeme Tree) (sums : (ops parens : ℕ) → Reads cs (Within cost weight S ops parens) (sum ops parens))
    (compare_fresh : (t : Lexeme) (o : BinaryOp) → compare_of t ≡ Some o → cs t ≡ false) (is_fresh : (t : Lexeme) (u : Unit {0}) → is_of t ≡ Some u → cs t ≡ false) where
  abbrev pub comp_goes : Lexeme → Bool
  comp_goes = or (is compare_of) (or (is is_of) cs)

  -- what may follow the sum a, and what is left of the limits
  abbrev TailIn : Tree → ℕ → ℕ → List Lexeme → Part Tree → Type 0
  TailIn a ops parens ts y = CompTail S a ts y.0 × (y.1 + cost y.0 ≡ ops + cost a) × (y.2 + opens weight ts ≡ parens)

  abbrev Compares : Tree → ℕ → ℕ → List Lexeme → Part Tree → Type 0
  Compares a ops parens = Seq (OneOf compare_of) λ op. Seq (Within cost weight S ops parens) λ x. Nothing (part (Binary op a x.0) x.1 x.2)

  abbrev Tests : Tree → ℕ → ℕ → List Lexeme → Part Tree → Type 0
  Tests a ops parens = Seq (OneOf is_of) λ _. Seq NullTest λ op. Nothing (part (UnaryTerm op a) ops parens)

  apart : (a : Tree) (ops parens : ℕ) (right us : List Lexeme) (y : Part Tree) → TailIn a ops parens right y → starts comp_goes us ≡ false → starts cs (right ++ us) ≡ false
  apart a ops parens right us y h clear = at h.0
    where
      at : CompTail S a right y.0 → starts cs (right ++ us) ≡ false
      at (inl c) = begins_one cs compare_of false _ compare_fresh right us y.0 c
      at (inr (inl t)) = begins_one cs is_of false _ is_fresh right us y.0 t
      at (inr (inr n)) = ap (λ (l : List Lexeme). starts cs (l ++ us)) n.0 ∙ starts_right (is is_of) cs us (starts_right (is compare_of) (or (is is_of) cs) us clear)

  ends : (a : Tree) (ops parens : ℕ) (front : List Lexeme) (y : Part Tree) → Nothing (a, ops, parens) front y → TailIn a ops parens front y
  ends a ops parens front y h = (
    inr (inr (h.0, ap (λ (p : Part Tree). p.0) h.1)),
    subst (λ (p : Part Tree). p.1 + cost p.0 ≡ ops + cost a) h.1 refl,
    subst (λ (p : Part Tree). p.2 + opens weight front ≡ parens) h.1 (omega (arith, ap (opens weight) h.0)),
  )

  ended : (a : Tree) (ops parens : ℕ) (front : List Lexeme) (y : Part Tree) → Nothing a front y.0 → y.1 + cost y.0 ≡ ops + cost a → y.2 + opens weight front ≡ parens → Nothing (a, ops, parens) front y
  ended a ops parens front y h spent left = (h.0, part_is a ops parens y h.1 (omega (arith, ap cost h.1)) (omega (arith, ap (opens weight) h.0)))

  compares_to : (a : Tree) (ops parens : ℕ) (front : List Lexeme) (y : Part Tree) → Compares a ops parens front y → TailIn a (suc ops) parens front y
  compares_to a ops parens front y h =
      let s = h.second in
      let w = s.first in
      let d = s.second in
      let had : s.value.1 + cost s.value.0 ≡ ops = w.1 in
      let outer : s.value.2 + opens weight s.left ≡ parens = w.2 in
      let same : Binary h.value a s.value.0 ≡ y.0 = ap (λ (p : Part Tree). p.0) d.1 in
      let ops_is : s.value.1 ≡ y.1 = ap (λ (p : Part Tree). p.1) d.1 in
      let parens_is : s.value.2 ≡ y.2 = ap (λ (p : Part Tree). p.2) d.1 in
      let whole : opens weight front ≡ opens weight h.left + opens weight h.right = halves front h.left h.right h.whole in
      let right : opens weight h.right ≡ opens weight s.left + opens weight s.right = halves h.right s.left s.right s.whole in
      let none_left : opens weight h.left ≡ 0 = one_free h.first.0 h.left h.first.1 (compare_weight h.first.0 h.value h.first.2) in
      let none_right : opens weight s.right ≡ 0 = ap (opens weight) d.0 in
      let spent : cost a + cost s.value.0 + 1 ≡ cost y.0 = ap cost same in (
        inl (record { value = h.value; left = h.left; right = h.right; whole = h.whole; first = h.first; second = record { value = s.value.0; left = s.left; right = s.right; whole = s.whole; first = w.0; second = (d.0, same) } }),
        omega arith,
        omega arith,
      )

  tests_to : (a : Tree) (ops parens : ℕ) (front : List Lexeme) (y : Part Tree) → Tests a ops parens front y → TailIn a (suc ops) parens front y
  tests_to a ops parens front y h =
      let s = h.second in
      let d = s.second in
      let same : UnaryTerm s.value a ≡ y.0 = ap (λ (p : Part Tree). p.0) d.1 in
      let ops_is : ops ≡ y.1 = ap (λ (p : Part Tree). p.1) d.1 in
      let parens_is : parens ≡ y.2 = ap (λ (p : Part Tree). p.2) d.1 in
      let whole : opens weight front ≡ opens weight h.left + opens weight h.right = halves front h.left h.right h.whole in
      let right : opens weight h.right ≡ opens weight s.left + opens weight s.right = halves h.right s.left s.right s.whole in
      let none_left : opens weight h.left ≡ 0 = one_free h.first.0 h.left h.first.1 (is_weight h.first.0 h.value h.first.2) in
      let none_test : opens weight s.left ≡ 0 = test_free s.left s.value s.first in
      let none_right : opens weight s.right ≡ 0 = ap (opens weight) d.0 in
      let spent : cost a + 1 ≡ cost y.0 = ap cost same in (
        inr (inl (record { value = h.value; left = h.left; right = h.right; whole = h.whole; first = h.first; second = record { value = s.value; left = s.left; right = s.right; whole = s.whole; first = s.first; second = (d.0, same) } })),
        omega arith,
        omega arith,
      )

  tail_from : (a : Tree) (ops parens : ℕ) (front : List Lexeme) (y : Part Tree) → TailIn a (suc ops) parens front y
      → Either (Compares a ops parens) (Either (Tests a ops parens) (Nothing (a, suc ops, parens))) front y
  tail_from a ops parens front y w = at w.0
    where
      at : CompTail S a front y.0 → Either (Compares a ops parens) (Either (Tests a ops parens) (Nothing (a, suc ops, parens))) front y
      at (inl h) =
          let s = h.second in
          let all : y.1 + cost y.0 ≡ suc ops + cost a = w.1 in
          let left : y.2 + opens weight front ≡ parens = w.2 in
          let whole : opens weight front ≡ opens weight h.left + opens weight h.right = halves front h.left h.right h.whole in
          let right : opens weight h.right ≡ opens weight s.left + opens weight s.right = halves h.right s.left s.right s.whole in
          let none_left : opens weight h.left ≡ 0 = one_free h.first.0 h.left h.first.1 (compare_weight h.first.0 h.value h.first.2) in
          let none_right : opens weight s.right ≡ 0 = ap (opens weight) s.second.0 in
          let spent : cost a + cost s.value + 1 ≡ cost y.0 = ap cost s.second.1 in
          inl (record {
            value = h.value;
            left = h.left;
            right = h.right;
            whole = h.whole;
            first = h.first;
            second = record {
              value = (s.value, y.1, y.2);
              left = s.left;
              right = s.right;
              whole = s.whole;
              first = (s.first, omega arith, omega arith);
              second = (s.second.0, part_is (Binary h.value a s.value) y.1 y.2 y s.second.1 refl refl);
            };
          })
      at (inr (inl h)) =
          let s = h.second in
          let all : y.1 + cost y.0 ≡ suc ops + cost a = w.1 in
          let left : y.2 + opens weight front ≡ parens = w.2 in
          let whole : opens weight front ≡ opens weight h.left + opens weight h.right = halves front h.left h.right h.whole in
          let right : opens weight h.right ≡ opens weight s.left + opens weight s.right = halves h.right s.left s.right s.whole in
          let none_left : opens weight h.left ≡ 0 = one_free h.first.0 h.left h.first.1 (is_weight h.first.0 h.value h.first.2) in
          let none_test : opens weight s.left ≡ 0 = test_free s.left s.value s.first in
          let none_right : opens weight s.right ≡ 0 = ap (opens weight) s.second.0 in
          let spent : cost a + 1 ≡ cost y.0 = ap cost s.second.1 in
          inr (inl (record {
            value = h.value;
            left = h.left;
            right = h.right;
            whole = h.whole;
            first = h.first;
            second = record {
              value = s.value;
              left = s.left;
              right = s.right;
              whole = s.whole;
              first = s.first;
              second = (s.second.0, part_is (UnaryTerm s.value a) ops parens y s.second.1 (omega arith) (omega arith));
            };
          }))
      at (inr (inr h)) = inr (inr (ended a (suc ops) parens front y h w.1 w.2))

  none_from : (a : Tree) (parens : ℕ) (front : List Lexeme) (y : Part Tree) → TailIn a 0 parens front y → Nothing (a, 0, parens) front y
  none_from a parens front y w = at w.0
    where
      spent : y.1 + cost y.0 ≡ 0 + cost a
      spent = w.1

      at : CompTail S a front y.0 → Nothing (a, 0, parens) front y
      at (inl h) = absurd (omega (arith, spent, ap cost h.second.second.1))
      at (inr (inl h)) = absurd (omega (arith, spent, ap cost h.second.second.1))
      at (inr (inr h)) = ended a 0 parens front y h w.1 w.2

  compares-reads : (a : Tree) (ops parens : ℕ) → Reads comp_goes (Compares a ops parens) (and_then (one_at compare_of) λ op. and_then (sum ops parens) λ x. done (part (Binary op a x.0) x.1 x.2))
  compares-reads a ops parens = then_word comp_goes compare_of (symbol (codes "=")) Equal refl _ _ (λ op.
      respell cs comp_goes _ _ _ (made-reads cs (Within cost weight S ops parens) (sum ops parens) (λ x. part (Binary op a x.0) x.1 x.2) (sums ops parens)) (λ front y h. h) (λ front y h. h)
      (λ t h. (or_parts (is is_of t) (cs t) ((or_parts (is compare_of t) (or (is is_of) cs t) h).1)).1))

  tests-reads : (a : Tree) (ops parens : ℕ) → Reads comp_goes (Tests a ops parens) (and_then (one_at is_of) λ _. and_then null_test_at λ op. done (part (UnaryTerm op a) ops parens))
  tests-reads a ops parens = then_word comp_goes is_of (word (codes "is")) tt refl _ _ (λ _.
      closed comp_goes NullTest _ null_test_at _ test-reads (λ op. done-reads comp_goes (part (UnaryTerm op a) ops parens)))

  pub tail-reads : (a : Tree) (ops parens : ℕ) → Reads comp_goes (TailIn a ops parens) (comp_tail sum a ops parens)
  unfolding comp_tail
  tail-reads a zero parens = respell (or (is compare_of) (is is_of)) comp_goes _ _ _ (unless-reads (or (is compare_of) (is is_of)) (a, 0, parens)) (ends a 0 parens) (none_from a parens)
      (λ t h. fewer (is compare_of t) (is is_of t) (cs t) h)
    where
      fewer : (a b c : Bool) → (or (λ (_ : Unit {0}). a) (or (λ _. b) (λ _. c)) tt) ≡ false → or (λ (_ : Unit {0}). a) (λ _. b) tt ≡ false
      fewer true b c h = cc
      fewer false true c h = cc
      fewer false false c h = refl
  tail-reads a (suc ops) parens = respell comp_goes comp_goes _ _ _
      (either-reads comp_goes (is compare_of) (Compares a ops parens) (Either (Tests a ops parens) (Nothing (a, suc ops, parens))) _ _ (compares-reads a ops parens)
      (either-reads comp_goes (is is_of) (Tests a ops parens) (Nothing (a, suc ops, parens)) _ _ (tests-reads a ops parens) (done-reads comp_goes (a, suc ops, parens))
      (begins_one (is is_of) is_of true _ (known is_of))
      (λ front us y h clear. ap (λ (l : List Lexeme). starts (is is_of) (l ++ us)) h.0 ∙ starts_left (is is_of) cs us (starts_right (is compare_of) (or (is is_of) cs) us clear)))
      (begins_one (is compare_of) compare_of true _ (known compare_of))
      (λ front us y h clear. elim h [
        | inl t ↦ begins_one (is compare_of) is_of false _ (by_keyword (is compare_of) false (codes "is") refl) front us y t
        | inr n ↦ ap (λ (l : List Lexeme). starts (is compare_of) (l ++ us)) n.0 ∙ starts_left (is compare_of) (or (is is_of) cs) us clear
      ]))
      (λ front y h. elim h [ inl c ↦ compares_to a ops parens front y c | inr r ↦ elim r [ inl t ↦ tests_to a ops parens front y t | inr n ↦ ends a (suc ops) parens front y n ] ])
      (tail_from a ops parens)
      (λ t h. h)

  abbrev Parts : ℕ → ℕ → List Lexeme → Part Tree → Type 0
  Parts ops parens = Seq (Within cost weight S ops parens) (λ x. TailIn x.0 x.1 x.2)

  -- what follows costs no less than the sum
  tail_cost : (a : Tree) (ts : List Lexeme) (e : Tree) → CompTail S a ts e → cost a ≤ cost e
  tail_cost a ts e (inl h) = omega (arith, ap cost h.second.second.1)
  tail_cost a ts e (inr (inl h)) = omega (arith, ap cost h.second.second.1)
  tail_cost a ts e (inr (inr h)) = omega (arith, ap cost h.1)

  comp_to : (ops parens : ℕ) (front : List Lexeme) (y : Part Tree) → Parts ops parens front y → Within cost weight (CompRule S) ops parens front y
  comp_to ops parens front y s =
      let w = s.first in
      let j = s.second in
      let had : s.value.1 + cost s.value.0 ≡ ops = w.1 in
      let spent : y.1 + cost y.0 ≡ s.value.1 + cost s.value.0 = j.1 in
      let outer : s.value.2 + opens weight s.left ≡ parens = w.2 in
      let inner : y.2 + opens weight s.right ≡ s.value.2 = j.2 in
      let parts : opens weight front ≡ opens weight s.left + opens weight s.right = halves front s.left s.right s.whole in
      (record { value = s.value.0; left = s.left; right = s.right; whole = s.whole; first = w.0; second = j.0 }, omega arith, omega arith)

  comp_from : (ops parens : ℕ) (front : List Lexeme) (y : Part Tree) → Within cost weight (CompRule S) ops parens front y → Parts ops parens front y
  comp_from ops parens front y w =
      let h = w.0 in
      let spent : y.1 + cost y.0 ≡ ops = w.1 in
      let left : y.2 + opens weight front ≡ parens = w.2 in
      let parts : opens weight front ≡ opens weight h.left + opens weight h.right = halves front h.left h.right h.whole in
      let more : cost h.value ≤ cost y.0 = tail_cost h.value h.right y.0 h.second in
      record {
        value = (h.value, ops - cost h.value, parens - opens weight h.left);
        left = h.left;
        right = h.right;
        whole = h.whole;
        first = (h.first, omega arith, omega arith);
        second = (h.second, omega arith, omega arith);
      }

  pub comp-reads : (ops parens : ℕ) → Reads comp_goes (Within cost weight (CompRule S) ops parens) (and_then (sum ops parens) λ x. comp_tail sum x.0 x.1 x.2)
  comp-reads ops parens = respell comp_goes comp_goes _ _ _
      (then-reads comp_goes cs (Within cost weight S ops parens) (λ x. TailIn x.0 x.1 x.2) _ _ (sums ops parens) (λ x. tail-reads x.0 x.1 x.2) (λ x right us y h clear. apart x.0 x.1 x.2 right us y h clear))
      (comp_to ops parens) (comp_from ops parens) (λ t h. h)

-- a comparison of other sums, where few parentheses open
pub comp_bounded : (n : ℕ) (I J : Spelling) → ((ts : List Lexeme) (e : Tree) → I ts e → opens weight ts ≤ n → J ts e) → (ts : List Lexeme) (e : Tree) → CompRule I ts e → opens weight ts ≤ n → CompRule J ts e
comp_bounded n I J f ts e h few =
    let parts : opens weight ts ≡ opens weight h.left + opens weight h.right = halves ts h.left h.right h.whole in
    record { value = h.value; left = h.left; right = h.right; whole = h.whole; first = f h.left h.value h.first (omega arith); second = at h.second }
  where
    at : CompTail I h.value h.right e → CompTail J h.value h.right e
    at (inl c) =
        let s = c.second in
        let whole : opens weight ts ≡ opens weight h.left + opens weight h.right = halves ts h.left h.right h.whole in
        let right : opens weight h.right ≡ opens weight c.left + opens weight c.right = halves h.right c.left c.right c.whole in
        let inner : opens weight c.right ≡ opens weight s.left + opens weight s.right = halves c.right s.left s.right s.whole in
        inl (record { value = c.value; left = c.left; right = c.right; whole = c.whole; first = c.first; second = record { value = s.value; left = s.left; right = s.right; whole = s.whole; first = f s.left s.value s.first (omega arith); second = s.second } })
    at (inr r) = inr r
