-- A level whose items are of another kind, where few parentheses open: so that as many parentheses as may open can nest, and no more.
use Rattle.std.proofs.Common.{◌≡◌, ◌++◌, ℕ, zero, suc, ◌+◌, ◌≤◌, List, ap, ◌∙◌, subst, inl, inr, arith}
use Rattle.std.specs.Prelude.{Option, Some}
use Rattle.phrases.specs.Chains.{opens, Joined, Chain}
use Rattle.phrases.specs.Levels.{Prefixed, Prefix, Minuses, Unary, Grouped}
use Rattle.phrases.proofs.ChainsLaws.{opens-append}

module _ {Tok E : Type 0} (weight : Tok → ℕ) (n : ℕ) (I J : List Tok → E → Type 0) (f : (ts : List Tok) (e : E) → I ts e → opens weight ts ≤ n → J ts e) where
  pub joined_bounded : {Op : Type 0} (join : Op → E → E → E) (op : Tok → Option Op) (k : ℕ) (a : E) (ts : List Tok) (e : E) → Joined join op I k a ts e → opens weight ts ≤ n → Joined join op J k a ts e
  joined_bounded join op zero a ts e h few = h
  joined_bounded join op (suc k) a ts e h few =
      let parts : weight h.0 + opens weight (h.2 ++ h.4) ≤ n = subst (λ (l : List Tok). opens weight l ≤ n) h.6 few in
      (h.0, h.1, h.2, h.3, h.4, h.5, h.6, f h.2 h.3 h.7 (omega (arith, opens-append weight h.2 h.4)), joined_bounded join op k (join h.1 a h.3) h.4 e h.8 (omega (arith, opens-append weight h.2 h.4)))

  pub chain_bounded : {Op : Type 0} (join : Op → E → E → E) (op : Tok → Option Op) (ts : List Tok) (e : E) → Chain join op I ts e → opens weight ts ≤ n → Chain join op J ts e
  chain_bounded join op ts e h few =
      let parts : opens weight ts ≡ opens weight h.left + opens weight h.right = ap (opens weight) h.whole ∙ opens-append weight h.left h.right in
      record {
        first = h.first;
        further = h.further;
        left = h.left;
        right = h.right;
        whole = h.whole;
        item = f h.left h.first h.item (omega arith);
        rest = joined_bounded join op h.further h.first h.right e h.rest (omega arith);
      }

  prefixed_bounded : {X : Type 0} (make : E → E) (op : Tok → Option X) (k : ℕ) (ts : List Tok) (e : E) → Prefixed make op I k ts e → opens weight ts ≤ n → Prefixed make op J k ts e
  prefixed_bounded make op zero ts e h few = f ts e h few
  prefixed_bounded make op (suc k) ts e h few =
      (h.0, h.1, h.2, h.3, h.4, h.5, h.6, prefixed_bounded make op k h.2 h.3 h.7 (omega (arith, ap (opens weight) h.5)))

  pub prefix_bounded : {X : Type 0} (make : E → E) (op : Tok → Option X) (ts : List Tok) (e : E) → Prefix make op I ts e → opens weight ts ≤ n → Prefix make op J ts e
  prefix_bounded make op ts e h few = record { count = h.count; spelled = prefixed_bounded make op h.count ts e h.spelled few }

  minuses_bounded : {X N : Type 0} (make : E → E) (literal : N → E) (minus : Tok → Option X) (number : Tok → Option N) (k : ℕ) (ts : List Tok) (e : E)
      → Minuses make literal minus number I k ts e → opens weight ts ≤ n → Minuses make literal minus number J k ts e
  minuses_bounded make literal minus number zero ts e (inl h) few = inl h
  minuses_bounded make literal minus number zero ts e (inr h) few = inr (f ts e h few)
  minuses_bounded make literal minus number (suc k) ts e h few =
      (h.0, h.1, h.2, h.3, h.4, h.5, h.6, h.7, minuses_bounded make literal minus number k h.2 h.3 h.8 (omega (arith, ap (opens weight) h.5)))

  pub unary_bounded : {X N : Type 0} (make : E → E) (literal : N → E) (minus : Tok → Option X) (number : Tok → Option N) (ts : List Tok) (e : E)
      → Unary make literal minus number I ts e → opens weight ts ≤ n → Unary make literal minus number J ts e
  unary_bounded make literal minus number ts e h few = record { minuses = h.minuses; spelled = minuses_bounded make literal minus number h.minuses ts e h.spelled few }

  -- one parenthesis more is open around what is held
  pub grouped_bounded : {X Y : Type 0} (open' : Tok → Option X) (one_open : (t : Tok) (x : X) → open' t ≡ Some x → weight t ≡ 1) (close : Tok → Option Y) (A : List Tok → E → Type 0)
      (ts : List Tok) (e : E) → Grouped open' close A I ts e → opens weight ts ≤ suc n → Grouped open' close A J ts e
  grouped_bounded open' one_open close A ts e (inl a) few = inl a
  grouped_bounded open' one_open close A ts e (inr g) few =
      let s = g.second in
      let whole : opens weight ts ≡ opens weight g.left + opens weight g.right = ap (opens weight) g.whole ∙ opens-append weight g.left g.right in
      let one : opens weight g.left ≡ 1 = ap (opens weight) g.first.1 ∙ omega (arith, one_open g.first.0 g.value g.first.2) in
      let held : opens weight g.right ≡ opens weight s.left + opens weight s.right = ap (opens weight) s.whole ∙ opens-append weight s.left s.right in
      inr (record {
        value = g.value;
        left = g.left;
        right = g.right;
        whole = g.whole;
        first = g.first;
        second = record { value = s.value; left = s.left; right = s.right; whole = s.whole; first = f s.left s.value s.first (omega arith); second = s.second };
      })
