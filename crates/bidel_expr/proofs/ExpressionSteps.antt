-- Steps of the readers of expressions: the definitions by cases, as equations on any number.
use Rattle.std.proofs.Common.{◌≡◌, ◌≢◌, ◌∷◌, [], ℕ, zero, suc, ◌-◌, ◌⊎◌, inl, inr, List, Bool, true, false, Ok, Err, refl, ap, ◌∙◌, cond, sub-one}
use Rattle.std.specs.Prelude.{Option, Some, None, codes, ◌||◌}
use Rattle.par_base.specs.declared.value.Value.{Value}
use Rattle.expr_lang.specs.Terms.{Literal as LiteralTerm, Unary as UnaryTerm, Binary}
use Rattle.expr_lang.specs.declared.tree.UnaryOp.{UnaryOp}
use Rattle.expr_lang.specs.declared.tree.UnaryOp.TheVariants.{Not, Negate}
use Rattle.expr_lang.specs.declared.tree.BinaryOp.{BinaryOp}
use Rattle.phrases.specs.Reading.{Read, ◌>>=◌, and_then, starts, taken, one_at, done, either, is, is_some, or}
use Rattle.phrases.specs.Chains.{Part, Item, joined}
use Rattle.phrases.specs.Levels.{prefix_at, signed_at, unary_at}
use Rattle.phrases.proofs.ReadersLaws.{same_answer}
use Rattle.phrases.proofs.StepsLaws.{one_starts}
use Rattle.bidel_expr.specs.Lexemes.{Lexeme, symbol, negative_of}
use Rattle.bidel_expr.specs.Literals.{open_of, close_of, minus_of}
use Rattle.bidel_expr.specs.Operators.{not_of, is_of, compare_of, op_of}
use Rattle.bidel_expr.specs.Expressions.{Tree, atom_item, unary_item, product_item, sum_item, null_test_at, comp_tail, comp_item, neg_item, conj_item, expr_item, primary_item, operand_item, level_item}
use Rattle.bidel_expr.specs.declared.levels.Level.{Level}
use Rattle.bidel_expr.specs.declared.levels.Level.TheVariants.{Disjunction, Conjunction, Sum, Product}
use Rattle.bidel_expr.proofs.WordLaws.{sign_is}

-- a token that f doesn't know is a fault
one_stops : {A : Type 0} (f : Lexeme → Option A) (ts : List Lexeme) → starts (is f) ts ≡ false → one_at f ts ≡ Err ts
one_stops f [] h = refl
one_stops {A} f (t ∷ ts) h = by (f t) h
  where
    by : (o : Option A) → is_some o ≡ false → taken o t ts ≡ Err (t ∷ ts)
    by (Some a) h = cc
    by None h = refl

starts_or : (f g : Lexeme → Bool) (ts : List Lexeme) → starts f ts ≡ false → starts g ts ≡ false → starts (or f g) ts ≡ false
starts_or f g [] h k = refl
starts_or f g (t ∷ ts) h k = by (f t) (g t) h k
  where
    by : (a b : Bool) → a ≡ false → b ≡ false → (a || b) ≡ false
    by true b h k = cc
    by false b h k = k

or_left_true : (f g : Lexeme → Bool) (ts : List Lexeme) → starts f ts ≡ true → starts (or f g) ts ≡ true
or_left_true f g [] h = cc
or_left_true f g (t ∷ ts) h = by (f t) (g t) h
  where
    by : (a b : Bool) → a ≡ true → (a || b) ≡ true
    by true b h = refl
    by false b h = cc

or_right_true : (f g : Lexeme → Bool) (ts : List Lexeme) → starts g ts ≡ true → starts (or f g) ts ≡ true
or_right_true f g [] h = cc
or_right_true f g (t ∷ ts) h = by (f t) (g t) h
  where
    by : (a b : Bool) → b ≡ true → (a || b) ≡ true
    by true b h = refl
    by false b h = h

-- a tree made of the tree that was read
abbrev pub made : (Tree → Tree) → Read Lexeme (Part Tree) → Read Lexeme (Part Tree)
made make r = r >>= λ x. Ok ((make x.0.0, x.0.1, x.0.2), x.1)

-- a tree with a test of it, and an operator less
abbrev pub tested_by : Tree → ℕ → ℕ → Read Lexeme UnaryOp → Read Lexeme (Part Tree)
tested_by a ops parens r = r >>= λ x. Ok ((UnaryTerm x.0 a, ops - 1, parens), x.1)

-- ---- a level of infix operators

-- the operands behind the first one
abbrev pub further_of : Level → Item Lexeme Tree → Read Lexeme (Part Tree) → Read Lexeme (Part Tree)
further_of level prim r = r >>= λ x. joined Binary (op_of level) (operand_item level prim) x.0.1 x.0.0 x.0.1 x.0.2 x.1

-- what may follow the first sum
abbrev pub tail_of : Item Lexeme Tree → Read Lexeme (Part Tree) → Read Lexeme (Part Tree)
tail_of prim r = r >>= λ x. comp_tail (sum_item prim) x.0.0 x.0.1 x.0.2 x.1

pub level_is : (level : Level) (prim : Item Lexeme Tree) (ops parens : ℕ) (ts : List Lexeme) → level_item level prim ops parens ts ≡ further_of level prim (operand_item level prim ops parens ts)
unfolding expr_item conj_item sum_item product_item
level_is Disjunction prim ops parens ts = refl
level_is Conjunction prim ops parens ts = refl
level_is Sum prim ops parens ts = refl
level_is Product prim ops parens ts = refl

-- ---- NOT

pub neg_zero : (prim : Item Lexeme Tree) (ops parens : ℕ) (ts : List Lexeme) → ops ≡ 0 → neg_item prim ops parens ts ≡ comp_item prim ops parens ts
unfolding neg_item prefix_at
neg_zero prim ops parens ts h = rw h refl

pub neg_other : (prim : Item Lexeme Tree) (ops parens : ℕ) (ts : List Lexeme) → starts (is not_of) ts ≡ false → neg_item prim ops parens ts ≡ comp_item prim ops parens ts
unfolding neg_item prefix_at
neg_other prim zero parens ts h = refl
neg_other prim (suc ops) parens ts h =
    ap (λ (b : Bool). cond b (and_then (one_at not_of) (λ _. and_then (prefix_at (UnaryTerm Not) not_of (comp_item prim) ops parens) λ x. done (UnaryTerm Not x.0, x.1, x.2)) ts) (comp_item prim (suc ops) parens ts)) h

pub neg_goes : (prim : Item Lexeme Tree) (ops parens : ℕ) (ts us : List Lexeme) → ops ≢ 0 → one_at not_of ts ≡ Ok (tt, us)
    → neg_item prim ops parens ts ≡ made (UnaryTerm Not) (neg_item prim (ops - 1) parens us)
unfolding neg_item prefix_at
neg_goes prim zero parens ts us z h = absurd (z refl)
neg_goes prim (suc ops) parens ts us z h =
    rw sub-one (ap (λ (b : Bool). cond b (and_then (one_at not_of) (λ _. and_then (prefix_at (UnaryTerm Not) not_of (comp_item prim) ops parens) λ x. done (UnaryTerm Not x.0, x.1, x.2)) ts) (comp_item prim (suc ops) parens ts))
    (one_starts not_of ts (tt, us) h)
    ∙ ap (λ (r : Read Lexeme (Unit {0})). r >>= λ o. made (UnaryTerm Not) (prefix_at (UnaryTerm Not) not_of (comp_item prim) ops parens o.1)) h)

-- ---- comparisons

pub comp_is : (prim : Item Lexeme Tree) (ops parens : ℕ) (ts : List Lexeme) → comp_item prim ops parens ts ≡ tail_of prim (sum_item prim ops parens ts)
unfolding comp_item
comp_is prim ops parens ts = refl

module _ (sum : Item Lexeme Tree) (a : Tree) where
  abbrev compares : ℕ → ℕ → List Lexeme → Read Lexeme (Part Tree)
  compares ops parens = and_then (one_at compare_of) λ op. and_then (sum ops parens) λ x. done (Binary op a x.0, x.1, x.2)

  abbrev tests : ℕ → ℕ → List Lexeme → Read Lexeme (Part Tree)
  tests ops parens = and_then (one_at is_of) λ _. and_then null_test_at λ op. done (UnaryTerm op a, ops, parens)

  abbrev otherwise : ℕ → ℕ → List Lexeme → Read Lexeme (Part Tree)
  otherwise ops parens = either (is is_of) (tests ops parens) (done (a, suc ops, parens))

  pub tail_ends : (ops parens : ℕ) (ts : List Lexeme) → starts (is compare_of) ts ≡ false → starts (is is_of) ts ≡ false → comp_tail sum a ops parens ts ≡ Ok ((a, ops, parens), ts)
  unfolding comp_tail
  tail_ends zero parens ts h k = ap (λ (b : Bool). cond b (Err ts) (Ok ((a, 0, parens), ts))) (starts_or (is compare_of) (is is_of) ts h k)
  tail_ends (suc ops) parens ts h k = ap (λ (b : Bool). cond b (compares ops parens ts) (otherwise ops parens ts)) h ∙ ap (λ (b : Bool). cond b (tests ops parens ts) (Ok ((a, suc ops, parens), ts))) k

  pub tail_compares : (ops parens : ℕ) (ts us : List Lexeme) (o : BinaryOp) → ops ≢ 0 → one_at compare_of ts ≡ Ok (o, us) → comp_tail sum a ops parens ts ≡ made (Binary o a) (sum (ops - 1) parens us)
  unfolding comp_tail
  tail_compares zero parens ts us o z h = absurd (z refl)
  tail_compares (suc ops) parens ts us o z h =
      rw sub-one (ap (λ (b : Bool). cond b (compares ops parens ts) (otherwise ops parens ts)) (one_starts compare_of ts (o, us) h)
      ∙ ap (λ (r : Read Lexeme BinaryOp). r >>= λ x. made (Binary x.0 a) (sum ops parens x.1)) h)

  pub tail_tests : (ops parens : ℕ) (ts us : List Lexeme) → ops ≢ 0 → starts (is compare_of) ts ≡ false → one_at is_of ts ≡ Ok (tt, us)
      → comp_tail sum a ops parens ts ≡ tested_by a ops parens (null_test_at us)
  unfolding comp_tail
  tail_tests zero parens ts us z k h = absurd (z refl)
  tail_tests (suc ops) parens ts us z k h =
      rw sub-one (ap (λ (b : Bool). cond b (compares ops parens ts) (otherwise ops parens ts)) k
      ∙ ap (λ (b : Bool). cond b (tests ops parens ts) (Ok ((a, suc ops, parens), ts))) (one_starts is_of ts (tt, us) h)
      ∙ ap (λ (r : Read Lexeme (Unit {0})). r >>= λ o. null_test_at o.1 >>= λ x. Ok ((UnaryTerm x.0 a, ops, parens), x.1)) h)

  pub compare_spent : (ops parens : ℕ) (ts us : List Lexeme) (o : BinaryOp) → ops ≡ 0 → one_at compare_of ts ≡ Ok (o, us) → comp_tail sum a ops parens ts ≡ Err ts
  unfolding comp_tail
  compare_spent ops parens ts us o z h = rw z (ap (λ (b : Bool). cond b (Err ts) (Ok ((a, 0, parens), ts))) (or_left_true (is compare_of) (is is_of) ts (one_starts compare_of ts (o, us) h)))

  pub test_spent : (ops parens : ℕ) (ts us : List Lexeme) → ops ≡ 0 → one_at is_of ts ≡ Ok (tt, us) → comp_tail sum a ops parens ts ≡ Err ts
  unfolding comp_tail
  test_spent ops parens ts us z h = rw z (ap (λ (b : Bool). cond b (Err ts) (Ok ((a, 0, parens), ts))) (or_right_true (is compare_of) (is is_of) ts (one_starts is_of ts (tt, us) h)))

-- ---- signs

module _ (prim : Item Lexeme Tree) where
  abbrev number_at : ℕ → ℕ → List Lexeme → Read Lexeme (Part Tree)
  number_at ops parens = signed_at (λ (v : Value). LiteralTerm v) negative_of ops parens

  abbrev minus_at : ℕ → ℕ → List Lexeme → Read Lexeme (Part Tree)
  minus_at ops parens = and_then (unary_at (UnaryTerm Negate) (λ (v : Value). LiteralTerm v) minus_of negative_of prim ops parens) λ x. done (UnaryTerm Negate x.0, x.1, x.2)

  abbrev none_left : ℕ → List Lexeme → Read Lexeme (Part Tree)
  none_left parens = and_then (one_at minus_of) λ _. number_at 0 parens

  abbrev some_left : ℕ → ℕ → List Lexeme → Read Lexeme (Part Tree)
  some_left ops parens = and_then (one_at minus_of) λ _. either (is negative_of) (number_at (suc ops) parens) (minus_at ops parens)

  pub unary_other : (ops parens : ℕ) (ts : List Lexeme) → starts (is minus_of) ts ≡ false → unary_item prim ops parens ts ≡ prim ops parens ts
  unfolding unary_item unary_at
  unary_other zero parens ts h = ap (λ (b : Bool). cond b (none_left parens ts) (prim 0 parens ts)) h
  unary_other (suc ops) parens ts h = ap (λ (b : Bool). cond b (some_left ops parens ts) (prim (suc ops) parens ts)) h

  -- behind a minus
  behind_none : (parens : ℕ) (ts us : List Lexeme) → one_at minus_of ts ≡ Ok (tt, us) → unary_item prim 0 parens ts ≡ number_at 0 parens us
  unfolding unary_item unary_at
  behind_none parens ts us h = ap (λ (b : Bool). cond b (none_left parens ts) (prim 0 parens ts)) (one_starts minus_of ts (tt, us) h) ∙ ap (λ (r : Read Lexeme (Unit {0})). r >>= λ o. number_at 0 parens o.1) h

  behind_some : (ops parens : ℕ) (ts us : List Lexeme) → one_at minus_of ts ≡ Ok (tt, us) → unary_item prim (suc ops) parens ts ≡ either (is negative_of) (number_at (suc ops) parens) (minus_at ops parens) us
  unfolding unary_item unary_at
  behind_some ops parens ts us h = ap (λ (b : Bool). cond b (some_left ops parens ts) (prim (suc ops) parens ts)) (one_starts minus_of ts (tt, us) h)
      ∙ ap (λ (r : Read Lexeme (Unit {0})). r >>= λ o. either (is negative_of) (number_at (suc ops) parens) (minus_at ops parens) o.1) h

  pub unary_number : (ops parens : ℕ) (ts us vs : List Lexeme) (v : Value) → one_at minus_of ts ≡ Ok (tt, us) → one_at negative_of us ≡ Ok (v, vs)
      → unary_item prim ops parens ts ≡ Ok ((LiteralTerm v, ops, parens), vs)
  unary_number zero parens ts us vs v h k = behind_none parens ts us h ∙ ap (λ (r : Read Lexeme Value). r >>= λ o. Ok ((LiteralTerm o.0, 0, parens), o.1)) k
  unary_number (suc ops) parens ts us vs v h k = behind_some ops parens ts us h
      ∙ ap (λ (b : Bool). cond b (number_at (suc ops) parens us) (minus_at ops parens us)) (one_starts negative_of us (v, vs) k)
      ∙ ap (λ (r : Read Lexeme Value). r >>= λ o. Ok ((LiteralTerm o.0, suc ops, parens), o.1)) k

  pub unary_spent : (ops parens : ℕ) (ts us : List Lexeme) → ops ≡ 0 → one_at minus_of ts ≡ Ok (tt, us) → starts (is negative_of) us ≡ false → unary_item prim ops parens ts ≡ Err us
  unary_spent ops parens ts us z h k = rw z (behind_none parens ts us h ∙ ap (λ (r : Read Lexeme Value). r >>= λ o. Ok ((LiteralTerm o.0, 0, parens), o.1)) (one_stops negative_of us k))

  pub unary_minus : (ops parens : ℕ) (ts us : List Lexeme) → ops ≢ 0 → one_at minus_of ts ≡ Ok (tt, us) → starts (is negative_of) us ≡ false
      → unary_item prim ops parens ts ≡ made (UnaryTerm Negate) (unary_item prim (ops - 1) parens us)
  unfolding unary_item
  unary_minus zero parens ts us z h k = absurd (z refl)
  unary_minus (suc ops) parens ts us z h k =
      rw sub-one (behind_some ops parens ts us h ∙ ap (λ (b : Bool). cond b (number_at (suc ops) parens us) (minus_at ops parens us)) k)

-- ---- parentheses

-- what is in parentheses, and the closing one
abbrev pub closing : Read Lexeme (Part Tree) → Read Lexeme (Part Tree)
closing r = r >>= λ x. one_at close_of x.1 >>= λ y. Ok (x.0, y.1)

-- a part and its closing parenthesis
abbrev pub closed_by : Part Tree → Read Lexeme (Unit {0}) → Read Lexeme (Part Tree)
closed_by part r = r >>= λ y. Ok (part, y.1)

abbrev grouped : ℕ → ℕ → ℕ → List Lexeme → Read Lexeme (Part Tree)
grouped depth ops parens = and_then (one_at open_of) λ _. and_then (expr_item (primary_item depth) ops parens) λ x. and_then (one_at close_of) λ _. done x

open_front : (ts us : List Lexeme) → one_at open_of ts ≡ Ok (tt, us) → ts ≡ symbol (codes "(") ∷ us
open_front [] us h = cc
open_front (t ∷ ts) us h = by (open_of t) refl h
  where
    by : (o : Option (Unit {0})) → open_of t ≡ o → taken o t ts ≡ Ok (tt, us) → t ∷ ts ≡ symbol (codes "(") ∷ us
    by (Some u) e h = let same : ts ≡ us = ap (λ (p : Unit {0} × List Lexeme). p.1) (same_answer (u, ts) (tt, us) h) in ap (λ (x : Lexeme). x ∷ ts) (sign_is (codes "(") t u e) ∙ ap (λ (l : List Lexeme). symbol (codes "(") ∷ l) same
    by None e h = cc

pub primary_atom : (depth ops parens : ℕ) (ts : List Lexeme) → starts (is open_of) ts ≡ false → primary_item depth ops parens ts ≡ atom_item ops parens ts
unfolding primary_item
primary_atom zero ops parens ts h = refl
primary_atom (suc depth) ops zero ts h = refl
primary_atom (suc depth) ops (suc parens) ts h = ap (λ (b : Bool). cond b (grouped depth ops parens ts) (atom_item ops (suc parens) ts)) h

pub primary_spent : (depth ops parens : ℕ) (ts us : List Lexeme) → (parens ≡ 0) ⊎ (depth ≡ 0) → one_at open_of ts ≡ Ok (tt, us) → primary_item depth ops parens ts ≡ Err ts
unfolding primary_item
primary_spent zero ops parens ts us h e = rw (open_front ts us e) refl
primary_spent (suc depth) ops zero ts us h e = rw (open_front ts us e) refl
primary_spent (suc depth) ops (suc parens) ts us (inl h) e = cc
primary_spent (suc depth) ops (suc parens) ts us (inr h) e = cc

pub primary_open : (depth ops parens : ℕ) (ts us : List Lexeme) → depth ≢ 0 → parens ≢ 0 → one_at open_of ts ≡ Ok (tt, us)
    → primary_item depth ops parens ts ≡ closing (expr_item (primary_item (depth - 1)) ops (parens - 1) us)
unfolding primary_item
primary_open zero ops parens ts us d p h = absurd (d refl)
primary_open (suc depth) ops zero ts us d p h = absurd (p refl)
primary_open (suc depth) ops (suc parens) ts us d p h =
    rw (sub-one (suc depth), sub-one (suc parens)) (ap (λ (b : Bool). cond b (grouped depth ops parens ts) (atom_item ops (suc parens) ts)) (one_starts open_of ts (tt, us) h)
    ∙ ap (λ (r : Read Lexeme (Unit {0})). r >>= λ o. closing (expr_item (primary_item depth) ops parens o.1)) h)
