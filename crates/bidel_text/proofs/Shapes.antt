-- How the rules of expressions spell an operation of operands that are in parentheses or one literal or name.
use Rattle.std.proofs.Common.{◌≡◌, ◌++◌, ◌∷◌, ◌⊎◌, [], ℕ, zero, suc, ◌+◌, ◌*◌, ◌≤◌, List, Bool, true, false, cond, refl, ap, ◌∙◌, sym, append-nil, inl, inr, arith}
use Rattle.std.specs.Prelude.{Option, Some, None, codes}
use Rattle.expr_lang.specs.Terms.{Literal as LiteralTerm, Unary as UnaryTerm, Binary}
use Rattle.expr_lang.specs.declared.tree.UnaryOp.{UnaryOp}
use Rattle.expr_lang.specs.declared.tree.UnaryOp.TheVariants.{Not, Negate}
use Rattle.expr_lang.specs.declared.tree.BinaryOp.{BinaryOp}
use Rattle.phrases.specs.Phrases.{Nothing, Seq, OneOf}
use Rattle.phrases.specs.Reading.{starts, is}
use Rattle.phrases.specs.Chains.{opens, Chain}
use Rattle.phrases.specs.Levels.{Signed}
use Rattle.phrases.proofs.ChainsLaws.{opens-append}
use Rattle.bidel_expr.specs.Lexemes.{Lexeme, word, symbol, negative_of}
use Rattle.bidel_expr.specs.Literals.{open_of, close_of, minus_of}
use Rattle.bidel_expr.specs.Operators.{or_of, and_of, not_of, is_of, compare_of, sum_of, product_of}
use Rattle.bidel_expr.specs.Expressions.{Tree, Spelling, cost, weight, Atom, PrimaryIn, UnaryRule, ProductRule, SumRule, CompRule, NegRule, ConjRule, Levels, NullTest}
use Rattle.bidel_expr.proofs.WordLaws.{keyword_is, is_sign, sign_is}

-- ---- the phrases

-- an expression, with parentheses nested no deeper than it has operators, and at most two of them for each operator
pub record Whole (ts : List Lexeme) (e : Tree) : Type 0 where
  pub at : (d : ℕ) → cost e ≤ d → Levels (PrimaryIn d) ts e
  pub few : opens weight ts ≤ 2 * cost e

-- a number with its sign
abbrev pub SignedNumber : Spelling
SignedNumber = Signed (λ v. LiteralTerm v) minus_of negative_of

-- an operand: a literal, a name, or an expression in parentheses
pub record Operand (ts : List Lexeme) (e : Tree) : Type 0 where
  pub at : (d : ℕ) → cost e + 1 ≤ d → SignedNumber ts e ⊎ PrimaryIn d ts e
  pub few : opens weight ts ≤ 2 * cost e + 1

-- an operand that no number begins
pub record Negated (ts : List Lexeme) (e : Tree) : Type 0 where
  pub at : (d : ℕ) → cost e + 1 ≤ d → PrimaryIn d ts e
  pub no_number : starts (is negative_of) ts ≡ false
  pub few : opens weight ts ≤ 2 * cost e + 1

-- ---- from a rule to those above it

lone : (op : Lexeme → Option BinaryOp) (I : Spelling) (ts : List Lexeme) (e : Tree) → I ts e → Chain Binary op I ts e
lone op I ts e h = record { first = e; further = 0; left = ts; right = []; whole = sym (append-nil ts); item = h; rest = (refl, refl) }

module _ (P : Spelling) (ts : List Lexeme) (e : Tree) where
  from_conj : ConjRule (NegRule (CompRule (SumRule (ProductRule (UnaryRule P))))) ts e → Levels P ts e
  from_conj h = lone or_of (ConjRule (NegRule (CompRule (SumRule (ProductRule (UnaryRule P)))))) ts e h

  from_neg : NegRule (CompRule (SumRule (ProductRule (UnaryRule P)))) ts e → Levels P ts e
  from_neg h = from_conj (lone and_of (NegRule (CompRule (SumRule (ProductRule (UnaryRule P))))) ts e h)

  neg_from_comp : CompRule (SumRule (ProductRule (UnaryRule P))) ts e → NegRule (CompRule (SumRule (ProductRule (UnaryRule P)))) ts e
  neg_from_comp h = record { count = 0; spelled = h }

  from_comp : CompRule (SumRule (ProductRule (UnaryRule P))) ts e → Levels P ts e
  from_comp h = from_neg (neg_from_comp h)

  comp_from_sum : SumRule (ProductRule (UnaryRule P)) ts e → CompRule (SumRule (ProductRule (UnaryRule P))) ts e
  comp_from_sum h = record { value = e; left = ts; right = []; whole = sym (append-nil ts); first = h; second = inr (inr (refl, refl)) }

  sum_from_product : ProductRule (UnaryRule P) ts e → SumRule (ProductRule (UnaryRule P)) ts e
  sum_from_product h = lone sum_of (ProductRule (UnaryRule P)) ts e h

  product_from_unary : UnaryRule P ts e → ProductRule (UnaryRule P) ts e
  product_from_unary h = lone product_of (UnaryRule P) ts e h

  unary_from : SignedNumber ts e ⊎ P ts e → UnaryRule P ts e
  unary_from h = record { minuses = 0; spelled = h }

-- ---- one of two operands with an operator between them

-- an operand, an operator, an operand
abbrev pub Two : (Lexeme → Option BinaryOp) → Spelling
Two f = Seq Operand λ a. Seq (OneOf f) λ o. Seq Operand λ b. Nothing (Binary o a b)

module _ (f : Lexeme → Option BinaryOp) (free : (t : Lexeme) (o : BinaryOp) → f t ≡ Some o → weight t ≡ 0) where
  -- as a chain of a rule that spells operands
  chained : (I : Spelling) (ts : List Lexeme) (e : Tree) → Two f ts e → ((us : List Lexeme) (a : Tree) → Operand us a → cost a + 1 ≤ cost e → I us a) → Chain Binary f I ts e
  chained I ts e h up =
      let s = h.second in
      let r = s.second in
      let tree : Binary s.value h.value r.value ≡ e = r.second.1 in
      let paid : cost h.value + cost r.value + 1 ≡ cost e = ap cost tree in
      record {
        first = h.value;
        further = 1;
        left = h.left;
        right = h.right;
        whole = h.whole;
        item = up h.left h.value h.first (omega (arith, paid));
        rest = (
          s.first.0,
          s.value,
          r.left,
          r.value,
          r.right,
          s.first.2,
          s.whole ∙ ap (λ (l : List Lexeme). l ++ s.right) s.first.1 ∙ ap (λ (l : List Lexeme). s.first.0 ∷ l) r.whole,
          up r.left r.value r.first (omega (arith, paid)),
          (r.second.0, tree),
        );
      }

  -- its parentheses
  two_few : (ts : List Lexeme) (e : Tree) → Two f ts e → opens weight ts ≤ 2 * cost e
  two_few ts e h =
      let s = h.second in
      let r = s.second in
      let paid : cost h.value + cost r.value + 1 ≡ cost e = ap cost r.second.1 in
      let a : opens weight ts ≡ opens weight h.left + opens weight h.right = ap (opens weight) h.whole ∙ opens-append weight h.left h.right in
      let b : opens weight h.right ≡ opens weight s.left + opens weight s.right = ap (opens weight) s.whole ∙ opens-append weight s.left s.right in
      let c : opens weight s.right ≡ opens weight r.left + opens weight r.right = ap (opens weight) r.whole ∙ opens-append weight r.left r.right in
      let d : opens weight s.left ≡ weight s.first.0 + 0 = ap (opens weight) s.first.1 in
      let z : opens weight r.right ≡ 0 = ap (opens weight) r.second.0 in
      let w : weight s.first.0 ≡ 0 = free s.first.0 s.value s.first.2 in
      let p : opens weight h.left ≤ 2 * cost h.value + 1 = h.first.few in
      let q : opens weight r.left ≤ 2 * cost r.value + 1 = r.first.few in
      omega arith

module _ (d : ℕ) (us : List Lexeme) (a : Tree) (h : Operand us a) (deep : cost a + 1 ≤ d) where
  as_unary : UnaryRule (PrimaryIn d) us a
  as_unary = unary_from (PrimaryIn d) us a (h.at d deep)

  as_product : ProductRule (UnaryRule (PrimaryIn d)) us a
  as_product = product_from_unary (PrimaryIn d) us a as_unary

  as_sum : SumRule (ProductRule (UnaryRule (PrimaryIn d))) us a
  as_sum = sum_from_product (PrimaryIn d) us a as_product

  as_comp : CompRule (SumRule (ProductRule (UnaryRule (PrimaryIn d)))) us a
  as_comp = comp_from_sum (PrimaryIn d) us a as_sum

  as_neg : NegRule (CompRule (SumRule (ProductRule (UnaryRule (PrimaryIn d))))) us a
  as_neg = neg_from_comp (PrimaryIn d) us a as_comp

  as_conj : ConjRule (NegRule (CompRule (SumRule (ProductRule (UnaryRule (PrimaryIn d)))))) us a
  as_conj = lone and_of (NegRule (CompRule (SumRule (ProductRule (UnaryRule (PrimaryIn d)))))) us a as_neg

-- an operator that isn't written as a parenthesis opens none
no_opening : (f : Lexeme → Option BinaryOp) → f (symbol (codes "(")) ≡ None → (t : Lexeme) (o : BinaryOp) → f t ≡ Some o → weight t ≡ 0
no_opening f none t o h = by (is open_of t) refl
  where
    by : (b : Bool) → is open_of t ≡ b → ◌≡◌ {A = ℕ} (cond b 1 0) 0
    by true e = let bad : None ≡ Some o = sym none ∙ ap f (sym (is_sign (codes "(") t e)) ∙ h in cc
    by false e = refl

pub whole_or : (ts : List Lexeme) (e : Tree) → Two or_of ts e → Whole ts e
whole_or ts e h = record {
  at = λ d deep. chained or_of (no_opening or_of refl) (ConjRule (NegRule (CompRule (SumRule (ProductRule (UnaryRule (PrimaryIn d))))))) ts e h (λ us a o k. as_conj d us a o (omega (arith, k, deep)));
  few = two_few or_of (no_opening or_of refl) ts e h;
}

pub whole_and : (ts : List Lexeme) (e : Tree) → Two and_of ts e → Whole ts e
whole_and ts e h = record {
  at = λ d deep. from_conj (PrimaryIn d) ts e (chained and_of (no_opening and_of refl) (NegRule (CompRule (SumRule (ProductRule (UnaryRule (PrimaryIn d)))))) ts e h (λ us a o k. as_neg d us a o (omega (arith, k, deep))));
  few = two_few and_of (no_opening and_of refl) ts e h;
}

pub whole_sum : (ts : List Lexeme) (e : Tree) → Two sum_of ts e → Whole ts e
whole_sum ts e h = record {
  at = λ d deep. from_comp (PrimaryIn d) ts e (comp_from_sum (PrimaryIn d) ts e (chained sum_of (no_opening sum_of refl) (ProductRule (UnaryRule (PrimaryIn d))) ts e h (λ us a o k. as_product d us a o (omega (arith, k, deep)))));
  few = two_few sum_of (no_opening sum_of refl) ts e h;
}

pub whole_product : (ts : List Lexeme) (e : Tree) → Two product_of ts e → Whole ts e
whole_product ts e h = record {
  at = λ d deep. from_comp (PrimaryIn d) ts e (comp_from_sum (PrimaryIn d) ts e (sum_from_product (PrimaryIn d) ts e
      (chained product_of (no_opening product_of refl) (UnaryRule (PrimaryIn d)) ts e h (λ us a o k. as_unary d us a o (omega (arith, k, deep))))));
  few = two_few product_of (no_opening product_of refl) ts e h;
}

pub whole_compare : (ts : List Lexeme) (e : Tree) → Two compare_of ts e → Whole ts e
whole_compare ts e h =
    let s = h.second in
    let r = s.second in
    let paid : cost h.value + cost r.value + 1 ≡ cost e = ap cost r.second.1 in
    record {
      at = λ d deep. from_comp (PrimaryIn d) ts e (record {
        value = h.value;
        left = h.left;
        right = h.right;
        whole = h.whole;
        first = as_sum d h.left h.value h.first (omega (arith, paid, deep));
        second = inl (record {
          value = s.value;
          left = s.left;
          right = s.right;
          whole = s.whole;
          first = s.first;
          second = record { value = r.value; left = r.left; right = r.right; whole = r.whole; first = as_sum d r.left r.value r.first (omega (arith, paid, deep)); second = r.second };
        });
      });
      few = two_few compare_of (no_opening compare_of refl) ts e h;
    }

-- ---- one operand

-- NOT and an operand
pub whole_not : (ts : List Lexeme) (a : Tree) → Seq (OneOf not_of) (λ _. Operand) ts a → Whole ts (UnaryTerm Not a)
whole_not ts a h =
    let word_left : h.left ≡ word (codes "not") ∷ [] = h.first.1 ∙ ap (λ (t : Lexeme). t ∷ []) (keyword_is (codes "not") h.first.0 h.value h.first.2) in
    let w : opens weight h.left ≡ 0 = ap (opens weight) word_left in
    let all : opens weight ts ≡ opens weight h.left + opens weight h.right = ap (opens weight) h.whole ∙ opens-append weight h.left h.right in
    let few : opens weight h.right ≤ 2 * cost a + 1 = h.second.few in
    record {
      at = λ d deep. from_neg (PrimaryIn d) ts (UnaryTerm Not a) (record {
        count = 1;
        spelled = (h.first.0, h.value, h.right, a, h.first.2, h.whole ∙ ap (λ (l : List Lexeme). l ++ h.right) h.first.1, refl, as_comp d h.right a h.second (omega (arith, deep)));
      });
      few = omega arith;
    }

-- an operand and IS NULL or IS NOT NULL
pub whole_test : (ts : List Lexeme) (e : Tree) → Seq Operand (λ a. Seq (OneOf is_of) λ _. Seq NullTest λ op. Nothing (UnaryTerm op a)) ts e
    → ((us : List Lexeme) (o : UnaryOp) → NullTest us o → opens weight us ≡ 0) → Whole ts e
whole_test ts e h free =
    let s = h.second in
    let r = s.second in
    let paid : cost h.value + 1 ≡ cost e = ap cost r.second.1 in
    let a : opens weight ts ≡ opens weight h.left + opens weight h.right = ap (opens weight) h.whole ∙ opens-append weight h.left h.right in
    let b : opens weight h.right ≡ opens weight s.left + opens weight s.right = ap (opens weight) s.whole ∙ opens-append weight s.left s.right in
    let c : opens weight s.right ≡ opens weight r.left + opens weight r.right = ap (opens weight) r.whole ∙ opens-append weight r.left r.right in
    let d : opens weight s.left ≡ 0 = ap (opens weight) (s.first.1 ∙ ap (λ (t : Lexeme). t ∷ []) (keyword_is (codes "is") s.first.0 s.value s.first.2)) in
    let z : opens weight r.right ≡ 0 = ap (opens weight) r.second.0 in
    let w : opens weight r.left ≡ 0 = free r.left r.value r.first in
    let p : opens weight h.left ≤ 2 * cost h.value + 1 = h.first.few in
    record {
      at = λ d deep. from_comp (PrimaryIn d) ts e (record {
        value = h.value;
        left = h.left;
        right = h.right;
        whole = h.whole;
        first = as_sum d h.left h.value h.first (omega (arith, paid, deep));
        second = inr (inl s);
      });
      few = omega arith;
    }

-- a prefix minus and an operand that no number begins
pub whole_negate : (ts : List Lexeme) (a : Tree) → Seq (OneOf minus_of) (λ _. Negated) ts a → Whole ts (UnaryTerm Negate a)
whole_negate ts a h =
    let sign_left : h.left ≡ symbol (codes "-") ∷ [] = h.first.1 ∙ ap (λ (t : Lexeme). t ∷ []) (sign_is (codes "-") h.first.0 h.value h.first.2) in
    let w : opens weight h.left ≡ 0 = ap (opens weight) sign_left in
    let all : opens weight ts ≡ opens weight h.left + opens weight h.right = ap (opens weight) h.whole ∙ opens-append weight h.left h.right in
    let few : opens weight h.right ≤ 2 * cost a + 1 = h.second.few in
    record {
      at = λ d deep. from_comp (PrimaryIn d) ts (UnaryTerm Negate a) (comp_from_sum (PrimaryIn d) ts _ (sum_from_product (PrimaryIn d) ts _ (product_from_unary (PrimaryIn d) ts _ (record {
        minuses = 1;
        spelled = (h.first.0, h.value, h.right, a, h.first.2, h.whole ∙ ap (λ (l : List Lexeme). l ++ h.right) h.first.1, h.second.no_number, refl, inr (h.second.at d (omega (arith, deep))));
      }))));
      few = omega arith;
    }

-- ---- an operand alone

pub in_any : (d : ℕ) (ts : List Lexeme) (e : Tree) → Atom ts e → PrimaryIn d ts e
in_any zero ts e h = h
in_any (suc d) ts e h = inl h

pub whole_atom : (ts : List Lexeme) (e : Tree) → SignedNumber ts e ⊎ Atom ts e → opens weight ts ≡ 0 → Whole ts e
whole_atom ts e h none = record {
  at = λ d deep. from_comp (PrimaryIn d) ts e (comp_from_sum (PrimaryIn d) ts e (sum_from_product (PrimaryIn d) ts e (product_from_unary (PrimaryIn d) ts e (unary_from (PrimaryIn d) ts e
      (elim h [ inl s ↦ inl s | inr a ↦ inr (in_any d ts e a) ])))));
  few = omega (arith, none);
}

pub operand_atom : (ts : List Lexeme) (e : Tree) → SignedNumber ts e ⊎ Atom ts e → opens weight ts ≡ 0 → Operand ts e
operand_atom ts e h none = record { at = λ d deep. elim h [ inl s ↦ inl s | inr a ↦ inr (in_any d ts e a) ]; few = omega (arith, none) }

pub negated_atom : (ts : List Lexeme) (e : Tree) → Atom ts e → opens weight ts ≡ 0 → starts (is negative_of) ts ≡ false → Negated ts e
negated_atom ts e h none clear = record { at = λ d deep. in_any d ts e h; no_number = clear; few = omega (arith, none) }

-- an expression in parentheses
abbrev pub Held : Spelling
Held = Seq (OneOf open_of) λ _. Seq Whole λ e. Seq (OneOf close_of) λ _. Nothing e

pub negated_held : (ts : List Lexeme) (e : Tree) → Held ts e → Negated ts e
negated_held ts e h =
    let s = h.second in
    let r = s.second in
    let tree : s.value ≡ e = r.second.1 in
    let paid : cost s.value ≡ cost e = ap cost tree in
    let opening : h.left ≡ symbol (codes "(") ∷ [] = h.first.1 ∙ ap (λ (t : Lexeme). t ∷ []) (sign_is (codes "(") h.first.0 h.value h.first.2) in
    let closing : r.left ≡ symbol (codes ")") ∷ [] = r.first.1 ∙ ap (λ (t : Lexeme). t ∷ []) (sign_is (codes ")") r.first.0 r.value r.first.2) in
    let a : opens weight ts ≡ opens weight h.left + opens weight h.right = ap (opens weight) h.whole ∙ opens-append weight h.left h.right in
    let b : opens weight h.right ≡ opens weight s.left + opens weight s.right = ap (opens weight) s.whole ∙ opens-append weight s.left s.right in
    let c : opens weight s.right ≡ opens weight r.left + opens weight r.right = ap (opens weight) r.whole ∙ opens-append weight r.left r.right in
    let d : opens weight h.left ≡ 1 = ap (opens weight) opening in
    let y : opens weight r.left ≡ 0 = ap (opens weight) closing in
    let z : opens weight r.right ≡ 0 = ap (opens weight) r.second.0 in
    let p : opens weight s.left ≤ 2 * cost s.value = s.first.few in
    record {
      at = deep;
      no_number = ap (starts (is negative_of)) (h.whole ∙ ap (λ (l : List Lexeme). l ++ h.right) opening);
      few = omega arith;
    }
  where
    deep : (d : ℕ) → cost e + 1 ≤ d → PrimaryIn d ts e
    deep zero k = absurd (omega (arith, k))
    deep (suc d) k =
        let s = h.second in
        let paid : cost s.value ≡ cost e = ap cost s.second.second.1 in
        inr (record {
          value = h.value;
          left = h.left;
          right = h.right;
          whole = h.whole;
          first = h.first;
          second = record { value = s.value; left = s.left; right = s.right; whole = s.whole; first = s.first.at d (omega (arith, paid, k)); second = s.second };
        })

pub operand_held : (ts : List Lexeme) (e : Tree) → Held ts e → Operand ts e
operand_held ts e h = let n = negated_held ts e h in record { at = λ d deep. inr (n.at d deep); few = n.few }
