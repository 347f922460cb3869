-- Expressions are read as their grammar says.
use Rattle.std.proofs.Common.{◌≡◌, ◌++◌, [], ℕ, zero, suc, ◌+◌, ◌-◌, ◌≤◌, ◌<◌, List, Bool, true, false, refl, ap, append-nil, ◌∙◌, sym, subst, inl, inr, arith, length, length-append, ◌∷◌}
use Rattle.std.specs.Prelude.{Some, codes, pos, neg_ℤ, Option}
use Rattle.par_base.specs.Names.{is_name, is_reserved}
use Rattle.par_base.specs.declared.value.Value.{Value}
use Rattle.par_base.specs.declared.value.Value.TheVariants.{Int}
use Rattle.expr_lang.specs.Terms.{Literal as LiteralTerm, Column, Unary as UnaryTerm, Binary}
use Rattle.expr_lang.specs.declared.tree.UnaryOp.TheVariants.{Not, Negate}
use Rattle.expr_lang.specs.declared.tree.BinaryOp.{BinaryOp}
use Rattle.expr_lang.specs.declared.tree.BinaryOp.TheVariants.{Or, And, Add, Multiply}
use Rattle.phrases.specs.Phrases.{Nothing, Seq, OneOf, Either}
use Rattle.phrases.specs.Reading.{Read, and_then, done, starts, is, none, or}
use Rattle.phrases.specs.Reads.{Reads}
use Rattle.phrases.specs.Chains.{Part, Item, Within, opens, Chain}
use Rattle.phrases.specs.Levels.{Minuses}
use Rattle.phrases.proofs.ReadersLaws.{either-reads, respell, begins_one, begins_first, known}
use Rattle.phrases.proofs.ListsLaws.{made-reads}
use Rattle.phrases.proofs.ChainsLaws.{chain-reads, chain_first, part, part_is}
use Rattle.phrases.proofs.PrefixesLaws.{prefix-reads}
use Rattle.phrases.proofs.SignsLaws.{unary-reads}
use Rattle.phrases.proofs.GroupsLaws.{grouped-reads}
use Rattle.phrases.proofs.BoundedLaws.{chain_bounded, prefix_bounded, unary_bounded, grouped_bounded}
use Rattle.bidel_expr.specs.Lexemes.{Lexeme, word, number, symbol, name_of, negative_of, unsigned_of}
use Rattle.bidel_expr.specs.Literals.{open_of, close_of, minus_of}
use Rattle.bidel_expr.specs.Operators.{or_of, and_of, not_of, is_of, compare_of, sum_of, product_of}
pub use Rattle.bidel_expr.specs.Expressions.{expression_goes}
use Rattle.bidel_expr.specs.Expressions.{Tree, Spelling, cost, weight, Atom, PrimaryRule, UnaryRule, ProductRule, SumRule, CompRule, NegRule, ConjRule, Levels, PrimaryIn, IsExpr, Expression, most_operators, most_parentheses, atom_at, atom_item, unary_item, product_item, sum_item, comp_item, neg_item, conj_item, expr_item, primary_item, expression_at}
use Rattle.bidel_expr.proofs.WordLaws.{by_keyword, by_sign, keyword_is, sign_is, name_is, name_not, by_unsigned, by_negative}
use Rattle.bidel_expr.proofs.OperatorLemmas.{by_or, by_and, by_compare, by_sum, by_product}
use Rattle.bidel_expr.proofs.LiteralLaws.{name-reads, unsigned-reads}
use Rattle.bidel_expr.proofs.Comparisons.{halves, one_free, comp-reads, comp_bounded}

-- ---- one token: a literal or a name

-- a name is none of the words of expressions
name_test : (g : Lexeme → Bool) (t : Lexeme) (w : List ℕ) → name_of t ≡ Some w → g (word w) ≡ false → g t ≡ false
name_test g t w h k = ap g (name_is t w h).0 ∙ k

name_weight : (t : Lexeme) (w : List ℕ) → name_of t ≡ Some w → weight t ≡ 0
name_weight t w h = ap weight (name_is t w h).0 ∙ refl

unsigned_weight : (t : Lexeme) (v : Value) → unsigned_of t ≡ Some v → weight t ≡ 0
unsigned_weight = by_unsigned weight 0 refl (λ n. refl) (λ b. refl) (λ n. refl)

null_no_name : is name_of (word (codes "null")) ≡ false
unfolding is_name is_reserved
null_no_name = refl

unsigned_no_name : (t : Lexeme) (v : Value) → unsigned_of t ≡ Some v → is name_of t ≡ false
unsigned_no_name = by_unsigned (is name_of) false null_no_name (λ n. refl) (λ b. refl) (λ n. refl)

abbrev NamePhrase : List Lexeme → Tree → Type 0
NamePhrase = Seq (OneOf name_of) λ name. Nothing (Column name)

abbrev LiteralPhrase : List Lexeme → Tree → Type 0
LiteralPhrase = Seq (OneOf unsigned_of) λ v. Nothing (LiteralTerm v)

atom-reads : Reads none Atom atom_at
atom-reads = respell none none (Either NamePhrase LiteralPhrase) Atom _
    (either-reads none (is name_of) NamePhrase LiteralPhrase _ _
    (made-reads none (OneOf name_of) _ (λ name. Column name) name-reads)
    (made-reads none (OneOf unsigned_of) _ (λ v. LiteralTerm v) unsigned-reads)
    (begins_one (is name_of) name_of true _ (known name_of))
    (λ front us e h clear. begins_one (is name_of) unsigned_of false _ unsigned_no_name front us e h))
    (λ front e h. elim h [ inl n ↦ inr n | inr l ↦ inl l ])
    (λ front e h. elim h [ inl l ↦ inr l | inr n ↦ inl n ])
    (λ t h. h)

-- an atom is one token, and costs nothing
atom_free : (ts : List Lexeme) (e : Tree) → Atom ts e → (cost e ≡ 0) × (opens weight ts ≡ 0)
atom_free ts e (inl h) = (ap cost (sym h.second.1), omega (arith, halves ts h.left h.right h.whole, one_free h.first.0 h.left h.first.1 (unsigned_weight h.first.0 h.value h.first.2), ap (opens weight) h.second.0))
atom_free ts e (inr h) = (ap cost (sym h.second.1), omega (arith, halves ts h.left h.right h.whole, one_free h.first.0 h.left h.first.1 (name_weight h.first.0 h.value h.first.2), ap (opens weight) h.second.0))

-- an atom within limits
atom_item-reads : (ops parens : ℕ) → Reads none (Within cost weight Atom ops parens) (atom_item ops parens)
atom_item-reads ops parens = respell none none (Seq Atom λ e. Nothing (part e ops parens)) (Within cost weight Atom ops parens) _
    (made-reads none Atom atom_at (λ e. part e ops parens) atom-reads) to from (λ t h. h)
  where
    to : (front : List Lexeme) (x : Part Tree) → Seq Atom (λ e. Nothing (part e ops parens)) front x → Within cost weight Atom ops parens front x
    to front x h =
        let same : front ≡ h.left = h.whole ∙ ap (λ (l : List Lexeme). h.left ++ l) h.second.0 ∙ append-nil h.left in
        let free = atom_free h.left h.value h.first in
        let whole = h.second.1 in
        let ops_left : ops ≡ x.1 = ap (λ (p : Part Tree). p.1) whole in
        let parens_left : parens ≡ x.2 = ap (λ (p : Part Tree). p.2) whole in
        let tree : h.value ≡ x.0 = ap (λ (p : Part Tree). p.0) whole in
        let none_open : opens weight front ≡ 0 = ap (opens weight) same ∙ free.1 in
        let none_cost : cost x.0 ≡ 0 = sym (ap cost tree) ∙ free.0 in
        (subst (λ (l : List Lexeme). Atom l x.0) (sym same) (subst (λ (e : Tree). Atom h.left e) tree h.first), omega arith, omega arith)

    from : (front : List Lexeme) (x : Part Tree) → Within cost weight Atom ops parens front x → Seq Atom (λ e. Nothing (part e ops parens)) front x
    from front x h =
        let free = atom_free front x.0 h.0 in
        let ops_left : x.1 + cost x.0 ≡ ops = h.1 in
        let parens_left : x.2 + opens weight front ≡ parens = h.2 in
        let none_cost : cost x.0 ≡ 0 = free.0 in
        let none_open : opens weight front ≡ 0 = free.1 in
        record { value = x.0; left = front; right = []; whole = sym (append-nil front); first = h.0; second = (refl, part_is x.0 ops parens x refl (omega arith) (omega arith)) }

-- how an atom begins, by a test that knows its ways
atom_first : (g : Lexeme → Bool) (b : Bool) → ((t : Lexeme) (v : Value) → unsigned_of t ≡ Some v → g t ≡ b) → ((t : Lexeme) (w : List ℕ) → name_of t ≡ Some w → g t ≡ b)
    → (ts us : List Lexeme) (e : Tree) → Atom ts e → starts g (ts ++ us) ≡ b
atom_first g b literals names ts us e (inl h) = begins_one g unsigned_of b _ literals ts us e h
atom_first g b literals names ts us e (inr h) = begins_one g name_of b _ names ts us e h

atom_long : (ts : List Lexeme) (e : Tree) → Atom ts e → 0 < length ts
atom_long ts e (inl h) = omega (arith, ap length h.whole, length-append h.left h.right, ap length h.first.1)
atom_long ts e (inr h) = omega (arith, ap length h.whole, length-append h.left h.right, ap length h.first.1)

open_weight : (t : Lexeme) (u : Unit {0}) → open_of t ≡ Some u → weight t ≡ 1
open_weight t u h = ap weight (sign_is (codes "(") t u h) ∙ refl

close_weight : (t : Lexeme) (u : Unit {0}) → close_of t ≡ Some u → weight t ≡ 0
close_weight t u h = ap weight (sign_is (codes ")") t u h) ∙ refl

minus_weight : (t : Lexeme) (u : Unit {0}) → minus_of t ≡ Some u → weight t ≡ 0
minus_weight t u h = ap weight (sign_is (codes "-") t u h) ∙ refl

not_weight : (t : Lexeme) (u : Unit {0}) → not_of t ≡ Some u → weight t ≡ 0
not_weight t u h = ap weight (keyword_is (codes "not") t u h) ∙ refl

negative_weight : (t : Lexeme) (v : Value) → negative_of t ≡ Some v → weight t ≡ 0
negative_weight = by_negative weight 0 (λ n. refl)

-- how a primary begins
primary_first : (E : Spelling) (g : Lexeme → Bool) (b : Bool) → g (symbol (codes "(")) ≡ b → ((t : Lexeme) (v : Value) → unsigned_of t ≡ Some v → g t ≡ b) → ((t : Lexeme) (w : List ℕ) → name_of t ≡ Some w → g t ≡ b)
    → (ts us : List Lexeme) (e : Tree) → PrimaryRule E ts e → starts g (ts ++ us) ≡ b
primary_first E g b opened literals names ts us e (inl a) = atom_first g b literals names ts us e a
primary_first E g b opened literals names ts us e (inr p) = begins_one g open_of b _ (by_sign g b (codes "(") opened) ts us e p

primary_long : (E : Spelling) (ts : List Lexeme) (e : Tree) → PrimaryRule E ts e → 0 < length ts
primary_long E ts e (inl a) = atom_long ts e a
primary_long E ts e (inr h) = omega (arith, ap length h.whole, length-append h.left h.right, ap length h.first.1)

-- ---- the levels above a primary

-- the tokens that may continue a product, a sum, a comparison, a conjunction
abbrev product_goes : Lexeme → Bool
product_goes = or (is product_of) none

abbrev sum_goes : Lexeme → Bool
sum_goes = or (is sum_of) product_goes

abbrev comp_goes : Lexeme → Bool
comp_goes = or (is compare_of) (or (is is_of) sum_goes)

abbrev conj_goes : Lexeme → Bool
conj_goes = or (is and_of) comp_goes

module _ (P : Spelling) (prim : Item Lexeme Tree) (prims : (ops parens : ℕ) → Reads none (Within cost weight P ops parens) (prim ops parens))
    (no_minus : (ts us : List Lexeme) (e : Tree) → P ts e → starts (is minus_of) (ts ++ us) ≡ false)
    (no_not : (ts us : List Lexeme) (e : Tree) → P ts e → starts (is not_of) (ts ++ us) ≡ false)
    (long : (ts : List Lexeme) (e : Tree) → P ts e → 0 < length ts) where
  signed-reads : (ops parens : ℕ) → Reads none (Within cost weight (UnaryRule P) ops parens) (unary_item prim ops parens)
  unfolding unary_item
  signed-reads = unary-reads (UnaryTerm Negate) (λ v. LiteralTerm v) cost weight (λ a. refl) (λ v. refl) minus_of (symbol (codes "-")) tt refl minus_weight
      negative_of (number 0) (Int (neg_ℤ (pos 0))) refl negative_weight none P prim prims no_minus long

  unary_no_not : (ts us : List Lexeme) (e : Tree) → UnaryRule P ts e → starts (is not_of) (ts ++ us) ≡ false
  unary_no_not ts us e h = by h.minuses h.spelled
    where
      by : (k : ℕ) → Minuses (UnaryTerm Negate) (λ v. LiteralTerm v) minus_of negative_of P k ts e → starts (is not_of) (ts ++ us) ≡ false
      by zero (inl s) = begins_one (is not_of) minus_of false _ (by_sign (is not_of) false (codes "-") refl) ts us e s
      by zero (inr p) = no_not ts us e p
      by (suc k) n = ap (λ (l : List Lexeme). starts (is not_of) (l ++ us)) n.5 ∙ by_sign (is not_of) false (codes "-") refl n.0 n.1 n.4

  product-reads : (ops parens : ℕ) → Reads product_goes (Within cost weight (ProductRule (UnaryRule P)) ops parens) (product_item prim ops parens)
  unfolding product_item
  product-reads = chain-reads Binary cost weight (λ o a b. refl) none product_of (UnaryRule P) (unary_item prim) signed-reads (symbol (codes "*")) Multiply refl (λ t o h. refl)
      (by_product weight 0 (refl, (refl, (refl, tt))))

  product_no_not : (ts us : List Lexeme) (e : Tree) → ProductRule (UnaryRule P) ts e → starts (is not_of) (ts ++ us) ≡ false
  product_no_not = chain_first Binary cost weight (λ o a b. refl) none product_of (UnaryRule P) (unary_item prim) signed-reads (symbol (codes "*")) Multiply refl (λ t o h. refl)
      (by_product weight 0 (refl, (refl, (refl, tt)))) (is not_of) false unary_no_not

  sum-reads : (ops parens : ℕ) → Reads sum_goes (Within cost weight (SumRule (ProductRule (UnaryRule P))) ops parens) (sum_item prim ops parens)
  unfolding sum_item
  sum-reads = chain-reads Binary cost weight (λ o a b. refl) product_goes sum_of (ProductRule (UnaryRule P)) (product_item prim) product-reads (symbol (codes "+")) Add refl
      (by_sum product_goes false (refl, (refl, (refl, tt)))) (by_sum weight 0 (refl, (refl, (refl, tt))))

  sum_no_not : (ts us : List Lexeme) (e : Tree) → SumRule (ProductRule (UnaryRule P)) ts e → starts (is not_of) (ts ++ us) ≡ false
  sum_no_not = chain_first Binary cost weight (λ o a b. refl) product_goes sum_of (ProductRule (UnaryRule P)) (product_item prim) product-reads (symbol (codes "+")) Add refl
      (by_sum product_goes false (refl, (refl, (refl, tt)))) (by_sum weight 0 (refl, (refl, (refl, tt)))) (is not_of) false product_no_not

  comparison-reads : (ops parens : ℕ) → Reads comp_goes (Within cost weight (CompRule (SumRule (ProductRule (UnaryRule P)))) ops parens) (comp_item prim ops parens)
  unfolding comp_item
  comparison-reads = comp-reads sum_goes (SumRule (ProductRule (UnaryRule P))) (sum_item prim) sum-reads
      (by_compare sum_goes false (refl, (refl, (refl, (refl, (refl, (refl, tt))))))) (by_keyword sum_goes false (codes "is") refl)

  comparison_no_not : (ts us : List Lexeme) (e : Tree) → CompRule (SumRule (ProductRule (UnaryRule P))) ts e → starts (is not_of) (ts ++ us) ≡ false
  comparison_no_not ts us e h = begins_first (is not_of) false (SumRule (ProductRule (UnaryRule P))) _ (λ front us a s. sum_no_not front us a s) ts us e h

  neg-reads : (ops parens : ℕ) → Reads comp_goes (Within cost weight (NegRule (CompRule (SumRule (ProductRule (UnaryRule P))))) ops parens) (neg_item prim ops parens)
  unfolding neg_item
  neg-reads = prefix-reads (UnaryTerm Not) cost weight (λ a. refl) not_of (word (codes "not")) tt refl not_weight comp_goes (CompRule (SumRule (ProductRule (UnaryRule P)))) (comp_item prim) comparison-reads comparison_no_not

  conj-reads : (ops parens : ℕ) → Reads conj_goes (Within cost weight (ConjRule (NegRule (CompRule (SumRule (ProductRule (UnaryRule P)))))) ops parens) (conj_item prim ops parens)
  unfolding conj_item
  conj-reads = chain-reads Binary cost weight (λ o a b. refl) comp_goes and_of (NegRule (CompRule (SumRule (ProductRule (UnaryRule P))))) (neg_item prim) neg-reads (word (codes "and")) And refl
      (by_and comp_goes false refl) (by_and weight 0 refl)

  levels-reads : (ops parens : ℕ) → Reads expression_goes (Within cost weight (Levels P) ops parens) (expr_item prim ops parens)
  unfolding expr_item
  levels-reads = chain-reads Binary cost weight (λ o a b. refl) conj_goes or_of (ConjRule (NegRule (CompRule (SumRule (ProductRule (UnaryRule P)))))) (conj_item prim) conj-reads (word (codes "or")) Or refl
      (by_or conj_goes false refl) (by_or weight 0 refl)

-- ---- a primary, and parentheses that nest

in_first : (depth : ℕ) (g : Lexeme → Bool) (b : Bool) → g (symbol (codes "(")) ≡ b → ((t : Lexeme) (v : Value) → unsigned_of t ≡ Some v → g t ≡ b) → ((t : Lexeme) (w : List ℕ) → name_of t ≡ Some w → g t ≡ b)
    → (ts us : List Lexeme) (e : Tree) → PrimaryIn depth ts e → starts g (ts ++ us) ≡ b
in_first zero g b opened literals names ts us e h = atom_first g b literals names ts us e h
in_first (suc depth) g b opened literals names ts us e h = primary_first (Levels (PrimaryIn depth)) g b opened literals names ts us e h

in_no_minus : (depth : ℕ) (ts us : List Lexeme) (e : Tree) → PrimaryIn depth ts e → starts (is minus_of) (ts ++ us) ≡ false
in_no_minus depth = in_first depth (is minus_of) false refl (by_unsigned (is minus_of) false refl (λ n. refl) (λ b. refl) (λ n. refl)) (λ t w h. name_test (is minus_of) t w h refl)

not_reserved : is_name (codes "not") ≡ false
unfolding is_name is_reserved
not_reserved = refl

in_no_not : (depth : ℕ) (ts us : List Lexeme) (e : Tree) → PrimaryIn depth ts e → starts (is not_of) (ts ++ us) ≡ false
in_no_not depth = in_first depth (is not_of) false refl (by_unsigned (is not_of) false refl (λ n. refl) (λ b. refl) (λ n. refl)) (λ t w h. name_not (codes "not") not_reserved t w h)

in_long : (depth : ℕ) (ts : List Lexeme) (e : Tree) → PrimaryIn depth ts e → 0 < length ts
in_long zero ts e h = atom_long ts e h
in_long (suc depth) ts e h = primary_long (Levels (PrimaryIn depth)) ts e h

atom_no_open : (ts us : List Lexeme) (e : Tree) → Atom ts e → starts (is open_of) (ts ++ us) ≡ false
atom_no_open = atom_first (is open_of) false (by_unsigned (is open_of) false refl (λ n. refl) (λ b. refl) (λ n. refl)) (λ t w h. name_test (is open_of) t w h refl)

primary-reads : (depth ops parens : ℕ) → Reads none (Within cost weight (PrimaryIn depth) ops parens) (primary_item depth ops parens)
unfolding primary_item
primary-reads zero = atom_item-reads
primary-reads (suc depth) = grouped-reads cost weight open_of (symbol (codes "(")) tt refl open_weight close_of (symbol (codes ")")) tt refl close_weight
    Atom atom_item atom_item-reads atom_no_open expression_goes (Levels (PrimaryIn depth)) (expr_item (primary_item depth))
    (levels-reads (PrimaryIn depth) (primary_item depth) (primary-reads depth) (in_no_minus depth) (in_no_not depth) (in_long depth))
    (by_sign expression_goes false (codes ")") refl)

-- ---- as many parentheses as open can nest, and no more

levels_bounded : (n : ℕ) (I J : Spelling) → ((ts : List Lexeme) (e : Tree) → I ts e → opens weight ts ≤ n → J ts e) → (ts : List Lexeme) (e : Tree) → Levels I ts e → opens weight ts ≤ n → Levels J ts e
levels_bounded n I J f =
    chain_bounded weight n _ _ (chain_bounded weight n _ _ (prefix_bounded weight n _ _ (comp_bounded n _ _ (chain_bounded weight n _ _ (chain_bounded weight n _ _
    (unary_bounded weight n I J f (UnaryTerm Negate) (λ v. LiteralTerm v) minus_of negative_of) Binary product_of) Binary sum_of)) (UnaryTerm Not) not_of) Binary and_of) Binary or_of

primary_bounded : (depth n : ℕ) (ts : List Lexeme) (e : Tree) → PrimaryIn depth ts e → opens weight ts ≤ n → PrimaryIn n ts e
primary_bounded zero zero ts e h few = h
primary_bounded zero (suc n) ts e h few = inl h
primary_bounded (suc depth) zero ts e (inl a) few = a
primary_bounded (suc depth) zero ts e (inr g) few =
    absurd (omega (arith, halves ts g.left g.right g.whole, ap (opens weight) g.first.1, open_weight g.first.0 g.value g.first.2))
primary_bounded (suc depth) (suc n) ts e h few =
    grouped_bounded weight n (Levels (PrimaryIn depth)) (Levels (PrimaryIn n)) (levels_bounded n (PrimaryIn depth) (PrimaryIn n) (primary_bounded depth n)) open_of open_weight close_of Atom ts e h few

-- ---- an expression within its limits

expr_to : (l p : ℕ) (front : List Lexeme) (e : Tree) → Seq (Within cost weight (Levels (PrimaryIn p)) l p) (λ x. Nothing x.0) front e → IsExpr l p front e
expr_to l p front e h =
    let w = h.first in
    let spent : h.value.1 + cost h.value.0 ≡ l = w.1 in
    let left : h.value.2 + opens weight h.left ≡ p = w.2 in
    let all : front ≡ h.left = h.whole ∙ ap (λ (r : List Lexeme). h.left ++ r) h.second.0 ∙ append-nil h.left in
    record {
      depth = p;
      spelled = subst (λ (r : List Lexeme). Levels (PrimaryIn p) r e) (sym all) (subst (λ (t : Tree). Levels (PrimaryIn p) h.left t) h.second.1 w.0);
      few = omega (arith, ap cost h.second.1);
      open' = omega (arith, ap (opens weight) all);
    }

expr_from : (l p : ℕ) (front : List Lexeme) (e : Tree) → IsExpr l p front e → Seq (Within cost weight (Levels (PrimaryIn p)) l p) (λ x. Nothing x.0) front e
expr_from l p front e h = record {
  value = part e (l - cost e) (p - opens weight front);
  left = front;
  right = [];
  whole = sym (append-nil front);
  first = (levels_bounded p (PrimaryIn h.depth) (PrimaryIn p) (primary_bounded h.depth p) front e h.spelled h.open', omega (arith, h.few), omega (arith, h.open'));
  second = (refl, refl);
}

abbrev expr_within : ℕ → ℕ → List Lexeme → Read Lexeme Tree
expr_within l p = and_then (expr_item (primary_item p) l p) λ x. done x.0

expr-reads : (l p : ℕ) → Reads expression_goes (IsExpr l p) (expr_within l p)
expr-reads l p = respell expression_goes expression_goes _ _ _
    (made-reads expression_goes (Within cost weight (Levels (PrimaryIn p)) l p) (expr_item (primary_item p) l p) (λ x. x.0)
    (levels-reads (PrimaryIn p) (primary_item p) (primary-reads p) (in_no_minus p) (in_no_not p) (in_long p) l p))
    (expr_to l p) (expr_from l p) (λ t h. h)

pub expression-reads : Reads expression_goes Expression expression_at
expression-reads = expr-reads most_operators most_parentheses

-- ---- an expression of one token

lone : (op : Lexeme → Option BinaryOp) (I : Spelling) (ts : List Lexeme) (e : Tree) → I ts e → Chain Binary op I ts e
lone op I ts e h = record { first = e; further = 0; left = ts; right = []; whole = sym (append-nil ts); item = h; rest = (refl, refl) }
