-- What the grammar spells has names that are names and literals that can be written.
use Rattle.std.proofs.Common.{◌≡◌, ◌∷◌, [], ℕ, zero, suc, ◌-◌, ◌^◌, ◌≤◌, List, true, nat_le, subst, arith}
use Rattle.std.specs.Prelude.{Option, Some, codes, bytes_eq, pos, neg_ℤ}
use Rattle.std.specs.List.{All}
use Rattle.std.specs.Str.{is_utf8}
use Rattle.std.proofs.lemmas.Str.{IsUtf8-from_is_utf8}
use Rattle.std.proofs.lemmas.Bool.{leb-true}
use Rattle.std.proofs.lemmas.List.Elements.{All-nil, All-cons}
use Rattle.par_base.specs.Names.{is_name}
use Rattle.par_base.specs.declared.value.Value.{Value}
use Rattle.par_base.specs.declared.value.Value.TheVariants.{Null, Int, Text, Reference}
use Rattle.expr_lang.specs.Terms.{Literal, Column, Unary, Binary}
use Rattle.expr_lang.specs.declared.tree.UnaryOp.TheVariants.{Not, Negate}
use Rattle.expr_lang.specs.declared.tree.BinaryOp.{BinaryOp}
use Rattle.phrases.specs.Phrases.{OneOf}
use Rattle.phrases.specs.Chains.{Chain}
use Rattle.phrases.proofs.CarriesLaws.{Carries, nothing-carries, one-carries, either-carries, behind-carries, then-carries, made-carries, chain-carries, prefix-carries, unary-carries, grouped-carries, enclosed-carries}
use Rattle.bidel_expr.specs.Lexemes.{Lexeme, word, number, reference, «text», symbol, name_of, negative_of, unsigned_of}
use Rattle.bidel_expr.specs.Literals.{open_of, close_of, minus_of, comma_of, Names}
use Rattle.bidel_expr.specs.Operators.{not_of, product_of, sum_of, and_of, or_of}
use Rattle.bidel_expr.specs.Expressions.{Tree, Spelling, Atom, PrimaryIn, UnaryRule, CompTail, CompRule, NegRule, Levels, Expression}
use Rattle.bidel_expr.proofs.WordLaws.{when_some, name_is}
use Rattle.bidel_text.proofs.Tokens.{IsWritable}

-- nothing is asked of tokens
abbrev pub Any : Lexeme → Type 0
Any t = Unit {0}

pub any_all : (ts : List Lexeme) → All Any ts
any_all [] = All-nil Any
any_all (t ∷ ts) = All-cons Any t ts tt (any_all ts)

-- an expression with such names and literals
abbrev pub AreWritable : Tree → Type 0
AreWritable (Literal v) = IsWritable v
AreWritable (Column name) = is_name name ≡ true
AreWritable (Unary op a) = AreWritable a
AreWritable (Binary op a b) = AreWritable a × AreWritable b

pub unsigned_writable : (t : Lexeme) (v : Value) → unsigned_of t ≡ Some v → IsWritable v
unsigned_writable (word w) v h = subst IsWritable (when_some (bytes_eq (codes "null") w) Null v h).1 tt
unsigned_writable (number n) v h = let p = when_some (nat_le n (2 ^ 63 - 1)) (Int (pos n)) v h in subst IsWritable p.1 (leb-true n (2 ^ 63 - 1) p.0)
unsigned_writable («text» b) v h = let p = when_some (is_utf8 b) (Text b) v h in subst IsWritable p.1 (IsUtf8-from_is_utf8 b p.0)
unsigned_writable (reference n) v h = let p = when_some (nat_le n (2 ^ 64 - 1)) (Reference n) v h in subst IsWritable p.1 (leb-true n (2 ^ 64 - 1) p.0)
unsigned_writable (symbol s) v h = cc

small_negative : (n : ℕ) → n ≤ 2 ^ 63 → IsWritable (Int (neg_ℤ (pos n)))
small_negative zero h = omega arith
small_negative (suc n) h = omega (arith, h)

pub negative_writable : (t : Lexeme) (v : Value) → negative_of t ≡ Some v → IsWritable v
negative_writable (number n) v h = let p = when_some (nat_le n (2 ^ 63)) (Int (neg_ℤ (pos n))) v h in subst IsWritable p.1 (small_negative n (leb-true n (2 ^ 63) p.0))
negative_writable (word w) v h = cc
negative_writable («text» b) v h = cc
negative_writable (reference n) v h = cc
negative_writable (symbol s) v h = cc

pub is_a_name : (t : Lexeme) (w : List ℕ) → name_of t ≡ Some w → is_name w ≡ true
is_a_name t w h = (name_is t w h).1

abbrev pub Holds : {A : Type 0} → (A → Type 0) → (List Lexeme → A → Type 0) → Type 0
Holds F S = Carries Any F S

pub name-holds : Holds (λ w. is_name w ≡ true) (OneOf name_of)
name-holds = one-carries name_of (λ t w h _. is_a_name t w h)

pub names-hold : Holds (All λ w. is_name w ≡ true) Names
names-hold = enclosed-carries open_of comma_of close_of name-holds

unsigned-holds : Holds IsWritable (OneOf unsigned_of)
unsigned-holds = one-carries unsigned_of (λ t v h _. unsigned_writable t v h)

atom-holds : Holds AreWritable Atom
atom-holds = either-carries (made-carries (λ v. Literal v) unsigned-holds (λ v p. p)) (made-carries (λ name. Column name) name-holds (λ w p. p))

module _ (S : Spelling) (r : Holds AreWritable S) where
  binary-holds : (op : Lexeme → Option BinaryOp) → Holds AreWritable (Chain Binary op S)
  binary-holds op = chain-carries Binary op (λ o a b p q. (p, q)) r

  unary-holds : Holds AreWritable (UnaryRule S)
  unary-holds = unary-carries (Unary Negate) minus_of (λ a p. p) Literal negative_of (λ t v h _. negative_writable t v h) r

  tail-holds : (a : Tree) → AreWritable a → Holds AreWritable (CompTail S a)
  tail-holds a p = either-carries
      (behind-carries (λ op. made-carries (λ b. Binary op a b) r (λ b q. (p, q))))
      (either-carries (behind-carries (λ _. behind-carries (λ op. nothing-carries (Unary op a) p))) (nothing-carries a p))

  comp-holds : Holds AreWritable (CompRule S)
  comp-holds = then-carries r tail-holds

  neg-holds : Holds AreWritable (NegRule S)
  neg-holds = prefix-carries (Unary Not) not_of (λ a p. p) r

levels-hold : (S : Spelling) → Holds AreWritable S → Holds AreWritable (Levels S)
levels-hold S r = binary-holds _ (binary-holds _ (neg-holds _ (comp-holds _ (binary-holds _ (binary-holds _ (unary-holds S r) product_of) sum_of))) and_of) or_of

primary-holds : (depth : ℕ) → Holds AreWritable (PrimaryIn depth)
primary-holds zero = atom-holds
primary-holds (suc depth) = grouped-carries open_of close_of atom-holds (levels-hold (PrimaryIn depth) (primary-holds depth))

-- an expression that the grammar spells can be written, and has few operators
pub writable : (ts : List Lexeme) (e : Tree) → Expression ts e → AreWritable e
writable ts e h = (levels-hold (PrimaryIn h.depth) (primary-holds h.depth)).holds ts e h.spelled (any_all ts)
