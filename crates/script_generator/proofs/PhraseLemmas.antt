-- Some tokens spell a value: put together token by token.
use Rattle.std.proofs.Common.{◌≡◌, ℕ, List, [], ◌∷◌, ◌++◌, refl, ap, inl, inr, append-nil, sym, true, arith}
use Rattle.std.specs.Prelude.{Option, Some, None, Bool, cond, codes}
use Rattle.par_base.specs.Names.{is_name}
use Rattle.par_base.specs.declared.value.Value.{Value}
use Rattle.expr_lang.specs.Terms.{Literal, Column, Binary}
use Rattle.expr_lang.specs.declared.tree.BinaryOp.TheVariants.{Equal}
use Rattle.phrases.specs.Phrases.{Nothing, Seq, OneOf, Either, Many, Behind, Optional, Separated, Enclosed}
use Rattle.phrases.specs.Chains.{Chain}
use Rattle.bidel_expr.specs.Lexemes.{Lexeme, word, symbol, keyword, sign, name_of, unsigned_of}
use Rattle.bidel_expr.specs.Literals.{comma_of, open_of, close_of}
use Rattle.bidel_expr.specs.Operators.{or_of, and_of, sum_of, product_of}
use Rattle.bidel_expr.specs.Expressions.{Tree, Spelling, weight, Levels, ConjRule, NegRule, CompRule, SumRule, ProductRule, UnaryRule, Atom, Expression}
use Rattle.script_generator.specs.Generated.{column_is}

-- some tokens spell the value
pub record Spelled {A : Type 0} (S : List Lexeme → A → Type 0) (a : A) : Type 0 where
  pub tokens : List Lexeme
  pub spelled : S tokens a

-- no tokens
pub done : {A : Type 0} (a : A) → Spelled (Nothing a) a
done a = record { tokens = []; spelled = (refl, refl) }

-- a token, and what follows it
pub token : {A B : Type 0} (f : Lexeme → Option A) (T : A → List Lexeme → B → Type 0) (t : Lexeme) (a : A) (b : B) → f t ≡ Some a → Spelled (T a) b → Spelled (Seq (OneOf f) T) b
token f T t a b is h = record {
  tokens = t ∷ h.tokens;
  spelled = record { value = a; left = t ∷ []; right = h.tokens; whole = refl; first = (t, refl, is); second = h.spelled };
}

-- a token alone
pub lone : {A : Type 0} (f : Lexeme → Option A) (t : Lexeme) (a : A) → f t ≡ Some a → Spelled (OneOf f) a
lone f t a is = record { tokens = t ∷ []; spelled = (t, refl, is) }

-- a phrase, and what follows it
pub part : {A B : Type 0} (S : List Lexeme → A → Type 0) (T : A → List Lexeme → B → Type 0) (a : A) (b : B) → Spelled S a → Spelled (T a) b → Spelled (Seq S T) b
part S T a b h k = record {
  tokens = h.tokens ++ k.tokens;
  spelled = record { value = a; left = h.tokens; right = k.tokens; whole = refl; first = h.spelled; second = k.spelled };
}

-- one phrase or the other
pub left_one : {A : Type 0} (S T : List Lexeme → A → Type 0) (a : A) → Spelled S a → Spelled (Either S T) a
left_one S T a h = record { tokens = h.tokens; spelled = inl h.spelled }

pub right_one : {A : Type 0} (S T : List Lexeme → A → Type 0) (a : A) → Spelled T a → Spelled (Either S T) a
right_one S T a h = record { tokens = h.tokens; spelled = inr h.spelled }

-- a phrase that may be left out
pub given : {A : Type 0} (S : List Lexeme → A → Type 0) (a : A) → Spelled S a → Spelled (Optional S) (Some a)
given S a h = left_one _ _ (Some a) (part S (λ a. Nothing (Some a)) a (Some a) h (done (Some a)))

pub left_out : {A : Type 0} (S : List Lexeme → A → Type 0) → Spelled (Optional S) None
left_out S = right_one _ _ None (done None)

-- any number of phrases
pub no_more : {A : Type 0} (S : List Lexeme → A → Type 0) → Spelled (Many S) []
no_more S = record { tokens = []; spelled = refl }

pub one_more : {A : Type 0} (S : List Lexeme → A → Type 0) (a : A) (as' : List A) → Spelled S a → Spelled (Many S) as' → Spelled (Many S) (a ∷ as')
one_more S a as' h k = record { tokens = h.tokens ++ k.tokens; spelled = (h.tokens, k.tokens, refl, h.spelled, k.spelled) }

-- a list with commas
pub separated : {X A : Type 0} (f : Lexeme → Option X) (S : List Lexeme → A → Type 0) (a : A) (as' : List A) → Spelled S a → Spelled (Many (Behind f S)) as' → Spelled (Separated f S) (a ∷ as')
separated f S a as' h k = part S _ a _ h (part (Many (Behind f S)) _ as' _ k (done (a ∷ as')))

-- ---- expressions

module _ {Op : Type 0} (join : Op → Tree → Tree → Tree) (op : Lexeme → Option Op) (I : Spelling) where
  -- an operand without operators
  single : (ts : List Lexeme) (e : Tree) → I ts e → Chain join op I ts e
  single ts e h = record { first = e; further = 0; left = ts; right = []; whole = sym (append-nil ts); item = h; rest = (refl, refl) }

-- the operand of a comparison
sum_alone : (ts : List Lexeme) (e : Tree) → Atom ts e → SumRule (ProductRule (UnaryRule Atom)) ts e
sum_alone ts e h = single Binary sum_of (ProductRule (UnaryRule Atom)) ts e (single Binary product_of (UnaryRule Atom) ts e (record { minuses = 0; spelled = inr h }))

-- a comparison without further operators
levels_alone : (ts : List Lexeme) (e : Tree) → CompRule (SumRule (ProductRule (UnaryRule Atom))) ts e → Levels Atom ts e
levels_alone ts e h =
    let S : Spelling = SumRule (ProductRule (UnaryRule Atom)) in
    single Binary or_of (ConjRule (NegRule (CompRule S))) ts e (single Binary and_of (NegRule (CompRule S)) ts e (record { count = 0; spelled = h }))

-- a literal and a name
literal_atom : (t : Lexeme) (v : Value) → unsigned_of t ≡ Some v → Atom (t ∷ []) (Literal v)
literal_atom t v is = inl (record { value = v; left = t ∷ []; right = []; whole = refl; first = (t, refl, is); second = (refl, refl) })

name_atom : (t : Lexeme) (name : List ℕ) → name_of t ≡ Some name → Atom (t ∷ []) (Column name)
name_atom t name is = inr (record { value = name; left = t ∷ []; right = []; whole = refl; first = (t, refl, is); second = (refl, refl) })

-- a literal alone
pub literal_alone : (t : Lexeme) (v : Value) → unsigned_of t ≡ Some v → weight t ≡ 0 → Spelled Expression (Literal v)
literal_alone t v is plain = record {
  tokens = t ∷ [];
  spelled = record {
    depth = 0;
    spelled = levels_alone (t ∷ []) (Literal v) (record {
      value = Literal v;
      left = t ∷ [];
      right = [];
      whole = refl;
      first = sum_alone (t ∷ []) (Literal v) (literal_atom t v is);
      second = inr (inr (refl, refl));
    });
    few = omega arith;
    open' = omega (arith, plain);
  };
}

-- a column and a literal with `=` between them
pub comparison : (column : List ℕ) (t : Lexeme) (v : Value) → name_of (word column) ≡ Some column → unsigned_of t ≡ Some v → weight t ≡ 0 → Spelled Expression (column_is column v)
comparison column t v is lit plain = record {
  tokens = word column ∷ symbol (codes "=") ∷ t ∷ [];
  spelled = record {
    depth = 0;
    spelled = levels_alone (word column ∷ symbol (codes "=") ∷ t ∷ []) (column_is column v) (record {
      value = Column column;
      left = word column ∷ [];
      right = symbol (codes "=") ∷ t ∷ [];
      whole = refl;
      first = sum_alone (word column ∷ []) (Column column) (name_atom (word column) column is);
      second = inl (record {
        value = Equal;
        left = symbol (codes "=") ∷ [];
        right = t ∷ [];
        whole = refl;
        first = (symbol (codes "="), refl, refl);
        second = record {
          value = Literal v;
          left = t ∷ [];
          right = [];
          whole = refl;
          first = sum_alone (t ∷ []) (Literal v) (literal_atom t v lit);
          second = (refl, refl);
        };
      });
    });
    few = omega arith;
    open' = omega (arith, plain);
  };
}

-- ---- names, signs and lists

-- a name that comes next
pub name_said : (w : List ℕ) → is_name w ≡ true → name_of (word w) ≡ Some w
name_said w is = ap (λ (b : Bool). cond b (Some w) None) is

pub lone_name : (w : List ℕ) → is_name w ≡ true → Spelled (OneOf name_of) w
lone_name w is = lone name_of (word w) w (name_said w is)

pub name_then : {B : Type 0} (T : List ℕ → List Lexeme → B → Type 0) (w : List ℕ) (b : B) → is_name w ≡ true → Spelled (T w) b → Spelled (Seq (OneOf name_of) T) b
name_then T w b is h = token name_of T (word w) w b (name_said w is) h

-- a reserved word that comes next
pub word_then : {B : Type 0} (w : List ℕ) (T : List Lexeme → B → Type 0) (b : B) → keyword w (word w) ≡ Some tt → Spelled T b → Spelled (Seq (OneOf (keyword w)) λ _. T) b
word_then w T b is h = token (keyword w) (λ _. T) (word w) tt b is h

-- a sign that comes next
pub sign_then : {B : Type 0} (s : List ℕ) (T : List Lexeme → B → Type 0) (b : B) → sign s (symbol s) ≡ Some tt → Spelled T b → Spelled (Seq (OneOf (sign s)) λ _. T) b
sign_then s T b is h = token (sign s) (λ _. T) (symbol s) tt b is h

-- a further item of a list with commas
pub another : {A : Type 0} (S : List Lexeme → A → Type 0) (a : A) (as' : List A) → Spelled S a → Spelled (Many (Behind comma_of S)) as' → Spelled (Many (Behind comma_of S)) (a ∷ as')
another S a as' h k = one_more (Behind comma_of S) a as' (sign_then (codes ",") S a refl h) k

-- a list in parentheses
pub enclosed : {A : Type 0} (S : List Lexeme → A → Type 0) (a : A) (as' : List A) → Spelled S a → Spelled (Many (Behind comma_of S)) as' → Spelled (Enclosed open_of comma_of close_of S) (a ∷ as')
enclosed S a as' h k =
    sign_then (codes "(") _ (a ∷ as') refl (part (Either (Separated comma_of S) (Nothing [])) _ (a ∷ as') (a ∷ as')
    (left_one (Separated comma_of S) (Nothing []) (a ∷ as') (separated comma_of S a as' h k))
    (sign_then (codes ")") (Nothing (a ∷ as')) (a ∷ as') refl (done (a ∷ as'))))
