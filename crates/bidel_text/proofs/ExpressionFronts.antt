-- The canonical text of an expression spells it.
use Rattle.std.proofs.Common.{◌≡◌, ◌++◌, ◌∷◌, [], ℕ, suc, ◌≤◌, List, true, false, refl, ap, ◌∙◌, subst, append-nil, inl, inr, arith}
use Rattle.std.specs.Prelude.{Option, Some, ◌==◌, ◌||◌, codes, decimal, pos, negsuc}
use Rattle.std.specs.Str.Parse.{IsNumeral}
use Rattle.std.proofs.lemmas.Bool.{and_parts}
use Rattle.std.proofs.lemmas.Bool.Decides.{nat_tests}
use Rattle.std.proofs.lemmas.Str.Parse.{digit_from_value}
use Rattle.std.proofs.lemmas.Fmt.{decimal_is_IsNumeral}
use Rattle.par_base.specs.Names.{is_name, is_name_byte}
use Rattle.par_base.specs.declared.value.Value.{Value}
use Rattle.par_base.specs.declared.value.Value.TheVariants.{Null, Int, Text, Reference}
use Rattle.par_base.specs.Literals.{literal_of}
use Rattle.expr_lang.specs.Terms.{Literal, Column, Unary, Binary}
use Rattle.expr_lang.specs.declared.tree.UnaryOp.{UnaryOp}
use Rattle.expr_lang.specs.declared.tree.UnaryOp.TheVariants.{Not, Negate, IsNull, IsNotNull}
use Rattle.expr_lang.specs.declared.tree.BinaryOp.{BinaryOp}
use Rattle.expr_lang.specs.declared.tree.BinaryOp.TheVariants.{Or, And, Equal, NotEqual, Less, LessOrEqual, Greater, GreaterOrEqual, Add, Subtract, Concat, Multiply, Divide, Remainder}
use Rattle.bidel_lex.specs.declared.tokens.TokenKind.{TokenKind}
use Rattle.bidel_lex.specs.declared.tokens.TokenKind.TheVariants as kind
use Rattle.bidel_lex.specs.Spelled.{CanFollow, Spells}
use Rattle.phrases.specs.Phrases.{Nothing, Seq, OneOf}
use Rattle.phrases.specs.Reading.{starts, is}
use Rattle.phrases.specs.Chains.{opens}
use Rattle.phrases.proofs.ChainsLaws.{opens-append}
use Rattle.bidel_expr.specs.Lexemes.{Lexeme, word, number, reference, «text», symbol, lexeme_of, name_of, unsigned_of, negative_of}
use Rattle.bidel_expr.specs.Literals.{minus_of, null_of, close_of}
use Rattle.bidel_expr.specs.Operators.{or_of, and_of, not_of, is_of, compare_of, sum_of, product_of}
use Rattle.bidel_expr.specs.Expressions.{Tree, cost, weight, Atom, NullTest, Expression, most_operators}
use Rattle.bidel_expr.proofs.WordLaws.{when_some, name_is, by_unsigned, by_negative, keyword_is, sign_is}
use Rattle.bidel_text.specs.ExpressionText.{operator_sign, expression_text, grouped, is_operation, is_integer, is_integer_literal}
use Rattle.bidel_text.proofs.Written.{Front, ends}
use Rattle.bidel_text.proofs.Tokens.{IsWritable, one_token, is_negative, negative_said, number_spelled, number_follows, then_token, nothing_front, spaced, word_spelled, name_spelled, name_said, word_follows, name_parts}
use Rattle.bidel_text.proofs.Fronts.{respelled, then_front, then_word, then_sign}
use Rattle.bidel_text.proofs.Writable.{AreWritable}
use Rattle.bidel_text.proofs.Shapes.{Whole, Operand, Negated, SignedNumber, Two, Held, whole_or, whole_and, whole_compare, whole_sum, whole_product, whole_not, whole_negate, whole_test, whole_atom, operand_atom, negated_atom, operand_held, negated_held}

-- ---- one token alone

module _ {X A : Type 0} (f : Lexeme → Option X) (x : X) (make : X → A) (k : TokenKind) (w : List ℕ) (spells : Spells k w) (says : f (lexeme_of k w) ≡ Some x) where
  pub alone : ((rest : List ℕ) → ends rest ≡ true → CanFollow k w true rest) → Front (Seq (OneOf f) λ x. Nothing (make x)) w (make x)
  alone follows = subst (λ (l : List ℕ). Front (Seq (OneOf f) λ x. Nothing (make x)) l (make x)) (append-nil w)
      (then_token f x k w spells says (λ x. Nothing (make x)) [] (make x) follows (nothing_front (make x)))

-- ---- literals and names

atom_none : (ts : List Lexeme) (e : Tree) → Atom ts e → opens weight ts ≡ 0
atom_none ts e (inl h) =
    omega (arith, ap (opens weight) h.whole ∙ opens-append weight h.left h.right, ap (opens weight) h.first.1, by_unsigned weight 0 refl (λ n. refl) (λ b. refl) (λ n. refl) h.first.0 h.value h.first.2, ap (opens weight) h.second.0)
atom_none ts e (inr h) =
    omega (arith, ap (opens weight) h.whole ∙ opens-append weight h.left h.right, ap (opens weight) (h.first.1 ∙ ap (λ (t : Lexeme). t ∷ []) (name_is h.first.0 h.value h.first.2).0), ap (opens weight) h.second.0)

signed_none : (ts : List Lexeme) (e : Tree) → SignedNumber ts e → opens weight ts ≡ 0
signed_none ts e h =
    let s = h.second in
    omega (
      arith,
      ap (opens weight) h.whole ∙ opens-append weight h.left h.right,
      ap (opens weight) (h.first.1 ∙ ap (λ (t : Lexeme). t ∷ []) (sign_is (codes "-") h.first.0 h.value h.first.2)),
      ap (opens weight) s.whole ∙ opens-append weight s.left s.right,
      ap (opens weight) s.first.1,
      by_negative weight 0 (λ n. refl) s.first.0 s.value s.first.2,
      ap (opens weight) s.second.0,
    )

-- only an integer is a number
unsigned_no_number : (t : Lexeme) (v : Value) → unsigned_of t ≡ Some v → is_integer v ≡ false → is negative_of t ≡ false
unsigned_no_number (word w) v h k = refl
unsigned_no_number (number n) v h k = let p = when_some _ (Int (pos n)) v h in let bad = ap is_integer p.1 ∙ k in cc
unsigned_no_number («text» b) v h k = refl
unsigned_no_number (reference n) v h k = refl
unsigned_no_number (symbol s) v h k = refl

atom_no_number : (ts : List Lexeme) (e : Tree) → Atom ts e → is_integer_literal e ≡ false → starts (is negative_of) ts ≡ false
atom_no_number ts e (inl h) k =
    ap (starts (is negative_of)) (h.whole ∙ ap (λ (l : List Lexeme). l ++ h.right) h.first.1) ∙ unsigned_no_number h.first.0 h.value h.first.2 (ap is_integer_literal h.second.1 ∙ k)
atom_no_number ts e (inr h) k =
    ap (starts (is negative_of)) (h.whole ∙ ap (λ (l : List Lexeme). l ++ h.right) (h.first.1 ∙ ap (λ (t : Lexeme). t ∷ []) (name_is h.first.0 h.value h.first.2).0))

-- a literal without a sign
plain_front : (v : Value) → IsWritable v → is_negative v ≡ false → Front Atom (literal_of v) (Literal v)
plain_front v w p =
    let t = one_token v w p in
    respelled _ Atom (literal_of v) (Literal v) (Literal v) (λ ts h. inl h) (alone unsigned_of v (λ v. Literal v) t.kind (literal_of v) t.spelled t.says t.follows)

-- a name
column_front : (name : List ℕ) → is_name name ≡ true → Front Atom name (Column name)
column_front name h = respelled _ Atom name (Column name) (Column name) (λ ts a. inr a) (alone name_of name (λ name. Column name) kind.Word name (name_spelled name h) (name_said name h) (word_follows name))

-- what is no minus may follow one
minus_follows : (b : ℕ) (rest : List ℕ) → b == 45 ≡ false → CanFollow kind.Symbol (45 ∷ []) true (b ∷ rest)
minus_follows b rest h = h

pub digits_follow : (ds rest : List ℕ) → IsNumeral 10 ds → CanFollow kind.Symbol (45 ∷ []) true (ds ++ rest)
digits_follow [] rest h = absurd (omega (arith, h.0))
digits_follow (d ∷ ds) rest h = let r = digit_from_value d h.1.0 in minus_follows d (ds ++ rest) (grind (arith, nat_tests))

negative_front : (n : ℕ) → IsWritable (Int (negsuc n)) → Front SignedNumber (literal_of (Int (negsuc n))) (Literal (Int (negsuc n)))
unfolding literal_of
negative_front n w = then_token minus_of tt kind.Symbol (45 ∷ []) refl refl (λ _. Seq (OneOf negative_of) λ v. Nothing (Literal v)) (decimal (suc n)) (Literal (Int (negsuc n)))
    (λ rest e. digits_follow (decimal (suc n)) rest (decimal_is_IsNumeral (suc n) (omega (arith, w))).0)
    (alone negative_of (Int (negsuc n)) (λ v. Literal v) kind.Number (decimal (suc n)) (number_spelled (suc n) (omega (arith, w))) (negative_said n w) (number_follows (decimal (suc n))))

-- ---- operands

literal_whole : (v : Value) → IsWritable v → Front Whole (literal_of v) (Literal v)
literal_whole (Int (negsuc n)) w = respelled _ Whole _ (Literal (Int (negsuc n))) _ (λ ts h. whole_atom ts _ (inl h) (signed_none ts _ h)) (negative_front n w)
literal_whole (Int (pos n)) w = respelled _ Whole _ (Literal (Int (pos n))) _ (λ ts h. whole_atom ts _ (inr h) (atom_none ts _ h)) (plain_front (Int (pos n)) w refl)
literal_whole Null w = respelled _ Whole _ (Literal Null) _ (λ ts h. whole_atom ts _ (inr h) (atom_none ts _ h)) (plain_front Null w refl)
literal_whole (Text b) w = respelled _ Whole _ (Literal (Text b)) _ (λ ts h. whole_atom ts _ (inr h) (atom_none ts _ h)) (plain_front (Text b) w refl)
literal_whole (Reference n) w = respelled _ Whole _ (Literal (Reference n)) _ (λ ts h. whole_atom ts _ (inr h) (atom_none ts _ h)) (plain_front (Reference n) w refl)

literal_operand : (v : Value) → IsWritable v → Front Operand (literal_of v) (Literal v)
literal_operand (Int (negsuc n)) w = respelled _ Operand _ (Literal (Int (negsuc n))) _ (λ ts h. operand_atom ts _ (inl h) (signed_none ts _ h)) (negative_front n w)
literal_operand (Int (pos n)) w = respelled _ Operand _ (Literal (Int (pos n))) _ (λ ts h. operand_atom ts _ (inr h) (atom_none ts _ h)) (plain_front (Int (pos n)) w refl)
literal_operand Null w = respelled _ Operand _ (Literal Null) _ (λ ts h. operand_atom ts _ (inr h) (atom_none ts _ h)) (plain_front Null w refl)
literal_operand (Text b) w = respelled _ Operand _ (Literal (Text b)) _ (λ ts h. operand_atom ts _ (inr h) (atom_none ts _ h)) (plain_front (Text b) w refl)
literal_operand (Reference n) w = respelled _ Operand _ (Literal (Reference n)) _ (λ ts h. operand_atom ts _ (inr h) (atom_none ts _ h)) (plain_front (Reference n) w refl)

held_front : (bytes : List ℕ) (e : Tree) → Front Whole bytes e → Front Held (40 ∷ (bytes ++ 41 ∷ [])) e
held_front bytes e f = then_sign (Seq Whole λ e. Seq (OneOf close_of) λ _. Nothing e) (bytes ++ 41 ∷ []) e 40 refl refl (λ b. refl)
    (then_front Whole (λ e. Seq (OneOf close_of) λ _. Nothing e) bytes (41 ∷ []) e e refl f (then_sign (Nothing e) [] e 41 refl refl (λ b. refl) (nothing_front e)))

operand_front : (e : Tree) → AreWritable e → Front Whole (expression_text e) e → Front Operand (grouped (is_operation e) (expression_text e)) e
unfolding expression_text
operand_front (Literal v) w f = literal_operand v w
operand_front (Column name) w f = respelled _ Operand name (Column name) _ (λ ts h. operand_atom ts _ (inr h) (atom_none ts _ h)) (column_front name w)
operand_front (Unary op a) w f = respelled Held Operand _ (Unary op a) _ (λ ts h. operand_held ts _ h) (held_front _ (Unary op a) f)
operand_front (Binary op a b) w f = respelled Held Operand _ (Binary op a b) _ (λ ts h. operand_held ts _ h) (held_front _ (Binary op a b) f)

-- an operand behind a prefix minus
record Minused (bytes : List ℕ) (e : Tree) : Type 0 where
  front : Front Negated bytes e
  follows : (rest : List ℕ) → CanFollow kind.Symbol (45 ∷ []) true (bytes ++ rest)

minused_held : (bytes : List ℕ) (e : Tree) → Front Whole bytes e → Minused (40 ∷ (bytes ++ 41 ∷ [])) e
minused_held bytes e f = record { front = respelled Held Negated _ e _ (λ ts h. negated_held ts _ h) (held_front bytes e f); follows = λ rest. refl }

minused_atom : (bytes : List ℕ) (e : Tree) → is_integer_literal e ≡ false → ((rest : List ℕ) → CanFollow kind.Symbol (45 ∷ []) true (bytes ++ rest)) → Front Atom bytes e → Minused bytes e
minused_atom bytes e k follows f = record { front = respelled Atom Negated bytes e e (λ ts h. negated_atom ts e h (atom_none ts e h) (atom_no_number ts e h k)) f; follows = follows }

name_follows : (name rest : List ℕ) → is_name name ≡ true → CanFollow kind.Symbol (45 ∷ []) true (name ++ rest)
name_follows name rest h = by name (name_parts name h)
  where
    by : (name : List ℕ) → Rattle.bidel_text.proofs.Tokens.NameParts name → CanFollow kind.Symbol (45 ∷ []) true (name ++ rest)
    by [] p = absurd (omega (arith, p.one))
    by (b ∷ bs) p = let q = and_parts (is_name_byte b) _ p.each in minus_follows b (bs ++ rest) (no_minus b q.0)
      where
        no_minus : (b : ℕ) → is_name_byte b ≡ true → b == 45 ≡ false
        no_minus b h = grind (arith, nat_tests)

minused_front : (e : Tree) → AreWritable e → Front Whole (expression_text e) e → Minused (grouped (is_operation e || is_integer_literal e) (expression_text e)) e
unfolding expression_text literal_of
minused_front (Literal Null) w f = minused_atom _ (Literal Null) refl (λ rest. refl) (plain_front Null w refl)
minused_front (Literal (Int n)) w f = minused_held _ (Literal (Int n)) f
minused_front (Literal (Text b)) w f = minused_atom _ (Literal (Text b)) refl (λ rest. refl) (plain_front (Text b) w refl)
minused_front (Literal (Reference n)) w f = minused_atom _ (Literal (Reference n)) refl (λ rest. refl) (plain_front (Reference n) w refl)
minused_front (Column name) w f = minused_atom name (Column name) refl (λ rest. name_follows name rest w) (column_front name w)
minused_front (Unary op a) w f = minused_held _ (Unary op a) f
minused_front (Binary op a b) w f = minused_held _ (Binary op a b) f

-- ---- operations

two_front : (f : Lexeme → Option BinaryOp) (op : BinaryOp) (k : TokenKind) (w : List ℕ) → Spells k w → f (lexeme_of k w) ≡ Some op → ((rest : List ℕ) → CanFollow k w true (32 ∷ rest))
    → (left right : List ℕ) (a b : Tree) → Front Operand left a → Front Operand right b → Front (Two f) (left ++ 32 ∷ (w ++ 32 ∷ right)) (Binary op a b)
two_front f op k w spells says follows left right a b p q =
    let last : Front (Seq Operand λ b. Nothing (Binary op a b)) (right ++ []) (Binary op a b) = then_front Operand (λ b. Nothing (Binary op a b)) right [] b (Binary op a b) refl q (nothing_front (Binary op a b)) in
    let tail : Front (Seq Operand λ b. Nothing (Binary op a b)) (32 ∷ right) (Binary op a b) =
    spaced _ right (Binary op a b) (subst (λ (l : List ℕ). Front (Seq Operand λ b. Nothing (Binary op a b)) l (Binary op a b)) (append-nil right) last) in
    then_front Operand (λ a. Seq (OneOf f) λ o. Seq Operand λ b. Nothing (Binary o a b)) left (32 ∷ (w ++ 32 ∷ right)) a (Binary op a b) refl p
    (spaced _ (w ++ 32 ∷ right) (Binary op a b)
    (then_token f op k w spells says (λ o. Seq Operand λ b. Nothing (Binary o a b)) (32 ∷ right) (Binary op a b) (λ rest e. follows (right ++ rest)) tail))

module _ (left right : List ℕ) (a b : Tree) (p : Front Operand left a) (q : Front Operand right b) where
  by_symbol : (f : Lexeme → Option BinaryOp) (op : BinaryOp) (w : List ℕ) → ((ts : List Lexeme) (e : Tree) → Two f ts e → Whole ts e)
      → Spells kind.Symbol w → f (symbol w) ≡ Some op → ((rest : List ℕ) → CanFollow kind.Symbol w true (32 ∷ rest)) → Front Whole (left ++ 32 ∷ (w ++ 32 ∷ right)) (Binary op a b)
  by_symbol f op w up spells says follows = respelled (Two f) Whole _ (Binary op a b) (Binary op a b) (λ ts h. up ts (Binary op a b) h)
      (two_front f op kind.Symbol w spells says follows left right a b p q)

  binary_front : (op : BinaryOp) → Front Whole (left ++ 32 ∷ (operator_sign op ++ 32 ∷ right)) (Binary op a b)
  binary_front Or = respelled (Two or_of) Whole _ (Binary Or a b) (Binary Or a b) (λ ts h. whole_or ts (Binary Or a b) h)
      (two_front or_of Or kind.Word (codes "OR") (word_spelled (codes "OR") refl) refl (λ rest. refl) left right a b p q)
  binary_front And = respelled (Two and_of) Whole _ (Binary And a b) (Binary And a b) (λ ts h. whole_and ts (Binary And a b) h)
      (two_front and_of And kind.Word (codes "AND") (word_spelled (codes "AND") refl) refl (λ rest. refl) left right a b p q)
  binary_front Equal = by_symbol compare_of Equal (codes "=") whole_compare refl refl (λ rest. refl)
  binary_front NotEqual = by_symbol compare_of NotEqual (codes "<>") whole_compare refl refl (λ rest. refl)
  binary_front Less = by_symbol compare_of Less (codes "<") whole_compare refl refl (λ rest. refl)
  binary_front LessOrEqual = by_symbol compare_of LessOrEqual (codes "<=") whole_compare refl refl (λ rest. refl)
  binary_front Greater = by_symbol compare_of Greater (codes ">") whole_compare refl refl (λ rest. refl)
  binary_front GreaterOrEqual = by_symbol compare_of GreaterOrEqual (codes ">=") whole_compare refl refl (λ rest. refl)
  binary_front Add = by_symbol sum_of Add (codes "+") whole_sum refl refl (λ rest. refl)
  binary_front Subtract = by_symbol sum_of Subtract (codes "-") whole_sum refl refl (λ rest. refl)
  binary_front Concat = by_symbol sum_of Concat (codes "||") whole_sum refl refl (λ rest. refl)
  binary_front Multiply = by_symbol product_of Multiply (codes "*") whole_product refl refl (λ rest. refl)
  binary_front Divide = by_symbol product_of Divide (codes "/") whole_product refl refl (λ rest. refl)
  binary_front Remainder = by_symbol product_of Remainder (codes "%") whole_product refl refl (λ rest. refl)

-- the tests for null open no parenthesis
null_free : (us : List Lexeme) (o : UnaryOp) → NullTest us o → opens weight us ≡ 0
null_free us o (inl h) =
    let s = h.second in
    let r = s.second in
    omega (
      arith,
      ap (opens weight) h.whole ∙ opens-append weight h.left h.right,
      ap (opens weight) (h.first.1 ∙ ap (λ (t : Lexeme). t ∷ []) (keyword_is (codes "not") h.first.0 h.value h.first.2)),
      ap (opens weight) s.whole ∙ opens-append weight s.left s.right,
      ap (opens weight) (s.first.1 ∙ ap (λ (t : Lexeme). t ∷ []) (keyword_is (codes "null") s.first.0 s.value s.first.2)),
      ap (opens weight) r.0,
    )
null_free us o (inr h) =
    omega (arith, ap (opens weight) h.whole ∙ opens-append weight h.left h.right, ap (opens weight) (h.first.1 ∙ ap (λ (t : Lexeme). t ∷ []) (keyword_is (codes "null") h.first.0 h.value h.first.2)), ap (opens weight) h.second.0)

null_word : (o : UnaryOp) → Front (Seq (OneOf null_of) λ _. Nothing o) (codes "NULL") o
null_word o = then_word (Nothing o) [] o (codes "null") (codes "NULL") refl refl refl (nothing_front o)

test_front : (o : UnaryOp) (test bytes : List ℕ) (a : Tree) → Front NullTest test o → Front Operand bytes a → Front Whole (bytes ++ 32 ∷ (codes "IS" ++ 32 ∷ (test ++ []))) (Unary o a)
test_front o test bytes a t p = respelled _ Whole _ (Unary o a) (Unary o a) (λ ts h. whole_test ts (Unary o a) h null_free)
    (then_front Operand (λ a. Seq (OneOf is_of) λ _. Seq NullTest λ op. Nothing (Unary op a)) bytes (32 ∷ (codes "IS" ++ 32 ∷ (test ++ []))) a (Unary o a) refl p
    (spaced _ (codes "IS" ++ 32 ∷ (test ++ [])) (Unary o a)
    (then_word (Seq NullTest λ op. Nothing (Unary op a)) (32 ∷ (test ++ [])) (Unary o a) (codes "is") (codes "IS") refl refl refl
    (spaced _ (test ++ []) (Unary o a)
    (then_front NullTest (λ op. Nothing (Unary op a)) test [] o (Unary o a) refl t (nothing_front (Unary o a)))))))

is_null_front : Front NullTest (codes "NULL") IsNull
is_null_front = respelled _ NullTest _ IsNull IsNull (λ ts h. inr h) (null_word IsNull)

is_not_null_front : Front NullTest (codes "NOT NULL") IsNotNull
is_not_null_front = respelled _ NullTest _ IsNotNull IsNotNull (λ ts h. inl h)
    (then_word (Seq (OneOf null_of) λ _. Nothing IsNotNull) (codes " NULL") IsNotNull (codes "not") (codes "NOT") refl refl refl (spaced _ (codes "NULL") IsNotNull (null_word IsNotNull)))

whole_front : (e : Tree) → AreWritable e → Front Whole (expression_text e) e
unfolding expression_text
whole_front (Literal v) w = literal_whole v w
whole_front (Column name) w = respelled _ Whole name (Column name) _ (λ ts h. whole_atom ts _ (inr h) (atom_none ts _ h)) (column_front name w)
whole_front (Unary Not a) w = respelled (Seq (OneOf not_of) λ _. Operand) Whole _ a (Unary Not a) (λ ts h. whole_not ts a h)
    (then_word Operand (32 ∷ grouped (is_operation a) (expression_text a)) a (codes "not") (codes "NOT") refl refl refl
    (spaced Operand (grouped (is_operation a) (expression_text a)) a (operand_front a w (whole_front a w))))
whole_front (Unary Negate a) w =
    let m = minused_front a w (whole_front a w) in
    respelled (Seq (OneOf minus_of) λ _. Negated) Whole _ a (Unary Negate a) (λ ts h. whole_negate ts a h)
    (then_token minus_of tt kind.Symbol (45 ∷ []) refl refl (λ _. Negated) (grouped (is_operation a || is_integer_literal a) (expression_text a)) a
    (λ rest e. m.follows rest) m.front)
whole_front (Unary IsNull a) w = test_front IsNull (codes "NULL") (grouped (is_operation a) (expression_text a)) a is_null_front (operand_front a w (whole_front a w))
whole_front (Unary IsNotNull a) w = test_front IsNotNull (codes "NOT NULL") (grouped (is_operation a) (expression_text a)) a is_not_null_front (operand_front a w (whole_front a w))
whole_front (Binary op a b) w =
    binary_front (grouped (is_operation a) (expression_text a)) (grouped (is_operation b) (expression_text b)) a b (operand_front a w.0 (whole_front a w.0)) (operand_front b w.1 (whole_front b w.1)) op

-- within the limits
pub expression_front : (e : Tree) → AreWritable e → cost e ≤ most_operators → Front Expression (expression_text e) e
expression_front e w few = respelled Whole Expression _ e e
    (λ ts h. record { depth = cost e; spelled = h.at (cost e) (omega arith); few = few; open' = omega (arith, h.few, few) }) (whole_front e w)
