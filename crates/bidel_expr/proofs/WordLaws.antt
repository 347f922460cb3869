-- Which token a kind of tokens has.
use Rattle.std.proofs.Common.{◌≡◌, ℕ, List, Bool, true, false, refl, ap, ◌∙◌, sym, cond, nat_le, ◌^◌}
use Rattle.std.specs.Prelude.{Some, None, bytes_eq, codes}
use Rattle.std.proofs.lemmas.Slice.Eq.{bytes_eq-Decides}
use Rattle.par_base.specs.Names.{is_name, is_reserved}
use Rattle.std.specs.Str.{is_utf8}
use Rattle.par_base.specs.declared.value.Value.{Value}
use Rattle.par_base.specs.declared.value.Value.TheVariants.{Null}
use Rattle.phrases.specs.Reading.{is, is_some}
use Rattle.bidel_expr.specs.Lexemes.{Lexeme, word, number, reference, «text», symbol, keyword, sign, name_of, negative_of, unsigned_of, text_of, number_of}

pub when_some : {A : Type 0} (b : Bool) (x y : A) → cond b (Some x) None ≡ Some y → (b ≡ true) × (x ≡ y)
when_some true x y h = (refl, cc)
when_some false x y h = cc

when_is : {A : Type 0} (b : Bool) (x : A) → is_some (cond b (Some x) None) ≡ true → b ≡ true
when_is true x h = refl
when_is false x h = cc

pub when_not : {A : Type 0} (b : Bool) (x : A) → b ≡ false → is_some (cond b (Some x) None) ≡ false
when_not true x h = cc
when_not false x h = refl

pub same_bytes : (xs ys : List ℕ) → bytes_eq xs ys ≡ true → xs ≡ ys
same_bytes xs ys h = (bytes_eq-Decides xs ys).0 h

-- a token that is this reserved word
pub is_keyword : (w : List ℕ) (t : Lexeme) → is (keyword w) t ≡ true → t ≡ word w
is_keyword w (word v) h = ap word (sym (same_bytes w v (when_is (bytes_eq w v) tt h)))
is_keyword w (number n) h = cc
is_keyword w (reference n) h = cc
is_keyword w («text» b) h = cc
is_keyword w (symbol s) h = cc

pub keyword_is : (w : List ℕ) (t : Lexeme) (u : Unit {0}) → keyword w t ≡ Some u → t ≡ word w
keyword_is w t u h = is_keyword w t (ap is_some h)

-- a token that is this symbol
pub is_sign : (w : List ℕ) (t : Lexeme) → is (sign w) t ≡ true → t ≡ symbol w
is_sign w (symbol s) h = ap symbol (sym (same_bytes w s (when_is (bytes_eq w s) tt h)))
is_sign w (word v) h = cc
is_sign w (number n) h = cc
is_sign w (reference n) h = cc
is_sign w («text» b) h = cc

pub sign_is : (w : List ℕ) (t : Lexeme) (u : Unit {0}) → sign w t ≡ Some u → t ≡ symbol w
sign_is w t u h = is_sign w t (ap is_some h)

-- what holds of the word holds of the token that is it
pub by_keyword : (g : Lexeme → Bool) (b : Bool) (w : List ℕ) → g (word w) ≡ b → (t : Lexeme) (u : Unit {0}) → keyword w t ≡ Some u → g t ≡ b
by_keyword g b w k t u h = ap g (keyword_is w t u h) ∙ k

pub by_sign : (g : Lexeme → Bool) (b : Bool) (w : List ℕ) → g (symbol w) ≡ b → (t : Lexeme) (u : Unit {0}) → sign w t ≡ Some u → g t ≡ b
by_sign g b w k t u h = ap g (sign_is w t u h) ∙ k

-- a token that is a name
pub name_is : (t : Lexeme) (w : List ℕ) → name_of t ≡ Some w → (t ≡ word w) × (is_name w ≡ true)
name_is (word v) w h = let p = when_some (is_name v) v w h in (ap word p.1, sym (ap is_name p.1) ∙ p.0)
name_is (number n) w h = cc
name_is (reference n) w h = cc
name_is («text» b) w h = cc
name_is (symbol s) w h = cc

-- a name is no reserved word
pub name_differs : (k w : List ℕ) → is_name k ≡ false → is_name w ≡ true → bytes_eq k w ≡ false
name_differs k w n h = apart (bytes_eq k w) (λ e. same_bytes k w e)
  where
    apart : (b : Bool) → (b ≡ true → k ≡ w) → b ≡ false
    apart true e = let same = e refl in let clash = sym n ∙ ap is_name same ∙ h in cc
    apart false e = refl

pub name_not : (k : List ℕ) → is_name k ≡ false → (t : Lexeme) (w : List ℕ) → name_of t ≡ Some w → is (keyword k) t ≡ false
name_not k n t w h = let p = name_is t w h in ap (is (keyword k)) p.0 ∙ when_not (bytes_eq k w) tt (name_differs k w n p.1)

-- the word null is no name
pub null_no_name : is_name (codes "null") ≡ false
unfolding is_name is_reserved
null_no_name = refl

-- a number is no word and no symbol
pub number_is : (t : Lexeme) (n : ℕ) → number_of t ≡ Some n → t ≡ number n
number_is (number m) n h = ap number (when_some (nat_le m (2 ^ 63)) m n h).1
number_is (word w) n h = cc
number_is (reference m) n h = cc
number_is («text» b) n h = cc
number_is (symbol s) n h = cc

pub negative_is : (t : Lexeme) (v : Value) → negative_of t ≡ Some v → (n : ℕ) × (t ≡ number n)
negative_is (number n) v h = (n, refl)
negative_is (word w) v h = cc
negative_is (reference n) v h = cc
negative_is («text» b) v h = cc
negative_is (symbol s) v h = cc

-- a token that is a text
pub text_is : (t : Lexeme) (b : List ℕ) → text_of t ≡ Some b → t ≡ «text» b
text_is («text» a) b h = ap «text» (when_some (is_utf8 a) a b h).1
text_is (word w) b h = cc
text_is (number n) b h = cc
text_is (reference n) b h = cc
text_is (symbol s) b h = cc

-- what holds of NULL, and of each number, text and reference, holds of a literal without a sign
pub by_unsigned : {X : Type 0} (g : Lexeme → X) (x : X) → g (word (codes "null")) ≡ x → ((n : ℕ) → g (number n) ≡ x) → ((b : List ℕ) → g («text» b) ≡ x) → ((n : ℕ) → g (reference n) ≡ x)
    → (t : Lexeme) (v : Value) → unsigned_of t ≡ Some v → g t ≡ x
by_unsigned g x a b c d (word w) v h = ap (λ (u : List ℕ). g (word u)) (sym (same_bytes (codes "null") w (when_some (bytes_eq (codes "null") w) Null v h).0)) ∙ a
by_unsigned g x a b c d (number n) v h = b n
by_unsigned g x a b c d («text» t) v h = c t
by_unsigned g x a b c d (reference n) v h = d n
by_unsigned g x a b c d (symbol s) v h = cc

-- what holds of each number holds of an integer behind a minus sign
pub by_negative : {X : Type 0} (g : Lexeme → X) (x : X) → ((n : ℕ) → g (number n) ≡ x) → (t : Lexeme) (v : Value) → negative_of t ≡ Some v → g t ≡ x
by_negative g x b t v h = let n = negative_is t v h in ap g n.1 ∙ b n.0
