-- What holds of each token of a phrase, and so of its value.
use Rattle.std.proofs.Common.{◌≡◌, ◌++◌, ◌∷◌, [], ℕ, zero, suc, List, inl, inr, subst}
use Rattle.std.specs.Prelude.{Option, Some, None, IfSome}
use Rattle.std.specs.List.{All}
use Rattle.std.proofs.lemmas.List.Elements.{All-nil, All-cons, All-head, All-tail}
use Rattle.phrases.specs.Phrases.{Nothing, Seq, OneOf, Either, Many, Optional, Separated, Enclosed}
use Rattle.phrases.specs.Chains.{Joined, Chain}
use Rattle.phrases.specs.Levels.{Prefixed, Prefix, Signed, Minuses, Unary, Grouped}

-- where Q holds of each token, F holds of the value
pub record Carries {Tok A : Type 0} (Q : Tok → Type 0) (F : A → Type 0) (S : List Tok → A → Type 0) : Type 0 where
  pub holds : (ts : List Tok) (a : A) → S ts a → All Q ts → F a

-- what holds of all tokens holds of the first ones and of those behind
parts : {Tok : Type 0} (Q : Tok → Type 0) (us vs : List Tok) → All Q (us ++ vs) → All Q us × All Q vs
parts Q [] vs q = (All-nil Q, q)
parts Q (u ∷ us) vs q =
    let rest = parts Q us vs (All-tail Q u (us ++ vs) q) in
    (All-cons Q u us (All-head Q u (us ++ vs) q) rest.0, rest.1)

-- ---- the words of a grammar

module _ {Tok A : Type 0} {Q : Tok → Type 0} {F : A → Type 0} where
  pub nothing-carries : (a : A) → F a → Carries Q F (Nothing a)
  nothing-carries a f = record { holds = λ ts b h q. subst F h.1 f }

  pub one-carries : (f : Tok → Option A) → ((t : Tok) (a : A) → f t ≡ Some a → Q t → F a) → Carries Q F (OneOf f)
  one-carries f r = record { holds = λ ts a h q. r h.0 a h.2 (All-head Q h.0 [] (subst (All Q) h.1 q)) }

  pub either-carries : {S T : List Tok → A → Type 0} → Carries Q F S → Carries Q F T → Carries Q F (Either S T)
  either-carries r s = record { holds = λ ts a h q. elim h [ inl x ↦ r.holds ts a x q | inr y ↦ s.holds ts a y q ] }

  -- a second phrase, whatever the first one is
  pub behind-carries : {B : Type 0} {S : List Tok → B → Type 0} {T : B → List Tok → A → Type 0} → ((b : B) → Carries Q F (T b)) → Carries Q F (Seq S T)
  behind-carries r = record { holds = λ ts a h q. (r h.value).holds h.right a h.second (parts Q h.left h.right (subst (All Q) h.whole q)).1 }

  -- a second phrase, by what holds of the value of the first one
  pub then-carries : {B : Type 0} {G : B → Type 0} {S : List Tok → B → Type 0} {T : B → List Tok → A → Type 0} → Carries Q G S → ((b : B) → G b → Carries Q F (T b)) → Carries Q F (Seq S T)
  then-carries r s = record {
    holds = λ ts a h q.
        let two = parts Q h.left h.right (subst (All Q) h.whole q) in
        (s h.value (r.holds h.left h.value h.first two.0)).holds h.right a h.second two.1;
  }

  -- a value made of the phrase's
  pub made-carries : {B : Type 0} {G : B → Type 0} {S : List Tok → B → Type 0} (make : B → A) → Carries Q G S → ((b : B) → G b → F (make b)) → Carries Q F (Seq S λ b. Nothing (make b))
  made-carries make r m = then-carries r (λ b g. nothing-carries (make b) (m b g))

-- ---- lists and optional phrases

module _ {Tok A : Type 0} {Q : Tok → Type 0} {F : A → Type 0} where
  many_hold : (S : List Tok → A → Type 0) → Carries Q F S → (ts : List Tok) (as' : List A) → Many S ts as' → All Q ts → All F as'
  many_hold S r ts [] h q = All-nil F
  many_hold S r ts (a ∷ as') h q =
      let two = parts Q h.0 h.1 (subst (All Q) h.2 q) in
      All-cons F a as' (r.holds h.0 a h.3 two.0) (many_hold S r h.1 as' h.4 two.1)

  pub many-carries : {S : List Tok → A → Type 0} → Carries Q F S → Carries Q (All F) (Many S)
  many-carries {S} r = record { holds = many_hold S r }

  pub optional-carries : {S : List Tok → A → Type 0} → Carries Q F S → Carries Q (λ o. IfSome o F) (Optional S)
  optional-carries r = either-carries (made-carries (λ a. Some a) r (λ a f. f)) (nothing-carries None tt)

  pub separated-carries : {X : Type 0} (f : Tok → Option X) {S : List Tok → A → Type 0} → Carries Q F S → Carries Q (All F) (Separated f S)
  separated-carries f r = then-carries r (λ a p. made-carries (λ as'. a ∷ as') (many-carries (behind-carries (λ _. r))) (λ as' ps. All-cons F a as' p ps))

  pub enclosed-carries : {X Y Z : Type 0} (open' : Tok → Option Y) (f : Tok → Option X) (close : Tok → Option Z) {S : List Tok → A → Type 0} → Carries Q F S → Carries Q (All F) (Enclosed open' f close S)
  enclosed-carries open' f close r = behind-carries (λ _.
      then-carries (either-carries (separated-carries f r) (nothing-carries [] (All-nil F))) (λ as' ps.
      behind-carries (λ _. nothing-carries as' ps)))

-- ---- levels of an expression

module _ {Tok E : Type 0} {Q : Tok → Type 0} {F : E → Type 0} where
  module _ {Op : Type 0} (join : Op → E → E → E) (op : Tok → Option Op) (m : (o : Op) (a b : E) → F a → F b → F (join o a b)) where
    joined_hold : (I : List Tok → E → Type 0) → Carries Q F I → (k : ℕ) (a : E) → F a → (ts : List Tok) (e : E) → Joined join op I k a ts e → All Q ts → F e
    joined_hold I r zero a f ts e h q = subst F h.1 f
    joined_hold I r (suc k) a f ts e h q =
        let two = parts Q h.2 h.4 (All-tail Q h.0 (h.2 ++ h.4) (subst (All Q) h.6 q)) in
        joined_hold I r k (join h.1 a h.3) (m h.1 a h.3 f (r.holds h.2 h.3 h.7 two.0)) h.4 e h.8 two.1

    pub chain-carries : {I : List Tok → E → Type 0} → Carries Q F I → Carries Q F (Chain join op I)
    chain-carries {I} r = record {
      holds = λ ts e h q.
          let two = parts Q h.left h.right (subst (All Q) h.whole q) in
          joined_hold I r h.further h.first (r.holds h.left h.first h.item two.0) h.right e h.rest two.1;
    }

  module _ {X : Type 0} (make : E → E) (op : Tok → Option X) (m : (a : E) → F a → F (make a)) where
    prefixed_holds : (C : List Tok → E → Type 0) → Carries Q F C → (k : ℕ) (ts : List Tok) (e : E) → Prefixed make op C k ts e → All Q ts → F e
    prefixed_holds C r zero ts e h q = r.holds ts e h q
    prefixed_holds C r (suc k) ts e h q = subst F h.6 (m h.3 (prefixed_holds C r k h.2 h.3 h.7 (All-tail Q h.0 h.2 (subst (All Q) h.5 q))))

    pub prefix-carries : {C : List Tok → E → Type 0} → Carries Q F C → Carries Q F (Prefix make op C)
    prefix-carries {C} r = record { holds = λ ts e h q. prefixed_holds C r h.count ts e h.spelled q }

    module _ {N : Type 0} (literal : N → E) (number : Tok → Option N) (l : (t : Tok) (n : N) → number t ≡ Some n → Q t → F (literal n)) where
      signed-carries : Carries Q F (Signed literal op number)
      signed-carries = behind-carries (λ _. made-carries {G = λ n. F (literal n)} literal (one-carries number l) (λ n f. f))

      minuses_hold : (P : List Tok → E → Type 0) → Carries Q F P → (k : ℕ) (ts : List Tok) (e : E) → Minuses make literal op number P k ts e → All Q ts → F e
      minuses_hold P r zero ts e h q = elim h [ inl x ↦ signed-carries.holds ts e x q | inr y ↦ r.holds ts e y q ]
      minuses_hold P r (suc k) ts e h q = subst F h.7 (m h.3 (minuses_hold P r k h.2 h.3 h.8 (All-tail Q h.0 h.2 (subst (All Q) h.5 q))))

      pub unary-carries : {P : List Tok → E → Type 0} → Carries Q F P → Carries Q F (Unary make literal op number P)
      unary-carries {P} r = record { holds = λ ts e h q. minuses_hold P r h.minuses ts e h.spelled q }

  pub grouped-carries : {X Y : Type 0} (open' : Tok → Option X) (close : Tok → Option Y) {A S : List Tok → E → Type 0} → Carries Q F A → Carries Q F S → Carries Q F (Grouped open' close A S)
  grouped-carries open' close r s = either-carries r (behind-carries (λ _. then-carries s (λ e f. behind-carries (λ _. nothing-carries e f))))
