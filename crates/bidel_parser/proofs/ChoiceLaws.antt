-- Words that tell phrases apart, and parts that may be left out.
use Rattle.std.proofs.Common.{◌≡◌, ◌++◌, ◌∷◌, [], ℕ, List, Bool, true, false, refl, ap, append_assoc, ◌∙◌, sym, subst, cond, inl, inr}
use Rattle.std.specs.Prelude.{Option, Some, None}
use Rattle.std.proofs.lemmas.Bool.{or_parts}
use Rattle.phrases.specs.Phrases.{Nothing, Seq, Either, OneOf, Begins}
use Rattle.phrases.specs.Reading.{Read, starts, is, is_some, none, or}
use Rattle.phrases.specs.Reads.{Reads}
use Rattle.phrases.proofs.ReadersLaws.{done-reads, either-reads, respell, starts_left}
use Rattle.phrases.proofs.ListsLaws.{made-reads}
use Rattle.phrases.proofs.LookaheadLaws.{GoesOn}
use Rattle.bidel_expr.specs.Lexemes.{Lexeme, word, keyword}
use Rattle.bidel_expr.proofs.WordLaws.{is_keyword}
use Rattle.bidel_parser.specs.Words.{choice_of, Flag}
use Rattle.bidel_parser.specs.inner.WordReaders.{flag_at}

-- ---- words and what they stand for

-- P holds of each of the words, with what it stands for
abbrev pub Every : {K : Type 0} → (Lexeme → K → Type 0) → List (List ℕ × K) → Type 0
Every P [] = Unit {0}
Every P (c ∷ cs) = P (word c.0) c.1 × Every P cs

infixr 4 ◌&◌
-- one, and the others
pub ◌&◌ : {A B : Type 0} → A → B → A × B
a & b = (a, b)

-- and so it holds of each token that is one of them
pub by_choice : {K : Type 0} (P : Lexeme → K → Type 0) (cs : List (List ℕ × K)) → Every P cs → (t : Lexeme) (k : K) → choice_of cs t ≡ Some k → P t k
by_choice P [] all t k h = cc
by_choice P (c ∷ cs) all t k h = split (is (keyword c.0) t) refl (by_choice P cs all.1 t k) h
  where
    split : (b : Bool) → is (keyword c.0) t ≡ b → (choice_of cs t ≡ Some k → P t k) → cond b (Some c.1) (choice_of cs t) ≡ Some k → P t k
    split true e among s = let same : c.1 ≡ k = cc in subst (P t) same (subst (λ (t : Lexeme). P t c.1) (sym (is_keyword c.0 t e)) all.0)
    split false e among s = among s

-- what a word stands for that is one of them
pub chosen_of : {A : Type 0} (o : Option A) → is_some o ≡ true → (a : A) × (o ≡ Some a)
chosen_of (Some a) h = (a, refl)
chosen_of None h = cc

-- ---- how phrases begin

-- a phrase goes on behind these tokens, and then another comes
pub begins_then : {A B : Type 0} (S : List Lexeme → A → Type 0) (T : A → List Lexeme → B → Type 0) (front : List Lexeme) → Begins S front → ((a : A) → Begins (T a) []) → Begins (Seq S T) front
begins_then S T front b rest =
    let s = rest b.value in
    record {
      more = b.more ++ s.more;
      value = s.value;
      spelled = record { value = b.value; left = front ++ b.more; right = s.more; whole = sym (append_assoc front b.more s.more); first = b.spelled; second = s.spelled };
    }

-- one token, and a phrase that goes on behind these
pub begins_behind : {A B : Type 0} (f : Lexeme → Option A) (T : A → List Lexeme → B → Type 0) (t : Lexeme) (a : A) (front : List Lexeme) → f t ≡ Some a → Begins (T a) front → Begins (Seq (OneOf f) T) (t ∷ front)
begins_behind f T t a front h b = record {
  more = b.more;
  value = b.value;
  spelled = record { value = a; left = t ∷ []; right = front ++ b.more; whole = refl; first = (t, refl, h); second = b.spelled };
}

-- what begins so is read where it goes on so
pub goes_first : {A : Type 0} (S : List Lexeme → A → Type 0) (p : List Lexeme → Read Lexeme A) → Reads none S p → (t : Lexeme) → Begins S (t ∷ []) → GoesOn p [] t
goes_first S p r t b = record { more = (t ∷ b.more) ++ []; answer = (b.value, []); starts' = refl; whole = r.reads (t ∷ b.more) [] b.value b.spelled refl }

-- the same behind one token
pub goes_second : {A : Type 0} (S : List Lexeme → A → Type 0) (p : List Lexeme → Read Lexeme A) → Reads none S p → (t u : Lexeme) → Begins S (t ∷ u ∷ []) → GoesOn p (t ∷ []) u
goes_second S p r t u b = record { more = (u ∷ b.more) ++ []; answer = (b.value, []); starts' = refl; whole = r.reads (t ∷ u ∷ b.more) [] b.value b.spelled refl }

-- ---- parts that may be left out

-- a part that may be left out, and what follows it, begin as the part or as what follows it
pub maybe_begins : {A B C : Type 0} (g : Lexeme → Bool) (v : Bool) (S : List Lexeme → A → Type 0) (N : A → List Lexeme → B → Type 0) (x : B) (T : B → List Lexeme → C → Type 0) (us : List Lexeme)
    → ((front us : List Lexeme) (a : A) → S front a → starts g (front ++ us) ≡ v) → ((b : B) (front : List Lexeme) (c : C) → T b front c → starts g (front ++ us) ≡ v)
    → (front : List Lexeme) (c : C) → Seq (Either (Seq S N) (Nothing x)) T front c → starts g (front ++ us) ≡ v
maybe_begins {A} {B} {C} g v S N x T us first second front c h = ap (λ (l : List Lexeme). starts g (l ++ us)) h.whole ∙ ap (starts g) (append_assoc h.left h.right us) ∙ by h.first
  where
    by : Either (Seq S N) (Nothing x) h.left h.value → starts g (h.left ++ (h.right ++ us)) ≡ v
    by (inl s) = ap (λ (l : List Lexeme). starts g (l ++ (h.right ++ us))) s.whole ∙ ap (starts g) (append_assoc s.left s.right (h.right ++ us))
        ∙ first s.left (s.right ++ (h.right ++ us)) s.value s.first
    by (inr n) = ap (λ (l : List Lexeme). starts g (l ++ (h.right ++ us))) n.0 ∙ second h.value h.right c h.second

-- whether S stands there
module _ {A : Type 0} (c g : Lexeme → Bool) (S : List Lexeme → A → Type 0) (p : List Lexeme → Read Lexeme A) (r : Reads c S p)
    (begins : (front us : List Lexeme) (a : A) → S front a → starts g (front ++ us) ≡ true) where
  -- where S stands, a token of g comes
  flagged : (front us : List Lexeme) (b : Bool) → Seq S (λ _. Nothing true) front b → starts g (front ++ us) ≡ true
  flagged front us b h = ap (λ (l : List Lexeme). starts g l) (ap (λ (l : List Lexeme). l ++ us) h.whole ∙ append_assoc h.left h.right us) ∙ begins h.left (h.right ++ us) h.value h.first

  pub flag-reads : Reads (or g c) (Flag S) (flag_at g p)
  flag-reads = either-reads (or g c) g (Seq S λ _. Nothing true) (Nothing false) _ _
      (respell c (or g c) _ _ _ (made-reads c S p (λ _. true) r) (λ front a h. h) (λ front a h. h) (λ t h. (or_parts (g t) (c t) h).1))
      (done-reads (or g c) false)
      flagged
      (λ front us b h clear. ap (λ (l : List Lexeme). starts g (l ++ us)) h.0 ∙ starts_left g c us clear)
