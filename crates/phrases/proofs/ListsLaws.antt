-- Optional phrases, and lists with separators.
use Rattle.std.proofs.Common.{◌≡◌, ◌++◌, ◌∷◌, [], List, Bool, true, false, ap, append_assoc, ◌∙◌}
use Rattle.std.specs.Prelude.{Option, Some, None}
use Rattle.std.proofs.lemmas.Bool.{or_parts}
use Rattle.phrases.specs.Reading.{Read, starts, and_then, done, either, is, none, or, rest_at, behind_at, optional_at, separated_at, enclosed_at}
use Rattle.phrases.specs.Phrases.{Nothing, Seq, Either, OneOf, Many, Behind, Optional, Separated, Enclosed}
use Rattle.phrases.specs.Reads.{Reads}
use Rattle.phrases.proofs.ReadersLaws.{then-reads, done-reads, either-reads, respell, word, begins_one, known, starts_left}
use Rattle.phrases.proofs.Manys.{many-reads, apart}

-- a phrase with a value made of it
pub made-reads : {Tok A B : Type 0} (c : Tok → Bool) (S : List Tok → A → Type 0) (p : List Tok → Read Tok A) (make : A → B) → Reads c S p
    → Reads c (Seq S λ a. Nothing (make a)) (and_then p λ a. done (make a))
made-reads c S p make r = then-reads c c S (λ a. Nothing (make a)) p (λ a. done (make a)) r (λ a. done-reads c (make a))
    (λ a right us b h clear. ap (λ (l : List _). starts c (l ++ us)) h.0 ∙ clear)

-- [ S ]
module _ {Tok A : Type 0} (c g : Tok → Bool) (S : List Tok → A → Type 0) (p : List Tok → Read Tok A) (r : Reads c S p)
    (begins : (front us : List Tok) (a : A) → S front a → starts g (front ++ us) ≡ true) where
  some_begins : (front us : List Tok) (o : Option A) → Seq S (λ a. Nothing (Some a)) front o → starts g (front ++ us) ≡ true
  some_begins front us o h = ap (λ (l : List Tok). starts g l) (ap (λ (l : List Tok). l ++ us) h.whole ∙ append_assoc h.left h.right us)
      ∙ begins h.left (h.right ++ us) h.value h.first

  pub optional-reads : Reads (or g c) (Optional S) (optional_at g p)
  optional-reads = either-reads (or g c) g (Seq S λ a. Nothing (Some a)) (Nothing None) (and_then p λ a. done (Some a)) (done None)
      (respell c (or g c) _ _ _ (made-reads c S p (λ a. Some a) r) (λ front a h. h) (λ front a h. h) (λ t h. (or_parts (g t) (c t) h).1))
      (done-reads (or g c) None)
      some_begins
      (λ front us o h clear. ap (λ (l : List Tok). starts g (l ++ us)) h.0 ∙ starts_left g c us clear)

-- S { f S }
module _ {Tok X A : Type 0} (c : Tok → Bool) (f : Tok → Option X) (sign : Tok) (x : X) (knows : f sign ≡ Some x) (S : List Tok → A → Type 0) (p : List Tok → Read Tok A)
    (r : Reads c S p) (fresh : (t : Tok) → is f t ≡ true → c t ≡ false) where
  behind-reads : Reads c (Behind f S) (behind_at f p)
  behind-reads = word c f sign x knows (λ _. S) (λ _. p) (λ _. r)

  behind_begins : (front us : List Tok) (a : A) → Behind f S front a → starts (is f) (front ++ us) ≡ true
  behind_begins = begins_one (is f) f true (λ _. S) (known f)

  further-reads : Reads (or (is f) c) (Many (Behind f S)) (rest_at (is f) (behind_at f p))
  further-reads = many-reads c (is f) (Behind f S) (behind_at f p) behind-reads behind_begins fresh

  -- what follows the first item doesn't continue it
  apart_first : (a : A) (right us : List Tok) (b : List A) → Seq (Many (Behind f S)) (λ as'. Nothing (a ∷ as')) right b → starts (or (is f) c) us ≡ false → starts c (right ++ us) ≡ false
  apart_first a right us b h clear =
      ap (λ (l : List Tok). starts c l) (ap (λ (l : List Tok). l ++ us) h.whole ∙ append_assoc h.left h.right us)
      ∙ apart c (is f) (Behind f S) (behind_at f p) behind-reads behind_begins fresh h.value h.left (h.right ++ us) h.first
      (ap (λ (l : List Tok). starts (or (is f) c) (l ++ us)) h.second.0 ∙ clear)

  pub separated-reads : Reads (or (is f) c) (Separated f S) (separated_at f p)
  separated-reads = then-reads (or (is f) c) c S (λ a. Seq (Many (Behind f S)) λ as'. Nothing (a ∷ as')) p _ r
      (λ a. made-reads (or (is f) c) (Many (Behind f S)) (rest_at (is f) (behind_at f p)) (λ as'. a ∷ as') further-reads)
      apart_first

  -- open [ S { f S } ] close
  module _ {Y Z : Type 0} (g : Tok → Bool) (open' : Tok → Option Y) (first : Tok) (y : Y) (opens : open' first ≡ Some y) (close : Tok → Option Z) (last : Tok) (z : Z) (closes : close last ≡ Some z)
      (begins : (front us : List Tok) (a : A) → S front a → starts g (front ++ us) ≡ true)
      (over : (t : Tok) (v : Z) → close t ≡ Some v → or g (or (is f) c) t ≡ false) where
    abbrev goes : Tok → Bool
    goes = or g (or (is f) c)

    list_begins : (front us : List Tok) (as' : List A) → Separated f S front as' → starts g (front ++ us) ≡ true
    list_begins front us as' h = ap (λ (l : List Tok). starts g l) (ap (λ (l : List Tok). l ++ us) h.whole ∙ append_assoc h.left h.right us)
        ∙ begins h.left (h.right ++ us) h.value h.first

    list-reads : Reads goes (Either (Separated f S) (Nothing [])) (either g (separated_at f p) (done []))
    list-reads = either-reads goes g (Separated f S) (Nothing []) (separated_at f p) (done [])
        (respell (or (is f) c) goes _ _ _ separated-reads (λ front a h. h) (λ front a h. h) (λ t h. (or_parts (g t) (or (is f) c t) h).1))
        (done-reads goes [])
        list_begins
        (λ front us as' h clear. ap (λ (l : List Tok). starts g (l ++ us)) h.0 ∙ starts_left g (or (is f) c) us clear)

    pub enclosed-reads : Reads none (Enclosed open' f close S) (enclosed_at g open' f close p)
    enclosed-reads = word none open' first y opens _ _ (λ _.
        then-reads none goes (Either (Separated f S) (Nothing [])) (λ as'. Seq (OneOf close) λ _. Nothing as') _ _ list-reads
        (λ as'. word none close last z closes _ _ (λ _. done-reads none as'))
        (λ as' right us b h clear. begins_one goes close false _ over right us b h))
