-- The laws of readers, as facts: for tokens and values of any type, and for phrases that a test decides.
use Rattle.std.specs.Prelude.{◌≡◌, ◌++◌, ◌<◌, ◌+◌, ℕ, List, length, Bool, true, false, IsTrue, Option, Some, Ok, Err}
use Rattle.phrases.specs.Phrases.{Seq, OneOf, Either, Many}
use Rattle.phrases.specs.Reading.{Read, starts, and_then, one_at, either, none, or, rest_at}
use Rattle.phrases.specs.Reads.{Reads, ReadsLast}
use Rattle.phrases.specs.Fronts.{IsOver, NoFront, FirstFault, HasOneFront, FollowsFront, HasNoScript}

-- the phrase that a test decides
abbrev pub Decided : {Tok A : Type 0} → (List Tok → A → Bool) → List Tok → A → Type 0
Decided S ts a = IsTrue (S ts a)

-- two readers in a row read two phrases in a row, where what may continue the first begins nothing that may follow it
abbrev pub ThenReads : Type 0 → Type 0 → Type 0 → Type 0
ThenReads Tok A B = (c d : Tok → Bool) (S : List Tok → A → Bool) (T : A → List Tok → B → Bool) (p : List Tok → Read Tok A) (f : A → List Tok → Read Tok B)
    → Reads d (Decided S) p → ((a : A) → Reads c (Decided (T a)) (f a))
    → ((a : A) (right us : List Tok) (b : B) → Decided (T a) right b → starts c us ≡ false → starts d (right ++ us) ≡ false)
    → Reads c (Seq (Decided S) (λ a. Decided (T a))) (and_then p f)

-- one token of a kind is read by looking at it, and nothing continues it
abbrev pub OneReads : Type 0 → Type 0 → Type 0
OneReads Tok A = (f : Tok → Option A) (t : Tok) (a : A) → f t ≡ Some a → Reads none (OneOf f) (one_at f)

-- one of two phrases is read by the next token, where the first begins with a token of g and what may stand in its place doesn't
abbrev pub EitherReads : Type 0 → Type 0 → Type 0
EitherReads Tok A = (c g : Tok → Bool) (S T : List Tok → A → Bool) (p q : List Tok → Read Tok A) → Reads c (Decided S) p → Reads c (Decided T) q
    → ((front us : List Tok) (a : A) → Decided S front a → starts g (front ++ us) ≡ true)
    → ((front us : List Tok) (a : A) → Decided T front a → starts c us ≡ false → starts g (front ++ us) ≡ false)
    → Reads c (Either (Decided S) (Decided T)) (either g p q)

-- any number of phrases is read as long as a token comes that begins one, where no such token continues one
abbrev pub ManyReads : Type 0 → Type 0 → Type 0
ManyReads Tok A = (c g : Tok → Bool) (S : List Tok → A → Bool) (item : List Tok → Read Tok A) → Reads c (Decided S) item
    → ((front us : List Tok) (a : A) → Decided S front a → starts g (front ++ us) ≡ true)
    → ((t : Tok) → g t ≡ true → c t ≡ false)
    → Reads (or g c) (Many (Decided S)) (rest_at g item)

-- a phrase that closes itself, and then one whose end hangs on what follows
abbrev pub ThenLast : Type 0 → Type 0 → Type 0 → Type 0
ThenLast Tok A B = (open' : B → Bool → List Tok → Bool) (S : List Tok → A → Bool) (T : A → List Tok → B → Bool) (p : List Tok → Read Tok A) (f : Bool → A → List Tok → Read Tok B)
    → Reads none (Decided S) p → ((a : A) → ReadsLast open' (Decided (T a)) (λ ended. f ended a))
    → ReadsLast open' (Seq (Decided S) (λ a. Decided (T a))) (λ ended. and_then p (f ended))

-- what a reader of statements answers is the one front of the tokens, or their first fault, and scripts are read front by front
pub record Fronts {Tok A : Type 0} (open' : A → Bool → List Tok → Bool) (S : List Tok → A → Type 0) (p : Bool → List Tok → Read Tok A) : Type 0 where
  pub whole : (ended : Bool) (ts rest : List Tok) (s : A) → p ended ts ≡ Ok (s, rest)
      → (front : List Tok) × (ts ≡ front ++ rest) × S front s × (open' s ended rest ≡ false)
  pub one : HasOneFront open' S
  pub none : (ended : Bool) (ts e : List Tok) → p ended ts ≡ Err e → NoFront open' S ended ts
  pub first : (ended : Bool) (ts e : List Tok) → p ended ts ≡ Err e → (at : ℕ) × (at + length e ≡ length ts) × FirstFault S ts at
  pub follows : FollowsFront open' S
  pub empty : HasNoScript open' S

-- where statements are never empty, and none stays open at the beginning of a script
abbrev pub ReadsFronts : Type 0 → Type 0 → Type 0
ReadsFronts Tok A = (open' : A → Bool → List Tok → Bool) (S : List Tok → A → Bool) (p : Bool → List Tok → Read Tok A) → ReadsLast open' (Decided S) p
    → IsOver open' (Decided S) → ((front : List Tok) (s : A) → Decided S front s → 0 < length front) → Fronts open' (Decided S) p
