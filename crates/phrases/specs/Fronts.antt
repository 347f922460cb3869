-- What a statement at the front of the tokens is, and where a script has its first fault: for any statement S, whose end may
-- still be open before what follows.
use Rattle.std.specs.Prelude.{◌≡◌, ◌++◌, ◌∷◌, ◌<◌, ◌≤◌, ◌+◌, ℕ, List, [], Bool, true, false, take, drop, length}
use Rattle.phrases.specs.Phrases.{Begins, Many}

-- the first tokens, so many, spell s, and what follows fixes its end
pub record IsFront {Tok A : Type 0} (open' : A → Bool → List Tok → Bool) (S : List Tok → A → Type 0) (ended : Bool) (ts : List Tok) (s : A) (used : ℕ) : Type 0 where
  pub within : used ≤ length ts
  pub spelled : S (take used ts) s
  pub over : open' s ended (drop used ts) ≡ false

-- no first tokens are a statement whose end is fixed
abbrev pub NoFront : {Tok A : Type 0} → (A → Bool → List Tok → Bool) → (List Tok → A → Type 0) → Bool → List Tok → Type 0
NoFront {Tok} {A} open' S ended ts = (s : A) (front rest : List Tok) → ts ≡ front ++ rest → S front s → open' s ended rest ≡ false → ⊥

-- the fault stands at the first token that no script has after those before it, or after the last token
abbrev pub FirstFault : {Tok A : Type 0} → (List Tok → A → Type 0) → List Tok → ℕ → Type 0
FirstFault S ts at = Begins (Many S) (take at ts) × ((at < length ts) → Begins (Many S) (take (at + 1) ts) → ⊥)

-- two fronts whose end is fixed are one
abbrev pub HasOneFront : {Tok A : Type 0} → (A → Bool → List Tok → Bool) → (List Tok → A → Type 0) → Type 0
HasOneFront {Tok} {A} open' S = (ended : Bool) (ts front rest : List Tok) (s : A) (front2 rest2 : List Tok) (s2 : A)
    → ts ≡ front ++ rest → S front s → open' s ended rest ≡ false
    → ts ≡ front2 ++ rest2 → S front2 s2 → open' s2 ended rest2 ≡ false → (s ≡ s2) × (rest ≡ rest2)

-- no statement stays open where a script begins
abbrev pub IsOver : {Tok A : Type 0} → (A → Bool → List Tok → Bool) → (List Tok → A → Type 0) → Type 0
IsOver {Tok} {A} open' S = (s : A) (ss : List A) (ts : List Tok) → Many S ts ss → open' s true ts ≡ false

-- a script with a front is the statement of that front, and a script of what follows
abbrev pub FollowsFront : {Tok A : Type 0} → (A → Bool → List Tok → Bool) → (List Tok → A → Type 0) → Type 0
FollowsFront {Tok} {A} open' S = (ts : List Tok) (used : ℕ) (s : A) → IsFront open' S true ts s used
    → (ss : List A) → Many S ts ss → (rest : List A) × (ss ≡ s ∷ rest) × Many S (drop used ts) rest

-- a front and a script of what follows are a script
abbrev pub PrecedesScript : {Tok A : Type 0} → (A → Bool → List Tok → Bool) → (List Tok → A → Type 0) → Type 0
PrecedesScript {Tok} {A} open' S = (ts : List Tok) (used : ℕ) (s : A) → IsFront open' S true ts s used
    → (rest : List A) → Many S (drop used ts) rest → Many S ts (s ∷ rest)

-- tokens without a front are a script only where there are none
abbrev pub HasNoScript : {Tok A : Type 0} → (A → Bool → List Tok → Bool) → (List Tok → A → Type 0) → Type 0
HasNoScript {Tok} {A} open' S = (ts : List Tok) → NoFront open' S true ts → (ss : List A) → Many S ts ss → ts ≡ []

-- no tokens are the script of no statements, and of no others
abbrev pub IsEmptyScript : {Tok A : Type 0} → (List Tok → A → Type 0) → Type 0
IsEmptyScript {Tok} {A} S = (ss : List A) → Many S [] ss → ss ≡ []

-- a front whose end is fixed, whatever comes, is a front of what comes of the tokens
abbrev pub StaysFront : {Tok A : Type 0} → (A → Bool → List Tok → Bool) → (List Tok → A → Type 0) → Type 0
StaysFront {Tok} {A} open' S = (ts more : List Tok) (ended : Bool) (s : A) (used : ℕ) → IsFront open' S false ts s used → IsFront open' S ended (ts ++ more) s used

-- a fault at a token stays as tokens come
abbrev pub FaultStays : {Tok A : Type 0} → (List Tok → A → Type 0) → Type 0
FaultStays {Tok} S = (ts more : List Tok) (at : ℕ) → at < length ts → FirstFault S ts at → FirstFault S (ts ++ more) at

-- the first fault behind a front is the first fault of all
abbrev pub FaultFollows : {Tok A : Type 0} → (A → Bool → List Tok → Bool) → (List Tok → A → Type 0) → Type 0
FaultFollows {Tok} {A} open' S = (ts : List Tok) (used at : ℕ) (s : A) → IsFront open' S true ts s used → at ≤ length (drop used ts)
    → FirstFault S (drop used ts) at → FirstFault S ts (used + at)

-- the tokens up to one with which no script begins show the end of a statement before them, as all of the tokens do
abbrev pub ShowsEnd : {Tok A : Type 0} → (A → Bool → List Tok → Bool) → (List Tok → A → Type 0) → Type 0
ShowsEnd {Tok} {A} open' S = (s : A) (ts more : List Tok) (at : ℕ) → at < length ts → open' s true ts ≡ false
    → (Begins (Many S) (take (at + 1) ts) → ⊥) → open' s true (take (at + 1) ts ++ more) ≡ false
