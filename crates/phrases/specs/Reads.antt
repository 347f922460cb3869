-- What it means that a reader reads a phrase.
use Rattle.std.specs.Prelude.{◌≡◌, ◌≢◌, ◌++◌, ◌∷◌, ◌⊎◌, List, [], Bool, false, Ok, Err}
use Rattle.phrases.specs.Phrases.{Begins}
use Rattle.phrases.specs.Reading.{Read, next, starts}

-- what is read is spelled by the tokens used; of those after them only the next is looked at
pub record Takes {Tok A : Type 0} (S : List Tok → A → Type 0) (p : List Tok → Read Tok A) (ts : List Tok) (a : A) (rest : List Tok) : Type 0 where
  pub front : List Tok
  pub whole : ts ≡ front ++ rest
  pub spelled : S front a
  pub again : (us : List Tok) → next us ≡ next rest → p (front ++ us) ≡ Ok (a, us)

-- the tokens before a fault can be made whole, and with the fault's token the fault stays, whatever follows
pub record Stops {Tok A : Type 0} (S : List Tok → A → Type 0) (p : List Tok → Read Tok A) (ts e : List Tok) : Type 0 where
  pub front : List Tok
  pub whole : ts ≡ front ++ e
  pub begins : Begins S front
  pub first : (us : List Tok) → e ≢ [] → next us ≡ next e → p (front ++ us) ≡ Err us

-- p reads the phrase S, and c holds of the tokens that may continue it
pub record Reads {Tok A : Type 0} (c : Tok → Bool) (S : List Tok → A → Type 0) (p : List Tok → Read Tok A) : Type 0 where
  pub takes : (ts rest : List Tok) (a : A) → p ts ≡ Ok (a, rest) → Takes S p ts a rest
  pub stops : (ts e : List Tok) → p ts ≡ Err e → Stops S p ts e
  pub reads : (front us : List Tok) (a : A) → S front a → starts c us ≡ false → p (front ++ us) ≡ Ok (a, us)
  pub some : Begins S []

-- the first phrase, or the second where no token of g comes first
abbrev pub OrElse : {Tok A : Type 0} → (Tok → Bool) → (List Tok → A → Type 0) → (List Tok → A → Type 0) → List Tok → A → Type 0
OrElse g S T ts a = S ts a ⊎ (T ts a × (starts g ts ≡ false))

-- what was read is spelled by the tokens used, and is over before those that follow
pub record LastTakes {Tok A : Type 0} (open' : A → Bool → List Tok → Bool) (S : List Tok → A → Type 0) (ended : Bool) (ts : List Tok) (a : A) (rest : List Tok) : Type 0 where
  pub front : List Tok
  pub whole : ts ≡ front ++ rest
  pub spelled : S front a
  pub over : open' a ended rest ≡ false

-- the fault stays, whatever follows its token, and whether or not the input has ended
pub record LastStops {Tok A : Type 0} (S : List Tok → A → Type 0) (p : Bool → List Tok → Read Tok A) (ts e : List Tok) : Type 0 where
  pub front : List Tok
  pub whole : ts ≡ front ++ e
  pub begins : Begins S front
  pub first : (ended : Bool) (us : List Tok) → e ≢ [] → next us ≡ next e → p ended (front ++ us) ≡ Err us

-- p reads the phrase S, which isn't over where open' says so of what follows and of whether the input has ended
pub record ReadsLast {Tok A : Type 0} (open' : A → Bool → List Tok → Bool) (S : List Tok → A → Type 0) (p : Bool → List Tok → Read Tok A) : Type 0 where
  pub takes : (ended : Bool) (ts rest : List Tok) (a : A) → p ended ts ≡ Ok (a, rest) → LastTakes open' S ended ts a rest
  pub stops : (ended : Bool) (ts e : List Tok) → p ended ts ≡ Err e → LastStops S p ts e
  pub reads : (ended : Bool) (front us : List Tok) (a : A) → S front a → open' a ended us ≡ false → p ended (front ++ us) ≡ Ok (a, us)
  pub some : Begins S []

-- the tokens before the fault can be made whole, and no phrase begins with its token too
pub record FaultAt {Tok A : Type 0} (S : List Tok → A → Type 0) (ts e : List Tok) : Type 0 where
  pub front : List Tok
  pub whole : ts ≡ front ++ e
  pub begins : Begins S front
  pub first : (t : Tok) (rest : List Tok) → e ≡ t ∷ rest → Begins S (front ++ t ∷ []) → ⊥
