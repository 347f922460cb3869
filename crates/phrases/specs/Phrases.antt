-- Phrases: which tokens spell which value, for tokens of any type.
use Rattle.std.specs.Prelude.{◌≡◌, ◌++◌, ◌∷◌, ◌⊎◌, List, [], Option, Some, None}

-- which tokens spell which value
abbrev pub Phrase : Type 0 → Type 0 → Type 1
Phrase Tok A = List Tok → A → Type 0

-- nothing, with this value
abbrev pub Nothing : {Tok A : Type 0} → A → List Tok → A → Type 0
Nothing a ts b = (ts ≡ []) × (a ≡ b)

-- a phrase and then another, which may depend on the value of the first
pub record Seq {Tok A B : Type 0} (S : List Tok → A → Type 0) (T : A → List Tok → B → Type 0) (ts : List Tok) (b : B) : Type 0 where
  pub value : A
  pub left : List Tok
  pub right : List Tok
  pub whole : ts ≡ left ++ right
  pub first : S left value
  pub second : T value right b

-- one token, which f says to be a
abbrev pub OneOf : {Tok A : Type 0} → (Tok → Option A) → List Tok → A → Type 0
OneOf {Tok} f ts a = (t : Tok) × (ts ≡ t ∷ []) × (f t ≡ Some a)

-- one phrase or the other
abbrev pub Either : {Tok A : Type 0} → (List Tok → A → Type 0) → (List Tok → A → Type 0) → List Tok → A → Type 0
Either S T ts a = S ts a ⊎ T ts a

-- any number of phrases, one behind the other
abbrev pub Many : {Tok A : Type 0} → (List Tok → A → Type 0) → List Tok → List A → Type 0
Many S ts [] = ts ≡ []
Many {Tok} S ts (a ∷ as') = (us : List Tok) × (vs : List Tok) × (ts ≡ us ++ vs) × S us a × Many S vs as'

-- some tokens after these make the phrase whole
pub record Begins {Tok A : Type 0} (S : List Tok → A → Type 0) (front : List Tok) : Type 0 where
  pub more : List Tok
  pub value : A
  pub spelled : S (front ++ more) value

-- a token of f, and then S
abbrev pub Behind : {Tok X A : Type 0} → (Tok → Option X) → (List Tok → A → Type 0) → List Tok → A → Type 0
Behind f S = Seq (OneOf f) λ _. S

-- [ S ]
abbrev pub Optional : {Tok A : Type 0} → (List Tok → A → Type 0) → List Tok → Option A → Type 0
Optional S = Either (Seq S λ a. Nothing (Some a)) (Nothing None)

-- S { f S }, as a list with commas
abbrev pub Separated : {Tok X A : Type 0} → (Tok → Option X) → (List Tok → A → Type 0) → List Tok → List A → Type 0
Separated f S = Seq S λ a. Seq (Many (Behind f S)) λ as'. Nothing (a ∷ as')

-- open [ S { f S } ] close, as a list in parentheses
abbrev pub Enclosed : {Tok X Y Z A : Type 0} → (Tok → Option Y) → (Tok → Option X) → (Tok → Option Z) → (List Tok → A → Type 0) → List Tok → List A → Type 0
Enclosed open' f close S = Behind open' (Seq (Either (Separated f S) (Nothing [])) λ as'. Seq (OneOf close) λ _. Nothing as')
