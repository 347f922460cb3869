-- What may stand between tokens.
use Rattle.std.specs.Prelude.{◌≡◌, ◌==◌, ◌++◌, ℕ, Bool, true, not, List, [], ◌∷◌}
use Rattle.std.specs.List.{AllPass}
use Rattle.bidel_lex.specs.Classes.{is_space}

-- a comment goes on up to a line feed
abbrev pub is_inner : ℕ → Bool
is_inner b = not (b == 10)

-- white space and comments, each with the line feed that ends it
pub data Blanks : List ℕ → Type 0 where
  nothing : Blanks []
  space : (b : ℕ) (rest : List ℕ) → is_space b ≡ true → Blanks rest → Blanks (b ∷ rest)
  comment : (inside rest : List ℕ) → AllPass is_inner inside → Blanks rest → Blanks (45 ∷ 45 ∷ (inside ++ 10 ∷ rest))

-- the same, where the end of the input may end a last comment
pub data EndBlanks (bytes : List ℕ) : Type 0 where
  finished : Blanks bytes → EndBlanks bytes
  last_comment : (gap inside : List ℕ) → Blanks gap → AllPass is_inner inside → bytes ≡ gap ++ 45 ∷ 45 ∷ inside → EndBlanks bytes
