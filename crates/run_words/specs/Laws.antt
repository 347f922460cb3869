-- Words say one thing.
use Rattle.std.specs.Prelude.{◌≡◌, ℕ, List}
use Rattle.run_words.specs.Words.{Asked, Says}

abbrev pub SayOneThing : Type 0
SayOneThing = (words : List (List ℕ)) (a b : Asked) → Says words a → Says words b → a ≡ b
