-- Names, literals and lists of them, and reading them.
use Rattle.std.specs.Prelude.{◌∷◌, [], ℕ, List, Bool, true, Option, codes, bytes_eq}
use Rattle.par_base.specs.declared.value.Value.{Value}
use Rattle.phrases.specs.Phrases.{OneOf, Either, Behind, Enclosed}
use Rattle.phrases.specs.Reading.{Read, one_at, done, either, is, behind_at, rest_at, separated_at, enclosed_at, with_front}
use Rattle.bidel_expr.specs.Lexemes.{Lexeme, word, number, reference, «text», symbol, keyword, sign, name_of, negative_of, unsigned_of}

-- ---- the signs

abbrev pub comma_of : Lexeme → Option (Unit {0})
comma_of = sign (codes ",")

abbrev pub open_of : Lexeme → Option (Unit {0})
open_of = sign (codes "(")

abbrev pub close_of : Lexeme → Option (Unit {0})
close_of = sign (codes ")")

abbrev pub semicolon_of : Lexeme → Option (Unit {0})
semicolon_of = sign (codes ";")

abbrev pub dot_of : Lexeme → Option (Unit {0})
dot_of = sign (codes ".")

abbrev pub minus_of : Lexeme → Option (Unit {0})
minus_of = sign (codes "-")

abbrev pub star_of : Lexeme → Option (Unit {0})
star_of = sign (codes "*")

abbrev pub null_of : Lexeme → Option (Unit {0})
null_of = keyword (codes "null")

-- ---- the grammar

-- names = "(" [ name { "," name } ] ")"
abbrev pub Names : List Lexeme → List (List ℕ) → Type 0
Names = Enclosed open_of comma_of close_of (OneOf name_of)

-- literal = NULL | [ "-" ] number | text | reference
abbrev pub Literal : List Lexeme → Value → Type 0
Literal = Either (Behind minus_of (OneOf negative_of)) (OneOf unsigned_of)

-- tuple = "(" [ literal { "," literal } ] ")"
abbrev pub Tuple : List Lexeme → List Value → Type 0
Tuple = Enclosed open_of comma_of close_of Literal

-- ---- reading

abbrev pub name_at : List Lexeme → Read Lexeme (List ℕ)
name_at = one_at name_of

abbrev pub names_at : List Lexeme → Read Lexeme (List (List ℕ))
names_at = enclosed_at (is name_of) open_of comma_of close_of name_at

abbrev pub literal_at : List Lexeme → Read Lexeme Value
literal_at = either (is minus_of) (behind_at minus_of (one_at negative_of)) (one_at unsigned_of)

-- whether a literal may begin so
abbrev pub begins_literal : Lexeme → Bool
begins_literal (word w) = bytes_eq (codes "null") w
begins_literal (number n) = true
begins_literal (reference n) = true
begins_literal («text» bytes) = true
begins_literal (symbol s) = bytes_eq (codes "-") s

abbrev pub tuple_at : List Lexeme → Read Lexeme (List Value)
tuple_at = enclosed_at begins_literal open_of comma_of close_of literal_at

-- the items of a list behind the first one
abbrev pub further_at : {A : Type 0} → A → (List Lexeme → Read Lexeme A) → List Lexeme → Read Lexeme (List A)
further_at first item ts = with_front (first ∷ []) (rest_at (is comma_of) (behind_at comma_of item) ts)

-- items with commas, and none where no token of g comes
abbrev pub listed_at : {A : Type 0} → (Lexeme → Bool) → (List Lexeme → Read Lexeme A) → List Lexeme → Read Lexeme (List A)
listed_at g item = either g (separated_at comma_of item) (done [])
