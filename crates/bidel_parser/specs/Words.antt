-- Reserved words, signs, choices between words, and parts that may be left out.
use Rattle.std.specs.Prelude.{ℕ, List, [], ◌∷◌, Bool, true, false, Option, Some, None, codes, map, nat_le, if◌then◌else◌, ◌^◌, ◌-◌}
use Prim.Native.String.{String}
use Rattle.std.specs.Borrow.{Bor}
use Rattle.phrases.specs.Phrases.{Nothing, Seq, OneOf, Either}
use Rattle.phrases.specs.Reading.{is}
use Rattle.bidel_expr.specs.Lexemes.{Lexeme, number, keyword, sign, name_of}

-- ---- the grammar

-- this reserved word
abbrev pub Word : String → List Lexeme → Unit {0} → Type 0
Word w = OneOf (keyword (codes w))

-- this sign
abbrev pub Sign : String → List Lexeme → Unit {0} → Type 0
Sign s = OneOf (sign (codes s))

-- a name
abbrev pub Name : List Lexeme → List ℕ → Type 0
Name = OneOf name_of

-- what a reserved word stands for, among some of them
abbrev pub choice_of : {K : Type 0} → List (List ℕ × K) → Lexeme → Option K
choice_of [] t = None
choice_of (c ∷ cs) t = if is (keyword c.0) t then Some c.1 else choice_of cs t

-- a table of the code, by the bytes of its words
abbrev pub words_of : {K : Type 0} → List (Bor (List ℕ) × K) → List (List ℕ × K)
words_of choices = map (λ choice. (choice.0.now, choice.1)) choices

-- one of these reserved words, and what may stand behind it
abbrev pub Choice : {K A : Type 0} → List (List ℕ × K) → (K → List Lexeme → A → Type 0) → List Lexeme → A → Type 0
Choice cs S = Seq (OneOf (choice_of cs)) S

-- whether S stands there, which may be left out
abbrev pub Flag : {A : Type 0} → (List Lexeme → A → Type 0) → List Lexeme → Bool → Type 0
Flag S = Either (Seq S λ _. Nothing true) (Nothing false)

-- the number of a session
abbrev pub session_of : Lexeme → Option ℕ
session_of (number n) = if nat_le n 255 then Some n else None
session_of _ = None

-- the number of a watch
abbrev pub watch_of : Lexeme → Option ℕ
watch_of (number n) = if nat_le n (2 ^ 63 - 1) then Some n else None
watch_of _ = None

-- ---- reading

-- whether a token is this reserved word
abbrev pub is_word : String → Lexeme → Bool
is_word w = is (keyword (codes w))
