-- Reading reserved words, signs, choices between words, and parts that may be left out.
use Rattle.std.specs.Prelude.{ℕ, List, Bool, true, false, codes}
use Prim.Native.String.{String}
use Rattle.phrases.specs.Reading.{Read, and_then, one_at, done, either}
use Rattle.bidel_expr.specs.Lexemes.{Lexeme, keyword, sign}
use Rattle.bidel_parser.specs.Words.{choice_of}

-- this reserved word
abbrev pub word_at : String → List Lexeme → Read Lexeme (Unit {0})
word_at w = one_at (keyword (codes w))

-- this sign
abbrev pub sign_at : String → List Lexeme → Read Lexeme (Unit {0})
sign_at s = one_at (sign (codes s))

-- one of these reserved words, and what p reads behind it
abbrev pub choice_at : {K A : Type 0} → List (List ℕ × K) → (K → List Lexeme → Read Lexeme A) → List Lexeme → Read Lexeme A
choice_at cs p = and_then (one_at (choice_of cs)) p

-- whether a token of g comes, where p is then read
abbrev pub flag_at : {A : Type 0} → (Lexeme → Bool) → (List Lexeme → Read Lexeme A) → List Lexeme → Read Lexeme Bool
flag_at g p = either g (and_then p λ _. done true) (done false)
