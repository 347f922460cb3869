-- Bytes behind others: each place of them is so many bytes later in all, and the statements, white space and comments before them may go.
use Rattle.std.specs.Prelude.{◌≡◌, ◌++◌, ◌+◌, ℕ, Bool, false, List, take, drop}
use Rattle.bidel_lex.specs.declared.tokens.Token.{Token}
use Rattle.bidel_lex.specs.declared.tokens.Lexed.TheVariants.{More}
use Rattle.statements.specs.Views.{StatementView}
use Rattle.bidel_script.specs.declared.tokens.Tail.{Tail}
use Rattle.bidel_script.specs.Tails.{AreAll, first_byte, last_end}
use Rattle.bidel_script.specs.Script.{Leads, Comes, Outcome, Over, Fault, Long, Open}

-- an outcome, with its place so many bytes later
abbrev pub moved : ℕ → Outcome → Outcome
moved k Over = Over
moved k (Fault at) = Fault (k + at)
moved k Long = Long
moved k Open = Open

-- the end of so many first tokens
abbrev pub end_behind : List Token → ℕ → ℕ
end_behind tokens used = last_end 0 (take used tokens)

-- behind statements whose end some first bytes fix, which may go on, the other bytes say what they say by themselves
abbrev pub UsedBytesGo : Type 0
UsedBytesGo = (front more : List ℕ) (tokens : List Token) (tail : Tail) (before : List StatementView) (used : ℕ)
    → AreAll front false tokens tail → tail.last ≡ More → Leads front tail tokens before used
    → (ended : Bool) (rest : List StatementView) (outcome : Outcome) → Comes (drop (end_behind tokens used) front ++ more) ended rest outcome
    → Comes (front ++ more) ended (before ++ rest) (moved (end_behind tokens used) outcome)

-- what comes of bytes before which a comment is open or isn't: that of those from the first one on that is neither white space nor of a comment
abbrev pub ComesBehind : Bool → List ℕ → Bool → List StatementView → Outcome → Type 0
ComesBehind inside bytes ended statements outcome =
    (own : Outcome) × (outcome ≡ moved (first_byte inside 0 bytes) own) × Comes (drop (first_byte inside 0 bytes) bytes) ended statements own

-- white space and comments before the first statement, whose end may come later, change nothing but places
abbrev pub BlanksGo : Type 0
BlanksGo = (bytes : List ℕ) (ended : Bool) (statements : List StatementView) (outcome : Outcome) → ComesBehind false bytes ended statements outcome → Comes bytes ended statements outcome
