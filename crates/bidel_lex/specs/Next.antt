-- The next token from a place on.
use Rattle.std.specs.Prelude.{◌≡◌, ◌==◌, ◌+◌, ◌-◌, ◌<◌, ◌≤◌, ℕ, Bool, true, false, List, [], ◌∷◌, drop, if◌then◌else◌, Option, None, Some}
use Rattle.bidel_lex.specs.Classes.{is_digit, is_lone_symbol, is_space, is_word_start}
use Rattle.bidel_lex.specs.Words.{number_step, reference_step, word_step}
use Rattle.bidel_lex.specs.Texts.{quote_step, text_step}
use Rattle.bidel_lex.specs.Symbols.{bar_step, greater_step, less_step, minus_step}
use Rattle.bidel_lex.specs.declared.texts.Wanted.TheVariants.{Character}
use Rattle.bidel_lex.specs.declared.tokens.TokenKind.{TokenKind}
use Rattle.bidel_lex.specs.declared.tokens.TokenKind.TheVariants as kind
use Rattle.bidel_lex.specs.declared.tokens.Lexed.{Lexed}
use Rattle.bidel_lex.specs.declared.tokens.Lexed.TheVariants as lexed
use Rattle.bidel_lex.specs.declared.unfinished.Unfinished.{Unfinished}
use Rattle.bidel_lex.specs.declared.unfinished.Unfinished.TheVariants.{Word, Number, Hash, Reference, Text, Quote, Minus, Less, Greater, Bar}
use Rattle.bidel_lex.specs.declared.unfinished.Step.{Step}
use Rattle.bidel_lex.specs.declared.unfinished.Step.TheVariants as step
use Rattle.bidel_lex.specs.declared.next.Part.{Part}
use Rattle.bidel_lex.specs.declared.next.Part.TheVariants.{Blank, Comment, Open}
use Rattle.bidel_lex.specs.declared.next.First.{First}
use Rattle.bidel_lex.specs.declared.next.First.TheVariants.{Space, Alone, Opens, Fault}
use Rattle.bidel_lex.specs.declared.next.Turn.{Turn}
use Rattle.bidel_lex.specs.declared.next.Turn.TheVariants.{Go, Stop}

-- what a byte is to the unfinished token before it
unfoldable pub step_of : Unfinished → ℕ → Step
step_of (Word size) b = word_step size b
step_of (Number value) b = number_step value b
step_of Hash b = reference_step 0 b
step_of (Reference value) b = reference_step value b
step_of (Text wanted) b = text_step wanted b
step_of Quote b = quote_step b
step_of Minus b = minus_step b
step_of Less b = less_step b
step_of Greater b = greater_step b
step_of Bar b = bar_step b

-- the kind of a token of which nothing more comes; `#` and `|` alone and a text without its closing quote are none
unfoldable pub kind_of : Unfinished → Option TokenKind
kind_of (Word size) = Some kind.Word
kind_of (Number value) = Some kind.Number
kind_of Hash = None
kind_of (Reference value) = Some kind.Reference
kind_of (Text wanted) = None
kind_of Quote = Some kind.Text
kind_of Minus = Some kind.Symbol
kind_of Less = Some kind.Symbol
kind_of Greater = Some kind.Symbol
kind_of Bar = None

-- a token that begins with a byte of no larger class
abbrev pub opened_by : ℕ → First
opened_by b =
    if b == 35 then Opens Hash
    else (if b == 39 then Opens (Text Character)
    else (if b == 45 then Opens Minus
    else (if b == 60 then Opens Less
    else (if b == 62 then Opens Greater
    else (if b == 124 then Opens Bar
    else Fault)))))

-- what a byte is where no token is begun
unfoldable pub first_of : ℕ → First
first_of b =
    if is_space b then Space
    else (if is_lone_symbol b then Alone
    else (if is_word_start b then Opens (Word 1)
    else (if is_digit b then Opens (Number (b - 48))
    else opened_by b)))

-- a token from its start up to its end
abbrev pub found : TokenKind → ℕ → ℕ → Lexed
found a start end = lexed.Token (record { kind = a; start = start; end = end })

-- a byte where no token is begun: white space, a token or its first byte, or the fault
abbrev pub first_turn : ℕ → First → Turn
first_turn at Space = Go Blank
first_turn at Alone = Stop (found kind.Symbol at (at + 1))
first_turn at (Opens token) = Go (Open at token)
first_turn at Fault = Stop (lexed.BadToken at)

-- a token of a kind that ends at a place, or a fault there where it is of none
abbrev pub over_as : Option TokenKind → ℕ → ℕ → Lexed
over_as (Some a) start at = found a start at
over_as None start at = lexed.BadToken at

-- an unfinished token of which nothing more comes: it ends here, or the fault is here
abbrev pub over_at : ℕ → Unfinished → ℕ → Lexed
over_at start token at = over_as (kind_of token) start at

-- a byte after an unfinished token
abbrev pub step_turn : ℕ → Unfinished → ℕ → Step → Turn
step_turn start token at (step.Longer next) = Go (Open start next)
step_turn start token at step.Last = Stop (found kind.Symbol start (at + 1))
step_turn start token at step.Comment = Go Comment
step_turn start token at step.Over = Stop (over_at start token at)
step_turn start token at step.Fault = Stop (lexed.BadToken at)

-- what the byte at a place makes of those before it; a line feed ends a comment
unfoldable pub turn_at : Part → ℕ → ℕ → Turn
turn_at Blank at b = first_turn at (first_of b)
turn_at Comment at b = Go (if b == 10 then Blank else Comment)
turn_at (Open start token) at b = step_turn start token at (step_of token b)

-- the answer at the end of the input
abbrev pub answer_at_end : Part → ℕ → Lexed
answer_at_end Blank at = lexed.End
answer_at_end Comment at = lexed.End
answer_at_end (Open start token) at = over_at start token at

-- reading goes on after a byte, or stops
abbrev pub after_turn : Turn → (Part → Lexed) → Lexed
after_turn (Go part) next = next part
after_turn (Stop answer) next = answer

-- the answer where the bytes before a place come to a part, and these are left
unfoldable pub lexed_at : Bool → Part → ℕ → List ℕ → Lexed
lexed_at ended part at [] = if ended then answer_at_end part at else lexed.More
lexed_at ended part at (b ∷ bytes) = after_turn (turn_at part at b) (λ next. lexed_at ended next (at + 1) bytes)

-- what is found from a place of the bytes on, where `ended` says that no bytes come after these
unfoldable pub next_of : List ℕ → ℕ → Bool → Lexed
next_of bytes from ended = lexed_at ended Blank from (drop from bytes)

-- where an answer lies in so many bytes, from the place on: a token isn't empty; a fault after the last byte
-- and `End` come only at the end of the input, and `More` only before it
abbrev pub IsWithin : ℕ → ℕ → Bool → Lexed → Type 0
IsWithin size from ended (lexed.Token token) = (from ≤ token.start) × (token.start < token.end) × (token.end ≤ size)
IsWithin size from ended (lexed.BadToken at) = (from ≤ at) × (at ≤ size) × (ended ≡ false → at < size)
IsWithin size from ended lexed.More = ended ≡ false
IsWithin size from ended lexed.End = ended ≡ true
