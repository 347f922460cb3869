-- Which statements the bytes of a script spell, and where they stop being one.
use Rattle.std.specs.Prelude.{◌≡◌, ◌≤◌, ◌<◌, ◌⊎◌, ◌+◌, ℕ, Bool, true, false, List, [], ◌∷◌, ◌++◌, drop, length}
use Rattle.phrases.specs.Phrases.{Begins}
use Rattle.bidel_lex.specs.declared.tokens.Token.{Token}
use Rattle.bidel_lex.specs.declared.tokens.Lexed.TheVariants.{More, End, BadToken}
use Rattle.bidel_lex.specs.Tokens.{HasTokens}
use Rattle.bidel_expr.specs.Lexemes.{lexemes}
use Rattle.statements.specs.Views.{StatementView}
use Rattle.bidel_parser.specs.Statements.{Script}
use Rattle.bidel_parser.specs.Parsing.{IsFront, NoFront, FirstFault, start_of}
use Rattle.bidel_script.specs.declared.tokens.Tail.{Tail}
use Rattle.bidel_script.specs.Tails.{AreAll, is_over, earlier}
use Rattle.bidel_script.specs.Lengths.{IsLong}

-- the bytes are tokens to their end, and the tokens are these statements
pub record IsScript (bytes : List ℕ) (statements : List StatementView) : Type 0 where
  pub tokens : List Token
  pub found : HasTokens true bytes 0 tokens End
  pub spelled : Script (lexemes bytes tokens) statements

-- the first tokens, so many, are these statements, each of which is known to end before what follows it, and none of which is too long
abbrev pub Leads : List ℕ → Tail → List Token → List StatementView → ℕ → Type 0
Leads bytes tail tokens [] used = used ≡ 0
Leads bytes tail tokens (statement ∷ statements) used =
    (first : ℕ) × (more : ℕ) × (used ≡ first + more) × IsFront (is_over tail.last) (lexemes bytes tokens) statement first × (¬ IsLong bytes tail tokens)
    × Leads bytes tail (drop first tokens) statements more

-- what stands behind the statements that are known to end: nothing, a fault at a byte, a statement that is too long, or one that is still open
pub data Outcome : Type 0 where
  Over : Outcome
  Fault : ℕ → Outcome
  Long : Outcome
  Open : Outcome

-- the first fault stands at a token that no script has after those before it, behind the last token where no more come, or at the
-- first byte that continues no token, where that comes first
pub record IsFaulty (bytes : List ℕ) (tail : Tail) (tokens : List Token) (used at : ℕ) : Type 0 where
  pub none : NoFront (is_over tail.last) (lexemes bytes (drop used tokens))
  pub short : ¬ IsLong bytes tail (drop used tokens)
  pub token : ℕ
  pub within : token ≤ length tokens
  pub first : FirstFault (lexemes bytes tokens) token
  pub seen : (token < length tokens) ⊎ ((is_over tail.last ≡ true) × ((used < length tokens) ⊎ ((bad : ℕ) × (tail.last ≡ BadToken bad))))
  pub place : at ≡ earlier (start_of (length bytes) (drop token tokens)) tail.last

-- no statement is known to end, and a script may go on from here
pub record IsOpen (bytes : List ℕ) (tail : Tail) (tokens : List Token) (used : ℕ) : Type 0 where
  pub more : tail.last ≡ More
  pub none : NoFront false (lexemes bytes (drop used tokens))
  pub begins : Begins Script (lexemes bytes tokens)
  pub short : ¬ IsLong bytes tail (drop used tokens)

-- what stands behind so many of all tokens
abbrev pub StandsBehind : List ℕ → Tail → List Token → ℕ → Outcome → Type 0
StandsBehind bytes tail tokens used Over = (drop used tokens ≡ []) × (tail.last ≡ End)
StandsBehind bytes tail tokens used (Fault at) = IsFaulty bytes tail tokens used at
StandsBehind bytes tail tokens used Long = IsLong bytes tail (drop used tokens)
StandsBehind bytes tail tokens used Open = IsOpen bytes tail tokens used

-- the statements whose end these bytes fix, one after the other, and what stands behind them; `ended` says that the input ends there
pub record Comes (bytes : List ℕ) (ended : Bool) (statements : List StatementView) (outcome : Outcome) : Type 0 where
  pub tokens : List Token
  pub tail : Tail
  pub all : AreAll bytes ended tokens tail
  pub used : ℕ
  pub leads : Leads bytes tail tokens statements used
  pub behind : StandsBehind bytes tail tokens used outcome

-- bytes are the script of at most one list of statements
abbrev pub OneScript : Type 0
OneScript = (bytes : List ℕ) (one other : List StatementView) → IsScript bytes one → IsScript bytes other → one ≡ other

-- bytes with no more than whole statements are their script
abbrev pub OverIsScript : Type 0
OverIsScript = (bytes : List ℕ) (statements : List StatementView) → Comes bytes true statements Over → IsScript bytes statements

-- bytes with anything behind the statements that is no limit's are no script
abbrev pub FaultIsNoScript : Type 0
FaultIsNoScript = (bytes : List ℕ) (before statements : List StatementView) (at : ℕ) → Comes bytes true before (Fault at) → IsScript bytes statements → ⊥

-- some statements and one outcome come of any bytes, and no others
abbrev pub OneComes : Type 0
OneComes = (bytes : List ℕ) (ended : Bool) → (statements : List StatementView) × (outcome : Outcome) × Comes bytes ended statements outcome
    × ((others : List StatementView) (other : Outcome) → Comes bytes ended others other → (others ≡ statements) × (other ≡ outcome))

-- the statements that some first bytes fix, which may go on, are the first of those that all bytes fix
abbrev pub FrontsComeFirst : Type 0
FrontsComeFirst = (front more : List ℕ) (ended : Bool) (before all : List StatementView) (one other : Outcome) → Comes front false before one
    → Comes (front ++ more) ended all other → (rest : List StatementView) × (all ≡ before ++ rest)

-- a fault of some first bytes, which may go on, is the fault of all
abbrev pub FaultsStay : Type 0
FaultsStay = (front more : List ℕ) (ended : Bool) (before : List StatementView) (at : ℕ) → Comes front false before (Fault at) → Comes (front ++ more) ended before (Fault at)

-- what is too long in some first bytes, which may go on, is too long in all, behind the same statements
abbrev pub LongStays : Type 0
LongStays = (front more : List ℕ) (ended : Bool) (before : List StatementView) → Comes front false before Long → Comes (front ++ more) ended before Long
