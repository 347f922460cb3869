-- The limit on the bytes of a statement.
use Rattle.std.specs.Prelude.{◌≡◌, ◌≤◌, ◌+◌, ◌-◌, ◌||◌, ℕ, Bool, true, false, nat_lt, List, drop, length, slice_get, codes, if◌then◌else◌}
use Rattle.std.specs.Option.{option_map_or}
use Rattle.phrases.specs.Reading.{starts, is, or}
use Rattle.bidel_lex.specs.declared.tokens.Token.{Token}
use Rattle.bidel_expr.specs.Lexemes.{Lexeme, keyword, lexemes}
use Rattle.statements.specs.Views.{StatementView, CreateVersion}
use Rattle.bidel_parser.specs.Parsing.{IsFront, NoFront, FirstFault}
use Rattle.bidel_script.specs.declared.tokens.Tail.{Tail}
use Rattle.bidel_script.specs.Tails.{begin_of, known_end}

-- the greatest number of bytes of a statement, from its first byte to its last semicolon
abbrev pub statement_limit : ℕ
statement_limit = 65536

-- the bytes from one place up to another are too many
abbrev pub is_long : ℕ → ℕ → Bool
is_long from upto = nat_lt (from + statement_limit) upto

-- the words that begin operators and statements
abbrev pub begins_shared : Lexeme → Bool
begins_shared = or (is (keyword (codes "create"))) (is (keyword (codes "drop")))

-- the place of the token that shows whether an operator begins: the first, or the second behind CREATE and DROP
abbrev pub deciding : List ℕ → List Token → ℕ
deciding bytes tokens = if starts begins_shared (lexemes bytes tokens) then 1 else 0

-- the end of the last one of so many tokens
abbrev pub end_of : List Token → ℕ → ℕ
end_of tokens used = option_map_or (λ (token : Token). token.end) (slice_get tokens (used - 1)) 0

-- what follows a CREATE SCHEMA VERSION counts as a statement up to where it is known whether an operator begins
abbrev pub is_long_behind : List ℕ → Tail → List Token → StatementView → Bool
is_long_behind bytes tail rest (CreateVersion name origin operators) = is_long (begin_of tail rest) (known_end bytes tail rest (deciding bytes rest))
is_long_behind bytes tail rest _ = false

-- a whole statement of so many tokens, or what follows it, has too many bytes
abbrev pub is_long_front : List ℕ → Tail → List Token → StatementView → ℕ → Bool
is_long_front bytes tail tokens statement used =
    is_long (begin_of tail tokens) (end_of tokens used) || is_long_behind bytes tail (drop used tokens) statement

-- a statement with its first fault at a token has too many bytes up to where the fault is found
abbrev pub is_long_fault : List ℕ → Tail → List Token → ℕ → Bool
is_long_fault bytes tail tokens at = is_long (begin_of tail tokens) (known_end bytes tail tokens at)

-- the statement at the front of the tokens has too many bytes, as far as it is known
pub data IsLong (bytes : List ℕ) (tail : Tail) (tokens : List Token) : Type 0 where
  whole : (statement : StatementView) (used : ℕ) → IsFront true (lexemes bytes tokens) statement used
      → is_long_front bytes tail tokens statement used ≡ true → IsLong bytes tail tokens
  part : (at : ℕ) → at ≤ length tokens → NoFront true (lexemes bytes tokens) → FirstFault (lexemes bytes tokens) at
      → is_long_fault bytes tail tokens at ≡ true → IsLong bytes tail tokens
