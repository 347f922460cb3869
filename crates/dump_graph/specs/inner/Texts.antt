-- What the calls that read a text find.
use Rattle.std.specs.Prelude.{◌≡◌, ℕ, List, true, Option, Some, None}
use Rattle.bidel_lex.specs.declared.tokens.Token.{Token}
use Rattle.bidel_lex.specs.declared.tokens.Lexed.TheVariants as lexed
use Rattle.bidel_lex.specs.Tokens.{HasTokens}
use Rattle.bidel_expr.specs.Lexemes.{Lexeme}
use Rattle.bidel_parser.specs.Operators.{Operator}
use Rattle.bidel_parser.specs.Parsing.{NoOperator}
use Rattle.bidel_text.specs.OperatorText.{operator_text}
use Rattle.statements.specs.Views.{OpView}
use Rattle.dump_graph.specs.Texts.{IsSpelled}

-- the tokens of all the bytes, or that there are none
abbrev pub FindsTokens : List ℕ → Option (List Token) → Type 0
FindsTokens bytes (Some tokens) = HasTokens true bytes 0 tokens lexed.End
FindsTokens bytes None = (tokens : List Token) → HasTokens true bytes 0 tokens lexed.End → ⊥

-- the operator that the tokens spell, or that they spell none
abbrev pub FindsOperator : List Lexeme → Option OpView → Type 0
FindsOperator ts (Some o) = Operator ts o
FindsOperator ts None = NoOperator ts

-- it is the canonical text of an operator that the grammar spells
abbrev pub IsTextOf : List ℕ → OpView → Type 0
IsTextOf written o = IsSpelled o × (operator_text o ≡ written)

-- the one operator of which it is the text, or that there is none
abbrev pub ReadsText : List ℕ → Option OpView → Type 0
ReadsText written (Some o) = IsTextOf written o × ((other : OpView) → IsTextOf written other → other ≡ o)
ReadsText written None = (o : OpView) → IsTextOf written o → ⊥

-- the operator, where this is its canonical text
abbrev pub KeepsText : List ℕ → OpView → Option OpView → Type 0
KeepsText written o (Some k) = (k ≡ o) × (operator_text o ≡ written)
KeepsText written o None = operator_text o ≡ written → ⊥
