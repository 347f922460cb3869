-- What holds of each statement of the workload.
use Rattle.std.specs.Prelude.{◌<◌, ◌^◌, ℕ, true, List, length}
use Rattle.std.specs.List.{All}
use Rattle.expr_lang.specs.Operations.{text_limit}
use Rattle.bidel_expr.specs.Lexemes.{Lexeme}
use Rattle.bidel_parser.specs.Parsing.{IsFront}
use Rattle.statements.specs.Views.{StatementView}
use Rattle.statements.specs.Texts.{TextsWithin}
use Rattle.script_generator.specs.Generated.{generated_script}

-- the grammar spells the statement: it stands at the front of some tokens, with none behind it
abbrev pub IsSpelledStatement : StatementView → Type 0
IsSpelledStatement s = (ts : List Lexeme) × IsFront true ts s (length ts)

-- what a parsed statement has: its texts are short enough for a database, and the grammar spells it
pub record IsLikeParsed (s : StatementView) : Type 0 where
  pub short : TextsWithin text_limit s
  pub spelled : IsSpelledStatement s

-- so is each statement of the script, where the numbers fit 32 bits
abbrev pub AreLikeParsed : Type 0
AreLikeParsed = (n : ℕ) → n < 2 ^ 32 → All IsLikeParsed (generated_script n)
