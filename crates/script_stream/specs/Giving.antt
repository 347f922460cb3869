-- What an input gives.
use Rattle.std.specs.Prelude.{◌≡◌, ◌<◌, ◌++◌, ◌∷◌, ℕ, Bool, List, [], true, false}
use Rattle.expr_lang.specs.Operations.{text_limit}
use Rattle.bidel_lex.specs.declared.tokens.Lexed.TheVariants as lexed
use Rattle.bidel_expr.specs.Lexemes.{Lexeme}
use Rattle.statements.specs.Texts.{TextsWithin}
use Rattle.statements.specs.Views.{StatementView, statement_view}
use Rattle.bidel_parser.specs.Parsing.{IsFront}
use Rattle.bidel_script.specs.Places.{place_of}
use Rattle.bidel_script.specs.Script.{Comes, Over, Fault, Long, Open}
use Rattle.script_stream.specs.declared.input.Input.{Input}
use Rattle.script_stream.specs.declared.input.Next.{Next}
use Rattle.script_stream.specs.declared.input.Next.TheVariants as next
use Rattle.script_stream.specs.Holding.{Holds, place_in}

-- the grammar spells the statement
abbrev pub IsWritten : StatementView → Type 0
IsWritten statement = (over : Bool) × (ts : List Lexeme) × (used : ℕ) × IsFront over ts statement used

-- the next statement, which the bytes fix, and whose texts are within the limit of texts
pub record GivesStatement (fed : List ℕ) (given : List StatementView) (old new : Input) (statement : StatementView) : Type 0 where
  pub holds : Holds fed (given ++ statement ∷ []) new
  pub written : IsWritten statement
  pub texts : TextsWithin text_limit statement
  pub on : place_in old < place_in new

-- what stands behind all statements that the bytes which were fed fix
abbrev pub Stands : List ℕ → List StatementView → Input → Next → Type 0
Stands fed given s (next.Statement statement) = ⊥
Stands fed given s next.More = Comes fed false given Open × (s.tail.last ≡ lexed.More) × (s.ended ≡ false)
Stands fed given s next.End = Comes fed true given Over × (s.ended ≡ true)
Stands fed given s (next.Fault line column) = (at : ℕ) × Comes fed s.ended given (Fault at) × (place_of fed at ≡ record { line = line; column = column })
Stands fed given s next.Long = Comes fed s.ended given Long

-- what comes of the bytes that were fed and of the statements that were given: the next one, or what stands behind all that the bytes fix
abbrev pub Gives : List ℕ → List StatementView → Input → Input → Next → Type 0
Gives fed given old new (next.Statement statement) = GivesStatement fed given old new (statement_view statement)
Gives fed given old new n = (new ≡ old) × Stands fed given old n
