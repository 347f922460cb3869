-- What is found at the front of some tokens.
use Rattle.std.specs.Prelude.{ℕ, List}
use Rattle.bidel_lex.specs.declared.tokens.Token.{Token}
use Rattle.bidel_expr.specs.Lexemes.{lexemes}
use Rattle.statements.specs.Views.{statement_view}
use Rattle.bidel_parser.specs.Parsing.{IsFront}
use Rattle.bidel_script.specs.Tails.{is_over}
use Rattle.bidel_script.specs.Lengths.{IsLong}
use Rattle.bidel_script.specs.Script.{Outcome, Over, Fault, Long, Open, StandsBehind}
use Rattle.bidel_script.specs.declared.tokens.Tail.{Tail}
use Rattle.bidel_script.specs.Places as places
use Rattle.bidel_script.specs.declared.place.Place.{Place}
use Rattle.bidel_script.specs.declared.front.Stop.{Stop}
use Rattle.bidel_script.specs.declared.front.Stop.TheVariants as stop
use Rattle.bidel_script.specs.declared.front.Found.{Found}
use Rattle.bidel_script.specs.declared.front.Found.TheVariants as found

-- the outcome of which a stop tells
abbrev pub outcome_of : Stop → Outcome
outcome_of stop.Over = Over
outcome_of (stop.Fault at) = Fault at
outcome_of stop.Long = Long
outcome_of stop.Open = Open

-- what is found at the front of the tokens: a statement that is known to end and isn't too long, or what else stands there
abbrev pub Finds : List ℕ → Tail → List Token → Found → Type 0
Finds bytes tail tokens (found.Whole statement used) = IsFront (is_over tail.last) (lexemes bytes tokens) (statement_view statement) used × (¬ IsLong bytes tail tokens)
Finds bytes tail tokens (found.Stops stop) = StandsBehind bytes tail tokens 0 (outcome_of stop)

-- a place, as the definitions have it
abbrev pub place_view : Place → places.Place
place_view place = record { line = place.line; column = place.column }
