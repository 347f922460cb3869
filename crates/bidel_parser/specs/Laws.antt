-- What holds of statements, scripts and operators, whatever the tokens are.
use Rattle.std.specs.Prelude.{◌≡◌, [], List}
use Rattle.phrases.specs.Fronts as fronts
use Rattle.bidel_expr.specs.Lexemes.{Lexeme}
use Rattle.statements.specs.Views.{OpView}
use Rattle.bidel_parser.specs.Operators.{Operator}
use Rattle.bidel_parser.specs.Statements.{IsStatement, Script, stays_open}

-- two statements at the front whose end is fixed are one
abbrev pub OneFront : Type 0
OneFront = fronts.HasOneFront stays_open IsStatement

-- a statement whose end is fixed, whatever comes, is the front of what comes of the tokens
abbrev pub FrontStays : Type 0
FrontStays = fronts.StaysFront stays_open IsStatement

-- a script with a front is that statement, and a script of what follows
abbrev pub FrontLeads : Type 0
FrontLeads = fronts.FollowsFront stays_open IsStatement

-- a front and a script of what follows are a script
abbrev pub FrontPrecedes : Type 0
FrontPrecedes = fronts.PrecedesScript stays_open IsStatement

-- tokens without a front are a script only where there are none
abbrev pub NoScript : Type 0
NoScript = fronts.HasNoScript stays_open IsStatement

-- no tokens are the script of no statements, and of no others
abbrev pub EmptyScript : Type 0
EmptyScript = Script [] [] × fronts.IsEmptyScript IsStatement

-- a fault at a token stays as tokens come
abbrev pub FaultStays : Type 0
FaultStays = fronts.FaultStays IsStatement

-- the first fault behind a front is the first fault of all
abbrev pub FaultFollows : Type 0
FaultFollows = fronts.FaultFollows stays_open IsStatement

-- tokens that together spell an operator spell no other
abbrev pub OneOperator : Type 0
OneOperator = (ts : List Lexeme) (o other : OpView) → Operator ts o → Operator ts other → o ≡ other
