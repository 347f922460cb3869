-- What is read from a canonical text.
use Rattle.std.proofs.Common.{◌≡◌, ◌++◌, ◌∷◌, [], ℕ, List, true, false, Ok, Err, refl, ap, ◌∙◌, sym, append-nil, length, take, drop, length-drop, arith}
use Rattle.std.specs.Prelude.{Result}
use Rattle.std.proofs.lemmas.List.{length-map, take-append-drop}
use Rattle.par_base.specs.declared.fault.Fault.{Fault}
use Rattle.par_base.specs.declared.fault.Fault.TheVariants.{Refused, Memory}
use Rattle.bidel_lex.specs.declared.tokens.Token.{Token}
use Rattle.bidel_lex.specs.declared.tokens.Lexed.TheVariants as lexed
use Rattle.bidel_lex.proofs.ListedLaws.{listed}
use Rattle.bidel_expr.specs.Lexemes.{Lexeme, lexeme, lexemes}
use Rattle.statements.specs.declared.statement.OpText.{OpText}
use Rattle.bidel_parser.specs.declared.parsed.Parsed.{Parsed}
use Rattle.bidel_parser.specs.declared.parsed.Parsed.TheVariants.{Whole, More, Nothing}
use Rattle.bidel_parser.specs.declared.parsed.Syntax.{Syntax}
use Rattle.statements.specs.Views.{OpView, op_view, StatementView, statement_view, CreateVersion, DropVersion, Insert, Import, Update, Delete, Select, Materialize, Step, ShowLayout, Use, Session, Advise, Watch, Unwatch, Begin, Commit, Rollback}
use Rattle.bidel_parser.specs.Operators.{Operator}
use Rattle.bidel_parser.specs.Statements.{IsStatement, stays_open}
use Rattle.bidel_parser.specs.Parsing.{IsFront, Parses, ParsesOperator}
use Rattle.bidel_parser.proofs.WholeOperatorLaws.{one_operator}
use Rattle.bidel_parser.proofs.ScriptLaws.{one_front}
use Rattle.bidel_text.specs.OperatorText.{operator_text}
use Rattle.bidel_text.specs.StatementText.{statement_text}
use Rattle.bidel_text.specs.Said.{Says}
use Rattle.bidel_text.specs.Laws.{IsOperatorBack, OperatorsComeBack, IsStatementBack, StatementsComeBack}
use Rattle.bidel_text.proofs.Written.{said}
use Rattle.bidel_text.proofs.OperatorParts.{operator_good}
use Rattle.bidel_text.proofs.OperatorFronts.{operator_front}
use Rattle.bidel_text.proofs.StatementParts.{statement_good}
use Rattle.bidel_text.proofs.StatementFronts.{statement_front}

operator_back : (bytes : List ℕ) (tokens : List Token) (o : OpView) → Operator (lexemes bytes tokens) o → (answer : Result OpText (Fault Syntax)) → ParsesOperator bytes tokens answer → IsOperatorBack o answer
operator_back bytes tokens o h (Ok read) p = one_operator (lexemes bytes tokens) (op_view read) o p h
operator_back bytes tokens o h (Err (Refused syntax)) p = p.0 o h
operator_back bytes tokens o h (Err (Memory memory)) p = tt

pub operators_come_back : OperatorsComeBack
operators_come_back o ts h =
    let s : Says Operator (operator_text o) o = said Operator (operator_text o) o (operator_front o (operator_good ts o h)) in
    record { tokens = s.tokens; found = s.found; are = listed (operator_text o) 0 true s.tokens lexed.End s.found; back = operator_back (operator_text o) s.tokens o s.spelled }

-- no statement stays open at the end
over_at_end : (s : StatementView) → stays_open s true [] ≡ false
over_at_end (CreateVersion name origin operators) = refl
over_at_end (DropVersion name) = refl
over_at_end (Insert table rows) = refl
over_at_end (Import table csv) = refl
over_at_end (Update table assignments filter) = refl
over_at_end (Delete table filter) = refl
over_at_end (Select table items filter csv) = refl
over_at_end (Materialize named in_steps) = refl
over_at_end Step = refl
over_at_end ShowLayout = refl
over_at_end (Use name) = refl
over_at_end (Session n) = refl
over_at_end (Advise name) = refl
over_at_end (Watch name) = refl
over_at_end (Unwatch n) = refl
over_at_end Begin = refl
over_at_end Commit = refl
over_at_end Rollback = refl

-- no statement is empty
some_tokens : (ts : List Lexeme) (s : StatementView) → IsStatement ts s → ts ≡ [] → ⊥
some_tokens ts s h e = let bad : [] ≡ h.first.0 ∷ h.right = sym e ∙ h.whole ∙ ap (λ (l : List Lexeme). l ++ h.right) h.first.1 in no_list h.first.0 h.right bad
  where
    no_list : (t : Lexeme) (us : List Lexeme) → [] ≡ t ∷ us → ⊥
    no_list t us e = cc

module _ (bytes : List ℕ) (tokens : List Token) (s : StatementView) (h : IsStatement (lexemes bytes tokens) s) where
  abbrev all : List Lexeme
  all = lexemes bytes tokens

  whole_back : (read : StatementView) (used : ℕ) → IsFront true all read used → (read ≡ s) × (used ≡ length tokens)
  whole_back read used f =
      let one = one_front true all (take used all) (drop used all) read all [] s (sym (take-append-drop used all)) f.spelled f.over (sym (append-nil all)) h (over_at_end s) in
      let none : length (drop used all) ≡ 0 = ap length one.1 in
      (one.0, omega (arith, none, length-drop used all, f.within, length-map tokens (lexeme bytes)))

  statement_back : (answer : Result Parsed (Fault Syntax)) → Parses bytes tokens true answer → IsStatementBack s (length tokens) answer
  statement_back (Ok (Whole read used)) p = whole_back (statement_view read) used p
  statement_back (Ok More) p = absurd (let bad = p.0 in cc)
  statement_back (Ok Nothing) p = some_tokens all s h (ap (lexemes bytes) p.1)
  statement_back (Err (Refused syntax)) p = p.0 s all [] (sym (append-nil all)) h (over_at_end s)
  statement_back (Err (Memory memory)) p = tt

pub statements_come_back : StatementsComeBack
statements_come_back s ts h =
    let w : Says IsStatement (statement_text s) s = said IsStatement (statement_text s) s (statement_front s (statement_good ts s h)) in
    record { tokens = w.tokens; found = w.found; are = listed (statement_text s) 0 true w.tokens lexed.End w.found; back = statement_back (statement_text s) w.tokens s w.spelled }
