-- What statements name is read as its grammar says.
use Rattle.std.proofs.Common.{◌≡◌, ℕ, List, Bool, true, false, refl, ap, ◌∙◌}
use Rattle.std.specs.Prelude.{Some, None, codes}
use Rattle.phrases.specs.Phrases.{Nothing, Seq, Behind, Optional, Separated}
use Rattle.phrases.specs.Reading.{is, none, or, separated_at}
use Rattle.phrases.specs.Reads.{Reads}
use Rattle.phrases.proofs.ReadersLaws.{done-reads, either-reads, begins_first, begins_token}
use Rattle.phrases.proofs.ListsLaws.{made-reads, optional-reads, separated-reads}
use Rattle.bidel_expr.specs.Lexemes.{Lexeme, symbol, name_of}
use Rattle.bidel_expr.specs.Literals.{comma_of, dot_of, star_of, Tuple, name_at, tuple_at}
use Rattle.bidel_expr.specs.Expressions.{Expression, expression_goes, expression_at}
use Rattle.bidel_expr.proofs.WordLaws.{is_sign, name_is}
use Rattle.bidel_expr.proofs.LiteralLaws.{name-reads, tuple-reads}
use Rattle.bidel_expr.proofs.ExpressionLaws.{expression-reads}
use Rattle.bidel_parser.specs.Words.{Word, Sign, Name, Flag, is_word}
use Rattle.bidel_parser.specs.Statements.{table_named, TableOf, target_named, TargetOf, assigned, AssignmentOf, Filter, Items}
use Rattle.bidel_parser.specs.inner.StatementReaders.{second_name_at, table_at, target_at, assignment_at, filter_at, items_at, origin_at, csv_at, in_steps_at}
use Rattle.bidel_parser.proofs.WordLaws.{then_keyword, then_sign, then_name, keyword_reads, keyword_begins, sign_begins}
use Rattle.bidel_parser.proofs.ChoiceLaws.{flag-reads}

-- what may continue the name of a table, a list of names, of tuples, or of targets, and a list of assignments
abbrev pub table_goes : Lexeme → Bool
table_goes = or (is dot_of) none

abbrev pub names_go : Lexeme → Bool
names_go = or (is comma_of) none

abbrev pub targets_go : Lexeme → Bool
targets_go = or (is comma_of) table_goes

abbrev pub assignments_go : Lexeme → Bool
assignments_go = or (is comma_of) expression_goes

second-name-reads : Reads table_goes (Optional (Behind dot_of Name)) second_name_at
second-name-reads = optional-reads none (is dot_of) (Behind dot_of Name) _
    (then_sign none "." Name name_at name-reads)
    (λ front us name h. sign_begins (is dot_of) true "." refl Name front us name h)

pub table-reads : Reads table_goes TableOf table_at
table-reads = then_name table_goes _ _ (λ name. made-reads table_goes (Optional (Behind dot_of Name)) second_name_at (table_named name) second-name-reads)

target-reads : Reads table_goes TargetOf target_at
target-reads = then_name table_goes _ _ (λ version. made-reads table_goes (Optional (Behind dot_of Name)) second_name_at (target_named version) second-name-reads)

assignment-reads : Reads expression_goes AssignmentOf assignment_at
assignment-reads =
    then_name expression_goes _ _ (λ column.
    then_sign expression_goes "=" _ _ (
    made-reads expression_goes Expression expression_at (λ value. assigned column value) expression-reads))

-- ---- lists

-- what doesn't hold of a comma holds of no comma
comma_not : (g : Lexeme → Bool) → g (symbol (codes ",")) ≡ false → (t : Lexeme) → is comma_of t ≡ true → g t ≡ false
comma_not g h t k = ap g (is_sign (codes ",") t k) ∙ h

pub names-reads : Reads names_go (Separated comma_of Name) (separated_at comma_of name_at)
names-reads = separated-reads none comma_of (symbol (codes ",")) tt refl Name name_at name-reads (λ t h. refl)

pub rows-reads : Reads names_go (Separated comma_of Tuple) (separated_at comma_of tuple_at)
rows-reads = separated-reads none comma_of (symbol (codes ",")) tt refl Tuple tuple_at tuple-reads (λ t h. refl)

pub targets-reads : Reads targets_go (Separated comma_of TargetOf) (separated_at comma_of target_at)
targets-reads = separated-reads table_goes comma_of (symbol (codes ",")) tt refl TargetOf target_at target-reads (comma_not table_goes refl)

pub assignments-reads : Reads assignments_go (Separated comma_of AssignmentOf) (separated_at comma_of assignment_at)
assignments-reads = separated-reads expression_goes comma_of (symbol (codes ",")) tt refl AssignmentOf assignment_at assignment-reads (comma_not expression_goes refl)

-- a name is no sign
name_not_sign : (t : Lexeme) (w : List ℕ) → name_of t ≡ Some w → is star_of t ≡ false
name_not_sign t w h = ap (is star_of) (name_is t w h).0

pub items-reads : Reads names_go Items items_at
items-reads = either-reads names_go (is star_of) (Seq (Sign "*") λ _. Nothing None) (Seq (Separated comma_of Name) λ names. Nothing (Some names)) _ _
    (then_sign names_go "*" _ _ (done-reads names_go None))
    (made-reads names_go (Separated comma_of Name) (separated_at comma_of name_at) (λ names. Some names) names-reads)
    (λ front us items h. sign_begins (is star_of) true "*" refl _ front us items h)
    (λ front us items h clear. begins_first (is star_of) false (Separated comma_of Name) _
    (λ front us names n. begins_first (is star_of) false Name _ (begins_token (is star_of) name_of false name_not_sign) front us names n) front us items h)

-- ---- parts that may be left out

abbrev pub filter_goes : Lexeme → Bool
filter_goes = or (is_word "where") expression_goes

pub filter-reads : Reads filter_goes Filter filter_at
filter-reads = optional-reads expression_goes (is_word "where") (Seq (Word "where") λ _. Expression) _
    (then_keyword expression_goes "where" Expression expression_at expression-reads)
    (λ front us e h. keyword_begins (is_word "where") true "where" refl (Expression) front us e h)

abbrev pub origin_goes : Lexeme → Bool
origin_goes = or (is_word "from") none

pub origin-reads : Reads origin_goes (Optional (Seq (Word "from") λ _. Name)) origin_at
origin-reads = optional-reads none (is_word "from") (Seq (Word "from") λ _. Name) _
    (then_keyword none "from" Name name_at name-reads)
    (λ front us name h. keyword_begins (is_word "from") true "from" refl Name front us name h)

abbrev pub csv_goes : Lexeme → Bool
csv_goes = or (is_word "as") none

pub csv-reads : Reads csv_goes (Flag (Seq (Word "as") λ _. Word "csv")) csv_at
csv-reads = flag-reads none (is_word "as") (Seq (Word "as") λ _. Word "csv") _
    (then_keyword none "as" (Word "csv") _ (keyword_reads none "csv"))
    (λ front us a h. keyword_begins (is_word "as") true "as" refl (Word "csv") front us a h)

abbrev pub in_steps_goes : Lexeme → Bool
in_steps_goes = or (is_word "in") none

pub in-steps-reads : Reads in_steps_goes (Flag (Seq (Word "in") λ _. Word "steps")) in_steps_at
in-steps-reads = flag-reads none (is_word "in") (Seq (Word "in") λ _. Word "steps") _
    (then_keyword none "in" (Word "steps") _ (keyword_reads none "steps"))
    (λ front us a h. keyword_begins (is_word "in") true "in" refl (Word "steps") front us a h)
