-- What the grammar spells has statements whose names are names, whose literals can be written and whose expressions are within the limits.
use Rattle.std.proofs.Common.{◌≡◌, ◌∷◌, [], ℕ, ◌-◌, ◌^◌, ◌≤◌, List, true, subst}
use Rattle.std.specs.Prelude.{Option, Some, None, IfSome, IsUtf8, nat_le}
use Rattle.std.specs.List.{All}
use Rattle.std.specs.Str.{is_utf8}
use Rattle.std.proofs.lemmas.Str.{IsUtf8-from_is_utf8}
use Rattle.std.proofs.lemmas.Bool.{leb-true}
use Rattle.std.proofs.lemmas.List.Elements.{All-cons}
use Rattle.par_base.specs.declared.limits.Target.{Target}
use Rattle.par_base.specs.declared.value.Value.{Value}
use Rattle.phrases.specs.Phrases.{Nothing, Seq, Optional, Behind, Separated}
use Rattle.phrases.proofs.CarriesLaws.{nothing-carries, one-carries, either-carries, behind-carries, then-carries, made-carries, many-carries, optional-carries, enclosed-carries}
use Rattle.bidel_expr.specs.Lexemes.{Lexeme, word, number, reference, «text», symbol, text_of, unsigned_of, negative_of}
use Rattle.bidel_expr.specs.Literals.{open_of, comma_of, close_of, dot_of, Literal as LiteralRule, Tuple}
use Rattle.bidel_expr.proofs.WordLaws.{when_some}
use Rattle.statements.specs.declared.statement.TableName.{TableName}
use Rattle.bidel_parser.specs.declared.first_words.StatementWord.{StatementWord}
use Rattle.bidel_parser.specs.declared.first_words.StatementWord.TheVariants as statement
use Rattle.bidel_parser.specs.Words.{Sign, Name, session_of, watch_of}
use Rattle.bidel_parser.specs.Operators.{ClosedOperator, ListedOperators}
use Rattle.bidel_parser.specs.Statements.{table_named, TableOf, target_named, TargetOf, assigned, AssignmentOf, Filter, Items, StatementRest, IsStatement}
use Rattle.statements.specs.Views.{AssignmentView, StatementView, CreateVersion, DropVersion, Insert, Import, Update, Delete, Select, Materialize, Step, ShowLayout, Use, Session, Advise, Watch, Unwatch, Begin, Commit, Rollback}
use Rattle.bidel_text.proofs.Tokens.{IsWritable}
use Rattle.bidel_text.proofs.Writable.{any_all, Holds, name-holds, unsigned_writable, negative_writable}
use Rattle.bidel_text.proofs.OperatorParts.{IsName, Good, OpGood, expression-holds, operator-holds}

abbrev pub TableGood : TableName → Type 0
TableGood name = IsName name.table × IfSome name.version IsName

abbrev pub TargetGood : Target → Type 0
TargetGood target = IsName target.version × IfSome target.table IsName

abbrev pub AssignmentGood : AssignmentView → Type 0
AssignmentGood a = IsName a.column × Good a.value

abbrev pub RowGood : List Value → Type 0
RowGood row = All IsWritable row

-- one at least
abbrev pub Some' : {A : Type 0} → (A → Type 0) → List A → Type 0
Some' G [] = ⊥
Some' G (a ∷ as') = All G (a ∷ as')

abbrev pub StatementGood : StatementView → Type 0
StatementGood (CreateVersion name origin operators) = IsName name × IfSome origin IsName × Some' OpGood operators
StatementGood (DropVersion name) = IsName name
StatementGood (Insert table rows) = TableGood table × Some' RowGood rows
StatementGood (Import table csv) = TableGood table × IsUtf8 csv
StatementGood (Update table assignments filter) = TableGood table × Some' AssignmentGood assignments × IfSome filter Good
StatementGood (Delete table filter) = TableGood table × IfSome filter Good
StatementGood (Select table items filter csv) = TableGood table × IfSome items (Some' IsName) × IfSome filter Good
StatementGood (Materialize named in_steps) = Some' TargetGood named
StatementGood Step = Unit {0}
StatementGood ShowLayout = Unit {0}
StatementGood (Use name) = IsName name
StatementGood (Session n) = n ≤ 255
StatementGood (Advise name) = IsName name
StatementGood (Watch name) = IsName name
StatementGood (Unwatch n) = n ≤ 2 ^ 63 - 1
StatementGood Begin = Unit {0}
StatementGood Commit = Unit {0}
StatementGood Rollback = Unit {0}

-- a list with one item at least
some-hold : {A : Type 0} (G : A → Type 0) (S : List Lexeme → A → Type 0) → Holds G S → Holds (Some' G) (Separated comma_of S)
some-hold G S r = then-carries r (λ a p. made-carries (λ as'. a ∷ as') (many-carries (behind-carries (λ _. r))) (λ as' ps. All-cons G a as' p ps))

literal-holds : Holds IsWritable LiteralRule
literal-holds = either-carries (behind-carries (λ _. one-carries negative_of (λ t v h _. negative_writable t v h))) (one-carries unsigned_of (λ t v h _. unsigned_writable t v h))

tuple-holds : Holds RowGood Tuple
tuple-holds = enclosed-carries open_of comma_of close_of literal-holds

table_good : (name : List ℕ) (second : Option (List ℕ)) → IsName name → IfSome second IsName → TableGood (table_named name second)
table_good name None p q = (p, tt)
table_good name (Some table) p q = (q, p)

dot-holds : Holds (λ second. IfSome second IsName) (Optional (Behind dot_of Name))
dot-holds = optional-carries (behind-carries (λ _. name-holds))

table-holds : Holds TableGood TableOf
table-holds = then-carries name-holds (λ name p. made-carries (table_named name) dot-holds (λ second q. table_good name second p q))

target-holds : Holds TargetGood TargetOf
target-holds = then-carries name-holds (λ version p. made-carries (target_named version) dot-holds (λ table q. (p, q)))

assignment-holds : Holds AssignmentGood AssignmentOf
assignment-holds = then-carries name-holds (λ column p. behind-carries (λ _. made-carries (assigned column) expression-holds (λ value q. (p, q))))

filter-holds : Holds (λ filter. IfSome filter Good) Filter
filter-holds = optional-carries (behind-carries (λ _. expression-holds))

items-hold : Holds (λ items. IfSome items (Some' IsName)) Items
items-hold = either-carries (behind-carries (λ _. nothing-carries None tt)) (made-carries (λ names. Some names) (some-hold IsName Name name-holds) (λ names p. p))

closed-holds : Holds OpGood ClosedOperator
closed-holds = then-carries operator-holds (λ o p. behind-carries (λ _. nothing-carries o p))

operators-hold : Holds (Some' OpGood) ListedOperators
operators-hold = then-carries closed-holds (λ o p. made-carries (λ os. o ∷ os) (many-carries closed-holds) (λ os ps. All-cons OpGood o os p ps))

text_good : (t : Lexeme) (b : List ℕ) → text_of t ≡ Some b → IsUtf8 b
text_good («text» a) b h = let p = when_some (is_utf8 a) a b h in IsUtf8-from_is_utf8 b (let same : a ≡ b = p.1 in subst (λ (l : List ℕ). is_utf8 l ≡ true) same p.0)
text_good (word w) b h = cc
text_good (number n) b h = cc
text_good (reference n) b h = cc
text_good (symbol s) b h = cc

session_good : (t : Lexeme) (n : ℕ) → session_of t ≡ Some n → n ≤ 255
session_good (number m) n h = let p = when_some (nat_le m 255) m n h in subst (λ (k : ℕ). k ≤ 255) p.1 (leb-true m 255 p.0)
session_good (word w) n h = cc
session_good («text» b) n h = cc
session_good (reference m) n h = cc
session_good (symbol s) n h = cc

watch_good : (t : Lexeme) (n : ℕ) → watch_of t ≡ Some n → n ≤ 2 ^ 63 - 1
watch_good (number m) n h = let p = when_some (nat_le m (2 ^ 63 - 1)) m n h in subst (λ (k : ℕ). k ≤ 2 ^ 63 - 1) p.1 (leb-true m (2 ^ 63 - 1) p.0)
watch_good (word w) n h = cc
watch_good («text» b) n h = cc
watch_good (reference m) n h = cc
watch_good (symbol s) n h = cc

ended-holds : (s : StatementView) → StatementGood s → Holds StatementGood (Seq (Sign ";") λ _. Nothing s)
ended-holds s p = behind-carries (λ _. nothing-carries s p)

rest-holds : (w : StatementWord) → Holds StatementGood (StatementRest w)
rest-holds statement.Create = behind-carries (λ _. behind-carries (λ _. then-carries name-holds (λ name p. then-carries (optional-carries {F = IsName} (behind-carries (λ _. name-holds))) (λ origin q. behind-carries (λ _.
    made-carries (CreateVersion name origin) operators-hold (λ operators r. (p, q, r)))))))
rest-holds statement.Drop = behind-carries (λ _. behind-carries (λ _. then-carries name-holds (λ name p. ended-holds (DropVersion name) p)))
rest-holds statement.Insert = behind-carries (λ _. then-carries table-holds (λ table p. behind-carries (λ _. then-carries (some-hold RowGood Tuple tuple-holds) (λ rows q. ended-holds (Insert table rows) (p, q)))))
rest-holds statement.Import = behind-carries (λ _. then-carries table-holds (λ table p. behind-carries (λ _. then-carries (one-carries {F = IsUtf8} text_of (λ t b h _. text_good t b h)) (λ csv q.
    ended-holds (Import table csv) (p, q)))))
rest-holds statement.Update = then-carries table-holds (λ table p. behind-carries (λ _. then-carries (some-hold AssignmentGood AssignmentOf assignment-holds) (λ assignments q.
    then-carries filter-holds (λ filter r. ended-holds (Update table assignments filter) (p, q, r)))))
rest-holds statement.Delete = behind-carries (λ _. then-carries table-holds (λ table p. then-carries filter-holds (λ filter q. ended-holds (Delete table filter) (p, q))))
rest-holds statement.Select = then-carries items-hold (λ items p. behind-carries (λ _. then-carries table-holds (λ table q. then-carries filter-holds (λ filter r. behind-carries (λ csv.
    ended-holds (Select table items filter csv) (q, p, r))))))
rest-holds statement.Materialize = then-carries (some-hold TargetGood TargetOf target-holds) (λ named p. behind-carries (λ in_steps. ended-holds (Materialize named in_steps) p))
rest-holds statement.Step = ended-holds Step tt
rest-holds statement.Show = behind-carries (λ _. ended-holds ShowLayout tt)
rest-holds statement.Use = then-carries name-holds (λ name p. ended-holds (Use name) p)
rest-holds statement.Session = then-carries (one-carries {F = λ n. n ≤ 255} session_of (λ t n h _. session_good t n h)) (λ n p. ended-holds (Session n) p)
rest-holds statement.Advise = then-carries name-holds (λ name p. ended-holds (Advise name) p)
rest-holds statement.Watch = then-carries name-holds (λ name p. ended-holds (Watch name) p)
rest-holds statement.Unwatch = then-carries (one-carries {F = λ n. n ≤ 2 ^ 63 - 1} watch_of (λ t n h _. watch_good t n h)) (λ n p. ended-holds (Unwatch n) p)
rest-holds statement.Begin = ended-holds Begin tt
rest-holds statement.Commit = ended-holds Commit tt
rest-holds statement.Rollback = ended-holds Rollback tt

pub statement_good : (ts : List Lexeme) (s : StatementView) → IsStatement ts s → StatementGood s
statement_good ts s h = (behind-carries {F = StatementGood} rest-holds).holds ts s h (any_all ts)
