-- The grammar spells the operators that a statement tells.
use Rattle.std.specs.List.{All}
use Rattle.std.proofs.Common.{ℕ, suc, List, [], ◌∷◌, Bool, ◌⊎◌, inl, inr, refl, sym, subst, take, arith}
use Rattle.std.proofs.lemmas.List.Elements.{All-cons}
use Rattle.phrases.specs.Phrases.{Nothing, Seq}
use Rattle.phrases.proofs.CarriesLaws.{Carries, behind-carries, made-carries, many-carries, nothing-carries, then-carries}
use Rattle.bidel_expr.specs.Lexemes.{Lexeme}
use Rattle.bidel_parser.specs.declared.first_words.StatementWord.{StatementWord}
use Rattle.bidel_parser.specs.declared.first_words.StatementWord.TheVariants as statement
use Rattle.bidel_parser.specs.Words.{Sign}
use Rattle.bidel_parser.specs.Operators.{ClosedOperator, ListedOperators, Operator}
use Rattle.bidel_parser.specs.Statements.{IsStatement, StatementRest}
use Rattle.bidel_parser.specs.Parsing.{IsFront}
use Rattle.statements.specs.Views.{OpView, StatementView, CreateVersion, DropVersion, Insert, Import, Update, Delete, Select, Materialize, Step, ShowLayout, Use, Session, Advise, Watch, Unwatch, Begin, Commit, Rollback}
use Rattle.version_graph.specs.Sets.{In}
use Rattle.version_graph.specs.declared.parts.Placed.{Placed}
use Rattle.version_graph.proofs.SetLaws.{in_append}
use Rattle.dump_graph.specs.Operators.{AnyView}
use Rattle.engine_feeds.specs.KeptTexts.{texts_of}
use Rattle.engine_feeds.specs.Spoken.{operators_in, TextsCome}
use Rattle.dump_graph.specs.Texts.{AreSpelled, IsSpelled}

-- any token
abbrev Any : Lexeme → Type 0
Any t = Unit {0}

any_all : (ts : List Lexeme) → All Any ts
any_all ts k d lt = tt

-- each operator of it is spelled
abbrev SpelledIn : StatementView → Type 0
SpelledIn s = All IsSpelled (operators_in s)

operator-spelled : Carries Any IsSpelled Operator
operator-spelled = record { holds = λ ts o is all. (ts, is) }

closed-spelled : Carries Any IsSpelled ClosedOperator
closed-spelled = then-carries operator-spelled (λ o p. behind-carries (λ _. nothing-carries o p))

operators-spelled : Carries Any (All IsSpelled) ListedOperators
operators-spelled = then-carries closed-spelled (λ o p. made-carries (λ os. o ∷ os) (many-carries closed-spelled) (λ os ps. All-cons IsSpelled o os p ps))

-- a statement that tells no operator
ended-spelled : (s : StatementView) → SpelledIn s → Carries Any SpelledIn (Seq (Sign ";") λ _. Nothing s)
ended-spelled s p = behind-carries (λ _. nothing-carries s p)

none_spelled : All IsSpelled []
none_spelled k d lt = absurd (omega arith)

rest-spelled : (w : StatementWord) → Carries Any SpelledIn (StatementRest w)
rest-spelled statement.Create = behind-carries (λ _. behind-carries (λ _. behind-carries (λ name. behind-carries (λ origin. behind-carries (λ _.
    made-carries (CreateVersion name origin) operators-spelled (λ operators p. p))))))
rest-spelled statement.Drop = behind-carries (λ _. behind-carries (λ _. behind-carries (λ name. ended-spelled (DropVersion name) none_spelled)))
rest-spelled statement.Insert = behind-carries (λ _. behind-carries (λ table. behind-carries (λ _. behind-carries (λ rows. ended-spelled (Insert table rows) none_spelled))))
rest-spelled statement.Import = behind-carries (λ _. behind-carries (λ table. behind-carries (λ _. behind-carries (λ bytes. ended-spelled (Import table bytes) none_spelled))))
rest-spelled statement.Update = behind-carries (λ table. behind-carries (λ _. behind-carries (λ assignments. behind-carries (λ filter. ended-spelled (Update table assignments filter) none_spelled))))
rest-spelled statement.Delete = behind-carries (λ _. behind-carries (λ table. behind-carries (λ filter. ended-spelled (Delete table filter) none_spelled)))
rest-spelled statement.Select = behind-carries (λ items. behind-carries (λ _. behind-carries (λ table. behind-carries (λ filter. behind-carries (λ csv.
    ended-spelled (Select table items filter csv) none_spelled)))))
rest-spelled statement.Materialize = behind-carries (λ named. behind-carries (λ in_steps. ended-spelled (Materialize named in_steps) none_spelled))
rest-spelled statement.Step = ended-spelled Step none_spelled
rest-spelled statement.Show = behind-carries (λ _. ended-spelled ShowLayout none_spelled)
rest-spelled statement.Use = behind-carries (λ name. ended-spelled (Use name) none_spelled)
rest-spelled statement.Session = behind-carries (λ number. ended-spelled (Session number) none_spelled)
rest-spelled statement.Advise = behind-carries (λ name. ended-spelled (Advise name) none_spelled)
rest-spelled statement.Watch = behind-carries (λ name. ended-spelled (Watch name) none_spelled)
rest-spelled statement.Unwatch = behind-carries (λ number. ended-spelled (Unwatch number) none_spelled)
rest-spelled statement.Begin = ended-spelled Begin none_spelled
rest-spelled statement.Commit = ended-spelled Commit none_spelled
rest-spelled statement.Rollback = ended-spelled Rollback none_spelled

statement-spelled : Carries Any SpelledIn IsStatement
statement-spelled = behind-carries rest-spelled

-- texts that come from spelled ones are spelled
in_spelled : (os : List OpView) (o : OpView) → All IsSpelled os → In o os → IsSpelled o
in_spelled [] o all i = absurd i
in_spelled (p ∷ os) o all (inl same) = subst IsSpelled (sym same) (all 0 p (omega arith))
in_spelled (p ∷ os) o all (inr more) = in_spelled os o (λ k d lt. all (suc k) d (omega arith)) more

old_spelled : (es : List (Placed AnyView)) (o : OpView) → AreSpelled es → In o (texts_of es) → IsSpelled o
old_spelled [] o spelled i = absurd i
old_spelled (e ∷ es) o spelled (inl same) = subst IsSpelled (sym same) spelled.0
old_spelled (e ∷ es) o spelled (inr more) = old_spelled es o spelled.1 more

each_spelled : (es : List (Placed AnyView)) → ((o : OpView) → In o (texts_of es) → IsSpelled o) → AreSpelled es
each_spelled [] f = tt
each_spelled (e ∷ es) f = (f e.edge.operator.text (inl refl), each_spelled es (λ o i. f o (inr i)))

-- THE OPERATORS OF A DATABASE STAY SPELLED, where a statement that some tokens spell is carried out
pub said_spelled : (ts : List Lexeme) (s : StatementView) (old new : List (Placed AnyView)) → IsStatement ts s → TextsCome s old new → AreSpelled old → AreSpelled new
said_spelled ts s old new is come spelled = each_spelled new (λ o i. of_both o (in_append o (operators_in s) (texts_of old) (come o i)))
  where
    told : SpelledIn s
    told = statement-spelled.holds ts s is (any_all ts)

    of_both : (o : OpView) → In o (operators_in s) ⊎ In o (texts_of old) → IsSpelled o
    of_both o (inl there) = in_spelled (operators_in s) o told there
    of_both o (inr kept) = old_spelled old o spelled kept

-- so where it stands at the front of some tokens
pub stay_spelled : (ended : Bool) (ts : List Lexeme) (s : StatementView) (used : ℕ) (old new : List (Placed AnyView)) → IsFront ended ts s used → TextsCome s old new → AreSpelled old → AreSpelled new
stay_spelled ended ts s used old new front = said_spelled (take used ts) s old new front.spelled
