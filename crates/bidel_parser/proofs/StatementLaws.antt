-- Statements are read as their grammar says, and where a script begins no statement stays open.
use Rattle.std.proofs.Common.{◌≡◌, ◌++◌, ◌∷◌, [], ◌<◌, ℕ, List, Bool, true, false, refl, ap, ◌∙◌, sym, subst, length, length-append, arith}
use Rattle.std.specs.Prelude.{Option, Some, None, codes, cond}
use Rattle.std.proofs.lemmas.Str.{IsUtf8-nil, is_utf8-from_IsUtf8}
use Rattle.phrases.specs.Phrases.{Nothing, Seq, Optional, Separated}
use Rattle.phrases.specs.Reading.{Read, starts, none, done, and_then, separated_at}
use Rattle.phrases.specs.Reads.{Reads, ReadsLast}
use Rattle.phrases.specs.Fronts.{IsOver}
use Rattle.phrases.proofs.ReadersLaws.{then-reads, done-reads, word as then_one, headed}
use Rattle.phrases.proofs.LastsLaws.{closed-last, then-last, made-last, word-last}
use Rattle.phrases.proofs.LookaheadLaws.{not_begun, not_begun_both}
use Rattle.bidel_expr.specs.Lexemes.{Lexeme, word, number, symbol, «text», keyword, text_of}
use Rattle.bidel_expr.specs.Literals.{comma_of, Tuple, tuple_at}
use Rattle.bidel_expr.proofs.WordLaws.{keyword_is}
use Rattle.bidel_parser.specs.declared.first_words.StatementWord.{StatementWord}
use Rattle.bidel_parser.specs.declared.first_words.StatementWord.TheVariants as first
use Rattle.bidel_parser.specs.Words.{Word, Sign, Name, Flag, choice_of, session_of, watch_of}
use Rattle.bidel_parser.specs.inner.WordReaders.{sign_at}
use Rattle.statements.specs.Views.{StatementView, CreateVersion, DropVersion, Insert, Import, Update, Delete, Select, Materialize, Step, ShowLayout, Use, Session, Advise, Watch, Unwatch, Begin, Commit, Rollback}
use Rattle.bidel_parser.specs.Operators.{ListedOperators, begins_operator}
use Rattle.bidel_parser.specs.inner.OperatorReaders.{listed_operators_at}
use Rattle.bidel_parser.specs.Statements.{statement_words, TableOf, TargetOf, AssignmentOf, Filter, Items, CreateVersionRest, DropVersionRest, InsertRest, ImportRest, UpdateRest, DeleteRest, SelectRest, MaterializeRest, SessionRest, UnwatchRest, StatementRest, IsStatement, stays_open}
use Rattle.bidel_parser.specs.inner.StatementReaders.{table_at, target_at, assignment_at, filter_at, items_at, origin_at, csv_at, in_steps_at, create_version_rest_at, drop_version_rest_at, insert_rest_at, import_rest_at, update_rest_at, delete_rest_at, select_rest_at, materialize_rest_at, session_rest_at, unwatch_rest_at, statement_rest_at, statement_at}
use Rattle.bidel_parser.proofs.WordLaws.{then_keyword, then_sign, then_name, keyword_last, name_last, keyword_begins, sign_begins}
use Rattle.bidel_parser.proofs.ChoiceLaws.{◌&◌, by_choice, maybe_begins}
use Rattle.bidel_parser.proofs.TableLaws.{table_goes, names_go, targets_go, assignments_go, filter_goes, origin_goes, csv_goes, in_steps_goes, table-reads, rows-reads, targets-reads, assignments-reads, items-reads, filter-reads, origin-reads, csv-reads, in-steps-reads}
use Rattle.bidel_parser.proofs.OperatorListLaws.{lone, shared, both, listed-last}

-- a semicolon, and a statement
ended-reads : (s : StatementView) → Reads none (Seq (Sign ";") λ _. Nothing s) (and_then (sign_at ";") λ _. done s)
ended-reads s = then_sign none ";" _ _ (done-reads none s)

create-last : ReadsLast stays_open CreateVersionRest create_version_rest_at
create-last =
    keyword_last stays_open "schema" _ _ (
    keyword_last stays_open "version" _ _ (
    name_last stays_open _ _ (λ name.
    then-last stays_open origin_goes (Optional (Seq (Word "from") λ _. Name)) _ origin_at _ origin-reads (λ origin.
    keyword_last stays_open "with" _ _ (
    made-last (λ _. begins_operator) stays_open ListedOperators listed_operators_at (λ operators. CreateVersion name origin operators) listed-last (λ operators ended us. refl)))
    (λ origin right us s h. keyword_begins origin_goes false "with" refl _ right us s h))))

drop-reads : Reads none DropVersionRest drop_version_rest_at
drop-reads =
    then_keyword none "schema" _ _ (
    then_keyword none "version" _ _ (
    then_name none _ _ (λ name. ended-reads (DropVersion name))))

insert-reads : Reads none InsertRest insert_rest_at
insert-reads =
    then_keyword none "into" _ _ (
    then-reads none table_goes TableOf _ table_at _ table-reads (λ table.
    then_keyword none "values" _ _ (
    then-reads none names_go (Separated comma_of Tuple) _ (separated_at comma_of tuple_at) _ rows-reads (λ rows. ended-reads (Insert table rows))
    (λ rows right us s h clear. sign_begins names_go false ";" refl _ right us s h)))
    (λ table right us s h clear. keyword_begins table_goes false "values" refl _ right us s h))

-- one text of many
empty_text : text_of («text» []) ≡ Some []
empty_text = ap (λ (b : Bool). cond b (Some []) None) (is_utf8-from_IsUtf8 [] IsUtf8-nil)

import-reads : Reads none ImportRest import_rest_at
import-reads =
    then_keyword none "into" _ _ (
    then-reads none table_goes TableOf _ table_at _ table-reads (λ table.
    then_keyword none "csv" _ _ (
    then_one none text_of («text» []) [] empty_text _ _ (λ bytes. ended-reads (Import table bytes))))
    (λ table right us s h clear. keyword_begins table_goes false "csv" refl _ right us s h))

update-reads : Reads none UpdateRest update_rest_at
update-reads =
    then-reads none table_goes TableOf _ table_at _ table-reads (λ table.
    then_keyword none "set" _ _ (
    then-reads none assignments_go (Separated comma_of AssignmentOf) _ (separated_at comma_of assignment_at) _ assignments-reads (λ assignments.
    then-reads none filter_goes Filter _ filter_at _ filter-reads (λ filter. ended-reads (Update table assignments filter))
    (λ filter right us s h clear. sign_begins filter_goes false ";" refl _ right us s h))
    (λ assignments right us s h clear. maybe_begins assignments_go false _ _ None _ us
    (λ front us e f. keyword_begins assignments_go false "where" refl _ front us e f)
    (λ filter front s f. sign_begins assignments_go false ";" refl _ front us s f) right s h)))
    (λ table right us s h clear. keyword_begins table_goes false "set" refl _ right us s h)

delete-reads : Reads none DeleteRest delete_rest_at
delete-reads =
    then_keyword none "from" _ _ (
    then-reads none table_goes TableOf _ table_at _ table-reads (λ table.
    then-reads none filter_goes Filter _ filter_at _ filter-reads (λ filter. ended-reads (Delete table filter))
    (λ filter right us s h clear. sign_begins filter_goes false ";" refl _ right us s h))
    (λ table right us s h clear. maybe_begins table_goes false _ _ None _ us
    (λ front us e f. keyword_begins table_goes false "where" refl _ front us e f)
    (λ filter front s f. sign_begins table_goes false ";" refl _ front us s f) right s h))

select-reads : Reads none SelectRest select_rest_at
select-reads =
    then-reads none names_go Items _ items_at _ items-reads (λ items.
    then_keyword none "from" _ _ (
    then-reads none table_goes TableOf _ table_at _ table-reads (λ table.
    then-reads none filter_goes Filter _ filter_at _ filter-reads (λ filter.
    then-reads none csv_goes _ _ csv_at _ csv-reads (λ csv. ended-reads (Select table items filter csv))
    (λ csv right us s h clear. sign_begins csv_goes false ";" refl _ right us s h))
    (λ filter right us s h clear. csv_begins filter_goes refl refl items table filter right us s h))
    (λ table right us s h clear. maybe_begins table_goes false _ _ None _ us
    (λ front us e f. keyword_begins table_goes false "where" refl _ front us e f)
    (λ filter front s f. csv_begins table_goes refl refl items table filter front us s f) right s h)))
    (λ items right us s h clear. keyword_begins names_go false "from" refl _ right us s h)
  where
    csv_begins : (g : Lexeme → Bool) → g (word (codes "as")) ≡ false → g (symbol (codes ";")) ≡ false → (items : Option (List (List ℕ))) (table : _) (filter : _) (right us : List Lexeme) (s : StatementView)
        → Seq (Flag (Seq (Word "as") λ _. Word "csv")) (λ csv. Seq (Sign ";") λ _. Nothing (Select table items filter csv)) right s → starts g (right ++ us) ≡ false
    csv_begins g a b items table filter right us s h = maybe_begins g false _ _ false _ us
        (λ front us e f. keyword_begins g false "as" a _ front us e f)
        (λ csv front s f. sign_begins g false ";" b _ front us s f) right s h

materialize-reads : Reads none MaterializeRest materialize_rest_at
materialize-reads =
    then-reads none targets_go (Separated comma_of TargetOf) _ (separated_at comma_of target_at) _ targets-reads (λ named.
    then-reads none in_steps_goes _ _ in_steps_at _ in-steps-reads (λ in_steps. ended-reads (Materialize named in_steps))
    (λ in_steps right us s h clear. sign_begins in_steps_goes false ";" refl _ right us s h))
    (λ named right us s h clear. maybe_begins targets_go false _ _ false _ us
    (λ front us e f. keyword_begins targets_go false "in" refl _ front us e f)
    (λ in_steps front s f. sign_begins targets_go false ";" refl _ front us s f) right s h)

session-reads : Reads none SessionRest session_rest_at
session-reads = then_one none session_of (number 0) 0 refl _ _ (λ n. ended-reads (Session n))

unwatch-reads : Reads none UnwatchRest unwatch_rest_at
unwatch-reads = then_one none watch_of (number 0) 0 refl _ _ (λ n. ended-reads (Unwatch n))

-- ---- statements

-- a statement that is none of operators is over at its semicolon
closed : (S : List Lexeme → StatementView → Type 0) (p : List Lexeme → Read Lexeme StatementView) → Reads none S p
    → ((front : List Lexeme) (s : StatementView) → S front s → (ended : Bool) (us : List Lexeme) → stays_open s ended us ≡ false) → ReadsLast stays_open S (λ _. p)
closed S p r over = closed-last stays_open S p r (λ ended front us s h. over front s h ended us)

-- what is said of the value holds of the statement
is_over : (x s : StatementView) → x ≡ s → ((ended : Bool) (us : List Lexeme) → stays_open x ended us ≡ false) → (ended : Bool) (us : List Lexeme) → stays_open s ended us ≡ false
is_over x s e h = subst (λ (s : StatementView). (ended : Bool) (us : List Lexeme) → stays_open s ended us ≡ false) e h

-- what stands behind each first word
pub rest-last : (k : StatementWord) → ReadsLast stays_open (StatementRest k) (λ ended. statement_rest_at ended k)
rest-last first.Create = create-last
rest-last first.Drop = closed DropVersionRest _ drop-reads (λ front s h. is_over _ s h.second.second.second.second.1 (λ ended us. refl))
rest-last first.Insert = closed InsertRest _ insert-reads (λ front s h. is_over _ s h.second.second.second.second.second.1 (λ ended us. refl))
rest-last first.Import = closed ImportRest _ import-reads (λ front s h. is_over _ s h.second.second.second.second.second.1 (λ ended us. refl))
rest-last first.Update = closed UpdateRest _ update-reads (λ front s h. is_over _ s h.second.second.second.second.second.1 (λ ended us. refl))
rest-last first.Delete = closed DeleteRest _ delete-reads (λ front s h. is_over _ s h.second.second.second.second.1 (λ ended us. refl))
rest-last first.Select = closed SelectRest _ select-reads (λ front s h. is_over _ s h.second.second.second.second.second.second.1 (λ ended us. refl))
rest-last first.Materialize = closed MaterializeRest _ materialize-reads (λ front s h. is_over _ s h.second.second.second.1 (λ ended us. refl))
rest-last first.Step = closed _ _ (ended-reads Step) (λ front s h. is_over _ s h.second.1 (λ ended us. refl))
rest-last first.Show = closed _ _ (then_keyword none "layout" _ _ (ended-reads ShowLayout)) (λ front s h. is_over _ s h.second.second.1 (λ ended us. refl))
rest-last first.Use = closed _ _ (then_name none _ _ (λ name. ended-reads (Use name))) (λ front s h. is_over _ s h.second.second.1 (λ ended us. refl))
rest-last first.Session = closed SessionRest _ session-reads (λ front s h. is_over _ s h.second.second.1 (λ ended us. refl))
rest-last first.Advise = closed _ _ (then_name none _ _ (λ name. ended-reads (Advise name))) (λ front s h. is_over _ s h.second.second.1 (λ ended us. refl))
rest-last first.Watch = closed _ _ (then_name none _ _ (λ name. ended-reads (Watch name))) (λ front s h. is_over _ s h.second.second.1 (λ ended us. refl))
rest-last first.Unwatch = closed UnwatchRest _ unwatch-reads (λ front s h. is_over _ s h.second.second.1 (λ ended us. refl))
rest-last first.Begin = closed _ _ (ended-reads Begin) (λ front s h. is_over _ s h.second.1 (λ ended us. refl))
rest-last first.Commit = closed _ _ (ended-reads Commit) (λ front s h. is_over _ s h.second.1 (λ ended us. refl))
rest-last first.Rollback = closed _ _ (ended-reads Rollback) (λ front s h. is_over _ s h.second.1 (λ ended us. refl))

pub statement-last : ReadsLast stays_open IsStatement statement_at
statement-last = word-last stays_open (choice_of statement_words) (word (codes "create")) first.Create refl StatementRest statement_rest_at rest-last

-- a statement has tokens
pub statement_long : (front : List Lexeme) (s : StatementView) → IsStatement front s → 0 < length front
statement_long front s h = omega (arith, ap length h.whole, length-append h.left h.right, ap length h.first.1)

-- ---- how statements begin

-- a statement begins with no word of an operator, or with one and then with SCHEMA
data Begun (front : List Lexeme) : Type 0 where
  by_word : (t : Lexeme) (us : List Lexeme) → front ≡ t ∷ us → lone t ≡ false → shared t ≡ false → Begun front
  by_schema : (t : Lexeme) (us : List Lexeme) → front ≡ t ∷ word (codes "schema") ∷ us → lone t ≡ false → both t (word (codes "schema")) ≡ false → Begun front

-- the first word of a statement
abbrev statement_word : StatementWord → List ℕ
statement_word first.Create = codes "create"
statement_word first.Drop = codes "drop"
statement_word first.Insert = codes "insert"
statement_word first.Import = codes "import"
statement_word first.Update = codes "update"
statement_word first.Delete = codes "delete"
statement_word first.Select = codes "select"
statement_word first.Materialize = codes "materialize"
statement_word first.Step = codes "step"
statement_word first.Show = codes "show"
statement_word first.Use = codes "use"
statement_word first.Session = codes "session"
statement_word first.Advise = codes "advise"
statement_word first.Watch = codes "watch"
statement_word first.Unwatch = codes "unwatch"
statement_word first.Begin = codes "begin"
statement_word first.Commit = codes "commit"
statement_word first.Rollback = codes "rollback"

-- a word that stands for the beginning of a statement is its first word
word_is : (t : Lexeme) (k : StatementWord) → choice_of statement_words t ≡ Some k → t ≡ word (statement_word k)
word_is = by_choice (λ t k. t ≡ word (statement_word k)) statement_words (refl & refl & refl & refl & refl & refl & refl & refl & refl & refl & refl & refl & refl & refl & refl & refl & refl & refl & tt)

-- SCHEMA comes
schema_next : {B : Type 0} (T : List Lexeme → B → Type 0) (ts : List Lexeme) (b : B) (h : Seq (Word "schema") (λ _. T) ts b) → ts ≡ word (codes "schema") ∷ h.right
schema_next T ts b h = headed (keyword (codes "schema")) (word (codes "schema")) (λ _. T) (keyword_is (codes "schema")) ts b h

-- how a statement begins, by its first word
begun_at : (k : StatementWord) (ts : List Lexeme) (s : StatementView) → StatementRest k ts s → Begun (word (statement_word k) ∷ ts)
begun_at first.Create ts s h = by_schema (word (codes "create")) h.right (ap (λ (l : List Lexeme). word (codes "create") ∷ l) (schema_next _ ts s h)) refl refl
begun_at first.Drop ts s h = by_schema (word (codes "drop")) h.right (ap (λ (l : List Lexeme). word (codes "drop") ∷ l) (schema_next _ ts s h)) refl refl
begun_at first.Insert ts s h = by_word (word (codes "insert")) ts refl refl refl
begun_at first.Import ts s h = by_word (word (codes "import")) ts refl refl refl
begun_at first.Update ts s h = by_word (word (codes "update")) ts refl refl refl
begun_at first.Delete ts s h = by_word (word (codes "delete")) ts refl refl refl
begun_at first.Select ts s h = by_word (word (codes "select")) ts refl refl refl
begun_at first.Materialize ts s h = by_word (word (codes "materialize")) ts refl refl refl
begun_at first.Step ts s h = by_word (word (codes "step")) ts refl refl refl
begun_at first.Show ts s h = by_word (word (codes "show")) ts refl refl refl
begun_at first.Use ts s h = by_word (word (codes "use")) ts refl refl refl
begun_at first.Session ts s h = by_word (word (codes "session")) ts refl refl refl
begun_at first.Advise ts s h = by_word (word (codes "advise")) ts refl refl refl
begun_at first.Watch ts s h = by_word (word (codes "watch")) ts refl refl refl
begun_at first.Unwatch ts s h = by_word (word (codes "unwatch")) ts refl refl refl
begun_at first.Begin ts s h = by_word (word (codes "begin")) ts refl refl refl
begun_at first.Commit ts s h = by_word (word (codes "commit")) ts refl refl refl
begun_at first.Rollback ts s h = by_word (word (codes "rollback")) ts refl refl refl

-- how a statement begins
begun : (front : List Lexeme) (s : StatementView) → IsStatement front s → Begun front
begun front s h =
    let head : h.left ≡ word (statement_word h.value) ∷ [] = h.first.1 ∙ ap (λ (t : Lexeme). t ∷ []) (word_is h.first.0 h.value h.first.2) in
    let whole : front ≡ word (statement_word h.value) ∷ h.right = h.whole ∙ ap (λ (l : List Lexeme). l ++ h.right) head in
    subst Begun (sym whole) (begun_at h.value h.right s h.second)

-- no operator begins where a statement does
begins_none : (front us : List Lexeme) → Begun front → begins_operator true (front ++ us) ≡ false
begins_none front us (by_word t vs e h k) = ap (λ (l : List Lexeme). begins_operator true (l ++ us)) e ∙ not_begun lone shared both true t (vs ++ us) h k
begins_none front us (by_schema t vs e h k) = ap (λ (l : List Lexeme). begins_operator true (l ++ us)) e ∙ not_begun_both lone shared both true t (word (codes "schema")) (vs ++ us) h k

-- where no operator begins, every statement is over
over_at : (s : StatementView) (ts : List Lexeme) → begins_operator true ts ≡ false → stays_open s true ts ≡ false
over_at (CreateVersion name origin operators) ts g = g
over_at (DropVersion name) ts g = refl
over_at (Insert table rows) ts g = refl
over_at (Import table bytes) ts g = refl
over_at (Update table assignments filter) ts g = refl
over_at (Delete table filter) ts g = refl
over_at (Select table items filter csv) ts g = refl
over_at (Materialize named in_steps) ts g = refl
over_at Step ts g = refl
over_at ShowLayout ts g = refl
over_at (Use name) ts g = refl
over_at (Session n) ts g = refl
over_at (Advise name) ts g = refl
over_at (Watch name) ts g = refl
over_at (Unwatch n) ts g = refl
over_at Begin ts g = refl
over_at Commit ts g = refl
over_at Rollback ts g = refl

pub script_over : IsOver stays_open IsStatement
script_over s [] ts h = over_at s ts (ap (begins_operator true) h)
script_over s (s2 ∷ ss) ts h = over_at s ts (ap (begins_operator true) h.2 ∙ begins_none h.0 h.1 (begun h.0 s2 h.3))
