-- The canonical text of a statement spells it.
use Rattle.std.proofs.Common.{◌≡◌, ◌++◌, ◌∷◌, [], ℕ, suc, ◌-◌, ◌^◌, ◌≤◌, List, Bool, true, false, cond, refl, ap, ◌∙◌, subst, append-nil, inl, inr, arith}
use Rattle.std.specs.Prelude.{Option, Some, None, IfSome, codes, decimal, pos, negsuc, map}
use Rattle.std.specs.List.{All}
use Rattle.std.proofs.lemmas.Str.{is_utf8-from_IsUtf8}
use Rattle.std.proofs.lemmas.Bool.{le-leb}
use Rattle.std.proofs.lemmas.List.Elements.{All-head, All-tail}
use Rattle.std.proofs.lemmas.Fmt.{decimal_is_IsNumeral}
use Rattle.par_base.specs.Names.{folded}
use Rattle.par_base.specs.declared.limits.Target.{Target}
use Rattle.par_base.specs.declared.value.Value.{Value}
use Rattle.par_base.specs.declared.value.Value.TheVariants.{Null, Int, Text, Reference}
use Rattle.par_base.specs.Literals.{literal_of, quoted}
use Rattle.bidel_lex.specs.declared.tokens.TokenKind.TheVariants as kind
use Rattle.phrases.specs.Phrases.{Nothing, Seq, OneOf, Optional, Behind, Many, Separated}
use Rattle.bidel_expr.specs.Lexemes.{Lexeme, word, number, «text», name_of, keyword, text_of, unsigned_of, negative_of}
use Rattle.bidel_expr.specs.Literals.{comma_of, dot_of, semicolon_of, minus_of, Literal as LiteralRule, Tuple}
use Rattle.bidel_expr.specs.Expressions.{Tree, Expression}
use Rattle.statements.specs.declared.statement.TableName.{TableName}
use Rattle.bidel_parser.specs.declared.first_words.StatementWord.TheVariants as first
use Rattle.bidel_parser.specs.Words.{choice_of, Name, Flag, Word, session_of, watch_of}
use Rattle.bidel_parser.specs.Operators.{Operator, ClosedOperator, ListedOperators}
use Rattle.bidel_parser.specs.Statements.{statement_words, table_named, TableOf, target_named, TargetOf, assigned, AssignmentOf, Filter, Items, StatementRest, IsStatement}
use Rattle.statements.specs.Views.{AssignmentView, OpView, StatementView, CreateVersion, DropVersion, Insert, Import, Update, Delete, Select, Materialize, Step, ShowLayout, Use, Session, Advise, Watch, Unwatch, Begin, Commit, Rollback}
use Rattle.bidel_text.specs.ExpressionText.{expression_text}
use Rattle.bidel_text.specs.OperatorText.{flag_text, listed_text, operator_text}
use Rattle.bidel_text.specs.StatementText.{dotted_text, version_text, table_text, target_text, tuple_text, assignment_text, filter_text, items_text, origin_text, operators_text, statement_text}
use Rattle.bidel_text.proofs.Written.{Front, ends}
use Rattle.bidel_text.proofs.Tokens.{IsWritable, one_token, is_negative, negative_said, number_spelled, number_follows, number_value, text_spelled, text_said, text_follows, then_token, nothing_front, spaced, is_word_text}
use Rattle.bidel_text.proofs.Fronts.{respelled, bare, flag_ends, no_flag, flag_true, both_written, then_front, then_word, then_sign, then_name, then_choice, made_front, separated_front, enclosed_front}
use Rattle.bidel_text.proofs.ExpressionFronts.{alone, digits_follow}
use Rattle.bidel_text.proofs.OperatorParts.{IsName, Good, OpGood}
use Rattle.bidel_text.proofs.OperatorFronts.{name_front, good_front, operator_front}
use Rattle.bidel_text.proofs.StatementParts.{TableGood, TargetGood, AssignmentGood, RowGood, Some', StatementGood}

-- ---- the parts

plain_literal : (v : Value) → IsWritable v → is_negative v ≡ false → Front LiteralRule (literal_of v) v
plain_literal v w p =
    let t = one_token v w p in
    respelled _ LiteralRule (literal_of v) v v (λ ts h. inr h) (bare unsigned_of (literal_of v) v (alone unsigned_of v (λ v. v) t.kind (literal_of v) t.spelled t.says t.follows))

literal_front : (v : Value) → IsWritable v → Front LiteralRule (literal_of v) v
unfolding literal_of
literal_front (Int (negsuc n)) w = respelled (Seq (OneOf minus_of) λ _. OneOf negative_of) LiteralRule _ (Int (negsuc n)) (Int (negsuc n)) (λ ts h. inl h)
    (then_token minus_of tt kind.Symbol (45 ∷ []) refl refl (λ _. OneOf negative_of) (decimal (suc n)) (Int (negsuc n))
    (λ rest e. digits_follow (decimal (suc n)) rest (decimal_is_IsNumeral (suc n) (omega (arith, w))).0)
    (bare negative_of (decimal (suc n)) (Int (negsuc n)) (alone negative_of (Int (negsuc n)) (λ v. v) kind.Number (decimal (suc n)) (number_spelled (suc n) (omega (arith, w))) (negative_said n w) (number_follows (decimal (suc n))))))
literal_front (Int (pos n)) w = plain_literal (Int (pos n)) w refl
literal_front Null w = plain_literal Null w refl
literal_front (Text b) w = plain_literal (Text b) w refl
literal_front (Reference n) w = plain_literal (Reference n) w refl

tuple_front : (row : List Value) → RowGood row → Front Tuple (tuple_text row) row
tuple_front row g = enclosed_front LiteralRule literal_of IsWritable literal_front row g

-- a list with one item at least
some_front : {A : Type 0} (S : List Lexeme → A → Type 0) (show : A → List ℕ) (G : A → Type 0) → ((a : A) → G a → Front S (show a) a)
    → (items : List A) → Some' G items → Front (Separated comma_of S) (listed_text show items) items
some_front S show G shown [] g = absurd g
some_front S show G shown (a ∷ items) g = separated_front S show G shown a items g

-- a name behind a dot
dot_front : (name : List ℕ) → IsName name → Front (Behind dot_of Name) (46 ∷ name) name
dot_front name g = then_sign (OneOf name_of) name name 46 refl refl (λ b. refl) (name_front name g)

no_dot : Front (Optional (Behind dot_of Name)) [] None
no_dot = respelled (Nothing None) _ [] None None (λ ts h. inr h) (nothing_front None)

some_dot : (name : List ℕ) → IsName name → Front (Optional (Behind dot_of Name)) (46 ∷ name) (Some name)
some_dot name g = respelled (Seq (Behind dot_of Name) λ n. Nothing (Some n)) _ _ (Some name) (Some name) (λ ts h. inl h) (made_front (Behind dot_of Name) (λ n. Some n) (46 ∷ name) name (dot_front name g))

table_front : (t : TableName) → TableGood t → Front TableOf (table_text t) t
table_front t g = by t.version g.1
  where
    by : (version : Option (List ℕ)) → IfSome version IsName → Front TableOf (version_text version t.table) (record { version = version; table = t.table })
    by None k = subst (λ (l : List ℕ). Front TableOf l (record { version = None; table = t.table })) (append-nil t.table)
        (then_name _ t.table [] _ g.0 refl (made_front (Optional (Behind dot_of Name)) (table_named t.table) [] None no_dot))
    by (Some version) k = then_name _ version (46 ∷ t.table) _ k refl (made_front (Optional (Behind dot_of Name)) (table_named version) (46 ∷ t.table) (Some t.table) (some_dot t.table g.0))

target_front : (t : Target) → TargetGood t → Front TargetOf (target_text t) t
target_front t g = by t.table g.1
  where
    by : (table : Option (List ℕ)) → IfSome table IsName → Front TargetOf (dotted_text t.version table) (record { version = t.version; table = table })
    by None k = subst (λ (l : List ℕ). Front TargetOf l (record { version = t.version; table = None })) (append-nil t.version)
        (then_name _ t.version [] _ g.0 refl (made_front (Optional (Behind dot_of Name)) (target_named t.version) [] None no_dot))
    by (Some table) k = then_name _ t.version (46 ∷ table) _ g.0 refl (made_front (Optional (Behind dot_of Name)) (target_named t.version) (46 ∷ table) (Some table) (some_dot table k))

assignment_front : (a : AssignmentView) → AssignmentGood a → Front AssignmentOf (assignment_text a) a
assignment_front a g = then_name _ a.column _ a g.0 refl
    (spaced _ _ a (then_sign _ _ a 61 refl refl (λ b. refl)
    (spaced _ _ a (made_front Expression (assigned a.column) (expression_text a.value) a.value (good_front a.value g.1)))))

filter_ends : (filter : Option Tree) (more : List ℕ) → ends more ≡ true → ends (filter_text filter ++ more) ≡ true
filter_ends None more h = h
filter_ends (Some e) more h = refl

filter_front : (filter : Option Tree) → IfSome filter Good → Front Filter (filter_text filter) filter
filter_front None g = respelled (Nothing None) Filter [] None None (λ ts h. inr h) (nothing_front None)
filter_front (Some e) g = respelled (Seq (Seq (Word "where") λ _. Expression) λ e. Nothing (Some e)) Filter _ (Some e) (Some e) (λ ts h. inl h)
    (made_front (Seq (Word "where") λ _. Expression) (λ e. Some e) (filter_text (Some e)) e
    (spaced _ _ e (then_word Expression (32 ∷ expression_text e) e (codes "where") (codes "WHERE") refl refl refl (spaced _ _ e (good_front e g)))))

items_front : (items : Option (List (List ℕ))) → IfSome items (Some' IsName) → Front Items (items_text items) items
items_front None g = respelled _ Items _ None None (λ ts h. inl h) (then_sign (Nothing None) [] None 42 refl refl (λ b. refl) (nothing_front None))
items_front (Some names) g = respelled _ Items _ (Some names) (Some names) (λ ts h. inr h)
    (made_front (Separated comma_of Name) (λ names. Some names) (listed_text (λ name. name) names) names (some_front Name (λ name. name) IsName name_front names g))

two_words : (a b : List ℕ) (u v : List ℕ) → is_word_text u ≡ true → is_word_text v ≡ true → keyword a (word (map folded u)) ≡ Some tt → keyword b (word (map folded v)) ≡ Some tt
    → Front (Seq (OneOf (keyword a)) λ _. OneOf (keyword b)) (32 ∷ (u ++ 32 ∷ v)) tt
two_words a b u v p q r s = spaced _ _ tt (then_word (OneOf (keyword b)) (32 ∷ v) tt a u p r refl (spaced _ v tt
    (bare (keyword b) v tt (alone (keyword b) tt (λ x. x) kind.Word v (Rattle.bidel_text.proofs.Tokens.word_spelled v q) s (Rattle.bidel_text.proofs.Tokens.word_follows v)))))

csv_front : (flag : Bool) → Front (Flag (Seq (Word "as") λ _. Word "csv")) (flag_text (codes " AS CSV") flag) flag
csv_front false = no_flag _
csv_front true = flag_true _ _ tt (two_words (codes "as") (codes "csv") (codes "AS") (codes "CSV") refl refl refl refl)

steps_front : (flag : Bool) → Front (Flag (Seq (Word "in") λ _. Word "steps")) (flag_text (codes " IN STEPS") flag) flag
steps_front false = no_flag _
steps_front true = flag_true _ _ tt (two_words (codes "in") (codes "steps") (codes "IN") (codes "STEPS") refl refl refl refl)

-- `;` and nothing more
end_front : (s : StatementView) → Front (Seq (OneOf semicolon_of) λ _. Nothing s) (codes ";") s
end_front s = then_sign (Nothing s) [] s 59 refl refl (λ b. refl) (nothing_front s)

-- ---- operators of a new version

closed_front : (o : OpView) → OpGood o → Front ClosedOperator (operator_text o ++ codes ";") o
closed_front o g = then_front Operator (λ o. Seq (OneOf semicolon_of) λ _. Nothing o) (operator_text o) (codes ";") o o refl (operator_front o g) (then_sign (Nothing o) [] o 59 refl refl (λ b. refl) (nothing_front o))

operators_end : (os : List OpView) → ends (operators_text os) ≡ true
operators_end [] = refl
operators_end (o ∷ os) = refl

many_operators : (os : List OpView) → All OpGood os → Front (Many ClosedOperator) (operators_text os) os
many_operators [] g = record { tokens = []; spelled = refl; written = λ rest us e r. r }
many_operators (o ∷ os) g =
    let f : Front ClosedOperator (32 ∷ (operator_text o ++ codes ";")) o = spaced _ _ o (closed_front o (All-head OpGood o os g)) in
    let h : Front (Many ClosedOperator) (operators_text os) os = many_operators os (All-tail OpGood o os g) in
    record {
      tokens = f.tokens ++ h.tokens;
      spelled = (f.tokens, h.tokens, refl, f.spelled, h.spelled);
      written = both_written (32 ∷ (operator_text o ++ codes ";")) (operators_text os) f.tokens h.tokens (operators_end os) f.written h.written;
    }

operators_front : (os : List OpView) → Some' OpGood os → Front ListedOperators (operators_text os) os
operators_front [] g = absurd g
operators_front (o ∷ os) g = then_front ClosedOperator (λ o. Seq (Many ClosedOperator) λ os. Nothing (o ∷ os)) (32 ∷ (operator_text o ++ codes ";")) (operators_text os) o (o ∷ os) (operators_end os)
    (spaced _ _ o (closed_front o (All-head OpGood o os g)))
    (made_front (Many ClosedOperator) (λ os. o ∷ os) (operators_text os) os (many_operators os (All-tail OpGood o os g)))

-- ---- statements

-- the first word, and what stands behind it
statement_then : (k : _) (bytes : List ℕ) (s : StatementView) (w : List ℕ) → is_word_text w ≡ true → choice_of statement_words (word (map folded w)) ≡ Some k → ends bytes ≡ true
    → Front (StatementRest k) bytes s → Front IsStatement (w ++ bytes) s
statement_then k bytes s w spelled is e h = then_choice (choice_of statement_words) k StatementRest bytes s w spelled is e h

-- a word behind a space
after_space : {B : Type 0} (S : List Lexeme → B → Type 0) (bytes : List ℕ) (b : B) (low w : List ℕ) → is_word_text w ≡ true → keyword low (word (map folded w)) ≡ Some tt → ends bytes ≡ true
    → Front S bytes b → Front (Seq (OneOf (keyword low)) λ _. S) (32 ∷ (w ++ bytes)) b
after_space S bytes b low w spelled is e h = spaced _ (w ++ bytes) b (then_word S bytes b low w spelled is e h)

origin_ends : (origin : Option (List ℕ)) (more : List ℕ) → ends more ≡ true → ends (origin_text origin ++ more) ≡ true
origin_ends None more h = h
origin_ends (Some version) more h = refl

origin_front : (origin : Option (List ℕ)) → IfSome origin IsName → Front (Optional (Seq (Word "from") λ _. Name)) (origin_text origin) origin
origin_front None g = respelled (Nothing None) _ [] None None (λ ts h. inr h) (nothing_front None)
origin_front (Some version) g = respelled (Seq (Seq (Word "from") λ _. Name) λ n. Nothing (Some n)) _ _ (Some version) (Some version) (λ ts h. inl h)
    (made_front (Seq (Word "from") λ _. Name) (λ n. Some n) (origin_text (Some version)) version
    (after_space Name (32 ∷ version) version (codes "from") (codes "FROM") refl refl refl (spaced Name version version (name_front version g))))

-- a name and `;`
name_end : (make : List ℕ → StatementView) (name : List ℕ) → IsName name → Front (Seq (OneOf name_of) λ n. Seq (OneOf semicolon_of) λ _. Nothing (make n)) (name ++ codes ";") (make name)
name_end make name g = then_name (λ n. Seq (OneOf semicolon_of) λ _. Nothing (make n)) name (codes ";") (make name) g refl (end_front (make name))

number_said : (n : ℕ) → n ≤ 255 → session_of (number n) ≡ Some n
number_said n h = ap (λ (b : Bool). cond b (Some n) None) (le-leb n 255 h)

watch_said : (n : ℕ) → n ≤ 2 ^ 63 - 1 → watch_of (number n) ≡ Some n
watch_said n h = ap (λ (b : Bool). cond b (Some n) None) (le-leb n (2 ^ 63 - 1) h)

pub statement_front : (s : StatementView) → StatementGood s → Front IsStatement (statement_text s) s
statement_front (CreateVersion name origin operators) g = statement_then first.Create _ _ (codes "CREATE") refl refl refl
    (after_space _ _ _ (codes "schema") (codes "SCHEMA") refl refl refl
    (after_space _ _ _ (codes "version") (codes "VERSION") refl refl refl
    (spaced _ _ _ (then_name _ name _ _ g.0 (origin_ends origin _ refl)
    (then_front _ _ (origin_text origin) _ origin _ refl (origin_front origin g.1)
    (after_space _ (operators_text operators) _ (codes "with") (codes "WITH") refl refl (operators_end operators)
    (made_front ListedOperators (λ os. CreateVersion name origin os) (operators_text operators) operators (operators_front operators g.2))))))))
statement_front (DropVersion name) g = statement_then first.Drop _ _ (codes "DROP") refl refl refl
    (after_space _ _ _ (codes "schema") (codes "SCHEMA") refl refl refl
    (after_space _ _ _ (codes "version") (codes "VERSION") refl refl refl
    (spaced _ _ _ (name_end (λ n. DropVersion n) name g))))
statement_front (Insert table rows) g = statement_then first.Insert _ _ (codes "INSERT") refl refl refl
    (after_space _ _ _ (codes "into") (codes "INTO") refl refl refl
    (spaced _ _ _ (then_front TableOf _ (table_text table) _ table _ refl (table_front table g.0)
    (after_space _ _ _ (codes "values") (codes "VALUES") refl refl refl
    (spaced _ _ _ (then_front (Separated comma_of Tuple) _ (listed_text tuple_text rows) (codes ";") rows _ refl (some_front Tuple tuple_text RowGood tuple_front rows g.1) (end_front (Insert table rows))))))))
statement_front (Import table csv) g = statement_then first.Import _ _ (codes "IMPORT") refl refl refl
    (after_space _ _ _ (codes "into") (codes "INTO") refl refl refl
    (spaced _ _ _ (then_front TableOf _ (table_text table) _ table _ refl (table_front table g.0)
    (after_space _ _ _ (codes "csv") (codes "CSV") refl refl refl
    (spaced _ _ _ (then_token text_of csv kind.Text (quoted csv) (text_spelled csv g.1)
    (ap (λ (l : List ℕ). text_of («text» l)) (text_said csv) ∙ ap (λ (b : Bool). cond b (Some csv) None) (is_utf8-from_IsUtf8 csv g.1))
    (λ csv. Seq (OneOf semicolon_of) λ _. Nothing (Import table csv)) (codes ";") (Import table csv) (λ rest e. text_follows (quoted csv) (codes ";" ++ rest) refl) (end_front (Import table csv))))))))
statement_front (Update table assignments filter) g = statement_then first.Update _ _ (codes "UPDATE") refl refl refl
    (spaced _ _ _ (then_front TableOf _ (table_text table) _ table _ refl (table_front table g.0)
    (after_space _ _ _ (codes "set") (codes "SET") refl refl refl
    (spaced _ _ _ (then_front (Separated comma_of AssignmentOf) _ (listed_text assignment_text assignments) _ assignments _ (filter_ends filter (codes ";") refl)
    (some_front AssignmentOf assignment_text AssignmentGood assignment_front assignments g.1)
    (then_front Filter _ (filter_text filter) (codes ";") filter _ refl (filter_front filter g.2) (end_front (Update table assignments filter))))))))
statement_front (Delete table filter) g = statement_then first.Delete _ _ (codes "DELETE") refl refl refl
    (after_space _ _ _ (codes "from") (codes "FROM") refl refl refl
    (spaced _ _ _ (then_front TableOf _ (table_text table) _ table _ (filter_ends filter (codes ";") refl) (table_front table g.0)
    (then_front Filter _ (filter_text filter) (codes ";") filter _ refl (filter_front filter g.1) (end_front (Delete table filter))))))
statement_front (Select table items filter csv) g = statement_then first.Select _ _ (codes "SELECT") refl refl refl
    (spaced _ _ _ (then_front Items _ (items_text items) _ items _ refl (items_front items g.1)
    (after_space _ _ _ (codes "from") (codes "FROM") refl refl refl
    (spaced _ _ _ (then_front TableOf _ (table_text table) _ table _ (filter_ends filter _ (flag_ends (codes "AS CSV") csv (codes ";") refl refl)) (table_front table g.0)
    (then_front Filter _ (filter_text filter) _ filter _ (flag_ends (codes "AS CSV") csv (codes ";") refl refl) (filter_front filter g.2)
    (then_front (Flag (Seq (Word "as") λ _. Word "csv")) _ (flag_text (codes " AS CSV") csv) (codes ";") csv _ refl (csv_front csv) (end_front (Select table items filter csv)))))))))
statement_front (Materialize named in_steps) g = statement_then first.Materialize _ _ (codes "MATERIALIZE") refl refl refl
    (spaced _ _ _ (then_front (Separated comma_of TargetOf) _ (listed_text target_text named) _ named _ (flag_ends (codes "IN STEPS") in_steps (codes ";") refl refl)
    (some_front TargetOf target_text TargetGood target_front named g)
    (then_front (Flag (Seq (Word "in") λ _. Word "steps")) _ (flag_text (codes " IN STEPS") in_steps) (codes ";") in_steps _ refl (steps_front in_steps) (end_front (Materialize named in_steps)))))
statement_front Step g = statement_then first.Step (codes ";") Step (codes "STEP") refl refl refl (end_front Step)
statement_front ShowLayout g = statement_then first.Show _ _ (codes "SHOW") refl refl refl
    (after_space _ (codes ";") ShowLayout (codes "layout") (codes "LAYOUT") refl refl refl (end_front ShowLayout))
statement_front (Use name) g = statement_then first.Use _ _ (codes "USE") refl refl refl (spaced _ _ _ (name_end (λ n. Use n) name g))
statement_front (Session n) g = statement_then first.Session _ _ (codes "SESSION") refl refl refl
    (spaced _ _ _ (then_token session_of n kind.Number (decimal n) (number_spelled n (omega (arith, g))) (ap (λ (m : ℕ). session_of (number m)) (number_value n (omega (arith, g))) ∙ number_said n g)
    (λ n. Seq (OneOf semicolon_of) λ _. Nothing (Session n)) (codes ";") (Session n) (λ rest e. number_follows (decimal n) (codes ";" ++ rest) refl) (end_front (Session n))))
statement_front (Advise name) g = statement_then first.Advise _ _ (codes "ADVISE") refl refl refl (spaced _ _ _ (name_end (λ n. Advise n) name g))
statement_front (Watch name) g = statement_then first.Watch _ _ (codes "WATCH") refl refl refl (spaced _ _ _ (name_end (λ n. Watch n) name g))
statement_front (Unwatch n) g = statement_then first.Unwatch _ _ (codes "UNWATCH") refl refl refl
    (spaced _ _ _ (then_token watch_of n kind.Number (decimal n) (number_spelled n (omega (arith, g))) (ap (λ (m : ℕ). watch_of (number m)) (number_value n (omega (arith, g))) ∙ watch_said n g)
    (λ n. Seq (OneOf semicolon_of) λ _. Nothing (Unwatch n)) (codes ";") (Unwatch n) (λ rest e. number_follows (decimal n) (codes ";" ++ rest) refl) (end_front (Unwatch n))))
statement_front Begin g = statement_then first.Begin (codes ";") Begin (codes "BEGIN") refl refl refl (end_front Begin)
statement_front Commit g = statement_then first.Commit (codes ";") Commit (codes "COMMIT") refl refl refl (end_front Commit)
statement_front Rollback g = statement_then first.Rollback (codes ";") Rollback (codes "ROLLBACK") refl refl refl (end_front Rollback)
