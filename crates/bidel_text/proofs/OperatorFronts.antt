-- The canonical text of an operator spells it.
use Rattle.std.proofs.Common.{◌≡◌, ◌++◌, ◌∷◌, [], ℕ, List, Bool, true, false, refl, subst, append-nil, inl, inr}
use Rattle.std.specs.Prelude.{Option, Some, None, IfSome, codes}
use Rattle.std.specs.List.{All}
use Rattle.bidel_lex.specs.declared.tokens.TokenKind.TheVariants as kind
use Rattle.phrases.specs.Phrases.{Nothing, Seq, OneOf, Optional, Behind}
use Rattle.bidel_expr.specs.Lexemes.{Lexeme, name_of, keyword}
use Rattle.bidel_expr.specs.Literals.{Names, comma_of}
use Rattle.bidel_expr.specs.Expressions.{Tree, Expression}
use Rattle.bidel_parser.specs.declared.first_words.KeyWord.TheVariants as by
use Rattle.bidel_parser.specs.declared.first_words.OperatorWord.TheVariants as first
use Rattle.bidel_parser.specs.declared.first_words.Kind.TheVariants as what
use Rattle.bidel_parser.specs.Words.{choice_of, Flag, Word}
use Rattle.statements.specs.Views.{KeyView, Primary, Foreign, Condition, BranchView, OpView, CreateTable, DropTable, RenameTable, RenameColumn, AddColumn, DropColumn, DecomposeSingle, Decompose, Join, Split, Merge}
use Rattle.bidel_parser.specs.Operators.{operator_words, kinds, key_words, KeyRest, Key, branch_of, SplitBranch, MergeBranch, part_of, SecondPart, decomposed, DropRest, RenameRest, JoinRest, OperatorRest, Operator}
use Rattle.bidel_text.specs.ExpressionText.{expression_text}
use Rattle.bidel_text.specs.OperatorText.{names_text, key_text, split_text, second_text, merge_text, flag_text, operator_text}
use Rattle.bidel_text.proofs.Written.{Front, ends}
use Rattle.bidel_text.proofs.Tokens.{nothing_front, spaced, name_spelled, name_said, word_spelled, word_follows}
use Rattle.bidel_text.proofs.Fronts.{respelled, bare, no_flag, flag_true, then_front, then_word, then_sign, then_name, then_choice, made_front, enclosed_front}
use Rattle.bidel_text.proofs.ExpressionFronts.{alone, expression_front}
use Rattle.bidel_text.proofs.OperatorParts.{IsName, Good, KeyGood, BranchGood, OpGood}

-- a name at the end
pub last_name : {B : Type 0} (make : List ℕ → B) (name : List ℕ) → IsName name → Front (Seq (OneOf name_of) λ n. Nothing (make n)) name (make name)
last_name make name h = alone name_of name make kind.Word name (name_spelled name h) (name_said name h) (word_follows name)

pub name_front : (name : List ℕ) → IsName name → Front (OneOf name_of) name name
name_front name h = bare name_of name name (last_name (λ n. n) name h)

pub names_front : (names : List (List ℕ)) → All IsName names → Front Names (names_text names) names
names_front names h = enclosed_front (OneOf name_of) (λ name. name) IsName name_front names h

pub good_front : (e : Tree) → Good e → Front Expression (expression_text e) e
good_front e g = expression_front e g.0 g.1

key_front : (k : KeyView) → KeyGood k → Front Key (key_text k) k
key_front Primary g = respelled _ Key (codes "PK") Primary Primary (λ ts h. inl h)
    (then_choice (choice_of key_words) by.Pk KeyRest [] Primary (codes "PK") refl refl refl (nothing_front Primary))
key_front (Foreign column) g = respelled _ Key (codes "FK " ++ column) (Foreign column) (Foreign column) (λ ts h. inl h)
    (then_choice (choice_of key_words) by.Fk KeyRest (32 ∷ column) (Foreign column) (codes "FK") refl refl refl (spaced _ column (Foreign column) (last_name (λ n. Foreign n) column g)))
key_front (Condition condition) g = respelled _ Key (expression_text condition) (Condition condition) (Condition condition) (λ ts h. inr h)
    (made_front Expression (λ c. Condition c) (expression_text condition) condition (good_front condition g))

split_front : (b : BranchView) → BranchGood b → Front SplitBranch (split_text b) b
split_front b g = then_name _ b.table _ b g.0 refl
    (spaced _ _ b (then_word _ _ b (codes "with") (codes "WITH") refl refl refl
    (spaced _ _ b (made_front Expression (λ c. branch_of b.table c) (expression_text b.condition) b.condition (good_front b.condition g.1)))))

merge_front : (b : BranchView) → BranchGood b → Front MergeBranch (merge_text b) b
merge_front b g = then_name _ b.table _ b g.0 refl
    (spaced _ _ b (then_sign _ _ b 40 refl refl (λ c. refl)
    (then_front Expression _ (expression_text b.condition) (codes ")") b.condition b refl (good_front b.condition g.1)
    (then_sign (Nothing b) [] b 41 refl refl (λ c. refl) (nothing_front b)))))

-- ---- operators, behind their first words

-- the tokens are those of the words in capitals: TABLE, COLUMN
table_then : {B : Type 0} (S : List Lexeme → B → Type 0) (bytes : List ℕ) (b : B) → Front S bytes b → Front (Seq (OneOf (keyword (codes "table"))) λ _. S) (codes "TABLE " ++ bytes) b
table_then S bytes b h = then_word S (32 ∷ bytes) b (codes "table") (codes "TABLE") refl refl refl (spaced S bytes b h)

column_then : {B : Type 0} (S : List Lexeme → B → Type 0) (bytes : List ℕ) (b : B) → Front S bytes b → Front (Seq (OneOf (keyword (codes "column"))) λ _. S) (codes "COLUMN " ++ bytes) b
column_then S bytes b h = then_word S (32 ∷ bytes) b (codes "column") (codes "COLUMN") refl refl refl (spaced S bytes b h)

-- a word between two parts
module _ {B : Type 0} (S : List Lexeme → B → Type 0) (bytes : List ℕ) (b : B) (h : Front S bytes b) where
  into_then : Front (Seq (OneOf (keyword (codes "into"))) λ _. S) (codes " INTO " ++ bytes) b
  into_then = spaced _ _ b (then_word S (32 ∷ bytes) b (codes "into") (codes "INTO") refl refl refl (spaced S bytes b h))

  in_then : Front (Seq (OneOf (keyword (codes "in"))) λ _. S) (codes " IN " ++ bytes) b
  in_then = spaced _ _ b (then_word S (32 ∷ bytes) b (codes "in") (codes "IN") refl refl refl (spaced S bytes b h))

  to_then : Front (Seq (OneOf (keyword (codes "to"))) λ _. S) (codes " TO " ++ bytes) b
  to_then = spaced _ _ b (then_word S (32 ∷ bytes) b (codes "to") (codes "TO") refl refl refl (spaced S bytes b h))

  as_then : Front (Seq (OneOf (keyword (codes "as"))) λ _. S) (codes " AS " ++ bytes) b
  as_then = spaced _ _ b (then_word S (32 ∷ bytes) b (codes "as") (codes "AS") refl refl refl (spaced S bytes b h))

  from_then : Front (Seq (OneOf (keyword (codes "from"))) λ _. S) (codes " FROM " ++ bytes) b
  from_then = spaced _ _ b (then_word S (32 ∷ bytes) b (codes "from") (codes "FROM") refl refl refl (spaced S bytes b h))

  default_then : Front (Seq (OneOf (keyword (codes "default"))) λ _. S) (codes " DEFAULT " ++ bytes) b
  default_then = spaced _ _ b (then_word S (32 ∷ bytes) b (codes "default") (codes "DEFAULT") refl refl refl (spaced S bytes b h))

  on_then : Front (Seq (OneOf (keyword (codes "on"))) λ _. S) (codes " ON " ++ bytes) b
  on_then = spaced _ _ b (then_word S (32 ∷ bytes) b (codes "on") (codes "ON") refl refl refl (spaced S bytes b h))

  comma_then : Front (Seq (OneOf comma_of) λ _. S) (codes ", " ++ bytes) b
  comma_then = then_sign S (32 ∷ bytes) b 44 refl refl (λ c. refl) (spaced S bytes b h)

-- the first word
first_then : (k : _) (bytes : List ℕ) (o : OpView) (w : List ℕ) → Rattle.bidel_text.proofs.Tokens.is_word_text w ≡ true
    → choice_of operator_words (Rattle.bidel_expr.specs.Lexemes.word (Rattle.std.specs.Prelude.map Rattle.par_base.specs.Names.folded w)) ≡ Some k
    → Front (OperatorRest k) bytes o → Front Operator (w ++ 32 ∷ bytes) o
first_then k bytes o w spelled is h = then_choice (choice_of operator_words) k OperatorRest (32 ∷ bytes) o w spelled is refl (spaced (OperatorRest k) bytes o h)

part_front : (table : List ℕ) (columns : List (List ℕ)) (key : KeyView) → IsName table → All IsName columns → KeyGood key
    → Front SecondPart (table ++ (names_text columns ++ (codes " ON " ++ key_text key))) (part_of table columns key)
part_front table columns key p q r = then_name _ table _ _ p refl (then_front Names _ (names_text columns) _ columns _ refl (names_front columns q)
    (on_then _ _ _ (made_front Key (λ k. part_of table columns k) (key_text key) key (key_front key r))))

join_front : (outer : Bool) (one two target : List ℕ) (key : KeyView) → IsName one → IsName two → IsName target → KeyGood key
    → Front (JoinRest outer) (codes "TABLE " ++ (one ++ (codes ", " ++ (two ++ (codes " INTO " ++ (target ++ (codes " ON " ++ key_text key))))))) (Join outer one two target key)
join_front outer one two target key p q r s =
    table_then _ _ _ (then_name _ one _ _ p refl (comma_then _ _ _ (then_name _ two _ _ q refl (into_then _ _ _ (then_name _ target _ _ r refl
    (on_then _ _ _ (made_front Key (λ k. Join outer one two target k) (key_text key) key (key_front key s))))))))

-- a second table of SPLIT, where there is one
second_ends : (second : Option BranchView) → ends (second_text second) ≡ true
second_ends None = refl
second_ends (Some b) = refl

second_front : (second : Option BranchView) → IfSome second BranchGood → Front (Optional (Behind comma_of SplitBranch)) (second_text second) second
second_front None g = respelled (Nothing None) _ [] None None (λ ts h. inr h) (nothing_front None)
second_front (Some b) g = respelled (Seq (Behind comma_of SplitBranch) λ b. Nothing (Some b)) _ _ (Some b) (Some b) (λ ts h. inl h)
    (made_front (Behind comma_of SplitBranch) (λ b. Some b) (second_text (Some b)) b (comma_then SplitBranch (split_text b) b (split_front b g)))

-- TRACKED, where it stands
tracked_ends : (tracked : Bool) → ends (flag_text (codes " TRACKED") tracked) ≡ true
tracked_ends false = refl
tracked_ends true = refl

tracked_front : (tracked : Bool) → Front (Flag (Word "tracked")) (flag_text (codes " TRACKED") tracked) tracked
tracked_front false = no_flag _
tracked_front true = flag_true (Word "tracked") (codes " TRACKED") tt (spaced (Word "tracked") (codes "TRACKED") tt (bare (keyword (codes "tracked")) (codes "TRACKED") tt
    (alone (keyword (codes "tracked")) tt (λ x. x) kind.Word (codes "TRACKED") (word_spelled (codes "TRACKED") refl) refl (word_follows (codes "TRACKED")))))

pub operator_front : (o : OpView) → OpGood o → Front Operator (operator_text o) o
operator_front (CreateTable table columns) g = first_then first.Create _ _ (codes "CREATE") refl refl
    (table_then _ _ _ (then_name _ table _ _ g.0 refl (made_front Names (λ cs. CreateTable table cs) (names_text columns) columns (names_front columns g.1))))
operator_front (DropTable table) g = first_then first.Drop _ _ (codes "DROP") refl refl
    (then_choice (choice_of kinds) what.Table DropRest (32 ∷ table) (DropTable table) (codes "TABLE") refl refl refl (spaced _ table _ (last_name (λ n. DropTable n) table g)))
operator_front (RenameTable table new) g = first_then first.Rename _ _ (codes "RENAME") refl refl
    (then_choice (choice_of kinds) what.Table RenameRest _ (RenameTable table new) (codes "TABLE") refl refl refl (spaced _ _ _
    (then_name _ table _ _ g.0 refl (into_then _ _ _ (last_name (λ n. RenameTable table n) new g.1)))))
operator_front (RenameColumn column table new) g = first_then first.Rename _ _ (codes "RENAME") refl refl
    (then_choice (choice_of kinds) what.Column RenameRest _ (RenameColumn column table new) (codes "COLUMN") refl refl refl (spaced _ _ _
    (then_name _ column _ _ g.0 refl (in_then _ _ _ (then_name _ table _ _ g.1 refl (to_then _ _ _ (last_name (λ n. RenameColumn column table n) new g.2)))))))
operator_front (AddColumn column value table tracked) g = first_then first.Add _ _ (codes "ADD") refl refl
    (column_then _ _ _ (then_name _ column _ _ g.0 refl (as_then _ _ _ (then_front Expression _ (expression_text value) _ value _ refl (good_front value g.1)
    (into_then _ _ _ (then_name _ table _ _ g.2 (tracked_ends tracked)
    (made_front (Flag (Word "tracked")) (λ t. AddColumn column value table t) (flag_text (codes " TRACKED") tracked) tracked (tracked_front tracked))))))))
operator_front (DropColumn column table value) g = first_then first.Drop _ _ (codes "DROP") refl refl
    (then_choice (choice_of kinds) what.Column DropRest _ (DropColumn column table value) (codes "COLUMN") refl refl refl (spaced _ _ _
    (then_name _ column _ _ g.0 refl (from_then _ _ _ (then_name _ table _ _ g.1 refl (default_then _ _ _
    (made_front Expression (λ e. DropColumn column table e) (expression_text value) value (good_front value g.2))))))))
operator_front (DecomposeSingle table target columns) g = first_then first.Decompose _ _ (codes "DECOMPOSE") refl refl
    (table_then _ _ _ (then_name _ table _ _ g.0 refl (into_then _ _ _ (then_name _ target _ _ g.1 refl
    (subst (λ (l : List ℕ). Front (Seq Names λ columns. Seq (Optional (Behind comma_of SecondPart)) λ second. Nothing (decomposed table target columns second)) l (DecomposeSingle table target columns)) (append-nil (names_text columns))
    (then_front Names _ (names_text columns) [] columns _ refl (names_front columns g.2)
    (made_front (Optional (Behind comma_of SecondPart)) (λ second. decomposed table target columns second) [] None
    (respelled (Nothing None) _ [] None None (λ ts h. inr h) (nothing_front None)))))))))
operator_front (Decompose table one one_columns two two_columns key) g = first_then first.Decompose _ _ (codes "DECOMPOSE") refl refl
    (table_then _ _ _ (then_name _ table _ _ g.0 refl (into_then _ _ _ (then_name _ one _ _ g.1 refl
    (then_front Names _ (names_text one_columns) _ one_columns _ refl (names_front one_columns g.2)
    (made_front (Optional (Behind comma_of SecondPart)) (λ second. decomposed table one one_columns second) _ (Some (part_of two two_columns key))
    (respelled (Seq (Behind comma_of SecondPart) λ part. Nothing (Some part)) _ _ (Some (part_of two two_columns key)) _ (λ ts h. inl h)
    (made_front (Behind comma_of SecondPart) (λ part. Some part) _ (part_of two two_columns key) (comma_then SecondPart _ _ (part_front two two_columns key g.3 g.4 g.5))))))))))
operator_front (Join true one two target key) g = first_then first.Outer _ _ (codes "OUTER") refl refl
    (then_word _ _ _ (codes "join") (codes "JOIN") refl refl refl (spaced _ _ _ (join_front true one two target key g.0 g.1 g.2 g.3)))
operator_front (Join false one two target key) g = first_then first.Join _ _ (codes "JOIN") refl refl (join_front false one two target key g.0 g.1 g.2 g.3)
operator_front (Split table one second) g = first_then first.Split _ _ (codes "SPLIT") refl refl
    (table_then _ _ _ (then_name _ table _ _ g.0 refl (into_then _ _ _
    (then_front SplitBranch _ (split_text one) (second_text second) one _ (second_ends second) (split_front one g.1)
    (made_front (Optional (Behind comma_of SplitBranch)) (λ second. Split table one second) (second_text second) second (second_front second g.2))))))
operator_front (Merge one two target) g = first_then first.Merge _ _ (codes "MERGE") refl refl
    (table_then _ _ _ (then_front MergeBranch _ (merge_text one) _ one _ refl (merge_front one g.0)
    (comma_then _ _ _ (then_front MergeBranch _ (merge_text two) _ two _ refl (merge_front two g.1)
    (into_then _ _ _ (last_name (λ n. Merge one two n) target g.2))))))
