-- Operators are read as their grammar says.
use Rattle.std.proofs.Common.{◌++◌, List, Bool, true, false, refl, ap, ◌∙◌}
use Rattle.std.specs.Prelude.{◌≡◌, ◌||◌, Some, None, codes}
use Rattle.std.proofs.lemmas.Bool.{or_parts}
use Rattle.phrases.specs.Phrases.{Nothing, Seq, Behind, Optional}
use Rattle.phrases.specs.Reading.{Read, and_then, starts, is, none, or, done, behind_at}
use Rattle.phrases.specs.Reads.{Reads}
use Rattle.phrases.proofs.ReadersLaws.{then-reads, done-reads, respell, word as then_word, closed, starts_right, begins_token, known}
use Rattle.phrases.proofs.ListsLaws.{made-reads, optional-reads}
use Rattle.bidel_expr.specs.Lexemes.{Lexeme, word, keyword}
use Rattle.bidel_expr.specs.Literals.{comma_of, Names, name_at, names_at}
use Rattle.bidel_expr.specs.Expressions.{Expression, expression_goes, expression_at}
use Rattle.bidel_expr.proofs.LiteralLaws.{names-reads}
use Rattle.bidel_expr.proofs.ExpressionLaws.{expression-reads}
use Rattle.bidel_parser.specs.declared.first_words.OperatorWord.{OperatorWord}
use Rattle.bidel_parser.specs.declared.first_words.OperatorWord.TheVariants as first
use Rattle.bidel_parser.specs.declared.first_words.Kind.{Kind}
use Rattle.bidel_parser.specs.declared.first_words.Kind.TheVariants as kind
use Rattle.bidel_parser.specs.Words.{Word, Sign, Name, Flag, choice_of, is_word}
use Rattle.bidel_parser.specs.inner.WordReaders.{sign_at}
use Rattle.statements.specs.Views.{OpView, CreateTable, DropTable, RenameTable, RenameColumn, AddColumn, DropColumn, Join, Split, Merge}
use Rattle.bidel_parser.specs.Operators.{operator_words, kinds, Key, CreateRest, DropRest, RenameRest, AddRest, decomposed, part_of, SecondPart, DecomposeRest, JoinRest, branch_of, SplitBranch, SplitRest, MergeBranch, MergeRest, OperatorRest, Operator, ClosedOperator}
use Rattle.bidel_parser.specs.inner.OperatorReaders.{key_at, create_rest_at, drop_rest_at, rename_rest_at, tracked_at, add_rest_at, second_part_at, optional_part_at, decompose_rest_at, join_rest_at, split_branch_at, second_branch_at, split_rest_at, merge_branch_at, merge_rest_at, operator_rest_at, operator_at, closed_operator_at}
use Rattle.bidel_parser.proofs.WordLaws.{then_keyword, then_sign, then_name, keyword_reads, keyword_begins, sign_begins}
use Rattle.bidel_parser.proofs.ChoiceLaws.{maybe_begins, flag-reads}
use Rattle.bidel_parser.proofs.KeyLaws.{key-reads}

-- what may continue an operator that ends with an expression or a second part
abbrev parts_go : Lexeme → Bool
parts_go = or (is comma_of) expression_goes

-- what may continue an operator: its last expression goes on, a second part comes, or TRACKED
abbrev pub operator_goes : Lexeme → Bool
operator_goes = or (is_word "tracked") parts_go

-- a part that ends as those do
with_parts : {A : Type 0} (S : List Lexeme → A → Type 0) (p : List Lexeme → Read Lexeme A) → Reads parts_go S p → Reads operator_goes S p
with_parts S p r = respell parts_go operator_goes S S p r (λ front a h. h) (λ front a h. h) (λ t h. (or_parts (is_word "tracked" t) (parts_go t) h).1)

-- a part that ends as an expression does
widened : {A : Type 0} (S : List Lexeme → A → Type 0) (p : List Lexeme → Read Lexeme A) → Reads expression_goes S p → Reads operator_goes S p
widened S p r = with_parts S p (respell expression_goes parts_go S S p r (λ front a h. h) (λ front a h. h) (λ t h. (or_parts (is comma_of t) (expression_goes t) h).1))

-- CREATE TABLE, from the name on
pub create-table-reads : Reads operator_goes (Seq Name λ table. Seq Names λ columns. Nothing (CreateTable table columns)) (and_then name_at λ table. and_then names_at λ columns. done (CreateTable table columns))
create-table-reads = then_name operator_goes _ _ (λ table. closed operator_goes Names _ names_at _ names-reads (λ columns. done-reads operator_goes (CreateTable table columns)))

create-rest-reads : Reads operator_goes CreateRest create_rest_at
create-rest-reads = then_keyword operator_goes "table" _ _ create-table-reads

pub drop-rest-reads : (k : Kind) → Reads operator_goes (DropRest k) (drop_rest_at k)
drop-rest-reads kind.Table = then_name operator_goes _ _ (λ table. done-reads operator_goes (DropTable table))
drop-rest-reads kind.Column =
    then_name operator_goes _ _ (λ column.
    then_keyword operator_goes "from" _ _ (
    then_name operator_goes _ _ (λ table.
    then_keyword operator_goes "default" _ _ (
    widened _ _ (made-reads expression_goes Expression expression_at (λ value. DropColumn column table value) expression-reads)))))

rename-rest-reads : (k : Kind) → Reads operator_goes (RenameRest k) (rename_rest_at k)
rename-rest-reads kind.Table =
    then_name operator_goes _ _ (λ table.
    then_keyword operator_goes "into" _ _ (
    then_name operator_goes _ _ (λ new. done-reads operator_goes (RenameTable table new))))
rename-rest-reads kind.Column =
    then_name operator_goes _ _ (λ column.
    then_keyword operator_goes "in" _ _ (
    then_name operator_goes _ _ (λ table.
    then_keyword operator_goes "to" _ _ (
    then_name operator_goes _ _ (λ new. done-reads operator_goes (RenameColumn column table new))))))

-- what may continue the table of ADD COLUMN
abbrev tracked_goes : Lexeme → Bool
tracked_goes = or (is_word "tracked") none

tracked-reads : Reads operator_goes (Flag (Word "tracked")) tracked_at
tracked-reads = respell tracked_goes operator_goes _ _ _
    (flag-reads none (is_word "tracked") (Word "tracked") _ (keyword_reads none "tracked")
    (λ front us a h. begins_token (is_word "tracked") (keyword (codes "tracked")) true (known (keyword (codes "tracked"))) front us a h))
    (λ front a h. h) (λ front a h. h) (λ t h. only t ((or_parts (is_word "tracked" t) (parts_go t) h).0))
  where
    only : (t : Lexeme) → is_word "tracked" t ≡ false → tracked_goes t ≡ false
    only t h = ap (λ (b : Bool). b || false) h

add-rest-reads : Reads operator_goes AddRest add_rest_at
add-rest-reads =
    then_keyword operator_goes "column" _ _ (
    then_name operator_goes _ _ (λ column.
    then_keyword operator_goes "as" _ _ (
    then-reads operator_goes expression_goes Expression _ expression_at _ expression-reads (λ value.
    then_keyword operator_goes "into" _ _ (
    then_name operator_goes _ _ (λ table. made-reads operator_goes (Flag (Word "tracked")) tracked_at (λ tracked. AddColumn column value table tracked) tracked-reads)))
    (λ value right us o h clear. keyword_begins expression_goes false "into" refl _ right us o h))))

-- ---- DECOMPOSE and JOIN

second-part-reads : Reads expression_goes SecondPart second_part_at
second-part-reads =
    then_name expression_goes _ _ (λ table.
    closed expression_goes Names _ names_at _ names-reads (λ columns.
    then_keyword expression_goes "on" _ _ (
    made-reads expression_goes Key key_at (λ key. part_of table columns key) key-reads)))

optional-part-reads : Reads operator_goes (Optional (Behind comma_of SecondPart)) optional_part_at
optional-part-reads = with_parts _ _ (optional-reads expression_goes (is comma_of) (Behind comma_of SecondPart) (behind_at comma_of second_part_at)
    (then_sign expression_goes "," SecondPart second_part_at second-part-reads)
    (λ front us part h. sign_begins (is comma_of) true "," refl SecondPart front us part h))

decompose-rest-reads : Reads operator_goes DecomposeRest decompose_rest_at
decompose-rest-reads =
    then_keyword operator_goes "table" _ _ (
    then_name operator_goes _ _ (λ table.
    then_keyword operator_goes "into" _ _ (
    then_name operator_goes _ _ (λ target.
    closed operator_goes Names _ names_at _ names-reads (λ columns.
    made-reads operator_goes (Optional (Behind comma_of SecondPart)) optional_part_at (λ second. decomposed table target columns second) optional-part-reads)))))

join-rest-reads : (outer : Bool) → Reads operator_goes (JoinRest outer) (join_rest_at outer)
join-rest-reads outer =
    then_keyword operator_goes "table" _ _ (
    then_name operator_goes _ _ (λ one.
    then_sign operator_goes "," _ _ (
    then_name operator_goes _ _ (λ two.
    then_keyword operator_goes "into" _ _ (
    then_name operator_goes _ _ (λ target.
    then_keyword operator_goes "on" _ _ (
    widened _ _ (made-reads expression_goes Key key_at (λ key. Join outer one two target key) key-reads))))))))

-- ---- SPLIT and MERGE

split-branch-reads : Reads expression_goes SplitBranch split_branch_at
split-branch-reads =
    then_name expression_goes _ _ (λ table.
    then_keyword expression_goes "with" _ _ (
    made-reads expression_goes Expression expression_at (λ condition. branch_of table condition) expression-reads))

second-branch-reads : Reads parts_go (Optional (Behind comma_of SplitBranch)) second_branch_at
second-branch-reads = optional-reads expression_goes (is comma_of) (Behind comma_of SplitBranch) (behind_at comma_of split_branch_at)
    (then_sign expression_goes "," SplitBranch split_branch_at split-branch-reads)
    (λ front us branch h. sign_begins (is comma_of) true "," refl SplitBranch front us branch h)

split-rest-reads : Reads operator_goes SplitRest split_rest_at
split-rest-reads =
    then_keyword operator_goes "table" _ _ (
    then_name operator_goes _ _ (λ table.
    then_keyword operator_goes "into" _ _ (
    with_parts _ _ (
    then-reads parts_go expression_goes SplitBranch _ split_branch_at _ split-branch-reads (λ one.
    made-reads parts_go (Optional (Behind comma_of SplitBranch)) second_branch_at (λ two. Split table one two) second-branch-reads)
    (λ one right us o h clear. maybe_begins expression_goes false (Behind comma_of SplitBranch) (λ b. Nothing (Some b)) None (λ two. Nothing (Split table one two)) us
    (λ front us b h. sign_begins expression_goes false "," refl SplitBranch front us b h)
    (λ two front o h. ap (λ (l : List Lexeme). starts expression_goes (l ++ us)) h.0 ∙ starts_right (is comma_of) expression_goes us clear) right o h)))))

merge-branch-reads : Reads none MergeBranch merge_branch_at
merge-branch-reads =
    then_name none _ _ (λ table.
    then_sign none "(" _ _ (
    then-reads none expression_goes Expression _ expression_at _ expression-reads (λ condition.
    then_sign none ")" _ _ (done-reads none (branch_of table condition)))
    (λ condition right us b h clear. sign_begins expression_goes false ")" refl _ right us b h)))

merge-rest-reads : Reads operator_goes MergeRest merge_rest_at
merge-rest-reads =
    then_keyword operator_goes "table" _ _ (
    closed operator_goes MergeBranch _ merge_branch_at _ merge-branch-reads (λ one.
    then_sign operator_goes "," _ _ (
    closed operator_goes MergeBranch _ merge_branch_at _ merge-branch-reads (λ two.
    then_keyword operator_goes "into" _ _ (
    then_name operator_goes _ _ (λ target. done-reads operator_goes (Merge one two target)))))))

-- ---- operators

pub operator-rest-reads : (k : OperatorWord) → Reads operator_goes (OperatorRest k) (operator_rest_at k)
operator-rest-reads first.Create = create-rest-reads
operator-rest-reads first.Drop = then_word operator_goes (choice_of kinds) (word (codes "table")) kind.Table refl DropRest drop_rest_at drop-rest-reads
operator-rest-reads first.Rename = then_word operator_goes (choice_of kinds) (word (codes "table")) kind.Table refl RenameRest rename_rest_at rename-rest-reads
operator-rest-reads first.Add = add-rest-reads
operator-rest-reads first.Decompose = decompose-rest-reads
operator-rest-reads first.Outer = then_keyword operator_goes "join" _ _ (join-rest-reads true)
operator-rest-reads first.Join = join-rest-reads false
operator-rest-reads first.Split = split-rest-reads
operator-rest-reads first.Merge = merge-rest-reads

pub operator-reads : Reads operator_goes Operator operator_at
operator-reads = then_word operator_goes (choice_of operator_words) (word (codes "create")) first.Create refl OperatorRest operator_rest_at operator-rest-reads

pub semicolon-reads : (o : OpView) → Reads none (Seq (Sign ";") λ _. Nothing o) (and_then (sign_at ";") λ _. done o)
semicolon-reads o = then_sign none ";" _ _ (done-reads none o)

pub closed-operator-reads : Reads none ClosedOperator closed_operator_at
closed-operator-reads = then-reads none operator_goes Operator _ operator_at _ operator-reads semicolon-reads
    (λ o right us r h clear. sign_begins operator_goes false ";" refl _ right us r h)
