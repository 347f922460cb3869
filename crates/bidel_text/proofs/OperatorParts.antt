-- What the grammar spells has operators whose names are names and whose expressions can be written.
use Rattle.std.proofs.Common.{◌≡◌, ℕ, ◌≤◌, List, Bool, true, false}
use Rattle.std.specs.Prelude.{Option, Some, None, IfSome}
use Rattle.std.specs.List.{All}
use Rattle.par_base.specs.Names.{is_name}
use Rattle.phrases.proofs.CarriesLaws.{nothing-carries, either-carries, behind-carries, then-carries, made-carries, optional-carries}
use Rattle.bidel_expr.specs.Lexemes.{Lexeme}
use Rattle.bidel_expr.specs.Expressions.{Tree, cost, Expression, most_operators}
use Rattle.bidel_parser.specs.declared.first_words.KeyWord.{KeyWord}
use Rattle.bidel_parser.specs.declared.first_words.KeyWord.TheVariants as by
use Rattle.bidel_parser.specs.declared.first_words.OperatorWord.{OperatorWord}
use Rattle.bidel_parser.specs.declared.first_words.OperatorWord.TheVariants as operator
use Rattle.bidel_parser.specs.declared.first_words.Kind.{Kind}
use Rattle.bidel_parser.specs.declared.first_words.Kind.TheVariants as kind
use Rattle.statements.specs.Views.{KeyView, Primary, Foreign, Condition, BranchView, OpView, CreateTable, DropTable, RenameTable, RenameColumn, AddColumn, DropColumn, DecomposeSingle, Decompose, Join, Split, Merge}
use Rattle.bidel_parser.specs.Operators.{KeyRest, Key, branch_of, SplitBranch, MergeBranch, Part, part_of, SecondPart, decomposed, DropRest, RenameRest, JoinRest, OperatorRest, Operator}
use Rattle.bidel_text.proofs.Writable.{any_all, AreWritable, Holds, name-holds, names-hold, writable}

-- a name
abbrev pub IsName : List ℕ → Type 0
IsName w = is_name w ≡ true

-- an expression that can be written, within the limits
abbrev pub Good : Tree → Type 0
Good e = AreWritable e × (cost e ≤ most_operators)

abbrev pub KeyGood : KeyView → Type 0
KeyGood Primary = Unit {0}
KeyGood (Foreign column) = IsName column
KeyGood (Condition condition) = Good condition

abbrev pub BranchGood : BranchView → Type 0
BranchGood branch = IsName branch.table × Good branch.condition

abbrev pub OpGood : OpView → Type 0
OpGood (CreateTable table columns) = IsName table × All IsName columns
OpGood (DropTable table) = IsName table
OpGood (RenameTable table new) = IsName table × IsName new
OpGood (RenameColumn column table new) = IsName column × IsName table × IsName new
OpGood (AddColumn column value table tracked) = IsName column × Good value × IsName table
OpGood (DropColumn column table value) = IsName column × IsName table × Good value
OpGood (DecomposeSingle table target columns) = IsName table × IsName target × All IsName columns
OpGood (Decompose table first first_columns second second_columns key) = IsName table × IsName first × All IsName first_columns × IsName second × All IsName second_columns × KeyGood key
OpGood (Join outer first second target key) = IsName first × IsName second × IsName target × KeyGood key
OpGood (Split table first second) = IsName table × BranchGood first × IfSome second BranchGood
OpGood (Merge first second target) = BranchGood first × BranchGood second × IsName target

pub expression-holds : Holds Good Expression
expression-holds = record { holds = λ ts e h q. (writable ts e h, h.few) }

key-rest-holds : (k : KeyWord) → Holds KeyGood (KeyRest k)
key-rest-holds by.Pk = nothing-carries Primary tt
key-rest-holds by.Primary = behind-carries (λ _. nothing-carries Primary tt)
key-rest-holds by.Fk = then-carries name-holds (λ column p. nothing-carries (Foreign column) p)
key-rest-holds by.Foreign = behind-carries (λ _. then-carries name-holds (λ column p. nothing-carries (Foreign column) p))

key-holds : Holds KeyGood Key
key-holds = either-carries (behind-carries key-rest-holds) (made-carries (λ condition. Condition condition) expression-holds (λ condition p. p))

split-holds : Holds BranchGood SplitBranch
split-holds = then-carries name-holds (λ table p. behind-carries (λ _. made-carries (branch_of table) expression-holds (λ condition q. (p, q))))

merge-holds : Holds BranchGood MergeBranch
merge-holds = then-carries name-holds (λ table p. behind-carries (λ _. then-carries expression-holds (λ condition q. behind-carries (λ _. nothing-carries (branch_of table condition) (p, q)))))

drop-holds : (k : Kind) → Holds OpGood (DropRest k)
drop-holds kind.Table = then-carries name-holds (λ table p. nothing-carries (DropTable table) p)
drop-holds kind.Column = then-carries name-holds (λ column p. behind-carries (λ _. then-carries name-holds (λ table q. behind-carries (λ _.
    made-carries (DropColumn column table) expression-holds (λ value r. (p, q, r))))))

rename-holds : (k : Kind) → Holds OpGood (RenameRest k)
rename-holds kind.Table = then-carries name-holds (λ table p. behind-carries (λ _. then-carries name-holds (λ new q. nothing-carries (RenameTable table new) (p, q))))
rename-holds kind.Column = then-carries name-holds (λ column p. behind-carries (λ _. then-carries name-holds (λ table q. behind-carries (λ _. then-carries name-holds (λ new r.
    nothing-carries (RenameColumn column table new) (p, q, r))))))

abbrev PartGood : Part → Type 0
PartGood part = IsName part.table × All IsName part.columns × KeyGood part.key

part-holds : Holds PartGood SecondPart
part-holds = then-carries name-holds (λ table p. then-carries names-hold (λ columns q. behind-carries (λ _. made-carries (part_of table columns) key-holds (λ key r. (p, q, r)))))

decomposed_good : (table target : List ℕ) (columns : List (List ℕ)) (second : Option Part) → IsName table → IsName target → All IsName columns → IfSome second PartGood → OpGood (decomposed table target columns second)
decomposed_good table target columns None p q r s = (p, q, r)
decomposed_good table target columns (Some part) p q r s = (p, q, r, s.0, s.1, s.2)

join-holds : (outer : Bool) → Holds OpGood (JoinRest outer)
join-holds outer = behind-carries (λ _. then-carries name-holds (λ first p. behind-carries (λ _. then-carries name-holds (λ second q. behind-carries (λ _. then-carries name-holds (λ target r. behind-carries (λ _.
    made-carries (Join outer first second target) key-holds (λ key s. (p, q, r, s)))))))))

rest-holds : (w : OperatorWord) → Holds OpGood (OperatorRest w)
rest-holds operator.Create = behind-carries (λ _. then-carries name-holds (λ table p. then-carries names-hold (λ columns q. nothing-carries (CreateTable table columns) (p, q))))
rest-holds operator.Drop = behind-carries drop-holds
rest-holds operator.Rename = behind-carries rename-holds
rest-holds operator.Add = behind-carries (λ _. then-carries name-holds (λ column p. behind-carries (λ _. then-carries expression-holds (λ value q.
    behind-carries (λ _. then-carries name-holds (λ table r. behind-carries (λ tracked. nothing-carries (AddColumn column value table tracked) (p, q, r))))))))
rest-holds operator.Decompose = behind-carries (λ _. then-carries name-holds (λ table p. behind-carries (λ _. then-carries name-holds (λ target q. then-carries names-hold (λ columns r.
    made-carries (decomposed table target columns) (optional-carries (behind-carries (λ _. part-holds))) (λ second s. decomposed_good table target columns second p q r s))))))
rest-holds operator.Outer = behind-carries (λ _. join-holds true)
rest-holds operator.Join = join-holds false
rest-holds operator.Split = behind-carries (λ _. then-carries name-holds (λ table p. behind-carries (λ _. then-carries split-holds (λ first q.
    made-carries (Split table first) (optional-carries (behind-carries (λ _. split-holds))) (λ second r. (p, q, r))))))
rest-holds operator.Merge = behind-carries (λ _. then-carries merge-holds (λ first p. behind-carries (λ _. then-carries merge-holds (λ second q.
    behind-carries (λ _. then-carries name-holds (λ target r. nothing-carries (Merge first second target) (p, q, r)))))))

pub operator-holds : Holds OpGood Operator
operator-holds = behind-carries rest-holds

pub operator_good : (ts : List Lexeme) (o : OpView) → Operator ts o → OpGood o
operator_good ts o h = operator-holds.holds ts o h (any_all ts)
