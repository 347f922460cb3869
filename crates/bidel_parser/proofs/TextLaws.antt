-- What holds of the text of each token holds of each text of what the tokens spell.
use Rattle.std.proofs.Common.{◌≡◌, ◌≤◌, ◌∷◌, ℕ, zero, suc, ℤ, List, Bool, true, false, cond, refl, subst, arith}
use Rattle.std.specs.Prelude.{Option, Some, None, IfSome, codes, bytes_eq, nat_le, ◌-◌, ◌^◌, pos, neg_ℤ, FitsSigned}
use Rattle.std.specs.Int.{w64}
use Rattle.std.specs.Str.{is_utf8}
use Rattle.std.specs.List.{All}
use Rattle.std.proofs.lemmas.Bool.{leb-true}
use Rattle.std.proofs.lemmas.Int.{fits_signed_from_abs}
use Rattle.std.proofs.lemmas.List.Elements.{All-cons}
use Rattle.par_base.specs.declared.value.Value.{Value}
use Rattle.par_base.specs.declared.value.Value.TheVariants.{Null, Int, Text, Reference}
use Rattle.expr_lang.specs.Terms.{Literal, Column, Unary, Binary}
use Rattle.expr_lang.specs.declared.tree.UnaryOp.TheVariants.{Not, Negate}
use Rattle.expr_lang.specs.declared.tree.BinaryOp.{BinaryOp}
use Rattle.phrases.specs.Phrases.{Nothing, Seq, OneOf}
use Rattle.phrases.specs.Chains.{Chain}
use Rattle.phrases.proofs.CarriesLaws.{Carries, nothing-carries, one-carries, either-carries, behind-carries, then-carries, made-carries, many-carries, optional-carries, separated-carries, enclosed-carries, chain-carries, prefix-carries, unary-carries, grouped-carries}
use Rattle.bidel_expr.specs.Lexemes.{Lexeme, word, number, reference, «text», symbol, negative_of, unsigned_of, text_of}
use Rattle.bidel_expr.specs.Literals.{open_of, comma_of, close_of, minus_of, Literal as LiteralRule, Tuple}
use Rattle.bidel_expr.specs.Operators.{not_of, product_of, sum_of, and_of, or_of}
use Rattle.bidel_expr.specs.Expressions.{Tree, Spelling, Atom, PrimaryIn, UnaryRule, CompTail, CompRule, NegRule, Levels, Expression}
use Rattle.bidel_parser.specs.declared.first_words.KeyWord.{KeyWord}
use Rattle.bidel_parser.specs.declared.first_words.KeyWord.TheVariants as by
use Rattle.bidel_parser.specs.declared.first_words.OperatorWord.{OperatorWord}
use Rattle.bidel_parser.specs.declared.first_words.OperatorWord.TheVariants as operator
use Rattle.bidel_parser.specs.declared.first_words.Kind.{Kind}
use Rattle.bidel_parser.specs.declared.first_words.Kind.TheVariants as kind
use Rattle.bidel_parser.specs.declared.first_words.StatementWord.{StatementWord}
use Rattle.bidel_parser.specs.declared.first_words.StatementWord.TheVariants as statement
use Rattle.bidel_parser.specs.Words.{Sign}
use Rattle.statements.specs.Views.{Primary, Foreign, Condition, CreateTable, DropTable, RenameTable, RenameColumn, AddColumn, DropColumn, Join, Split, Merge, StatementView, CreateVersion, DropVersion, Insert, Import, Update, Delete, Select, Materialize, Step, ShowLayout, Use, Session, Advise, Watch, Unwatch, Begin, Commit, Rollback}
use Rattle.bidel_parser.specs.Operators.{KeyRest, Key, branch_of, SplitBranch, MergeBranch, Part, part_of, SecondPart, decomposed, DropRest, RenameRest, JoinRest, OperatorRest, ClosedOperator, ListedOperators}
use Rattle.bidel_parser.specs.Statements.{assigned, AssignmentOf, Filter, StatementRest, IsStatement}
use Rattle.statements.specs.Texts.{ValueTexts, RowTexts, TermTexts, KeyTexts, BranchTexts, OpTexts, AssignmentTexts, StatementTexts}

-- P holds of the text that a token says
abbrev pub LexemeTexts : (List ℕ → Type 0) → Lexeme → Type 0
LexemeTexts P t = (bytes : List ℕ) → text_of t ≡ Some bytes → P bytes

-- ---- values

-- a value that isn't a text is none
not_a_text : (b : Bool) (v : Value) (bytes : List ℕ) → ((bytes : List ℕ) → v ≡ Text bytes → ⊥) → cond b (Some v) None ≡ Some (Text bytes) → ⊥
not_a_text true v bytes n h = let same : v ≡ Text bytes = cc in n bytes same
not_a_text false v bytes n h = cc

-- a token that is a text literal says its text
says_text : (t : Lexeme) (bytes : List ℕ) → unsigned_of t ≡ Some (Text bytes) → text_of t ≡ Some bytes
says_text (word w) bytes h = absurd (not_a_text (bytes_eq (codes "null") w) Null bytes (λ bytes e. cc) h)
says_text (number n) bytes h = absurd (not_a_text (nat_le n (2 ^ 63 - 1)) (Int (pos n)) bytes (λ bytes e. cc) h)
says_text (reference n) bytes h = absurd (not_a_text (nat_le n (2 ^ 64 - 1)) (Reference n) bytes (λ bytes e. cc) h)
says_text («text» written) bytes h = by (is_utf8 written) h
  where
    by : (b : Bool) → cond b (Some (Text written)) None ≡ Some (Text bytes) → cond b (Some written) None ≡ Some bytes
    by true e = cc
    by false e = cc
says_text (symbol s) bytes h = cc

-- a number behind a sign is no text
negative_is_no_text : (t : Lexeme) (bytes : List ℕ) → negative_of t ≡ Some (Text bytes) → ⊥
negative_is_no_text (word w) bytes h = cc
negative_is_no_text (number n) bytes h = not_a_text (nat_le n (2 ^ 63)) _ bytes (λ bytes e. cc) h
negative_is_no_text (reference n) bytes h = cc
negative_is_no_text («text» written) bytes h = cc
negative_is_no_text (symbol s) bytes h = cc

-- an integer that a token says has 64 bits
unsigned_fits : (t : Lexeme) (z : ℤ) → unsigned_of t ≡ Some (Int z) → FitsSigned w64 z
unsigned_fits (word w) z h = by (bytes_eq (codes "null") w) h
  where
    by : (b : Bool) → cond b (Some Null) None ≡ Some (Int z) → FitsSigned w64 z
    by true e = cc
    by false e = cc
unsigned_fits (number n) z h = by (nat_le n (2 ^ 63 - 1)) refl h
  where
    by : (b : Bool) → nat_le n (2 ^ 63 - 1) ≡ b → cond b (Some (Int (pos n))) None ≡ Some (Int z) → FitsSigned w64 z
    by true small e = let same : pos n ≡ z = cc in subst (FitsSigned w64) same (fits_signed_from_abs w64 (pos n) (omega (arith, leb-true n (2 ^ 63 - 1) small)))
    by false small e = cc
unsigned_fits (reference n) z h = by (nat_le n (2 ^ 64 - 1)) h
  where
    by : (b : Bool) → cond b (Some (Reference n)) None ≡ Some (Int z) → FitsSigned w64 z
    by true e = cc
    by false e = cc
unsigned_fits («text» written) z h = by (is_utf8 written) h
  where
    by : (b : Bool) → cond b (Some (Text written)) None ≡ Some (Int z) → FitsSigned w64 z
    by true e = cc
    by false e = cc
unsigned_fits (symbol s) z h = cc

minus_fits : (n : ℕ) → n ≤ 2 ^ 63 → FitsSigned w64 (neg_ℤ (pos n))
minus_fits zero h = fits_signed_from_abs w64 (pos 0) (omega arith)
minus_fits (suc n) h = record { sfits = omega (arith, h) }

negative_fits : (t : Lexeme) (z : ℤ) → negative_of t ≡ Some (Int z) → FitsSigned w64 z
negative_fits (word w) z h = cc
negative_fits (number n) z h = by (nat_le n (2 ^ 63)) refl h
  where
    by : (b : Bool) → nat_le n (2 ^ 63) ≡ b → cond b (Some (Int (neg_ℤ (pos n)))) None ≡ Some (Int z) → FitsSigned w64 z
    by true small e = let same : neg_ℤ (pos n) ≡ z = cc in subst (FitsSigned w64) same (minus_fits n (leb-true n (2 ^ 63) small))
    by false small e = cc
negative_fits (reference n) z h = cc
negative_fits («text» written) z h = cc
negative_fits (symbol s) z h = cc

module _ (P : List ℕ → Type 0) where
  -- where P holds of the text of each token, F holds of the value
  abbrev Texts : {A : Type 0} → (A → Type 0) → (List Lexeme → A → Type 0) → Type 0
  Texts F S = Carries (LexemeTexts P) F S

  unsigned_text : (t : Lexeme) (v : Value) → unsigned_of t ≡ Some v → LexemeTexts P t → ValueTexts P v
  unsigned_text t Null h p = tt
  unsigned_text t (Int n) h p = unsigned_fits t n h
  unsigned_text t (Text bytes) h p = p bytes (says_text t bytes h)
  unsigned_text t (Reference id) h p = tt

  negative_text : (t : Lexeme) (v : Value) → negative_of t ≡ Some v → LexemeTexts P t → ValueTexts P v
  negative_text t Null h p = tt
  negative_text t (Int n) h p = negative_fits t n h
  negative_text t (Text bytes) h p = absurd (negative_is_no_text t bytes h)
  negative_text t (Reference id) h p = tt

  unsigned-texts : Texts (ValueTexts P) (OneOf unsigned_of)
  unsigned-texts = one-carries unsigned_of unsigned_text

  literal-texts : Texts (ValueTexts P) LiteralRule
  literal-texts = either-carries (behind-carries (λ _. one-carries negative_of negative_text)) unsigned-texts

  tuple-texts : Texts (RowTexts P) Tuple
  tuple-texts = enclosed-carries open_of comma_of close_of literal-texts

  -- ---- expressions

  atom-texts : Texts (TermTexts P) Atom
  atom-texts = either-carries (made-carries (λ v. Literal v) unsigned-texts (λ v p. p)) (behind-carries (λ name. nothing-carries (Column name) tt))

  module _ (S : Spelling) (r : Texts (TermTexts P) S) where
    binary-texts : (op : Lexeme → Option BinaryOp) → Texts (TermTexts P) (Chain Binary op S)
    binary-texts op = chain-carries Binary op (λ o a b p q. (p, q)) r

    unary-texts : Texts (TermTexts P) (UnaryRule S)
    unary-texts = unary-carries (Unary Negate) minus_of (λ a p. p) Literal negative_of negative_text r

    tail-texts : (a : Tree) → TermTexts P a → Texts (TermTexts P) (CompTail S a)
    tail-texts a p = either-carries
        (behind-carries (λ op. made-carries (λ b. Binary op a b) r (λ b q. (p, q))))
        (either-carries (behind-carries (λ _. behind-carries (λ op. nothing-carries (Unary op a) p))) (nothing-carries a p))

    comp-texts : Texts (TermTexts P) (CompRule S)
    comp-texts = then-carries r tail-texts

    neg-texts : Texts (TermTexts P) (NegRule S)
    neg-texts = prefix-carries (Unary Not) not_of (λ a p. p) r

  levels-texts : (S : Spelling) → Texts (TermTexts P) S → Texts (TermTexts P) (Levels S)
  levels-texts S r = binary-texts _ (binary-texts _ (neg-texts _ (comp-texts _ (binary-texts _ (binary-texts _ (unary-texts S r) product_of) sum_of))) and_of) or_of

  primary-texts : (depth : ℕ) → Texts (TermTexts P) (PrimaryIn depth)
  primary-texts zero = atom-texts
  primary-texts (suc depth) = grouped-carries open_of close_of atom-texts (levels-texts (PrimaryIn depth) (primary-texts depth))

  expression-texts : Texts (TermTexts P) Expression
  expression-texts = record { holds = λ ts e h q. (levels-texts (PrimaryIn h.depth) (primary-texts h.depth)).holds ts e h.spelled q }

  -- ---- operators

  key-rest-texts : (k : KeyWord) → Texts (KeyTexts P) (KeyRest k)
  key-rest-texts by.Pk = nothing-carries Primary tt
  key-rest-texts by.Primary = behind-carries (λ _. nothing-carries Primary tt)
  key-rest-texts by.Fk = behind-carries (λ column. nothing-carries (Foreign column) tt)
  key-rest-texts by.Foreign = behind-carries (λ _. behind-carries (λ column. nothing-carries (Foreign column) tt))

  key-texts : Texts (KeyTexts P) Key
  key-texts = either-carries (behind-carries key-rest-texts) (made-carries (λ condition. Condition condition) expression-texts (λ condition p. p))

  split-branch-texts : Texts (BranchTexts P) SplitBranch
  split-branch-texts = behind-carries (λ table. behind-carries (λ _. made-carries (branch_of table) expression-texts (λ condition p. p)))

  merge-branch-texts : Texts (BranchTexts P) MergeBranch
  merge-branch-texts = behind-carries (λ table. behind-carries (λ _. then-carries expression-texts (λ condition p. behind-carries (λ _. nothing-carries (branch_of table condition) p))))

  drop-texts : (k : Kind) → Texts (OpTexts P) (DropRest k)
  drop-texts kind.Table = behind-carries (λ table. nothing-carries (DropTable table) tt)
  drop-texts kind.Column = behind-carries (λ column. behind-carries (λ _. behind-carries (λ table. behind-carries (λ _. made-carries (DropColumn column table) expression-texts (λ value p. p)))))

  rename-texts : (k : Kind) → Texts (OpTexts P) (RenameRest k)
  rename-texts kind.Table = behind-carries (λ table. behind-carries (λ _. behind-carries (λ new. nothing-carries (RenameTable table new) tt)))
  rename-texts kind.Column = behind-carries (λ column. behind-carries (λ _. behind-carries (λ table. behind-carries (λ _. behind-carries (λ new. nothing-carries (RenameColumn column table new) tt)))))

  part-texts : Texts (λ part. KeyTexts P part.key) SecondPart
  part-texts = behind-carries (λ table. behind-carries (λ columns. behind-carries (λ _. made-carries (part_of table columns) key-texts (λ key p. p))))

  decomposed_texts : (table target : List ℕ) (columns : List (List ℕ)) (second : Option Part) → IfSome second (λ part. KeyTexts P part.key) → OpTexts P (decomposed table target columns second)
  decomposed_texts table target columns None p = tt
  decomposed_texts table target columns (Some part) p = p

  join-texts : (outer : Bool) → Texts (OpTexts P) (JoinRest outer)
  join-texts outer = behind-carries (λ _. behind-carries (λ first. behind-carries (λ _. behind-carries (λ second. behind-carries (λ _. behind-carries (λ target. behind-carries (λ _.
      made-carries (Join outer first second target) key-texts (λ key p. p))))))))

  operator-rest-texts : (w : OperatorWord) → Texts (OpTexts P) (OperatorRest w)
  operator-rest-texts operator.Create = behind-carries (λ _. behind-carries (λ table. behind-carries (λ columns. nothing-carries (CreateTable table columns) tt)))
  operator-rest-texts operator.Drop = behind-carries drop-texts
  operator-rest-texts operator.Rename = behind-carries rename-texts
  operator-rest-texts operator.Add = behind-carries (λ _. behind-carries (λ column. behind-carries (λ _. then-carries expression-texts (λ value p.
      behind-carries (λ _. behind-carries (λ table. behind-carries (λ tracked. nothing-carries (AddColumn column value table tracked) p)))))))
  operator-rest-texts operator.Decompose = behind-carries (λ _. behind-carries (λ table. behind-carries (λ _. behind-carries (λ target. behind-carries (λ columns.
      made-carries (decomposed table target columns) (optional-carries (behind-carries (λ _. part-texts))) (decomposed_texts table target columns))))))
  operator-rest-texts operator.Outer = behind-carries (λ _. join-texts true)
  operator-rest-texts operator.Join = join-texts false
  operator-rest-texts operator.Split = behind-carries (λ _. behind-carries (λ table. behind-carries (λ _. then-carries split-branch-texts (λ first p.
      made-carries (Split table first) (optional-carries (behind-carries (λ _. split-branch-texts))) (λ second q. (p, q))))))
  operator-rest-texts operator.Merge = behind-carries (λ _. then-carries merge-branch-texts (λ first p. behind-carries (λ _. then-carries merge-branch-texts (λ second q.
      behind-carries (λ _. behind-carries (λ target. nothing-carries (Merge first second target) (p, q)))))))

  closed-texts : Texts (OpTexts P) ClosedOperator
  closed-texts = then-carries (behind-carries operator-rest-texts) (λ o p. behind-carries (λ _. nothing-carries o p))

  operators-texts : Texts (All (OpTexts P)) ListedOperators
  operators-texts = then-carries closed-texts (λ o p. made-carries (λ os. o ∷ os) (many-carries closed-texts) (λ os ps. All-cons (OpTexts P) o os p ps))

  -- ---- statements

  assignment-texts : Texts (AssignmentTexts P) AssignmentOf
  assignment-texts = behind-carries (λ column. behind-carries (λ _. made-carries (assigned column) expression-texts (λ value p. p)))

  filter-texts : Texts (λ filter. IfSome filter (TermTexts P)) Filter
  filter-texts = optional-carries (behind-carries (λ _. expression-texts))

  -- what ends a statement
  ended-texts : (s : StatementView) → StatementTexts P s → Texts (StatementTexts P) (Seq (Sign ";") λ _. Nothing s)
  ended-texts s p = behind-carries (λ _. nothing-carries s p)

  statement-rest-texts : (w : StatementWord) → Texts (StatementTexts P) (StatementRest w)
  statement-rest-texts statement.Create = behind-carries (λ _. behind-carries (λ _. behind-carries (λ name. behind-carries (λ origin. behind-carries (λ _.
      made-carries (CreateVersion name origin) operators-texts (λ operators p. p))))))
  statement-rest-texts statement.Drop = behind-carries (λ _. behind-carries (λ _. behind-carries (λ name. ended-texts (DropVersion name) tt)))
  statement-rest-texts statement.Insert = behind-carries (λ _. behind-carries (λ table. behind-carries (λ _. then-carries (separated-carries comma_of tuple-texts) (λ rows p.
      ended-texts (Insert table rows) p))))
  statement-rest-texts statement.Import = behind-carries (λ _. behind-carries (λ table. behind-carries (λ _. then-carries (one-carries {F = P} text_of (λ t bytes h p. p bytes h)) (λ bytes p.
      ended-texts (Import table bytes) p))))
  statement-rest-texts statement.Update = behind-carries (λ table. behind-carries (λ _. then-carries (separated-carries comma_of assignment-texts) (λ assignments p.
      then-carries filter-texts (λ filter q. ended-texts (Update table assignments filter) (p, q)))))
  statement-rest-texts statement.Delete = behind-carries (λ _. behind-carries (λ table. then-carries filter-texts (λ filter p. ended-texts (Delete table filter) p)))
  statement-rest-texts statement.Select = behind-carries (λ items. behind-carries (λ _. behind-carries (λ table. then-carries filter-texts (λ filter p. behind-carries (λ csv.
      ended-texts (Select table items filter csv) p)))))
  statement-rest-texts statement.Materialize = behind-carries (λ named. behind-carries (λ in_steps. ended-texts (Materialize named in_steps) tt))
  statement-rest-texts statement.Step = ended-texts Step tt
  statement-rest-texts statement.Show = behind-carries (λ _. ended-texts ShowLayout tt)
  statement-rest-texts statement.Use = behind-carries (λ name. ended-texts (Use name) tt)
  statement-rest-texts statement.Session = behind-carries (λ number. ended-texts (Session number) tt)
  statement-rest-texts statement.Advise = behind-carries (λ name. ended-texts (Advise name) tt)
  statement-rest-texts statement.Watch = behind-carries (λ name. ended-texts (Watch name) tt)
  statement-rest-texts statement.Unwatch = behind-carries (λ number. ended-texts (Unwatch number) tt)
  statement-rest-texts statement.Begin = ended-texts Begin tt
  statement-rest-texts statement.Commit = ended-texts Commit tt
  statement-rest-texts statement.Rollback = ended-texts Rollback tt

  pub statement-texts : Texts (StatementTexts P) IsStatement
  statement-texts = behind-carries statement-rest-texts
