-- Views of operators are told apart by numbers: what a type that contracts compare is asked for.
use Rattle.std.specs.Prelude.{◌≡◌, ℕ, Bool, List, Option, ◌⊎◌, refl}
use Rattle.std.proofs.Common.{◌≢◌, inl, inr, ap, arith}
use Rattle.std.specs.Coded.{Coded, code_by, coded×, coded⊎, coded_ℕ, coded_bool, coded_list, coded_option}
use base.Stored.{Gv, gnil, gnum, gcons, coded_unit}
use Rattle.par_base.specs.contracts.value.Value as value
use Rattle.expr_lang.specs.contracts.tree.UnaryOp as unary
use Rattle.expr_lang.specs.contracts.tree.BinaryOp as binary
use Rattle.expr_lang.specs.Terms.{Term, Literal, Column, Unary, Binary}
use Rattle.statements.specs.Views.{Tree, KeyView, BranchView, OpView}
use Rattle.statements.specs.Views as «text»
use Rattle.op_kinds.specs.Operators.{Built, AnyView}
use Rattle.op_kinds.specs.Operators as «any»

-- ---- expressions

-- the two halves of a code

abbrev head : Gv → Gv
head gnil = gnil
head (gnum n) = gnil
head (gcons a b) = a

abbrev tail : Gv → Gv
tail gnil = gnil
tail (gnum n) = gnil
tail (gcons a b) = b

-- codes of two variants differ
apart : (m n : ℕ) {a b : Gv} → gcons (gnum m) a ≡ gcons (gnum n) b → m ≢ n → ⊥
apart m n p other = other (cc)

-- the number of the variant, and then the codes of its parts
module _ {C : Type 0} (column : Coded C) where
  abbrev term_code : Term C → Gv
  term_code (Literal v) = gcons (gnum 0) (value.the_row.coded.code v)
  term_code (Column c) = gcons (gnum 1) (column.code c)
  term_code (Unary op t) = gcons (gnum 2) (gcons (unary.the_row.coded.code op) (term_code t))
  term_code (Binary op t u) = gcons (gnum 3) (gcons (binary.the_row.coded.code op) (gcons (term_code t) (term_code u)))

  pub term_inj : (x y : Term C) → term_code x ≡ term_code y → x ≡ y
  term_inj (Literal v) (Literal w) p = λ i. Literal (value.the_row.coded.inj v w (ap (λ g. tail g) p) i)
  term_inj (Literal v) (Column d) p = absurd (apart 0 1 p (omega arith))
  term_inj (Literal v) (Unary op2 t2) p = absurd (apart 0 2 p (omega arith))
  term_inj (Literal v) (Binary op2 t2 u2) p = absurd (apart 0 3 p (omega arith))
  term_inj (Column c) (Literal w) p = absurd (apart 1 0 p (omega arith))
  term_inj (Column c) (Column d) p = λ i. Column (column.inj c d (ap (λ g. tail g) p) i)
  term_inj (Column c) (Unary op2 t2) p = absurd (apart 1 2 p (omega arith))
  term_inj (Column c) (Binary op2 t2 u2) p = absurd (apart 1 3 p (omega arith))
  term_inj (Unary op t) (Literal w) p = absurd (apart 2 0 p (omega arith))
  term_inj (Unary op t) (Column d) p = absurd (apart 2 1 p (omega arith))
  term_inj (Unary op t) (Unary op2 t2) p =
      λ i. Unary (unary.the_row.coded.inj op op2 (ap (λ g. head (tail g)) p) i) (term_inj t t2 (ap (λ g. tail (tail g)) p) i)
  term_inj (Unary op t) (Binary op2 t2 u2) p = absurd (apart 2 3 p (omega arith))
  term_inj (Binary op t u) (Literal w) p = absurd (apart 3 0 p (omega arith))
  term_inj (Binary op t u) (Column d) p = absurd (apart 3 1 p (omega arith))
  term_inj (Binary op t u) (Unary op2 t2) p = absurd (apart 3 2 p (omega arith))
  term_inj (Binary op t u) (Binary op2 t2 u2) p =
      λ i. Binary (binary.the_row.coded.inj op op2 (ap (λ g. head (tail g)) p) i)
      (term_inj t t2 (ap (λ g. head (tail (tail g))) p) i) (term_inj u u2 (ap (λ g. tail (tail (tail g))) p) i)

  abbrev pub coded_term : Coded (Term C)
  coded_term = record { code = term_code; inj = term_inj }

abbrev coded_name : Coded (List ℕ)
coded_name = coded_list coded_ℕ

abbrev coded_names : Coded (List (List ℕ))
coded_names = coded_list coded_name

abbrev coded_tree : Coded Tree
coded_tree = coded_term coded_name

-- ---- texts: which variant it is, and its parts

abbrev KeyParts : Type 0
KeyParts =
    Unit {0}
    ⊎ List ℕ
    ⊎ Tree

abbrev key_parts : KeyView → KeyParts
key_parts «text».Primary = inl tt
key_parts («text».Foreign a) = inr (inl a)
key_parts («text».Condition a) = inr (inr a)

abbrev key_from : KeyParts → KeyView
key_from (inl u) = «text».Primary
key_from (inr (inl a)) = «text».Foreign a
key_from (inr (inr a)) = «text».Condition a

pub key_back : (x : KeyView) → key_from (key_parts x) ≡ x
key_back «text».Primary = refl
key_back («text».Foreign a) = refl
key_back («text».Condition a) = refl

abbrev coded_key : Coded KeyView
coded_key = code_by KeyParts
    (coded⊎ coded_unit
    (coded⊎ coded_name coded_tree))
    key_parts key_from key_back

abbrev coded_branch : Coded BranchView
coded_branch = code_by (List ℕ × Tree) (coded× coded_name coded_tree)
    (λ b. (b.table, b.condition)) (λ p. record { table = p.0; condition = p.1 }) (λ _. refl)

abbrev OpParts : Type 0
OpParts =
    List ℕ × List (List ℕ)
    ⊎ List ℕ
    ⊎ List ℕ × List ℕ
    ⊎ List ℕ × (List ℕ × List ℕ)
    ⊎ List ℕ × (Tree × (List ℕ × Bool))
    ⊎ List ℕ × (List ℕ × Tree)
    ⊎ List ℕ × (List ℕ × List (List ℕ))
    ⊎ List ℕ × (List ℕ × (List (List ℕ) × (List ℕ × (List (List ℕ) × KeyView))))
    ⊎ Bool × (List ℕ × (List ℕ × (List ℕ × KeyView)))
    ⊎ List ℕ × (BranchView × Option BranchView)
    ⊎ BranchView × (BranchView × List ℕ)

abbrev op_parts : OpView → OpParts
op_parts («text».CreateTable a b) = inl (a, b)
op_parts («text».DropTable a) = inr (inl a)
op_parts («text».RenameTable a b) = inr (inr (inl (a, b)))
op_parts («text».RenameColumn a b c) = inr (inr (inr (inl (a, (b, c)))))
op_parts («text».AddColumn a b c d) = inr (inr (inr (inr (inl (a, (b, (c, d)))))))
op_parts («text».DropColumn a b c) = inr (inr (inr (inr (inr (inl (a, (b, c)))))))
op_parts («text».DecomposeSingle a b c) = inr (inr (inr (inr (inr (inr (inl (a, (b, c))))))))
op_parts («text».Decompose a b c d e f) = inr (inr (inr (inr (inr (inr (inr (inl (a, (b, (c, (d, (e, f))))))))))))
op_parts («text».Join a b c d e) = inr (inr (inr (inr (inr (inr (inr (inr (inl (a, (b, (c, (d, e))))))))))))
op_parts («text».Split a b c) = inr (inr (inr (inr (inr (inr (inr (inr (inr (inl (a, (b, c)))))))))))
op_parts («text».Merge a b c) = inr (inr (inr (inr (inr (inr (inr (inr (inr (inr (a, (b, c)))))))))))

abbrev op_from : OpParts → OpView
op_from (inl p) = «text».CreateTable p.0 p.1
op_from (inr (inl a)) = «text».DropTable a
op_from (inr (inr (inl p))) = «text».RenameTable p.0 p.1
op_from (inr (inr (inr (inl p)))) = «text».RenameColumn p.0 p.1.0 p.1.1
op_from (inr (inr (inr (inr (inl p))))) = «text».AddColumn p.0 p.1.0 p.1.1.0 p.1.1.1
op_from (inr (inr (inr (inr (inr (inl p)))))) = «text».DropColumn p.0 p.1.0 p.1.1
op_from (inr (inr (inr (inr (inr (inr (inl p))))))) = «text».DecomposeSingle p.0 p.1.0 p.1.1
op_from (inr (inr (inr (inr (inr (inr (inr (inl p)))))))) = «text».Decompose p.0 p.1.0 p.1.1.0 p.1.1.1.0 p.1.1.1.1.0 p.1.1.1.1.1
op_from (inr (inr (inr (inr (inr (inr (inr (inr (inl p))))))))) = «text».Join p.0 p.1.0 p.1.1.0 p.1.1.1.0 p.1.1.1.1
op_from (inr (inr (inr (inr (inr (inr (inr (inr (inr (inl p)))))))))) = «text».Split p.0 p.1.0 p.1.1
op_from (inr (inr (inr (inr (inr (inr (inr (inr (inr (inr p)))))))))) = «text».Merge p.0 p.1.0 p.1.1

pub op_back : (x : OpView) → op_from (op_parts x) ≡ x
op_back («text».CreateTable a b) = refl
op_back («text».DropTable a) = refl
op_back («text».RenameTable a b) = refl
op_back («text».RenameColumn a b c) = refl
op_back («text».AddColumn a b c d) = refl
op_back («text».DropColumn a b c) = refl
op_back («text».DecomposeSingle a b c) = refl
op_back («text».Decompose a b c d e f) = refl
op_back («text».Join a b c d e) = refl
op_back («text».Split a b c) = refl
op_back («text».Merge a b c) = refl

abbrev coded_op : Coded OpView
coded_op = code_by OpParts
    (coded⊎ (coded× coded_name coded_names)
    (coded⊎ coded_name
    (coded⊎ (coded× coded_name coded_name)
    (coded⊎ (coded× coded_name (coded× coded_name coded_name))
    (coded⊎ (coded× coded_name (coded× coded_tree (coded× coded_name coded_bool)))
    (coded⊎ (coded× coded_name (coded× coded_name coded_tree))
    (coded⊎ (coded× coded_name (coded× coded_name coded_names))
    (coded⊎ (coded× coded_name (coded× coded_name (coded× coded_names (coded× coded_name (coded× coded_names coded_key)))))
    (coded⊎ (coded× coded_bool (coded× coded_name (coded× coded_name (coded× coded_name coded_key))))
    (coded⊎ (coded× coded_name (coded× coded_branch (coded_option coded_branch)))
    (coded× coded_branch (coded× coded_branch coded_name))))))))))))
    op_parts op_from op_back

-- ---- built operators, likewise

abbrev BuiltParts : Type 0
BuiltParts =
    Unit {0}
    ⊎ ℕ
    ⊎ Unit {0}
    ⊎ ℕ × Term ℕ
    ⊎ Term ℕ
    ⊎ ℕ × Term ℕ
    ⊎ ℕ × (Term ℕ × Option (Term ℕ))
    ⊎ ℕ × (Term ℕ × Option (Term ℕ))
    ⊎ List ℕ × ℕ
    ⊎ List ℕ × List ℕ
    ⊎ List ℕ × List ℕ
    ⊎ ℕ × ℕ
    ⊎ List ℕ × (List ℕ × ℕ)
    ⊎ List ℕ × (List ℕ × ℕ)
    ⊎ ℕ × (ℕ × ℕ)
    ⊎ List ℕ × (List ℕ × Term ℕ)
    ⊎ List ℕ × (List ℕ × Term ℕ)
    ⊎ ℕ × (ℕ × Term ℕ)

abbrev built_parts : Built → BuiltParts
built_parts «any».CreateTable = inl tt
built_parts («any».DropTable a) = inr (inl a)
built_parts «any».Rename = inr (inr (inl tt))
built_parts («any».AddColumn a b) = inr (inr (inr (inl (a, b))))
built_parts («any».AddTracked a) = inr (inr (inr (inr (inl a))))
built_parts («any».DropColumn a b) = inr (inr (inr (inr (inr (inl (a, b))))))
built_parts («any».Split a b c) = inr (inr (inr (inr (inr (inr (inl (a, (b, c))))))))
built_parts («any».Merge a b c) = inr (inr (inr (inr (inr (inr (inr (inl (a, (b, c)))))))))
built_parts («any».DecomposeSingle a b) = inr (inr (inr (inr (inr (inr (inr (inr (inl (a, b)))))))))
built_parts («any».DecomposePk a b) = inr (inr (inr (inr (inr (inr (inr (inr (inr (inl (a, b))))))))))
built_parts («any».OuterJoinPk a b) = inr (inr (inr (inr (inr (inr (inr (inr (inr (inr (inl (a, b)))))))))))
built_parts («any».JoinPk a b) = inr (inr (inr (inr (inr (inr (inr (inr (inr (inr (inr (inl (a, b))))))))))))
built_parts («any».DecomposeFk a b c) = inr (inr (inr (inr (inr (inr (inr (inr (inr (inr (inr (inr (inl (a, (b, c))))))))))))))
built_parts («any».OuterJoinFk a b c) = inr (inr (inr (inr (inr (inr (inr (inr (inr (inr (inr (inr (inr (inl (a, (b, c)))))))))))))))
built_parts («any».JoinFk a b c) = inr (inr (inr (inr (inr (inr (inr (inr (inr (inr (inr (inr (inr (inr (inl (a, (b, c))))))))))))))))
built_parts («any».JoinOn a b c) = inr (inr (inr (inr (inr (inr (inr (inr (inr (inr (inr (inr (inr (inr (inr (inl (a, (b, c)))))))))))))))))
built_parts («any».DecomposeOn a b c) = inr (inr (inr (inr (inr (inr (inr (inr (inr (inr (inr (inr (inr (inr (inr (inr (inl (a, (b, c))))))))))))))))))
built_parts («any».OuterJoinOn a b c) = inr (inr (inr (inr (inr (inr (inr (inr (inr (inr (inr (inr (inr (inr (inr (inr (inr (a, (b, c))))))))))))))))))

abbrev built_from : BuiltParts → Built
built_from (inl u) = «any».CreateTable
built_from (inr (inl a)) = «any».DropTable a
built_from (inr (inr (inl u))) = «any».Rename
built_from (inr (inr (inr (inl p)))) = «any».AddColumn p.0 p.1
built_from (inr (inr (inr (inr (inl e))))) = «any».AddTracked e
built_from (inr (inr (inr (inr (inr (inl p)))))) = «any».DropColumn p.0 p.1
built_from (inr (inr (inr (inr (inr (inr (inl p))))))) = «any».Split p.0 p.1.0 p.1.1
built_from (inr (inr (inr (inr (inr (inr (inr (inl p)))))))) = «any».Merge p.0 p.1.0 p.1.1
built_from (inr (inr (inr (inr (inr (inr (inr (inr (inl p))))))))) = «any».DecomposeSingle p.0 p.1
built_from (inr (inr (inr (inr (inr (inr (inr (inr (inr (inl p)))))))))) = «any».DecomposePk p.0 p.1
built_from (inr (inr (inr (inr (inr (inr (inr (inr (inr (inr (inl p))))))))))) = «any».OuterJoinPk p.0 p.1
built_from (inr (inr (inr (inr (inr (inr (inr (inr (inr (inr (inr (inl p)))))))))))) = «any».JoinPk p.0 p.1
built_from (inr (inr (inr (inr (inr (inr (inr (inr (inr (inr (inr (inr (inl p))))))))))))) = «any».DecomposeFk p.0 p.1.0 p.1.1
built_from (inr (inr (inr (inr (inr (inr (inr (inr (inr (inr (inr (inr (inr (inl p)))))))))))))) = «any».OuterJoinFk p.0 p.1.0 p.1.1
built_from (inr (inr (inr (inr (inr (inr (inr (inr (inr (inr (inr (inr (inr (inr (inl p))))))))))))))) = «any».JoinFk p.0 p.1.0 p.1.1
built_from (inr (inr (inr (inr (inr (inr (inr (inr (inr (inr (inr (inr (inr (inr (inr (inl p)))))))))))))))) = «any».JoinOn p.0 p.1.0 p.1.1
built_from (inr (inr (inr (inr (inr (inr (inr (inr (inr (inr (inr (inr (inr (inr (inr (inr (inl p))))))))))))))))) = «any».DecomposeOn p.0 p.1.0 p.1.1
built_from (inr (inr (inr (inr (inr (inr (inr (inr (inr (inr (inr (inr (inr (inr (inr (inr (inr p))))))))))))))))) = «any».OuterJoinOn p.0 p.1.0 p.1.1

pub built_back : (x : Built) → built_from (built_parts x) ≡ x
built_back «any».CreateTable = refl
built_back («any».DropTable a) = refl
built_back «any».Rename = refl
built_back («any».AddColumn a b) = refl
built_back («any».AddTracked a) = refl
built_back («any».DropColumn a b) = refl
built_back («any».Split a b c) = refl
built_back («any».Merge a b c) = refl
built_back («any».DecomposeSingle a b) = refl
built_back («any».DecomposePk a b) = refl
built_back («any».OuterJoinPk a b) = refl
built_back («any».JoinPk a b) = refl
built_back («any».DecomposeFk a b c) = refl
built_back («any».OuterJoinFk a b c) = refl
built_back («any».JoinFk a b c) = refl
built_back («any».JoinOn a b c) = refl
built_back («any».DecomposeOn a b c) = refl
built_back («any».OuterJoinOn a b c) = refl

abbrev coded_place : Coded (Term ℕ)
coded_place = coded_term coded_ℕ

abbrev coded_places : Coded (List ℕ)
coded_places = coded_list coded_ℕ

abbrev coded_built : Coded Built
coded_built = code_by BuiltParts
    (coded⊎ coded_unit
    (coded⊎ coded_ℕ
    (coded⊎ coded_unit
    (coded⊎ (coded× coded_ℕ coded_place)
    (coded⊎ coded_place
    (coded⊎ (coded× coded_ℕ coded_place)
    (coded⊎ (coded× coded_ℕ (coded× coded_place (coded_option coded_place)))
    (coded⊎ (coded× coded_ℕ (coded× coded_place (coded_option coded_place)))
    (coded⊎ (coded× coded_places coded_ℕ)
    (coded⊎ (coded× coded_places coded_places)
    (coded⊎ (coded× coded_places coded_places)
    (coded⊎ (coded× coded_ℕ coded_ℕ)
    (coded⊎ (coded× coded_places (coded× coded_places coded_ℕ))
    (coded⊎ (coded× coded_places (coded× coded_places coded_ℕ))
    (coded⊎ (coded× coded_ℕ (coded× coded_ℕ coded_ℕ))
    (coded⊎ (coded× coded_places (coded× coded_places coded_place))
    (coded⊎ (coded× coded_places (coded× coded_places coded_place)) (coded× coded_ℕ (coded× coded_ℕ coded_place)))))))))))))))))))
    built_parts built_from built_back

abbrev pub coded_any : Coded AnyView
coded_any = code_by (OpView × Built) (coded× coded_op coded_built)
    (λ o. (o.text, o.operator)) (λ p. record { text = p.0; operator = p.1 }) (λ _. refl)
