-- item { op item }: levels of an expression, within limits on the operators and on the parentheses of the whole expression.
use Rattle.std.specs.Prelude.{◌≡◌, ◌++◌, ◌∷◌, ◌+◌, ◌≤◌, ℕ, zero, suc, List, [], Option, Some}
use Rattle.phrases.specs.Reading.{Read, and_then, one_at, done, done_unless, either, is}

-- ---- the phrases

-- how many parentheses open among these tokens, where `weight` says it of one
abbrev pub opens : {Tok : Type 0} → (Tok → ℕ) → List Tok → ℕ
opens weight [] = 0
opens weight (t ∷ ts) = weight t + opens weight ts

-- { op item }: so many items, each behind its operator, joined to the tree before them
abbrev pub Joined : {Tok Op E : Type 0} → (Op → E → E → E) → (Tok → Option Op) → (List Tok → E → Type 0) → ℕ → E → List Tok → E → Type 0
Joined join op I zero a ts e = (ts ≡ []) × (a ≡ e)
Joined {Tok} {Op} {E} join op I (suc k) a ts e = (t : Tok) × (o : Op) × (us : List Tok) × (b : E) × (vs : List Tok)
    × (op t ≡ Some o) × (ts ≡ t ∷ (us ++ vs)) × I us b × Joined join op I k (join o a b) vs e

-- item { op item }, with so many further items
pub record Chain {Tok Op E : Type 0} (join : Op → E → E → E) (op : Tok → Option Op) (I : List Tok → E → Type 0) (ts : List Tok) (e : E) : Type 0 where
  pub first : E
  pub further : ℕ
  pub left : List Tok
  pub right : List Tok
  pub whole : ts ≡ left ++ right
  pub item : I left first
  pub rest : Joined join op I further first right e

-- item [ op item ]
pub record Pair {Tok Op E : Type 0} (join : Op → E → E → E) (op : Tok → Option Op) (I : List Tok → E → Type 0) (ts : List Tok) (e : E) : Type 0 where
  pub chain : Chain join op I ts e
  pub most : chain.further ≤ 1

-- ---- reading

-- a tree, and the operators and parentheses that may still come
abbrev pub Part : Type 0 → Type 0
Part E = E × ℕ × ℕ

-- a reader of trees within limits
abbrev pub Item : Type 0 → Type 0 → Type 0
Item Tok E = ℕ → ℕ → List Tok → Read Tok (Part E)

-- the phrase, within the limits, and what is left of them
abbrev pub Within : {Tok E : Type 0} → (E → ℕ) → (Tok → ℕ) → (List Tok → E → Type 0) → ℕ → ℕ → List Tok → Part E → Type 0
Within cost weight I ops parens ts x = I ts x.0 × (x.1 + cost x.0 ≡ ops) × (x.2 + opens weight ts ≡ parens)

-- what follows the tree a: at most n operators of one level with their right sides
unfoldable pub joined : {Tok Op E : Type 0} → (Op → E → E → E) → (Tok → Option Op) → Item Tok E → ℕ → E → Item Tok E
joined join op item zero a ops parens = done (a, ops, parens)
joined join op item (suc n) a zero parens = done_unless (is op) (a, 0, parens)
joined join op item (suc n) a (suc ops) parens =
    either (is op) (and_then (one_at op) λ o. and_then (item ops parens) λ x. joined join op item n (join o a x.0) x.1 x.2) (done (a, suc ops, parens))

-- item { op item }
abbrev pub chain : {Tok Op E : Type 0} → (Op → E → E → E) → (Tok → Option Op) → Item Tok E → Item Tok E
chain join op item ops parens = and_then (item ops parens) λ x. joined join op item x.1 x.0 x.1 x.2

-- item [ op item ]
abbrev pub pair : {Tok Op E : Type 0} → (Op → E → E → E) → (Tok → Option Op) → Item Tok E → Item Tok E
pair join op item ops parens = and_then (item ops parens) λ x. joined join op item 1 x.0 x.1 x.2
