-- Prefix operators, signs and parentheses: further levels of an expression, within the limits of chains.
use Rattle.std.specs.Prelude.{◌≡◌, ◌∷◌, ◌⊎◌, ℕ, zero, suc, List, false, Option, Some}
use Rattle.phrases.specs.Phrases.{Nothing, Seq, OneOf, Either}
use Rattle.phrases.specs.Reading.{starts, and_then, one_at, done, either, is}
use Rattle.phrases.specs.Chains.{Item}

-- ---- a prefix operator

-- so many prefix operators, and then C
abbrev pub Prefixed : {Tok X E : Type 0} → (E → E) → (Tok → Option X) → (List Tok → E → Type 0) → ℕ → List Tok → E → Type 0
Prefixed make op C zero ts e = C ts e
Prefixed {Tok} {X} {E} make op C (suc k) ts e = (t : Tok) × (x : X) × (us : List Tok) × (a : E) × (op t ≡ Some x) × (ts ≡ t ∷ us) × (make a ≡ e) × Prefixed make op C k us a

-- prefixed = op prefixed | C
pub record Prefix {Tok X E : Type 0} (make : E → E) (op : Tok → Option X) (C : List Tok → E → Type 0) (ts : List Tok) (e : E) : Type 0 where
  pub count : ℕ
  pub spelled : Prefixed make op C count ts e

-- a prefix operator, where one may still come
unfoldable pub prefix_at : {Tok X E : Type 0} → (E → E) → (Tok → Option X) → Item Tok E → Item Tok E
prefix_at make op item zero parens = item 0 parens
prefix_at make op item (suc ops) parens =
    either (is op) (and_then (one_at op) λ _. and_then (prefix_at make op item ops parens) λ x. done (make x.0, x.1, x.2)) (item (suc ops) parens)

-- ---- a sign, which is no operator before a number

-- a sign and a number
abbrev pub Signed : {Tok X N E : Type 0} → (N → E) → (Tok → Option X) → (Tok → Option N) → List Tok → E → Type 0
Signed literal minus number = Seq (OneOf minus) λ _. Seq (OneOf number) λ n. Nothing (literal n)

-- so many minuses that are operators, none of them before a number; then a signed number or P
abbrev pub Minuses : {Tok X N E : Type 0} → (E → E) → (N → E) → (Tok → Option X) → (Tok → Option N) → (List Tok → E → Type 0) → ℕ → List Tok → E → Type 0
Minuses make literal minus number P zero ts e = Signed literal minus number ts e ⊎ P ts e
Minuses {Tok} {X} {N} {E} make literal minus number P (suc k) ts e = (t : Tok) × (x : X) × (us : List Tok) × (a : E)
    × (minus t ≡ Some x) × (ts ≡ t ∷ us) × (starts (is number) us ≡ false) × (make a ≡ e) × Minuses make literal minus number P k us a

-- unary = "-" number | "-" unary | P, with the number before the operator
pub record Unary {Tok X N E : Type 0} (make : E → E) (literal : N → E) (minus : Tok → Option X) (number : Tok → Option N) (P : List Tok → E → Type 0) (ts : List Tok) (e : E) : Type 0 where
  pub minuses : ℕ
  pub spelled : Minuses make literal minus number P minuses ts e

-- the number behind a sign
abbrev pub signed_at : {Tok N E : Type 0} → (N → E) → (Tok → Option N) → Item Tok E
signed_at literal number ops parens = and_then (one_at number) λ n. done (literal n, ops, parens)

-- where no operator may come, a minus is a sign: what follows it shows that it isn't
unfoldable pub unary_at : {Tok X N E : Type 0} → (E → E) → (N → E) → (Tok → Option X) → (Tok → Option N) → Item Tok E → Item Tok E
unary_at make literal minus number prim zero parens = either (is minus) (and_then (one_at minus) λ _. signed_at literal number 0 parens) (prim 0 parens)
unary_at make literal minus number prim (suc ops) parens =
    either (is minus)
    (and_then (one_at minus) λ _. either (is number) (signed_at literal number (suc ops) parens)
    (and_then (unary_at make literal minus number prim ops parens) λ x. done (make x.0, x.1, x.2)))
    (prim (suc ops) parens)

-- ---- parentheses

-- A | "(" S ")"
abbrev pub Grouped : {Tok X Y E : Type 0} → (Tok → Option X) → (Tok → Option Y) → (List Tok → E → Type 0) → (List Tok → E → Type 0) → List Tok → E → Type 0
Grouped open' close A S = Either A (Seq (OneOf open') λ _. Seq S λ e. Seq (OneOf close) λ _. Nothing e)

-- in parentheses what they hold, where parentheses may still open
abbrev pub grouped_at : {Tok X Y E : Type 0} → (Tok → Option X) → (Tok → Option Y) → Item Tok E → Item Tok E → Item Tok E
grouped_at open' close atom inner ops zero = atom ops 0
grouped_at open' close atom inner ops (suc parens) =
    either (is open') (and_then (one_at open') λ _. and_then (inner ops parens) λ x. and_then (one_at close) λ _. done x) (atom ops (suc parens))
