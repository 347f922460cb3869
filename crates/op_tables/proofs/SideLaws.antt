-- When some tables are those of a side, told table by table.
use Rattle.std.proofs.Common.{◌≡◌, ℕ, List, [], ◌∷◌, length, refl, ap, arith}
use Rattle.row_store.specs.Rows.{Rows}
use Rattle.row_store.specs.States.{TableState}
use Rattle.op_law.specs.Tables.{contents}
use Rattle.op_tables.specs.SideTables.{first_table, second_table, third_table}

-- a side of one table has this table
pub one_is : (t : Rows) (ts : List TableState) → length ts ≡ 1 → t ≡ first_table (contents ts) → t ∷ [] ≡ contents ts
one_is t [] h e = absurd (omega (arith, h))
one_is t (a ∷ []) h e = ap (λ (x : Rows). x ∷ []) e
one_is t (a ∷ b ∷ ts) h e = absurd (omega (arith, h))

-- and what has it is a side of one
pub is_one : (t : Rows) (ts : List TableState) → t ∷ [] ≡ contents ts → (length ts ≡ 1) × (t ≡ first_table (contents ts))
is_one t [] e = absurd (cc)
is_one t (a ∷ []) e = (cc, cc)
is_one t (a ∷ b ∷ ts) e = absurd (cc)

-- auxiliary tables that are three are these
pub three_are : (t u v : Rows) (ts : List TableState) → length ts ≡ 3 → t ≡ first_table (contents ts) → u ≡ second_table (contents ts) → v ≡ third_table (contents ts) → t ∷ u ∷ v ∷ [] ≡ contents ts
three_are t u v [] h e f g = absurd (omega (arith, h))
three_are t u v (a ∷ []) h e f g = absurd (omega (arith, h))
three_are t u v (a ∷ b ∷ []) h e f g = absurd (omega (arith, h))
three_are t u v (a ∷ b ∷ c ∷ []) h e f g = rw (e, f, g) refl
three_are t u v (a ∷ b ∷ c ∷ d ∷ ts) h e f g = absurd (omega (arith, h))

-- and what has these is three
pub are_three : (t u v : Rows) (ts : List TableState) → t ∷ u ∷ v ∷ [] ≡ contents ts → (length ts ≡ 3) × ((t ≡ first_table (contents ts)) × ((u ≡ second_table (contents ts)) × (v ≡ third_table (contents ts))))
are_three t u v [] e = absurd (cc)
are_three t u v (a ∷ []) e = absurd (cc)
are_three t u v (a ∷ b ∷ []) e = absurd (cc)
are_three t u v (a ∷ b ∷ c ∷ []) e = (cc, (cc, (cc, cc)))
are_three t u v (a ∷ b ∷ c ∷ d ∷ ts) e = absurd (cc)
