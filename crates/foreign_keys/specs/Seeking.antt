-- The rows to which others refer, sought among these.
use Rattle.std.specs.Prelude.{◌≡◌, ℕ, List, [], ◌∷◌, cond, Option, Some, None}
use Rattle.par_base.specs.declared.value.Value.{Value}
use Rattle.row_store.specs.Rows.{Rows}
use Rattle.op_law.specs.Identifiers.{put_id}
use Rattle.row_parts.specs.RowCells.{Cell}
use Rattle.id_sets.specs.IdNumbers.{IdNumbers, number_of_id}
use Rattle.foreign_keys.specs.References.{is_goal}

-- the identifier, where there is one, beside these
abbrev pub put_goal : Option ℕ → List ℕ → List ℕ
put_goal None ids = ids
put_goal (Some q) ids = put_id q ids

-- what `out` gives for the least of these rows whose goal is q
abbrev pub seek : (ℕ → List Value → Option ℕ) → (ℕ → Cell) → Rows → ℕ → Cell
seek goal out [] q = None
seek goal out (x ∷ xs) q = cond (is_goal (goal x.0 x.1) q) (out x.0) (seek goal out xs q)

-- the least of these rows whose goal is q
abbrev pub first_led : (ℕ → List Value → Option ℕ) → Rows → ℕ → Option ℕ
first_led goal [] q = None
first_led goal (x ∷ xs) q = cond (is_goal (goal x.0 x.1) q) (Some x.0) (first_led goal xs q)

-- what `out` gives for an identifier, where there is one
abbrev pub out_at : (ℕ → Cell) → Option ℕ → Cell
out_at out None = None
out_at out (Some p) = out p

-- the goals of these rows
abbrev pub goals_in : (ℕ → List Value → Option ℕ) → Rows → List ℕ
goals_in goal [] = []
goals_in goal (x ∷ xs) = put_goal (goal x.0 x.1) (goals_in goal xs)

-- each goal has the least of these rows that leads to it
abbrev pub AreFirstLed : (ℕ → List Value → Option ℕ) → Rows → IdNumbers → Type 0
AreFirstLed goal rows leads = (q : ℕ) → number_of_id leads q ≡ first_led goal rows q
