-- Identifiers that stand in pairs, and rows that stay.
use Rattle.std.specs.Prelude.{ℕ, ◌==◌, [], ◌∷◌, filter, Bool, true, false, ◌||◌, not, if◌then◌else◌}
use Rattle.row_store.specs.Rows.{Rows}
use Rattle.id_memory.specs.Pairs.{Pairs}

-- whether the identifier stands in a pair
abbrev pub stands : (ℕ × ℕ × ℕ → ℕ) → Pairs → ℕ → Bool
stands pick [] id = false
stands pick (e ∷ es) id = if pick e == id then true else stands pick es id

-- a row that stood in a pair of the old memory and stands in none of the new one goes, and all others stay
abbrev pub staying : (ℕ × ℕ × ℕ → ℕ) → Pairs → Pairs → Rows → Rows
staying pick old new rows = filter (λ r. not (stands pick old r.0) || stands pick new r.0) rows
