-- What inner calls hold and suppose.
use Rattle.std.specs.Prelude.{ℕ, ◌+◌, ◌≤◌, ◌^◌, List, length}
use Rattle.par_base.specs.declared.value.Value.{Value}
use Rattle.row_store.specs.Rows.{Rows}

-- old S and old T, and how their rows are taken apart
pub record SourceRows (P : Type 0) : Type 0 where
  pub by : P
  pub s : Rows
  pub t : Rows

-- these tables, and these parts
abbrev pub source_rows : {P : Type 0} → P → Rows → Rows → SourceRows P
source_rows by s t = record { by = by; s = s; t = t }

-- so many identifiers may be drawn from this one on
abbrev pub MayDraw : ℕ → List (List Value) → Type 0
MayDraw next values = next + length values ≤ 2 ^ 63
