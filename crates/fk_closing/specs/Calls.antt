-- What the calls answer, whatever pair has these keys, and whatever the next identifier is.
use Rattle.std.specs.Prelude.{ℕ, ◌-◌, List}
use Rattle.op_law.specs.Tables.{Tables}
use Rattle.op_law.specs.Meaning.{Meaning, PairState, flip}
use Rattle.op_tables.specs.SideTables.{first_table, second_table}
use Rattle.row_changes.specs.Changed.{TableChanges, changed_tables}
use Rattle.operator_changes.specs.Calls.{MayChange}
use Rattle.operator_changes.specs.Footprint.{IsFootprint, passes}
use Rattle.op_fk_join.specs.Columns.{join_columns, side_parts}
use Rattle.op_fk_decompose.specs.Columns.{column_parts, decompose_columns}
use Rattle.fk_footprints.specs.Closed.{BringsWitness}
use Rattle.fk_footprints.specs.JoinForward.{IsClosedJoin}
use Rattle.fk_footprints.specs.JoinBackward.{IsClosedJoinBack}
use Rattle.fk_footprints.specs.DecomposeForward.{IsClosedDecompose}
use Rattle.fk_footprints.specs.DecomposeBackward.{IsClosedDecomposeBack}
use Rattle.fk_closing.specs.Keys.{AreFkKeys, KeyRows}

-- where the changes may be mapped, the identifiers are a footprint of them; S and T are this side of the pair
abbrev pub AreFootprint : Meaning → (PairState → Tables) → ℕ → KeyRows → TableChanges → List ℕ → Type 0
AreFootprint m side place keys near ids = (p : PairState) (n : ℕ) → AreFkKeys place (side p) keys → MayChange m near p n → IsFootprint m near p n ids

-- they are closed: of JOIN ON FK from S and T, and from R
abbrev pub CloseJoin : ℕ → ℕ → ℕ → KeyRows → TableChanges → List ℕ → Type 0
CloseJoin first second place keys near ids = (p : PairState) (n : ℕ) → AreFkKeys place p.source keys → MayChange (join_columns first second place) near p n → IsClosedJoin (side_parts (first - 1) second place) near p n ids

abbrev pub CloseJoinBack : ℕ → ℕ → ℕ → KeyRows → TableChanges → List ℕ → Type 0
CloseJoinBack first second place keys near ids = (p : PairState) (n : ℕ) → AreFkKeys place p.target keys → MayChange (flip (join_columns first second place)) near p n → IsClosedJoinBack (side_parts (first - 1) second place) near p n ids

-- and hold a row of S that stays for each row of T to which others refer
abbrev pub JoinWitnesses : ℕ → ℕ → ℕ → KeyRows → TableChanges → List ℕ → Type 0
JoinWitnesses first second place keys near ids = (p : PairState) (n : ℕ) → AreFkKeys place p.source keys → MayChange (join_columns first second place) near p n
    → BringsWitness (side_parts (first - 1) second place) (passes ids n) (first_table p.source) (second_table p.source) (first_table p.source) (first_table (changed_tables p.source near))

abbrev pub JoinBackWitnesses : ℕ → ℕ → ℕ → KeyRows → TableChanges → List ℕ → Type 0
JoinBackWitnesses first second place keys near ids = (p : PairState) (n : ℕ) → AreFkKeys place p.target keys → MayChange (flip (join_columns first second place)) near p n
    → BringsWitness (side_parts (first - 1) second place) (passes ids n) (first_table p.target) (second_table p.target) (first_table p.source) (first_table (changed_tables p.source near))

-- and of DECOMPOSE ON FK from R, and from S and T
abbrev pub CloseDecompose : List ℕ → List ℕ → ℕ → KeyRows → TableChanges → List ℕ → Type 0
CloseDecompose first second place keys near ids = (p : PairState) (n : ℕ) → AreFkKeys place p.target keys → MayChange (decompose_columns first second place) near p n → IsClosedDecompose (column_parts first second place) near p n ids

abbrev pub CloseDecomposeBack : List ℕ → List ℕ → ℕ → KeyRows → TableChanges → List ℕ → Type 0
CloseDecomposeBack first second place keys near ids = (p : PairState) (n : ℕ) → AreFkKeys place p.source keys → MayChange (flip (decompose_columns first second place)) near p n → IsClosedDecomposeBack (column_parts first second place) near p n ids
