-- Laws of parts of pairs on a foreign key.
use Rattle.std.specs.Prelude.{◌≡◌, ℕ, ◌-◌, Bool, true, List, []}
use Rattle.op_law.specs.Tables.{Heading, Tables}
use Rattle.op_law.specs.Meaning.{Meaning, PairState}
use Rattle.op_law.specs.Premises.{IsPair}
use Rattle.row_changes.specs.Changed.{TableChanges, changed_tables}
use Rattle.foreign_keys.specs.KeyParts.{FkParts}
use Rattle.op_fk_decompose.specs.Columns.{column_parts, decompose_columns}
use Rattle.op_fk_join.specs.Columns.{join_columns, side_parts}
use Rattle.fk_closing.specs.Brought.{IsBrought}
use Rattle.fk_closing.specs.Closing.{IsClosing}
use Rattle.fk_closing.specs.Keys.{AreFkKeys, KeyRows}
use Rattle.pair_parts.specs.Apart.{KeepsApart, SameElsewhere}
use Rattle.pair_parts.specs.Splits.{Splits}
use Rattle.fk_parts.specs.Closed.{IsClosedOver, PassListed}

-- identifiers of which each brings what it refers to, and one that refers to it
abbrev pub AreClosing : KeyRows → List ℕ → Type 0
AreClosing keys ids = (wanted : List ℕ) × IsClosing (IsBrought (record { keys = keys.keys; changed = []; witness = true })) wanted ids

-- whatever passes of the rows of S and T, on this side of a pair, exactly where it is one of these, splits the pair
abbrev pub ClosingSplits : Meaning → ℕ → (PairState → Tables) → Type 0
ClosingSplits m place side = (keys : KeyRows) (ids : List ℕ) (P : ℕ → Bool) (hs ht : List Heading) (p : PairState) → AreFkKeys place (side p) keys → AreClosing keys ids → PassListed P ids (side p) → IsPair m hs ht p → Splits m p P

-- identifiers that are closed over changes of S and T keep the change to themselves
abbrev pub ClosedKeepsApart : Meaning → FkParts → (PairState → Tables) → Type 0
ClosedKeepsApart m k side = (near : TableChanges) (P : ℕ → Bool) (hs ht : List Heading) (old new : PairState) → IsPair m hs ht old → IsPair m hs ht new
    → SameElsewhere P old new → side new ≡ changed_tables (side old) near → IsClosedOver k P near (side old) → KeepsApart m old new P

-- of DECOMPOSE ON FK, and of JOIN ON FK
abbrev pub DecomposeSplits : Type 0
DecomposeSplits = (first second : List ℕ) (place : ℕ) → ClosingSplits (decompose_columns first second place) place (λ p. p.target)

abbrev pub JoinSplits : Type 0
JoinSplits = (first second place : ℕ) → ClosingSplits (join_columns first second place) place (λ p. p.source)

abbrev pub DecomposeKeepsApart : Type 0
DecomposeKeepsApart = (first second : List ℕ) (place : ℕ) → ClosedKeepsApart (decompose_columns first second place) (column_parts first second place) (λ p. p.target)

abbrev pub JoinKeepsApart : Type 0
JoinKeepsApart = (first second place : ℕ) → ClosedKeepsApart (join_columns first second place) (side_parts (first - 1) second place) (λ p. p.source)
