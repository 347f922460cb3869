-- What the inner calls answer.
use Rattle.std.specs.Prelude.{◌≡◌, ℕ, Bool, ◌&&◌, not, IfSome}
use Rattle.row_store.specs.Rows.{row_of, RiseFrom}
use Rattle.pair_rows.specs.Shown.{has, is_shown}
use Rattle.pair_rows.specs.inner.Changed.{ids_of}
use Rattle.equal_columns.specs.Keyed.{AreKeyed}
use Rattle.equal_columns.specs.declared.keyed.KeyedRows.{KeyedRows}
use Rattle.outer_entries.specs.declared.seconds.Seconds.{Seconds}
use Rattle.outer_entries.specs.declared.showing.Showing.{Showing}
use Rattle.outer_law.specs.Entries.{is_entry, entries}
use Rattle.outer_entries.specs.Showings.{joining_in}

-- whether a pair of new rows is a full entry
abbrev pub is_full_in : Showing → ℕ → ℕ → Bool
is_full_in it a b = is_shown (joining_in it) it.s.now.rows it.t.now.rows it.memory.now.entries it.new_s.now.rows it.new_t.now.rows a b

-- the same of a pair as one thing
abbrev pub is_full_pair : Showing → ℕ × ℕ → Bool
is_full_pair it x = is_full_in it x.0 x.1

-- whether a pair is an entry
abbrev pub is_entry_in : Showing → ℕ → ℕ → Bool
is_entry_in it a b = is_entry (joining_in it) it.s.now.rows it.t.now.rows it.memory.now.entries it.new_s.now.rows it.new_t.now.rows a b

-- whether it is one and was none
abbrev pub is_new_in : Showing → ℕ × ℕ → Bool
is_new_in it x = is_entry_in it x.0 x.1 && not (has it.memory.now.entries x.0 x.1)

-- both new rows of a pair are as they were
abbrev pub IsPairStill : Showing → ℕ → ℕ → Type 0
IsPairStill it a b = (row_of it.s.now.rows a ≡ row_of it.new_s.now.rows a) × (row_of it.t.now.rows b ≡ row_of it.new_t.now.rows b)

-- whether a pair of new rows is a full entry and was none
abbrev pub is_new_full : Showing → ℕ × ℕ → Bool
is_new_full it x = is_full_in it x.0 x.1 && not (has it.memory.now.entries x.0 x.1)

-- these find the new second rows with the value of a first row, in columns that are equal wherever the condition holds
abbrev pub AreSecondsKeyed : Showing → KeyedRows → Type 0
AreSecondsKeyed it keyed = AreKeyed (joining_in it) (joining_in it).condition it.new_t.now.rows keyed

-- the identifiers of the new second rows, and what finds those that a first row can match
pub record AreSeconds (it : Showing) (seconds : Seconds) : Type 0 where
  pub all_of : seconds.all ≡ ids_of it.new_t.now.rows
  pub keyed : IfSome seconds.keyed (AreSecondsKeyed it)
  pub rise : RiseFrom 0 it.new_t.now.rows
