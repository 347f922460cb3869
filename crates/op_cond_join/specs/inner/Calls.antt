-- What the inner calls answer.
use Rattle.std.specs.Prelude.{◌≡◌, ℕ, ◌+◌, List, [], ◌∷◌, length, Bool, ◌&&◌, not, IfSome}
use Rattle.row_store.specs.Rows.{row_of, RiseFrom}
use Rattle.op_law.specs.Meaning.{Mapped}
use Rattle.equal_columns.specs.Keyed.{AreKeyed}
use Rattle.equal_columns.specs.declared.keyed.KeyedRows.{KeyedRows}
use Rattle.op_cond_join.specs.declared.showing.Showing.{Showing}
use Rattle.op_cond_join.specs.declared.showing.Seconds.{Seconds}
use Rattle.pair_rows.specs.inner.Changed.{ids_of, changed_in}
use Rattle.op_cond_join.specs.Joinings.{joining}
use Rattle.id_memory.specs.Pairs.{Pairs}
use Rattle.pair_rows.specs.Shown.{has, is_shown, joined, new_pairs, shown_pairs}

-- whether a pair of new rows is shown
abbrev pub shows : Showing → ℕ → ℕ → Bool
shows it a b = is_shown (joining it.join.now) it.s.now.rows it.t.now.rows it.memory.now.entries it.new_s.now.rows it.new_t.now.rows a b

-- both new rows of a pair are as they were
abbrev pub IsPairStill : Showing → ℕ → ℕ → Type 0
IsPairStill it a b = (row_of it.s.now.rows a ≡ row_of it.new_s.now.rows a) × (row_of it.t.now.rows b ≡ row_of it.new_t.now.rows b)

-- these find the new second rows with the value of a first row, in columns that are equal wherever the condition holds
abbrev pub AreSecondsKeyed : Showing → KeyedRows → Type 0
AreSecondsKeyed it keyed = AreKeyed (joining it.join.now) (joining it.join.now).condition it.new_t.now.rows keyed

-- the identifiers of the new second rows, and of those of them that aren't as they were, and what finds those that a first row can match
pub record AreSeconds (it : Showing) (seconds : Seconds) : Type 0 where
  pub all_of : seconds.all ≡ ids_of it.new_t.now.rows
  pub changed_of : seconds.changed ≡ changed_in it.t.now.rows it.new_t.now.rows
  pub keyed : IfSome seconds.keyed (AreSecondsKeyed it)
  pub rise : RiseFrom 0 it.new_t.now.rows

-- whether a pair is shown and was not in the memory
abbrev pub is_new_in : Showing → ℕ × ℕ → Bool
is_new_in it x = shows it x.0 x.1 && not (has it.memory.now.entries x.0 x.1)

-- the pairs that are shown and were not in the memory
abbrev pub new_in : Showing → List (ℕ × ℕ)
new_in it = new_pairs (joining it.join.now) it.s.now.rows it.t.now.rows it.memory.now.entries it.new_s.now.rows it.new_t.now.rows

-- the entries of the new memory
abbrev pub shown_in : Showing → ℕ → Pairs
shown_in it n = shown_pairs (joining it.join.now) it.s.now.rows it.t.now.rows it.memory.now.entries it.new_s.now.rows it.new_t.now.rows n

-- the new target and memory
abbrev pub mapped_in : Showing → ℕ → Mapped
mapped_in it n = record { far = joined (joining it.join.now) it.new_s.now.rows it.new_t.now.rows (shown_in it n) ∷ []; memory = shown_in it n; next = n + length (new_in it) }
