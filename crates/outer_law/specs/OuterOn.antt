-- OUTER JOIN on a condition.
use Rattle.std.specs.Prelude.{ℕ, ◌+◌, ◌==◌, [], ◌∷◌, length, filter, not, true, false}
use Rattle.row_store.specs.Rows.{Rows}
use Rattle.id_memory.specs.Pairs.{Pairs}
use Rattle.op_law.specs.Tables.{Tables}
use Rattle.op_law.specs.SoundTerms.{TermSound}
use Rattle.op_law.specs.Meaning.{Meaning, PairState, Mapped}
use Rattle.pair_rows.specs.Halves.{first_of, second_of}
use Rattle.pair_rows.specs.Shown.{Joining, joined}
use Rattle.pair_rows.specs.Sides.{table_at, JoinFits}
use Rattle.pair_rows.specs.Kept.{side_read}
use Rattle.outer_law.specs.Entries.{with_absent, IsOuter, new_entries, entries}
use Rattle.outer_law.specs.Placed.{beginning, placed, ending, standing}

-- the target shows the entries, joined, with nulls for an absent half
abbrev pub shown : Joining → Rows → Rows → Pairs → Rows
shown j s t m = joined j (with_absent j.first s) (with_absent j.second t) m

-- the target and the memory, from a new source
abbrev pub outer_forward : Joining → Tables → PairState → ℕ → Mapped
outer_forward j near old n =
    let s = table_at 0 old.source in
    let t = table_at 1 old.source in
    let ns = table_at 0 near in
    let nt = table_at 1 near in
    let m = entries j s t old.memory ns nt n in
    record { far = shown j ns nt m ∷ []; memory = m; next = n + length (new_entries j s t old.memory ns nt) }

-- the source and the memory, from a new target: rows that are in no new entry go, and all others stay
abbrev pub outer_backward : Joining → Tables → PairState → ℕ → Mapped
outer_backward j near old n =
    let r = table_at 0 old.target in
    let m = old.memory in
    let start = beginning (table_at 0 old.source) (table_at 1 old.source) r m (table_at 0 near) n in
    let es = placed j r m start (table_at 0 near) in
    let end = ending j r m start (table_at 0 near) in
    record { far = standing first_of es end.first ∷ standing second_of es end.second ∷ []; memory = es; next = end.next }

-- the entries in which this half is there
abbrev pub with_it : (ℕ × ℕ × ℕ → ℕ) → Pairs → Pairs
with_it pick m = filter (λ e. not (pick e == 0)) m

-- the operator: either side with the memory tells the other, so there are no auxiliary tables
abbrev pub outer_on : Joining → Meaning
outer_on j = record {
  Fits = JoinFits j;
  Closed = λ n. TermSound n j.condition;
  Related = λ source target m. IsOuter j (table_at 0 source) (table_at 1 source) (table_at 0 target) m;
  forward = outer_forward j;
  backward = outer_backward j;
  aux_at_source = λ p. [];
  aux_at_target = λ p. [];
  read_target = λ source aux m. shown j (table_at 0 source) (table_at 1 source) m ∷ [];
  read_source = λ target aux m. side_read first_of j.first (table_at 0 target) (with_it first_of m) [] ∷ side_read second_of j.second (table_at 0 target) (with_it second_of m) [] ∷ [];
  reads_target = true;
  reads_source = true;
  is_local = false;
}
