-- JOIN ON a condition. DECOMPOSE ON a condition is its flip.
use Rattle.std.specs.Prelude.{ℕ, ◌+◌, [], ◌∷◌, length, true, false}
use Rattle.row_store.specs.Rows.{Rows}
use Rattle.op_law.specs.Tables.{Tables, widths}
use Rattle.op_law.specs.SoundTerms.{TermSound}
use Rattle.op_law.specs.Meaning.{Meaning, PairState, Mapped}
use Rattle.pair_rows.specs.Halves.{first_of, second_of}
use Rattle.pair_rows.specs.Shown.{Joining, IsJoined, joined, shown_pairs, new_pairs}
use Rattle.pair_rows.specs.Sides.{table_at, JoinFits}
use Rattle.op_cond_join.specs.Assigned.{beginning, assigned, ending}
use Rattle.pair_rows.specs.Stays.{staying}
use Rattle.pair_rows.specs.Kept.{alone, side_read}

-- the target and the memory, from a new source
abbrev pub join_forward : Joining → Tables → PairState → ℕ → Mapped
join_forward j near old n =
    let s = table_at 0 old.source in
    let t = table_at 1 old.source in
    let ns = table_at 0 near in
    let nt = table_at 1 near in
    let pairs = shown_pairs j s t old.memory ns nt n in
    record { far = joined j ns nt pairs ∷ []; memory = pairs; next = n + length (new_pairs j s t old.memory ns nt) }

-- the source and the memory, from a new target
abbrev pub join_backward : Joining → Tables → PairState → ℕ → Mapped
join_backward j near old n =
    let r = table_at 0 old.target in
    let m = old.memory in
    let start = beginning (table_at 0 old.source) (table_at 1 old.source) r m (table_at 0 near) n in
    let pairs = assigned j r m start (table_at 0 near) in
    let end = ending j r m start (table_at 0 near) in
    record { far = staying first_of m pairs end.first ∷ staying second_of m pairs end.second ∷ []; memory = pairs; next = end.next }

-- the operator
abbrev pub join_on : Joining → Meaning
join_on j = record {
  Fits = JoinFits j;
  Closed = λ n. TermSound n j.condition;
  Related = λ source target m. IsJoined j (table_at 0 source) (table_at 1 source) (table_at 0 target) m;
  forward = join_forward j;
  backward = join_backward j;
  aux_at_source = λ p. [];
  aux_at_target = λ p. alone first_of p.memory (table_at 0 p.source) ∷ alone second_of p.memory (table_at 1 p.source) ∷ [];
  read_target = λ source aux m. joined j (table_at 0 source) (table_at 1 source) m ∷ [];
  read_source = λ target aux m. side_read first_of j.first (table_at 0 target) m (table_at 0 aux) ∷ side_read second_of j.second (table_at 0 target) m (table_at 1 aux) ∷ [];
  reads_target = true;
  reads_source = true;
  is_local = false;
}
