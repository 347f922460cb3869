-- Look-ups that know what a search would find.
use Rattle.std.specs.Prelude.{◌≡◌, ℕ}
use Rattle.id_sets.specs.IdPairs.{holds_pair}
use Rattle.pair_rows.specs.declared.growing.Growing.{Growing}
use Rattle.pair_rows.specs.declared.taken.Taken.{Taken}
use Rattle.pair_rows.specs.Shown.{has}

-- its index has its rows
abbrev pub IsIndexed : Growing → Type 0
IsIndexed it = it.index.rows ≡ it.table.rows

-- the set has the pairs of the entries
abbrev pub KnowsPairs : Taken → Type 0
KnowsPairs it = (a b : ℕ) → holds_pair it.pairs a b ≡ has it.entries a b
