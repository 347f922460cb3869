use Rattle.std.proofs.Common.{◌≡◌, ◌+◌, ◌≤◌, length, take}
use Rattle.key_index.specs.inner.Entries.{keys_by_id, HaveOneEach, count_ready}
use Rattle.key_index.specs.inner.Passes.{all_told, IsPassed}
use Rattle.key_index.proofs.PassLemmas.{mixed}
use Rattle.key_index.proofs.exchange.exchange_all.Given as goal

abbrev pub invariant-loop-at : goal.invariant-loop-at
invariant-loop-at l =
    HaveOneEach l.pages.entries
    × IsPassed (take l.at (all_told l.way l.changes)) (keys_by_id l.fn.pages.entries) (keys_by_id l.pages.entries)
    × (l.ready.items ≡ mixed l.at (all_told l.way l.changes))
    × (length l.pages.entries + count_ready l.ready.items ≤ l.pages.capacity)
