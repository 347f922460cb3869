use Rattle.std.proofs.Common.{◌≡◌}
use Rattle.row_store.specs.inner.Passes.{HasPassed}
use Rattle.row_store.proofs.exchange.exchange_all.Given as goal

abbrev pub invariant-loop-change : goal.invariant-loop-change
invariant-loop-change l =
    HasPassed l.which l.fn.rows.entries l.fn.changes l.fn.rows.capacity l.change-index l.rows.entries l.changes
    × (l.rows.capacity ≡ l.fn.rows.capacity)
