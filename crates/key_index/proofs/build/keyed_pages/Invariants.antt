use Rattle.std.proofs.Common.{◌≡◌, ◌++◌}
use Rattle.key_index.specs.Tables.{HaveColumns, keys_in}
use Rattle.key_index.specs.inner.Entries.{keys_by_id, HaveOneEach}
use Rattle.key_index.proofs.build.keyed_pages.Given as goal

abbrev pub invariant-loop-row : goal.invariant-loop-row
invariant-loop-row l =
    HaveOneEach l.pages.entries
    × HaveColumns l.columns l.row-iterator
    × (keys_by_id l.pages.entries ++ keys_in l.columns l.row-iterator ≡ keys_in l.columns l.table.rows)
