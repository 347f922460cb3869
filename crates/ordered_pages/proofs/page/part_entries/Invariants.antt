use Rattle.std.proofs.Common.{◌≡◌, ◌+◌, ◌<◌, ◌≤◌, ◌++◌, vec_capacity, vec_len}
use Rattle.std.proofs.Common.{reverse}
use Rattle.ordered_pages.proofs.page.part_entries.Given as goal

abbrev pub invariant-loop-entries : goal.invariant-loop-entries
invariant-loop-entries g l =
    (l.fn.entries.items ≡ l.entries.items ++ reverse l.other.items)
    × (32 ≤ vec_len l.entries) × (vec_len l.entries + vec_len l.other ≤ 65)
    × (vec_capacity l.entries ≡ vec_capacity l.fn.entries) × (64 < vec_capacity l.other)

abbrev pub decreases-loop-entries : goal.decreases-loop-entries
decreases-loop-entries g l = vec_len l.entries
