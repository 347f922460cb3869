use Rattle.std.proofs.Common.{◌≡◌, ◌+◌, ◌-◌, ◌*◌, ◌^◌, ◌<◌, ◌≤◌, vec_len, vec_capacity}
use Rattle.ordered_pages.proofs.pages.add_pages.Given as goal

abbrev pub invariant-loop-pages : goal.invariant-loop-pages
invariant-loop-pages g l =
    (l.pages.items ≡ l.fn.pages.items) × (vec_len l.pages ≡ vec_len l.fn.pages)
    × (vec_len l.fn.pages + vec_len l.fn.spare ≤ vec_len l.pages + vec_len l.spare)
    × (vec_len l.pages + vec_len l.spare ≤ vec_capacity l.pages) × (vec_len l.pages + vec_len l.spare ≤ vec_capacity l.spare)
    × (32 * (vec_len l.pages + vec_len l.spare) < 2 ^ 64)

abbrev pub decreases-loop-pages : goal.decreases-loop-pages
decreases-loop-pages g l = l.need - (vec_len l.pages + vec_len l.spare)
