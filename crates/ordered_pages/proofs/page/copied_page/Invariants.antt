use Rattle.std.proofs.Common.{◌≡◌, ◌<◌, take, vec_capacity}
use Rattle.ordered_pages.proofs.page.copied_page.Given as goal

abbrev pub invariant-loop-entry : goal.invariant-loop-entry
invariant-loop-entry g l = (l.entries.items ≡ take l.entry-index l.entry-items) × (64 < vec_capacity l.entries)
