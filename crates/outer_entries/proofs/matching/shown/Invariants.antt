use Rattle.std.proofs.Common.{◌≡◌, take}
use Rattle.outer_law.specs.OuterOn.{shown}
use Rattle.outer_entries.specs.Showings.{joining_of}
use Rattle.outer_entries.proofs.matching.shown.Given as goal

abbrev pub invariant-loop-entry : goal.invariant-loop-entry
invariant-loop-entry l = l.made.rows ≡ shown (joining_of l.join) l.s.rows l.t.rows (take l.entry-index l.entries)
