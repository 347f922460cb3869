use Rattle.std.proofs.Common.{◌≡◌, length}
use Rattle.cell_changes.proofs.GrowingLemmas.{AddsUpTo}
use Rattle.cell_changes.proofs.adding.add_changes.Given as goal

abbrev pub invariant-loop-which : goal.invariant-loop-which
invariant-loop-which l = record {
  adds : AddsUpTo l.which l.id l.old l.new l.fn.tables l.tables;
  many : length l.tables ≡ length l.fn.tables;
}
