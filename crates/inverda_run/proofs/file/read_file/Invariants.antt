use Rattle.std.proofs.Common.{◌≡◌, ◌<◌, ◌+◌, ◌-◌, ℕ, List, length}
use Rattle.inverda_run.proofs.FileLemmas.{IsFront}
use Rattle.inverda_run.proofs.file.read_file.Given as goal

abbrev pub invariant-loop-piece : goal.invariant-loop-piece
invariant-loop-piece g l = record {
  stays : g.F.Files.faults l.files ≡ g.F.Files.faults l.fn.files;
  same : (file : List ℕ) → g.F.Files.told l.files file ≡ g.F.Files.told l.fn.files file;
  missing : g.F.Files.missing l.files ≡ g.F.Files.missing l.fn.files;
  front : IsFront (g.F.Files.told l.fn.files l.name) l.bytes.items;
  room : 0 < length l.piece;
}

abbrev pub decreases-loop-piece : goal.decreases-loop-piece
decreases-loop-piece g l = l.limit + 1 - length l.bytes.items
