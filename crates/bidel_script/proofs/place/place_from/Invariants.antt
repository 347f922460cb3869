use Rattle.std.proofs.Common.{◌≡◌, ◌≤◌, ◌+◌, drop}
use Rattle.bidel_script.specs.Places.{behind_all}
use Rattle.bidel_script.specs.Calls.{place_view}
use Rattle.bidel_script.proofs.place.place_from.Given as goal

abbrev pub invariant-loop-byte : goal.invariant-loop-byte
invariant-loop-byte l = record {
  line : l.line ≤ l.fn.from.line + l.byte-index;
  column : l.column ≤ l.fn.from.column + l.byte-index + 1;
  same : behind_all (record { line = l.line; column = l.column }) (drop l.byte-index l.bytes) ≡ behind_all (place_view l.fn.from) l.bytes;
}
