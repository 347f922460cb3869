use Rattle.std.proofs.Common.{◌≡◌, drop}
use Rattle.bidel_script.specs.Tails.{first_byte, is_open_behind}
use Rattle.bidel_script.proofs.blanks.pass_blanks.Given as goal

abbrev pub invariant-loop-at : goal.invariant-loop-at
invariant-loop-at l = record {
  first : first_byte l.open l.at (drop l.at l.bytes) ≡ first_byte l.inside l.from (drop l.from l.bytes);
  opens : is_open_behind l.open (drop l.at l.bytes) ≡ is_open_behind l.inside (drop l.from l.bytes);
}
