use Rattle.std.proofs.Common.{◌≡◌, drop, length, take}
use Rattle.feed_mirror.specs.Kept.{changes_of}
use Rattle.feed_mirror.proofs.TellLemmas.{Told}
use Rattle.feed_mirror.proofs.telling.tell_notes.Given as goal

abbrev pub invariant-loop-at : goal.invariant-loop-at
invariant-loop-at l = record {
  told : Told (changes_of (take l.at l.fn.ready)) l.fn.tables.items l.tables.items;
  left : drop l.at l.left.items ≡ drop l.at l.fn.ready;
  count : length l.left.items ≡ length l.fn.ready;
}
