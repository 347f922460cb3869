use Rattle.std.proofs.Common.{◌≡◌, drop, length, take}
use Rattle.feed_mirror.proofs.TellLemmas.{Told}
use Rattle.feed_mirror.proofs.telling.tell_note.Given as goal

abbrev pub invariant-loop-at : goal.invariant-loop-at
invariant-loop-at l = record {
  told : Told (take l.at l.fn.note.tables) l.fn.tables.items l.tables.items;
  left : drop l.at l.changes.items ≡ drop l.at l.fn.note.tables;
  count : length l.changes.items ≡ length l.fn.note.tables;
}
