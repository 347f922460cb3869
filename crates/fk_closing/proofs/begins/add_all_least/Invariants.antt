use Rattle.std.proofs.Common.{take}
use Rattle.id_closing.specs.Found.{AreAmong}
use Rattle.fk_closing.specs.Keys.{keys_among}
use Rattle.fk_closing.specs.Looking.{HasLeast}
use Rattle.id_closing.specs.Told.{AllOf, OfNew}
use Rattle.fk_closing.proofs.begins.add_all_least.Given as goal

abbrev pub invariant-loop-change : goal.invariant-loop-change
invariant-loop-change g l = record {
  least : AllOf (OfNew (HasLeast (g.P.RowParts.parts l.parts).second (keys_among l.among l.keys) l.ids)) (take l.change-index l.changes);
  stay : AreAmong l.fn.ids l.ids;
}
