use Rattle.std.proofs.Common.{◌≡◌, take}
use Rattle.op_law.specs.Tables.{contents}
use Rattle.operator_changes.specs.Pairs.{side_at}
use Rattle.operator_changes.specs.Parts.{part_of}
use Rattle.operator_changes.proofs.part.read_part.Given as goal

abbrev pub invariant-loop-which : goal.invariant-loop-which
invariant-loop-which g l = record {
  tables : contents l.tables ≡ part_of l.ids (take l.which (side_at l.target (g.V.PairRead.pair l.fn.old)));
  same : g.V.PairRead.pair l.old ≡ g.V.PairRead.pair l.fn.old;
}
