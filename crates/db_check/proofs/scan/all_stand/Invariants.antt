use Rattle.std.proofs.Common.{take}
use Rattle.row_store.specs.States.{TableState}
use Rattle.version_graph.specs.Sets.{In}
use Rattle.version_model.specs.declared.numbered.Numbered.{Numbered}
use Rattle.db_check.specs.inner.Tests.{MayStand}
use Rattle.db_check.proofs.scan.all_stand.Given as goal

abbrev pub invariant-loop-item : goal.invariant-loop-item
invariant-loop-item g l = (item : Numbered TableState) → In item (take l.item-index l.stored) → MayStand l.graph.edges l.next item
