use Rattle.std.proofs.Common.{take}
use Rattle.pair_rows.specs.declared.half.Half.TheVariants.{First, Second}
use Rattle.id_closing.specs.Found.{AreAmong}
use Rattle.cond_closing.specs.Entries.{HasEntries}
use Rattle.cond_closing.specs.Shown.{EachOf}
use Rattle.cond_closing.proofs.shown.add_all_entries.Given as goal

abbrev pub invariant-loop-id : goal.invariant-loop-id
invariant-loop-id l = record {
  first : EachOf (take l.id-index l.touched) (HasEntries First l.memory.entries l.ids);
  second : EachOf (take l.id-index l.touched) (HasEntries Second l.memory.entries l.ids);
  stay : AreAmong l.fn.ids l.ids;
}
