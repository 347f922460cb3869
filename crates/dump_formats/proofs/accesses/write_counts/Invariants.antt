use Rattle.std.proofs.Common.{◌≡◌, map, take}
use Rattle.serde_json.specs.View.{view}
use Rattle.layout_planner.specs.Counts.{counts_for}
use Rattle.dump_formats.specs.Formats.{count_json}
use Rattle.dump_formats.proofs.accesses.write_counts.Given as goal

abbrev pub invariant-loop-table : goal.invariant-loop-table
invariant-loop-table l = map view l.items.items ≡ map count_json (counts_for l.counts (take l.table-index l.tables))
