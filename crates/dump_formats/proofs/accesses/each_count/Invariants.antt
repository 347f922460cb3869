use Rattle.std.proofs.Common.{◌≡◌, map, take}
use Rattle.serde_json.specs.View.{view}
use Rattle.layout_planner.specs.Counts.{tables_counted}
use Rattle.dump_formats.specs.Formats.{count_json}
use Rattle.dump_formats.proofs.accesses.each_count.Given as goal

abbrev pub invariant-loop-place : goal.invariant-loop-place
invariant-loop-place l = record {
  tables : tables_counted l.made ≡ take l.place l.tables;
  items : map view (take l.place l.items) ≡ map count_json l.made;
}
