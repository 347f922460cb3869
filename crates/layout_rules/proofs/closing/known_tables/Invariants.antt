use Rattle.std.proofs.Common.{◌≡◌, None, take}
use Rattle.layout_rules.specs.Closing.{first_unknown, named_tables}
use Rattle.layout_rules.proofs.closing.known_tables.Given as goal

abbrev pub invariant-loop-target : goal.invariant-loop-target
invariant-loop-target g l = record {
  known : first_unknown l.graph (take l.target-index l.named) ≡ None;
  so_far : l.made.items ≡ named_tables l.graph (take l.target-index l.named);
}
