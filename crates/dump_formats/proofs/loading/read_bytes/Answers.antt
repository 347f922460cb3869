use Rattle.std.specs.Prelude.{Option, Some, option_map}
use Rattle.std.proofs.Common.{ℕ, List, Global, subst}
use Rattle.json.specs.declared.value.Value.{Value}
use Rattle.dump_values.specs.Trees.{FindsTree, tree_view}
use Rattle.dump_formats.specs.Stands.{Spells}
use Rattle.dump_formats.specs.inner.Read.{FindsDump}
use Rattle.dump_formats.specs.declared.loading.ReadDump.{ReadDump}
use Rattle.dump_formats.proofs.loading.read_bytes.Goals as goal

pub returns-in-Some-2 : goal.returns-in-Some-2
returns-in-Some-2 c =
    let d = tree_view c.in-Some.tree in
    let spells : Spells c.args.bytes.items d =
    subst (λ (x : List ℕ × Option (Value Global)). FindsTree x.0 (option_map tree_view x.1)) (λ i. (c.deref.ensures.value i, c.in-Some.is i)) c.in_ok-tree.ensures in
    let found : FindsDump d (Some c.in-Some-2.read) = subst (λ (o : Option ReadDump). FindsDump d o) c.in-Some-2.is c.in_ok-read.ensures in
    (d, spells, found.0, found.1)
