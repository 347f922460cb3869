use Rattle.std.proofs.Common.{◌≤◌, length, arith}
use Rattle.dump_values.specs.Lines.{version_json}
use Rattle.dump_graph.specs.Told.{version_line}
use Rattle.dump_file.proofs.ListLemmas.{names_all, names_next, versions_few, written_all, written_next}
use Rattle.dump_file.proofs.writing.version_items.Goals as goal

pub loop-place-preserved : goal.loop-place-preserved
loop-place-preserved c =
    let l = c.loop-place in
    let versions = c.args.graph.now.versions in
    record {
      items = written_next version_json version_line versions l.place _ _ _ c.version_at.ensures l.invariant.items c.in_ok-push_version.ensures.items;
      names = names_next versions l.place _ c.version_at.ensures l.invariant.names c.in_ok-push_version.ensures.names;
    }

pub returns-clause-items : goal.returns-clause-items
returns-clause-items c =
    let few = versions_few c.args.graph.now c.live_operators-place-end.ensures.graph in
    let many = c.live_operators-place-end.ensures.count in
    let over = c.loop-place-test.false in
    let past : length c.args.graph.now.versions ≤ c.loop-place.place = omega (arith, few, many, over) in
    written_all version_json version_line c.args.graph.now.versions c.loop-place.place _ past c.loop-place.invariant.items

pub returns-clause-names : goal.returns-clause-names
returns-clause-names c =
    let few = versions_few c.args.graph.now c.live_operators-place-end.ensures.graph in
    let many = c.live_operators-place-end.ensures.count in
    let over = c.loop-place-test.false in
    let past : length c.args.graph.now.versions ≤ c.loop-place.place = omega (arith, few, many, over) in
    names_all c.args.graph.now.versions c.loop-place.place past c.loop-place.invariant.names
