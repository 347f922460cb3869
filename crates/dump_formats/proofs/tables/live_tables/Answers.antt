use mathlib.Core.List.{reverse}
use Rattle.layout_rules.proofs.PassLaws.{past_edges}
use Rattle.dump_formats.proofs.TableLemmas.{tables_end, tables_step}
use Rattle.dump_formats.proofs.tables.live_tables.Goals as goal

pub loop-place-preserved : goal.loop-place-preserved
loop-place-preserved g c =
    let l = c.loop-place in
    tables_step (reverse c.args.graph.now.edges) l.place l.made.items _ l.invariant c.in_ok-push_tables.ensures

pub returns : goal.returns
returns g c =
    let l = c.loop-place in
    let es = c.args.graph.now.edges in
    tables_end (reverse es) l.place l.made.items (past_edges es l.place _ c.live_operators-place-end.ensures.count c.loop-place-test.false) l.invariant
