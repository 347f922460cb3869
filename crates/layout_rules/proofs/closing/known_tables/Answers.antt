use Rattle.std.proofs.lemmas.Result.{err_from_is_err_and}
use Rattle.layout_rules.proofs.CloseLaws.{add_refused, known_more, tables_more}
use Rattle.layout_rules.proofs.closing.known_tables.Goals as goal

pub returns-in_err-push_tables : goal.returns-in_err-push_tables
returns-in_err-push_tables g c =
    let l = c.loop-target in
    let p = err_from_is_err_and c.from_residual.result c.from_residual.ensures.1 in
    rw (p.1, p.2) (add_refused c.args.graph.now c.args.named.now l.target-index c.target-item.result c.loop-target-test.true c.target-item.is l.made.items c.push_tables.new.made.items c.in_err-push_tables.field-0.0 l.invariant.known c.in_err-push_tables.ensures)

pub loop-target-preserved : goal.loop-target-preserved
loop-target-preserved g c =
    let l = c.loop-target in
    let adds = c.in_ok-push_tables.ensures in
    record {
      known = known_more c.args.graph.now c.args.named.now l.target-index c.target-item.result c.loop-target-test.true c.target-item.is adds.0 l.invariant.known adds.1;
      so_far = tables_more c.args.graph.now c.args.named.now l.target-index c.target-item.result c.loop-target-test.true c.target-item.is l.made.items _ adds.0 l.invariant.so_far adds.1 adds.2;
    }
