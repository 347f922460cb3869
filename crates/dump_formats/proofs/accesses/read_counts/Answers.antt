use Rattle.std.proofs.Common.{sym, arith}
use Rattle.serde_json.specs.View.{view}
use Rattle.dump_formats.proofs.FoundLemmas.{counts_found, counts_length, counts_none, reads_of}
use Rattle.dump_formats.proofs.accesses.read_counts.Goals as goal

pub returns-then-len : goal.returns-then-len
returns-then-len g c =
    counts_length c.args.graph.now.edges c.live_operators-live.ensures.graph.edges (view c.args.json.now) c.in-Some.items.now.items (sym c.in-Some.ensures) c.in_ok-tables.tables.items c.in_ok-tables.ensures
    (λ same. c.if-len.true (omega (arith, same)))

pub returns-in-Some-2 : goal.returns-in-Some-2
returns-in-Some-2 g c =
    counts_found c.args.graph.now.edges c.live_operators-live.ensures.graph.edges (view c.args.json.now) c.in-Some.items.now.items (sym c.in-Some.ensures) c.in_ok-tables.tables.items c.in_ok-tables.ensures
    c.in-Some-2.told c.those_accessed.result c.those_accessed.ensures
    (reads_of _ _ _ _ _ _ c.as_slice.ensures.value c.as_slice-2.ensures.value c.in-Some-2.is c.in_ok-told.ensures)

pub returns : goal.returns
returns g c =
    counts_none c.args.graph.now.edges c.live_operators-live.ensures.graph.edges (view c.args.json.now) c.in-Some.items.now.items (sym c.in-Some.ensures) c.in_ok-tables.tables.items c.in_ok-tables.ensures
    (reads_of _ _ _ _ _ _ c.as_slice.ensures.value c.as_slice-2.ensures.value c.in-None.is c.in_ok-told.ensures)
