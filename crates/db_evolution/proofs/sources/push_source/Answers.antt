use Rattle.std.proofs.Common.{sym, ap, ◌∙◌}
use Rattle.version_graph.specs.Edges.{Drawn}
use Rattle.db_state.specs.Fields.{state_for}
use Rattle.db_evolution.specs.Sources.{is_source}
use Rattle.db_evolution.proofs.SourceLemmas.{one_pushed}
use Rattle.db_evolution.proofs.sources.push_source.Goals as goal

pub returns-in_ok-push : goal.returns-in_ok-push
returns-in_ok-push g c ts are =
    let edges = c.args.edges.now in
    let t = c.args.table in
    let passes = sym (ap (λ (x : Drawn _). is_source x.edges edges t) c.graph.ensures.graph) ∙ sym c.is_source.ensures ∙ c.if-is_source.true in
    one_pushed (state_for g.O.Operator.meaning c.args.db.now) (is_source c.args.db.now.graph.edges edges) ts t c.in_ok-value.value c.args.read.now c.push.new.self are passes c.in_ok-value.ensures c.in_ok-push.ensures.ok
