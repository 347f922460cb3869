use Rattle.layout_rules.specs.Lookups.{is_shared}
use Rattle.layout_rules.proofs.CloseLaws.{heading_known}
use Rattle.layout_rules.proofs.sharing.refuse_shared.Goals as goal

pub told-requires : goal.told-requires
told-requires g c =
    let es = c.args.graph.now.edges in
    heading_known es c.in-Some.ensures.edges (is_shared es c.args.wanted.now) c.in-Some.table c.in-Some.ensures.value
