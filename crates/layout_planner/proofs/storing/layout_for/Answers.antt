use Rattle.std.proofs.Common.{[], ◌∷◌, Err, subst}
use Rattle.par_base.specs.declared.fault.Fault.{Fault}
use Rattle.par_base.specs.declared.refusal.Refusal.{Refusal}
use Rattle.layout_rules.specs.Closed.{GivesLayout, closing}
use Rattle.layout_planner.proofs.StoreLemmas.{closed_so, closed_so_valid, refused_never}
use Rattle.layout_planner.proofs.storing.layout_for.Goals as goal

pub returns-in-Ok-clause-layout : goal.returns-in-Ok-clause-layout
returns-in-Ok-clause-layout g c =
    closed_so c.args.graph.now c.requires.graph c.args.version.now c.requires.live c.args.creates.now.operators c.in_ok-target.target c.requires.creates c.in_ok-target.ensures c.in-Ok.layout.operators c.in-Ok.ensures.computed

pub returns-in-Ok-clause-valid : goal.returns-in-Ok-clause-valid
returns-in-Ok-clause-valid g c =
    closed_so_valid c.args.graph.now c.requires.graph c.args.version.now c.requires.live c.args.creates.now.operators c.in_ok-target.target c.requires.creates c.in_ok-target.ensures c.in-Ok.layout.operators c.in-Ok.ensures.computed

pub unreachable-requires : goal.unreachable-requires
unreachable-requires g c =
    refused_never c.args.graph.now c.requires.graph c.args.version.now c.requires.live c.args.creates.now.operators c.in_ok-target.target c.requires.creates c.in_ok-target.ensures c.in-Err-Refused.field-0-0
    (subst (λ (f : Fault Refusal). GivesLayout (closing c.args.graph.now c.args.creates.now.operators (c.in_ok-target.target ∷ [])) (Err f)) c.in-Err-Refused.field-0-is c.in-Err-Refused.ensures.computed)
