use Rattle.std.proofs.Common.{sym, ap, ◌∙◌, subst}
use Rattle.op_any.specs.Views.{built_view}
use Rattle.op_seeks.specs.Places.{IsSought, place_of}
use Rattle.op_seeks.specs.declared.sought.Sought.{Sought}
use Rattle.op_seeks.proofs.seeks.AnyOpSeeks.place.Goals as goal

pub returns-in-Decompose : goal.returns-in-Decompose
returns-in-Decompose c =
    let is = subst (λ (s : Sought). IsSought s (built_view c.operator.result.now)) c.in-Decompose.is c.sought_in.ensures in
    sym (ap place_of is) ∙ ap place_of c.operator.ensures

pub returns-in-Outer : goal.returns-in-Outer
returns-in-Outer c =
    let is = subst (λ (s : Sought). IsSought s (built_view c.operator.result.now)) c.in-Outer.is c.sought_in.ensures in
    sym (ap place_of is) ∙ ap place_of c.operator.ensures

pub returns-in-Join : goal.returns-in-Join
returns-in-Join c =
    let is = subst (λ (s : Sought). IsSought s (built_view c.operator.result.now)) c.in-Join.is c.sought_in.ensures in
    sym (ap place_of is) ∙ ap place_of c.operator.ensures

pub returns-in-Nothing : goal.returns-in-Nothing
returns-in-Nothing c =
    let is = subst (λ (s : Sought). IsSought s (built_view c.operator.result.now)) c.in-Nothing.is c.sought_in.ensures in
    sym is ∙ ap place_of c.operator.ensures
