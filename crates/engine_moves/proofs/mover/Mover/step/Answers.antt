use Rattle.std.proofs.Common.{◌≡◌, ℕ, List, ◌∙◌, ap, sym, subst}
use Rattle.std.specs.Prelude.{Some}
use Rattle.op_any.specs.Operators.{AnyView}
use Rattle.db_state.specs.declared.parts.Parts.{Parts}
use Rattle.layout_rules.specs.declared.layout.Layout.{Layout}
use Rattle.migration.specs.Pending.{next_flip, pending_without, IsPending}
use Rattle.engine_core.specs.Kept.{state_of}
use Rattle.engine_moves.proofs.MoverLemmas.{flip_leads, flip_may}
use Rattle.engine_moves.proofs.mover.Mover.step.Goals as goal

pub flip-requires : goal.flip-requires
flip-requires g c =
    let k = c.self.inside.engine in
    let lay = c.as_slice-layout.ensures ∙ ap (λ (l : Layout). l.operators) c.layout.ensures ∙ ap (λ (d : Parts AnyView). d.layout.operators) c.database.ensures.database in
    let next : next_flip k.layout.operators c.self.inside.pending ≡ Some c.in-Some.operator = sym (c.in-Some.ensures ∙ (λ i. next_flip (lay i) (c.as_slice.ensures i))) in
    flip_may c.steps_are_flips.ensures.flips k c.self.inside.pending c.in-Some.operator c.versions_always_agree.ensures.stored c.self.invariant next

pub invariant_of-self-2 : goal.invariant_of-self-2
invariant_of-self-2 g c =
    let k = c.self.inside.engine in
    let lay = c.as_slice-layout.ensures ∙ ap (λ (l : Layout). l.operators) c.layout.ensures ∙ ap (λ (d : Parts AnyView). d.layout.operators) c.database.ensures.database in
    let next : next_flip k.layout.operators c.self.inside.pending ≡ Some c.in-Some.operator = sym (c.in-Some.ensures ∙ (λ i. next_flip (lay i) (c.as_slice.ensures i))) in
    let left = c.pending_without.ensures ∙ ap (pending_without c.in-Some.operator) c.replace-pending.ensures.value in
    subst (λ (l : List ℕ). IsPending c.flip.new.self.graph.edges c.flip.new.self.layout.operators l) (sym left)
    (flip_leads c.steps_are_flips.ensures.flips k (state_of c.flip.new.self) c.self.inside.pending c.in-Some.operator c.versions_always_agree.ensures.stored c.self.invariant next c.in_ok-flip.ensures.flips)
