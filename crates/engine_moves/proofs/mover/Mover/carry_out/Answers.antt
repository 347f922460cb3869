use Rattle.std.proofs.Common.{◌≡◌, ℕ, List, true, false, ◌∙◌, ap, sym, subst}
use Rattle.op_any.specs.Operators.{AnyView}
use Rattle.db_state.specs.declared.parts.Parts.{Parts}
use Rattle.statements.specs.Views.{statement_view}
use Rattle.migration.specs.Pending.{pending_in, IsPending}
use Rattle.engine_core.specs.Spoken.{TextsCome}
use Rattle.engine_moves.specs.Moving.{KeptMove}
use Rattle.engine_moves.proofs.MoverLemmas.{once_leads}
use Rattle.engine_moves.proofs.mover.Mover.carry_out.Goals as goal
use Rattle.engine_moves.proofs.mover.Mover.carry_out.Goals.{then-not-materialize, else-not-materialize}

pub returns-in_err-reply-clause-texts : goal.returns-in_err-reply-clause-texts
returns-in_err-reply-clause-texts g c =
    subst (λ (k : KeptMove). TextsCome (statement_view c.args.statement) k.database.graph.edges c.event.new.self.graph.edges) c.self.view_is c.event.ensures.texts

pub invariant_of-self-then-not-materialize : goal.invariant_of-self-then-not-materialize
invariant_of-self-then-not-materialize g c =
    let n = c.event.new.self in
    let drawn = c.graph.ensures.graph ∙ ap (λ (d : Parts AnyView). d.graph) c.database.ensures.database in
    let kept = c.keep_pending.ensures ∙ (λ i. pending_in (drawn i).edges (c.replace-pending.ensures.value i)) in
    subst (λ (l : List ℕ). IsPending n.graph.edges n.layout.operators l) (sym kept)
    (once_leads c.self.inside.engine n (statement_view c.args.statement) false c.in_ok-reply.reply c.self.inside.pending c.versions_always_agree.ensures.stored c.versions_always_agree-2.ensures.stored c.self.invariant (sym c.if-not-materialize.ensures) c.in_ok-reply.ensures.answers)

pub invariant_of-self-else-not-materialize : goal.invariant_of-self-else-not-materialize
invariant_of-self-else-not-materialize g c =
    let n = c.event.new.self in
    subst (λ (l : List ℕ). IsPending n.graph.edges n.layout.operators l) (sym (c.replace-pending.ensures.after ∙ c.new.ensures))
    (once_leads c.self.inside.engine n (statement_view c.args.statement) true c.in_ok-reply.reply c.self.inside.pending c.versions_always_agree.ensures.stored c.versions_always_agree-2.ensures.stored c.self.invariant (sym c.if-not-materialize.ensures) c.in_ok-reply.ensures.answers)

pub returns-clause-texts : goal.returns-clause-texts
returns-clause-texts g c =
    let told = subst (λ (k : KeptMove). TextsCome (statement_view c.args.statement) k.database.graph.edges c.event.new.self.graph.edges) c.self.view_is c.event.ensures.texts in
    let at : c.if-not-materialize.self.database ≡ c.event.new.self = elim c.if-not-materialize.branch [
      | then-not-materialize w ↦ ap (λ (k : KeptMove). k.database) w.self-is
      | else-not-materialize w ↦ ap (λ (k : KeptMove). k.database) w.self-is
    ] in
    subst (λ (k : Parts AnyView). TextsCome (statement_view c.args.statement) c.args.self.now.database.graph.edges k.graph.edges) (sym at) told
