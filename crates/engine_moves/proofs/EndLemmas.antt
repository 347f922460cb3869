-- A move in steps ends as the move at once.
use Rattle.std.specs.Prelude.{Option, Some, None, Ok, Err}
use Rattle.std.proofs.Common.{◌≡◌, ℕ, zero, suc, List, refl, sym, ap, ◌∙◌, subst}
use Rattle.par_base.specs.Checked.{Checked, ◌then◌}
use Rattle.par_base.specs.declared.refusal.Refusal.TheVariants.{NothingPending}
use Rattle.version_graph.specs.Forest.{forest}
use Rattle.version_graph.proofs.WalkLaws.{is_forest}
use Rattle.layout_rules.specs.Closed.{IsClosing, closing}
use Rattle.layout_rules.specs.Closing.{named_tables, named_trees}
use Rattle.layout_rules.specs.Laws.{ClosingIsRight}
use Rattle.layout_rules.proofs.NeededLaws.{closed_valid}
use Rattle.op_any.specs.Operators.{AnyView}
use Rattle.migration.specs.Laws.{StepsArrive, StepsTo}
use Rattle.migration.specs.Pending.{next_flip}
use Rattle.migration.specs.Sides.{changing}
use Rattle.migration.proofs.PendingLaws.{closing_up}
use Rattle.engine_state.specs.declared.reply.Reply.{Reply}
use Rattle.engine_core.proofs.ChainLaws.{both_give, ok_is, then_is}
use Rattle.engine_core.specs.Laid.{moved_count}
use Rattle.engine_moves.specs.Act.{flipped_by, stepped_at}
use Rattle.engine_moves.specs.Laws.{StepsBy, StepsEndAsMoved}
use Rattle.engine_moves.specs.Moving.{Moving}

-- no flip is next where a STEP is refused
none_next : (s : Moving) (o : Option ℕ) → stepped_at s o ≡ Err NothingPending → o ≡ None
none_next s None h = refl
none_next s (Some n) h = absurd (let no : ⊥ = cc in no)

-- the flip of a STEP that is answered
step_next : (s next : Moving) (reply : Reply) (o : Option ℕ) → stepped_at s o ≡ Ok (reply, next) → (n : ℕ) × (o ≡ Some n) × (next ≡ flipped_by s n)
step_next s next reply None h = absurd (let no : ⊥ = cc in no)
step_next s next reply (Some n) h = (n, refl, sym (ap (λ (a : Reply × Moving). a.1) (ok_is (_, flipped_by s n) (reply, next) h)))

-- the flips of STEPs, and that they change no data
flips_of : (count : ℕ) (s last : Moving) → StepsBy count s last
    → StepsTo s.laid.database.graph.edges count s.laid.layout s.pending last.laid.layout × (last.laid.database ≡ s.laid.database)
unfolding StepsBy
flips_of zero s last (refused, same) = (
  (none_next s (next_flip s.laid.layout s.pending) refused, ap (λ (m : Moving). m.laid.layout) same),
  sym (ap (λ (m : Moving). m.laid.database) same),
)
flips_of (suc count) s last (reply, next, answered, steps) =
    let flip = step_next s next reply (next_flip s.laid.layout s.pending) answered in
    let rest = flips_of count (flipped_by s flip.0) last (subst (λ (m : Moving). StepsBy count m last) flip.2 steps) in
    ((flip.0, flip.1, rest.0), rest.1)

pub end_as_moved : ClosingIsRight AnyView → StepsArrive AnyView → StepsEndAsMoved
end_as_moved right arrive s named reply first edges valid rise begins count last steps =
    let g = s.laid.database.graph in
    let a = both_give (closing g s.laid.layout named then λ goal. Ok (changing g.edges s.laid.layout goal)) _ (reply, first) begins in
    let b = both_give (closing g s.laid.layout named) (λ goal. Ok (changing g.edges s.laid.layout goal)) a.0 a.1 in
    let goal = b.0 in
    let flips : changing g.edges s.laid.layout goal ≡ a.0 = ok_is (changing g.edges s.laid.layout goal) a.0 b.2 in
    let start : record { laid = s.laid; pending = changing g.edges s.laid.layout goal } ≡ first =
    ap (λ (l : List ℕ). record { laid = s.laid; pending = l }) flips ∙ ap (λ (r : Reply × Moving). r.1) (ok_is (_, record { laid = s.laid; pending = a.0 }) (reply, first) a.2) in
    let closes = subst (λ (c : Checked (List ℕ)). IsClosing g s.laid.layout named c) b.1 (right g edges s.laid.layout named) in
    let valid_goal = closed_valid (forest g.edges) (is_forest g.edges edges) (named_trees g named) (named_tables g named) s.laid.layout goal valid closes.2 closes.1 in
    let up = closing_up g edges s.laid.layout named goal b.1 in
    let all = flips_of count (record { laid = s.laid; pending = changing g.edges s.laid.layout goal }) last (subst (λ (m : Moving). StepsBy count m last) (sym start) steps) in
    let ends = arrive g.edges edges s.laid.layout goal valid rise valid_goal up.0 count last.laid.layout all.0 in
    then_is (closing g s.laid.layout named) (λ new. Ok (moved_count s.laid new, record s.laid { layout = new })) goal b.1
    ∙ (λ i. Ok (sym ends.1 i, record { database = sym all.1 i; layout = sym ends.0 i }))
