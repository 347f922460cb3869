-- What the calls of a mover answer, keep and leave.
use Rattle.std.specs.Prelude.{Some, None, Ok, Err, length}
use Rattle.std.proofs.Common.{◌≡◌, ℕ, Bool, true, false, List, [], inl, inr, sym, ap, ◌∙◌, subst}
use Rattle.par_base.specs.declared.fault.Fault.{Fault}
use Rattle.par_base.specs.declared.fault.Fault.TheVariants.{Refused, Memory}
use Rattle.par_base.specs.declared.limits.Target.{Target}
use Rattle.par_base.specs.declared.refusal.Refusal.{Refusal}
use Rattle.par_base.specs.declared.refusal.Refusal.TheVariants.{NothingPending}
use Rattle.par_base.specs.Checked.{Checked, Gives, ◌then◌}
use Rattle.statements.specs.Views.{StatementView}
use Rattle.version_graph.specs.Sets.{In}
use Rattle.op_any.specs.Operators.{AnyView, any_meaning}
use Rattle.db_state.specs.Fields.{IsDatabase}
use Rattle.db_state.specs.declared.parts.Parts.{Parts}
use Rattle.migration.specs.Laws.{StepsAreFlips}
use Rattle.migration.specs.Pending.{next_flip, pending_for, pending_without}
use Rattle.migration.proofs.PendingLaws.{none_pending}
use Rattle.migration.proofs.StepLaws.{lives_found, next_told}
use Rattle.engine_state.specs.declared.reply.Reply.{Reply}
use Rattle.engine_state.specs.declared.reply.Reply.TheVariants.{Flipped, Pending}
use Rattle.engine_core.proofs.ChainLaws.{then_is}
use Rattle.engine_core.specs.Act.{act as act_at_once}
use Rattle.engine_core.specs.Kept.{Answers, MayFlip, state_of}
use Rattle.engine_core.specs.Laid.{Laid, flipped_laid}
use Rattle.engine_moves.specs.Act.{is_materialize, pending_behind, started, stepped, stepped_at}
use Rattle.engine_moves.specs.Moving.{Moving}
use Rattle.engine_moves.proofs.GoalLemmas.{Leads, leads_behind}

-- ---- what is pending, from one state to the next

-- beside an equal state
pub same_leads : (s n : Laid) (pending : List ℕ) → n ≡ s → Leads s pending → Leads n pending
same_leads s n pending same p = subst (λ (l : Laid). Leads l pending) (sym same) p

-- nothing is pending
pub none_leads : (k : Parts AnyView) → IsDatabase any_meaning k → Leads (state_of k) []
none_leads k is = none_pending k.graph.edges is.graph.edges k.layout.operators is.ascending is.valid

-- behind a flip
pub flip_leads : StepsAreFlips AnyView → (k : Parts AnyView) (n : Laid) (pending : List ℕ) (operator : ℕ) → IsDatabase any_meaning k → Leads (state_of k) pending → next_flip k.layout.operators pending ≡ Some operator
    → n ≡ flipped_laid (state_of k) operator → Leads n (pending_without operator pending)
flip_leads law k n pending operator is p next flips =
    same_leads (flipped_laid (state_of k) operator) n (pending_without operator pending) flips
    (law k.graph.edges is.graph.edges k.layout.operators pending is.valid p operator next).left

-- the next flip may be done
pub flip_may : StepsAreFlips AnyView → (k : Parts AnyView) (pending : List ℕ) (operator : ℕ) → IsDatabase any_meaning k → Leads (state_of k) pending → next_flip k.layout.operators pending ≡ Some operator → MayFlip k operator
flip_may law k pending operator is p next =
    let told = next_told k.layout.operators pending operator p.ascending next in (
      lives_found k.graph.edges operator (p.live operator (elim told as (λ _. In operator pending) [ inl x ↦ x.1 | inr x ↦ x.1 ])),
      (law k.graph.edges is.graph.edges k.layout.operators pending is.valid p operator next).valid,
    )

-- behind a statement that is carried out at once
pub once_leads : (k n : Parts AnyView) (x : StatementView) (b : Bool) (reply : Reply) (pending : List ℕ) → IsDatabase any_meaning k → IsDatabase any_meaning n → Leads (state_of k) pending → is_materialize x ≡ b
    → act_at_once (state_of k) x ≡ Ok (reply, state_of n) → Leads (state_of n) (pending_behind b (state_of n) pending)
once_leads k n x true reply pending was is p kind h = none_leads n is
once_leads k n x false reply pending was is p kind h = leads_behind (state_of k) was.graph was.valid pending p x reply (state_of n) is.graph h kind

-- ---- what is answered

pub start_made : (s : Moving) (named : List Target) (made : List ℕ) → pending_for s.laid.database.graph s.laid.layout named ≡ Ok made → started s named ≡ Ok (Pending (length made), record s { pending = made })
start_made s named made is = then_is (pending_for s.laid.database.graph s.laid.layout named) (λ pending. Ok (Pending (length pending), record s { pending = pending })) made is

pub start_refused : (s n : Moving) (named : List Target) (fault : Fault Refusal) → Gives (λ (made : List ℕ). made) (Err fault) (pending_for s.laid.database.graph s.laid.layout named) → Answers (started s named) (Err fault) n
start_refused s n named (Refused r) gives = ap (λ (m : Checked (List ℕ)). m then λ pending. Ok (Pending (length pending), record s { pending = pending })) gives
start_refused s n named (Memory memory) gives = tt

pub step_refused : (s : Moving) → next_flip s.laid.layout s.pending ≡ None → stepped s ≡ Err NothingPending
step_refused s none = ap (stepped_at s) none

pub step_made : (s n : Moving) (operator : ℕ) → next_flip s.laid.layout s.pending ≡ Some operator → n.laid ≡ flipped_laid s.laid operator → n.pending ≡ pending_without operator s.pending
    → stepped s ≡ Ok (Flipped operator (length n.pending), n)
step_made s n operator is flips left =
    ap (stepped_at s) is
    ∙ (λ i. Ok (Flipped operator (length (sym left i)), record { laid = sym flips i; pending = sym left i }))
