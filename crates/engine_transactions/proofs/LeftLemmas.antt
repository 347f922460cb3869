-- What is left of writes at once and of commits.
use Rattle.std.proofs.Common.{◌≡◌, ℕ, Bool, false, cond, filter, inl, inr, List, [], ◌∷◌, refl, sym, ap, subst, ◌∙◌}
use Rattle.statements.specs.Views.{StatementView}
use Rattle.version_graph.specs.Sets.{In}
use Rattle.version_graph.specs.Edges.{is_in, numbers}
use Rattle.version_graph.specs.declared.parts.Placed.{Placed}
use Rattle.version_graph.proofs.SetLaws.{is_in_true}
use Rattle.op_any.specs.Operators.{AnyView}
use Rattle.db_state.specs.declared.parts.Parts.{Parts}
use Rattle.engine_sessions.specs.Spoken.{TextsCome}
use Rattle.engine_state.specs.Replies.{IsReply}
use Rattle.engine_state.specs.declared.reply.WriteReply.{WriteReply}
use Rattle.engine_state.specs.declared.reply.WriteReply.TheVariants as write
use Rattle.engine_sessions.specs.EngineMovesAct.{pending_behind}
use Rattle.engine_sessions.specs.Pending.{IsPending}
use Rattle.engine_sessions.specs.Standing.{Standing as SessionsStanding, kept_in}
use Rattle.engine_transactions.specs.Calls.{reply_of, Keeps}
use Rattle.engine_transactions.specs.declared.executing.Executing.{Executing}

pub keeps_through : (x : StatementView) (old mid new : Executing) → kept_in new.sessions ≡ kept_in mid.sessions → Keeps x old mid → Keeps x old new
keeps_through x old mid new same keeps = record {
  texts = subst (λ (k : Parts AnyView). TextsCome x (kept_in old.sessions).graph.edges k.graph.edges) (sym same) keeps.texts;
  limit = ap (λ (k : Parts AnyView). k.ids.limit) same ∙ keeps.limit;
}

-- the reply to a write can be printed
pub prints : (done : WriteReply) → IsReply (reply_of done)
prints (write.Inserted ids) = tt
prints (write.Updated count) = tt
prints (write.Deleted count) = tt

-- what is pending lives
pending_lives : (es : List (Placed AnyView)) (ns : List ℕ) → ((n : ℕ) → In n ns → In n (numbers es)) → filter (λ (n : ℕ). is_in n (numbers es)) ns ≡ ns
pending_lives es [] live = refl
pending_lives es (n ∷ ns) live =
    ap (λ (b : Bool). cond b (n ∷ filter (λ (m : ℕ). is_in m (numbers es)) ns) (filter (λ (m : ℕ). is_in m (numbers es)) ns)) (is_in_true n (numbers es) (live n (inl refl)))
    ∙ ap (λ (l : List ℕ). n ∷ l) (pending_lives es ns (λ m i. live m (inr i)))

pub pending_stays : (s : SessionsStanding) (layout : List ℕ) → IsPending s.laid.database.graph.edges layout s.pending → pending_behind false s.laid s.pending ≡ s.pending
pending_stays s layout is = pending_lives s.laid.database.graph.edges s.pending is.live
