-- The write stands in the transaction at hand.
use Rattle.std.specs.Prelude.{is_some}
use Rattle.std.proofs.Common.{◌≡◌, ℕ, true, List, [], Ok, refl, sym, ap, subst, ◌∙◌}
use Rattle.statements.specs.Views.{StatementView, statement_view}
use Rattle.statements.specs.declared.statement.Statement.{Statement}
use Rattle.engine_sessions.specs.WriteUndo.{Undo}
use Rattle.engine_sessions.specs.declared.answer.Answer.TheVariants.{Plain}
use Rattle.engine_state.specs.declared.reply.Reply.TheVariants.{Kept as KeptReply}
use Rattle.engine_transactions.specs.Calls.{standing_of}
use Rattle.engine_transactions.specs.ByKind.{full_at}
use Rattle.tx_history.specs.Kinds.{version_told}
use Rattle.engine_transactions.specs.Leads.{LeadAlong}
use Rattle.tx_history.specs.Opens.{opens_view, with_changed, without_last}
use Rattle.tx_history.specs.Views.{OpenView, TransactionView, with_write}
use Rattle.engine_transactions.specs.declared.kept.Kept.{Kept}
use Rattle.tx_history.proofs.OpenLaws.{changed_open, forgotten, last_forgotten}
use Rattle.engine_transactions.proofs.KeptLemmas.{kept_some}
use Rattle.engine_transactions.proofs.kept.Kept.keep.Goals as goal

pub returns-clause-holds : goal.returns-clause-holds
returns-clause-holds c = λ o at.
    let old = c.args.self.now in
    let s = standing_of old in
    let now : Kept = record { executing = old.executing; opens = c.keep.new.opens } in
    let full = full_at s (statement_view c.args.statement) in
    let is : statement_view c.in_ok-statement.statement ≡ full = c.in_ok-statement.ensures.full in
    let some : is_some (version_told full) ≡ true = ap (λ (x : StatementView). is_some (version_told x)) (sym is) ∙ sym c.tells_version.ensures ∙ c.if-not-tells_version.false in
    let session = c.session-session.result in
    let put : opens_view now.opens.items ≡ with_changed s.opens session (λ t. with_write t full) =
    c.in_ok-keep.ensures.ok
    ∙ ap (λ (x : Statement). with_changed s.opens session (λ t. with_write t (statement_view x))) c.new.ensures
    ∙ ap (λ (x : StatementView). with_changed s.opens session (λ t. with_write t x)) is in
    let opens =
    put
    ∙ ap (λ (n : ℕ). with_changed s.opens n (λ t. with_write t full)) c.session-session.ensures
    ∙ changed_open s.sessions.session (λ t. with_write t full) o s.opens at in
    record {
      next = standing_of now;
      acts = kept_some s o.transaction (version_told full) full some ∙ ap (λ (l : List OpenView). Ok (Plain KeptReply, record s { opens = l })) (sym opens);
      prints = tt;
      leads = subst (λ (us : List Undo). LeadAlong s.sessions.laid.database [] us) (sym c.requires.idle.settled) tt;
      graph = refl;
      left = record {
        idle = c.requires.idle;
        engine = refl;
        stands = refl;
        back = ap (λ (os : List OpenView). with_changed os session without_last) put ∙ forgotten s.opens session (λ (t : TransactionView). with_write t full) without_last (last_forgotten full);
      };
    }
