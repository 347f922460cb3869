-- How runs lead along the data.
use Rattle.std.proofs.Common.{◌≡◌, List, [], ◌∷◌, ◌++◌, refl, sym, ap, subst, ◌∙◌, append_assoc, append-nil}
use Rattle.std.proofs.lemmas.List.{reverse-append, reverse-reverse}
use mathlib.Core.List.{reverse}
use Rattle.op_any.specs.Operators.{AnyView}
use Rattle.db_state.specs.declared.parts.Parts.{Parts}
use Rattle.engine_sessions.specs.WriteUndo.{Undo}
use Rattle.session_tx.specs.Calls.{after_run}
use Rattle.session_tx.specs.Commits.{after_runs}
use Rattle.session_tx.specs.Meaning.{Ran, Standing as Executed, Unsettled}
use Rattle.engine_state.specs.declared.reply.WriteReply.{WriteReply}
use Rattle.engine_sessions.specs.Standing.{Standing as SessionsStanding, kept_in, standing_of}
use Rattle.engine_transactions.specs.Calls.{executed}
use Rattle.engine_transactions.specs.Executing.{RunsTo}
use Rattle.engine_transactions.specs.Leads.{LeadAlong, Leads, data_after}
use Rattle.engine_transactions.specs.Runs.{AreRun, Runs}
use Rattle.tx_history.specs.Views.{TransactionView}
use Rattle.engine_transactions.specs.declared.executing.Executing.{Executing}
use Rattle.tx_history.specs.declared.table_read.TableRead.{TableRead}

-- back from the newest
abbrev LeadBack : List Undo → SessionsStanding → List (Unsettled SessionsStanding TableRead) → Type 0
LeadBack [] s [] = Unit {0}
LeadBack [] s (r ∷ rs) = ⊥
LeadBack (u ∷ us) s [] = ⊥
LeadBack (u ∷ us) s (r ∷ rs) = Leads r.before.laid.database s.laid.database u × LeadBack us r.before rs

lead_back : (now : Parts AnyView) (us : List Undo) (s : SessionsStanding) (rs : List (Unsettled SessionsStanding TableRead)) → RunsTo now us s rs → LeadBack us s rs
lead_back now [] s [] h = tt
lead_back now [] s (r ∷ rs) h = absurd h
lead_back now (u ∷ us) s [] h = absurd h
lead_back now (u ∷ us) s (r ∷ rs) h = (h.1.0.leads, lead_back h.0 us r.before rs h.1.1)

-- those of the last runs lead along, and the others lead back
record Split (s : Executed SessionsStanding TableRead) (runs : Runs) (us : List Undo) : Type 0 where
  last : List Undo
  others : List Undo
  both : us ≡ last ++ others
  along : LeadAlong s.state.laid.database (data_after runs) (reverse last)
  back : LeadBack others s.state s.unsettled

-- one run more leads along
one_more : (s : Executed SessionsStanding TableRead) (r : Ran SessionsStanding TableRead WriteReply) (rs : Runs) (us last others : List Undo) → us ≡ last ++ others → LeadAlong r.next.laid.database (data_after rs) (reverse last) → LeadBack others (after_run s r).state (after_run s r).unsettled → Split s (r ∷ rs) us
one_more s r rs us last [] both along back = absurd back
one_more s r rs us last (u ∷ others) both along back = record {
  last = last ++ u ∷ [];
  others = others;
  both = both ∙ sym (append_assoc last (u ∷ []) others);
  along = subst (λ (l : List Undo). LeadAlong s.state.laid.database (data_after (r ∷ rs)) l) (sym (reverse-append last (u ∷ []))) (back.0, along);
  back = back.1;
}

split : (s : Executed SessionsStanding TableRead) (runs : Runs) (us : List Undo) → LeadBack us (after_runs s runs).state (after_runs s runs).unsettled → Split s runs us
split s [] us back = record { last = []; others = us; both = refl; along = tt; back = back }
split s (r ∷ rs) us back =
    let h = split (after_run s r) rs us back in
    one_more s r rs us h.last h.others h.both h.along h.back

none_back : (us : List Undo) (s : SessionsStanding) → LeadBack us s [] → us ≡ []
none_back [] s h = refl
none_back (u ∷ us) s h = absurd h

-- RUNS LEAD ALONG THE DATA AFTER THEM
pub leads_along : (t : TransactionView) (old now : Executing) (runs : Runs) → AreRun t old now runs → LeadAlong (standing_of old.sessions).laid.database (data_after runs) now.unsettled.items
leads_along t old now runs run =
    let s = after_runs (executed old) runs in
    let us = now.unsettled.items in
    let h = split (executed old) runs (reverse us) (lead_back (kept_in now.sessions) (reverse us) s.state s.unsettled run.shows.runs) in
    let all : reverse us ≡ h.last = h.both ∙ ap (λ (l : List Undo). h.last ++ l) (none_back h.others (executed old).state h.back) ∙ append-nil h.last in
    subst (λ (l : List Undo). LeadAlong (standing_of old.sessions).laid.database (data_after runs) l) (sym (ap reverse all) ∙ reverse-reverse us) h.along
