-- Two scripts, one after the other.
use Rattle.std.specs.Prelude.{Option, Some, Ok, Err}
use Rattle.std.specs.Io.KnownBytes.{Appends}
use Rattle.std.specs.List.{All}
use Rattle.std.proofs.Common.{◌≡◌, ℕ, suc, List, [], ◌∷◌, ◌++◌, refl, sym, ap, subst, ◌∙◌, arith}
use Rattle.std.proofs.KnownBytes.{Appends-trans}
use Rattle.par_base.specs.Checked.{Checked}
use Rattle.par_base.specs.declared.refusal.Refusal.{Refusal}
use Rattle.statements.specs.Views.{StatementView}
use Rattle.generated_run.specs.EngineCoreTexts.{refusal_bytes}
use Rattle.change_feed.specs.Watchers.{WatcherState}
use Rattle.version_graph.specs.Sets.{Each}
use Rattle.generated_run.specs.Standing.{Standing}
use Rattle.generated_run.specs.WatchedStanding.{Standing as WatchedStanding}
use Rattle.generated_run.specs.Begun.{DifferInSessions, begun_again}
use Rattle.generated_run.specs.SessionsStanding.{DifferInSessions as SessionsDiffer, Standing as SessionsStanding}
use Rattle.generated_run.specs.WatchedAct.{act}
use Rattle.watch_laws.specs.EngineSessionsAct.{act as act_beside}
use Rattle.watch_laws.specs.ScriptLawsBeside.{next_state as next_beside, replies as replies_beside, state_after as state_beside, text_of as text_beside}
use Rattle.watch_laws.proofs.SaidLemmas.{all_beside, differ_at}
use Rattle.watch_laws.specs.SessionLawsSessions.{IsNamed, NeedNoSession, SameButSessions}
use Rattle.generated_run.specs.Texts.{answer_bytes}
use Rattle.generated_run.specs.Answer.{Answer}
use Rattle.generated_run.specs.Output.{replies as replies_unwatched, state_after as state_unwatched}
use Rattle.generated_run.specs.WatchedOutput.{joined, next_state, out, state_after}
use Rattle.generated_run.specs.Statuses.{Done}
use Rattle.generated_run.proofs.OutputLaws.{out-append}
use Rattle.outside.specs.FileTold.{ToldAs}
use Rattle.inverda_run.specs.Starts.{Loaded, StartsBy, Told, all_waiting}
use Rattle.inverda_run.specs.Statuses.{Ran, Written}
use Rattle.watch_laws.specs.ScriptLawsSaid.{ActsAtOnce}
use Rattle.watch_laws.specs.Beside.{StandsBeside, UnwatchedAreAnswered}
use Rattle.watch_laws.specs.Said.{again_with}
use Rattle.inverda_run.specs.Laws.{BeginsAgain, LoadsTheDumped, RunsAreOne, TwoRuns}
use Rattle.inverda_run.proofs.StartLemmas.{both}

state_append : (s : WatchedStanding) (first second : List StatementView) → state_after s (first ++ second) ≡ state_after (state_after s first) second
unfolding state_after
state_append s [] second = refl
state_append s (t ∷ ts) second = state_append (next_state s (act s t)) ts second

-- what differs in sessions alone answers statements that need none the same, and leaves the same but for sessions
same_step : (s t : SessionsStanding) (a b : Checked (Answer × SessionsStanding)) → SessionsDiffer s t → SameButSessions a b → (text_beside a ≡ text_beside b) × SessionsDiffer (next_beside s a) (next_beside t b)
same_step s t (Ok a) (Ok b) is same = (ap (λ (x : Answer). answer_bytes x) same.0, same.1)
same_step s t (Err r) (Err q) is same = (ap (λ (x : Refusal). refusal_bytes x) same, is)
same_step s t (Ok a) (Err r) is same = absurd same
same_step s t (Err r) (Ok b) is same = absurd same

alike : NeedNoSession → (s t : SessionsStanding) (statements : List StatementView) → SessionsDiffer s t → All IsNamed statements
    → (replies_beside s statements ≡ replies_beside t statements) × SessionsDiffer (state_beside s statements) (state_beside t statements)
unfolding replies_beside state_beside
alike law s t [] is named = (refl, is)
alike law s t (x ∷ xs) is named =
    let step = same_step s t (act_beside s x) (act_beside t x) is (law s t x is (named 0 x (omega arith))) in
    let rest = alike law (next_beside s (act_beside s x)) (next_beside t (act_beside t x)) xs step.1 (λ k d lt. named (suc k) d (omega arith)) in
    ((λ i. step.0 i ∷ rest.0 i), rest.1)

-- without watches
again_unwatched : NeedNoSession → (s : Standing) (statements : List StatementView) → s.opens ≡ [] → All IsNamed statements → Each ActsAtOnce statements
    → (replies_unwatched (begun_again s) statements ≡ replies_unwatched s statements) × DifferInSessions (state_unwatched (begun_again s) statements) (state_unwatched s statements)
again_unwatched law s statements none named once =
    let again = all_beside statements (begun_again s) refl once in
    let here = all_beside statements s none once in
    let same = alike law (begun_again s).sessions s.sessions statements (record { laid = refl; pending = refl; counts = refl }) named in
    (again.0 ∙ same.0 ∙ sym here.0, differ_at _ _ _ _ again.1 here.1 same.1)

-- standings that are told the same differ as they do
pub told_differ : {s s' t t' : Standing} → s ≡ s' → t ≡ t' → DifferInSessions s' t' → DifferInSessions s t
told_differ a b is = differ_at _ _ _ _ (ap (λ (k : Standing). k.sessions) a) (ap (λ (k : Standing). k.sessions) b) is

module _ (stands : StandsBeside) (unwatched : UnwatchedAreAnswered) (law : NeedNoSession) where
  pub begins_again : BeginsAgain
  begins_again s watches statements none named once watch =
      let there : WatchedStanding = again_with watches s in
      let same = again_unwatched law s.transactions statements none named once in (
        ap joined (unwatched there statements watch ∙ same.0 ∙ sym (unwatched s statements watch)),
        told_differ (stands there statements) (stands s statements) same.1,
      )

pub two_runs : TwoRuns
two_runs s first second = (out-append s first second, state_append s first second)

-- where a second run begins: there where the first one stood, but for what is watched
abbrev pub there_with : WatchedStanding → List WatcherState → WatchedStanding
there_with to waiting = again_with (all_waiting waiting) to

pub begins_there : LoadsTheDumped → {words words' : List (List ℕ)} {told mid told' : Told} {waiting waiting' : List WatcherState} {left left' more more' held between between' held' : Option (List ℕ)}
    → (first : Ran words told mid waiting left left' held between) (second : Ran words' mid told' waiting' more more' between' held')
    → (name file : List ℕ) → first.asked.dump ≡ Some name → second.asked.load ≡ Some name → mid name ≡ Some (Some file) → second.asked.max_id ≡ first.asked.max_id → second.from ≡ there_with first.to waiting'
begins_there loads {words} {words'} {told} {mid} {told'} {waiting} {waiting'} first second name file dumps load is same =
    let written : Written (Some name) mid first.to.transactions = subst (λ (d : Option (List ℕ)). Written d mid first.to.transactions) dumps first.written in
    let from : Standing = second.from.transactions in
    let start : Loaded (mid name) second.asked.max_id from = subst (λ (l : Option (List ℕ)). StartsBy mid l second.asked.max_id from) load second.starts.start in
    let text = written.0 in
    let file_is : file ≡ text = subst (λ (f : Option (Option (List ℕ))). ToldAs f text) is written.3 in
    let held_so : Loaded (Some (Some file)) second.asked.max_id from = subst (λ (f : Option (Option (List ℕ))). Loaded f second.asked.max_id from) is start in
    let loaded : Loaded (Some (Some text)) first.to.transactions.sessions.laid.database.limit from = subst (λ (n : ℕ). Loaded (Some (Some text)) n from) (same ∙ sym first.limit_stays) (subst (λ (t : List ℕ). Loaded (Some (Some t)) second.asked.max_id from) file_is held_so) in
    both second.from (there_with first.to waiting') (loads first.to.transactions from text written.1 written.2 loaded) second.starts.watches

-- THE STATEMENTS BEHIND A DUMP are answered as they would be without it, where they are so from the beginning over what stood
module _ {words words' : List (List ℕ)} {told mid told' : Told} {waiting waiting' : List WatcherState} {left left' more more' held between held' : Option (List ℕ)}
    (loads : LoadsTheDumped) (first : Ran words told mid waiting left left' held between) (second : Ran words' mid told' waiting' more more' between held')
    (name file : List ℕ) (dumps : first.asked.dump ≡ Some name) (load : second.asked.load ≡ Some name) (is : mid name ≡ Some (Some file)) (same : second.asked.max_id ≡ first.asked.max_id)
    (one : Done first.from first.to left left' held between) (other : Done second.from second.to more more' between held') where
  pub join : (out (there_with first.to waiting') other.statements ≡ out first.to other.statements)
      → DifferInSessions (state_after (there_with first.to waiting') other.statements).transactions (state_after first.to other.statements).transactions
      → Appends held held' (out first.from (one.statements ++ other.statements))
      × DifferInSessions second.to.transactions (state_after first.from (one.statements ++ other.statements)).transactions
  join answered differ =
      let begins = begins_there loads first second name file dumps load is same in
      let both_are = two_runs first.from one.statements other.statements in
      let out_is : out second.from other.statements ≡ out (state_after first.from one.statements) other.statements =
      ap (λ (s : WatchedStanding). out s other.statements) begins ∙ answered ∙ ap (λ (s : WatchedStanding). out s other.statements) one.next in
      let put = Appends-trans held between held' (out first.from one.statements) (out second.from other.statements) one.put other.put in (
        subst (Appends held held') (ap (λ (t : List ℕ). out first.from one.statements ++ t) out_is ∙ sym both_are.0) put,
        told_differ (ap (λ (s : WatchedStanding). s.transactions) (other.next ∙ ap (λ (s : WatchedStanding). state_after s other.statements) begins))
            (ap (λ (s : WatchedStanding). s.transactions) (both_are.1 ∙ sym (ap (λ (s : WatchedStanding). state_after s other.statements) one.next))) differ,
      )

pub runs_are_one : StandsBeside → UnwatchedAreAnswered → LoadsTheDumped → NeedNoSession → RunsAreOne
runs_are_one stands unwatched loads law words words' told mid told' waiting waiting' left left' more more' held between held' first second name file dumps load is same one other none named once watch =
    let again = begins_again stands unwatched law first.to (all_waiting waiting') other.statements none named once watch in
    join loads first second name file dumps load is same one other again.0 again.1
