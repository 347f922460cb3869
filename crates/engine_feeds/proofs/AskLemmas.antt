-- What WATCH and UNWATCH answer and leave.
use Rattle.std.specs.Prelude.{Option, Some, None, IsSome, Ok, Err, if◌then◌else◌}
use Rattle.std.specs.Option.{option_map}
use Rattle.std.proofs.Common.{◌≡◌, ◌<◌, ◌==◌, ◌+◌, ◌&&◌, nat_lt, ℕ, Bool, true, false, List, [], ◌∷◌, length, refl, sym, ap, ◌∙◌, subst, arith}
use Rattle.std.proofs.lemmas.Bool.{false≢true}
use Rattle.std.proofs.lemmas.Bool.Decides.{nat_tests}
use Rattle.par_base.specs.Checked.{Checked, ◌then◌}
use Rattle.par_base.specs.declared.fault.Fault.{Fault}
use Rattle.par_base.specs.declared.fault.Fault.TheVariants.{Refused}
use Rattle.par_base.specs.declared.refusal.Refusal.{Refusal}
use Rattle.par_base.specs.declared.refusal.Refusal.TheVariants.{NoWatcherLeft, UnknownWatch}
use Rattle.statements.specs.Views.{StatementView, Watch, Unwatch}
use Rattle.version_graph.specs.Edges.{set_named}
use Rattle.version_graph.proofs.SetLaws.{in_right}
use Rattle.change_feed.specs.declared.note.Note.{Note}
use Rattle.change_feed.specs.declared.watches.Left.{Left}
use Rattle.change_feed.specs.Watchers.{IsFresh, WatcherState}
use Rattle.change_feed.specs.Watches.{given, CanWatch, WatchState, WatchesState, left_of, watch_of, watched, without_number}
use Rattle.version_notes.specs.Mirrors.{AreQuiet}
use Rattle.version_notes.specs.Notes.{first_note}
use Rattle.version_notes.specs.Runs.{IsOrdered}
use Rattle.version_notes.proofs.WatchLaws.{fits_first, quiet_given, quiet_left, quiet_watched}
use Rattle.change_feed.specs.Shown.{Fit}
use Rattle.op_any.specs.Operators.{AnyView}
use Rattle.db_state.specs.declared.parts.Parts.{Parts}
use Rattle.engine_transactions.specs.EngineCoreKept.{data_of}
use Rattle.engine_transactions.specs.Kept.{kept_in as kept_beneath}
use Rattle.engine_state.specs.AnyDatabase.{AnyDatabase}
use Rattle.engine_state.specs.SharedChecks.{known_version}
use Rattle.engine_state.specs.declared.reply.Reply.TheVariants.{Unwatched, Watching}
use Rattle.engine_transactions.specs.Spoken.{operators_in}
use Rattle.engine_transactions.specs.KeptTexts.{texts_of}
use Rattle.engine_transactions.specs.EngineSessionsCalls.{IsAnswer}
use Rattle.engine_transactions.specs.EngineSessionsStanding.{kept_in as kept_beside}
use Rattle.engine_transactions.specs.Answer.{Answer}
use Rattle.engine_transactions.specs.Answer.TheVariants.{Plain}
use Rattle.engine_transactions.specs.Calls.{standing_of as standing_beneath, Keeps}
use Rattle.engine_transactions.specs.declared.executing.Executing.{Executing}
use Rattle.engine_transactions.specs.declared.kept.Kept.{Kept as Transactions}
use Rattle.engine_feeds.specs.Act.{can_watch, ended_at, ended_by, taken_for, Answers}
use Rattle.engine_feeds.specs.Calls.{standing_with, Carries}
use Rattle.engine_feeds.specs.Kept.{AreKept}
use Rattle.engine_feeds.specs.Standing.{Standing}

abbrev data_at : Transactions → AnyDatabase
data_at kept = (standing_beneath kept).sessions.laid.database

-- nothing changes beneath
keeps_same : (x : StatementView) (at : Executing) → Keeps x at at
keeps_same x at = record { texts = λ t i. in_right t (operators_in x) (texts_of (kept_beside at.sessions).graph.edges) i; limit = refl }

pub ask_failed : (model : Checked (Answer × Standing)) (x : StatementView) (kept : Transactions) (w v : WatchesState) (fault : Fault Refusal) → Answers model (Err fault) (standing_with kept w) → v ≡ w → AreKept kept w → Carries model x kept w (Err fault) kept v
ask_failed model x kept w v fault told same is =
    subst (λ (u : WatchesState). Carries model x kept w (Err fault) kept u) (sym same)
    (record { answers = told; same = refl; answer = tt; keeps = keeps_same x kept.executing; kept = is })

pub ask_done : (model : Checked (Answer × Standing)) (x : StatementView) (kept : Transactions) (w v : WatchesState) (answer : Answer) → model ≡ Ok (answer, standing_with kept v) → IsAnswer answer → AreQuiet (data_at kept) v → AreKept kept w → Carries model x kept w (Ok answer) kept v
ask_done model x kept w v answer told prints quiet is = record { answers = told; same = tt; answer = prints; keeps = keeps_same x kept.executing; kept = record { idle = is.idle; quiet = quiet } }

-- ---- WATCH

less : (m n : ℕ) → m < n → nat_lt m n ≡ true
less m n h = grind (arith, nat_tests, h)

not_less : (m n : ℕ) → (m < n → ⊥) → nat_lt m n ≡ false
not_less m n h = grind (arith, nat_tests, h)

may_watch : (w : WatchesState) → CanWatch w → can_watch w ≡ true
may_watch w may = ap (λ (b : Bool). b && nat_lt w.last 18446744073709551615) (less 0 (length w.waiting) may.0) ∙ less w.last 18446744073709551615 may.1

both_less : (a b c d : ℕ) → nat_lt a b && nat_lt c d ≡ true → (a < b) × (c < d)
both_less a b c d h = grind (arith, nat_tests, h)

pub take_done : (kept : Transactions) (w v : WatchesState) (name : List ℕ) (set number : ℕ) (first : Note) → CanWatch w → IsOrdered (data_at kept) → set_named (data_at kept).graph.versions name ≡ Some set → first ≡ first_note (data_at kept) set → number ≡ w.last + 1 → v ≡ watched name first w → AreKept kept w
    → Carries (taken_for (standing_with kept w) name set) (Watch name) kept w (Ok (Plain (Watching number))) kept v
take_done kept w v name set number first can ordered named first_is number_is v_is is =
    let s = standing_with kept w in
    let whole : v ≡ watched name (first_note (data_at kept) set) w = v_is ∙ ap (λ (n : Note). watched name n w) first_is in
    ask_done (taken_for s name set) (Watch name) kept w v (Plain (Watching number))
    (ap (λ (b : Bool). if b then Ok (Plain (Watching (w.last + 1)), record s { watches = watched name (first_note (data_at kept) set) w }) else Err NoWatcherLeft) (may_watch w can)
    ∙ (λ i. Ok (Plain (Watching (sym number_is i)), record s { watches = sym whole i })))
    tt (subst (AreQuiet (data_at kept)) (sym whole) (quiet_watched (data_at kept) ordered name set named w is.quiet)) is

version_is : (name : List ℕ) (o : Option ℕ) (set : ℕ) → known_version name o ≡ Ok set → o ≡ Some set
version_is name (Some n) set e = let same : n ≡ set = cc in ap (λ (k : ℕ). Some k) same
version_is name None set e = absurd (let no : ⊥ = cc in no)

-- ---- UNWATCH

left_at : (s : Standing) (number : ℕ) (o : Option WatchState) (left : Left) → Some left ≡ option_map left_of o → ended_at s number o ≡ Ok (Plain (Unwatched number left.told left.rows), record s { watches = record s.watches { live = without_number number s.watches.live } })
left_at s number None left e = absurd (let no : ⊥ = cc in no)
left_at s number (Some w) left e =
    let same : left_of w ≡ left = cc in
    ap (λ (l : Left). Ok (Plain (Unwatched number l.told l.rows), record s { watches = record s.watches { live = without_number number s.watches.live } })) same

none_at : (s : Standing) (number : ℕ) (o : Option WatchState) → None ≡ option_map left_of o → ended_at s number o ≡ Err (UnknownWatch number)
none_at s number None e = refl
none_at s number (Some w) e = absurd (let no : ⊥ = cc in no)

none_is : (o : Option WatchState) → None ≡ option_map left_of o → o ≡ None
none_is None e = refl
none_is (Some w) e = absurd (let no : ⊥ = cc in no)

none_goes : (n : ℕ) (w : WatchState) (live rest : List WatchState) (b : Bool) → (if b then Some w else watch_of n live) ≡ None → (watch_of n live ≡ None → rest ≡ live) → (if b then live else w ∷ rest) ≡ w ∷ live
none_goes n w live rest true e h = absurd (let no : ⊥ = cc in no)
none_goes n w live rest false e h = ap (λ (l : List WatchState). w ∷ l) (h e)

all_stay : (n : ℕ) (live : List WatchState) → watch_of n live ≡ None → without_number n live ≡ live
all_stay n [] e = refl
all_stay n (w ∷ live) e = none_goes n w live (without_number n live) (w.number == n) e (λ h. all_stay n live h)

pub unwatch_done : (kept : Transactions) (w v : WatchesState) (number : ℕ) (left : Left) → Some left ≡ option_map left_of (watch_of number w.live) → v ≡ record w { live = without_number number w.live } → AreKept kept w
    → Carries (ended_by (standing_with kept w) number) (Unwatch number) kept w (Ok (Plain (Unwatched number left.told left.rows))) kept v
unwatch_done kept w v number left there left_is is =
    let s = standing_with kept w in
    ask_done (ended_by s number) (Unwatch number) kept w v (Plain (Unwatched number left.told left.rows))
    (left_at s number (watch_of number w.live) left there ∙ ap (λ (u : WatchesState). Ok (Plain (Unwatched number left.told left.rows), record s { watches = u })) (sym left_is))
    tt (subst (AreQuiet (data_at kept)) (sym left_is) (quiet_left (data_at kept) number w is.quiet)) is

pub unwatch_unknown : (kept : Transactions) (w v : WatchesState) (number : ℕ) → None ≡ option_map left_of (watch_of number w.live) → v ≡ record w { live = without_number number w.live } → AreKept kept w
    → Carries (ended_by (standing_with kept w) number) (Unwatch number) kept w (Err (Refused (UnknownWatch number))) kept v
unwatch_unknown kept w v number none left_is is =
    ask_failed (ended_by (standing_with kept w) number) (Unwatch number) kept w v (Refused (UnknownWatch number)) (none_at (standing_with kept w) number (watch_of number w.live) none)
    (left_is ∙ ap (λ (live : List WatchState). record w { live = live }) (all_stay number w.live (none_is (watch_of number w.live) none))) is

-- the first note, of the database that is kept
pub first_there : (kept : Transactions) (p : Parts AnyView) (name : List ℕ) (first : Note) → p ≡ kept_beneath kept → ((set : ℕ) → set_named p.graph.versions name ≡ Some set → first ≡ first_note (data_of p) set) → (set : ℕ) → set_named (data_at kept).graph.versions name ≡ Some set → first ≡ first_note (data_at kept) set
first_there kept p name first same told = subst (λ (q : Parts AnyView). (set : ℕ) → set_named q.graph.versions name ≡ Some set → first ≡ first_note (data_of q) set) same told

some_set : (o : Option ℕ) → IsSome o → (set : ℕ) × (o ≡ Some set)
some_set None some = absurd (false≢true some)
some_set (Some set) some = (set, refl)

pub take_fits : (kept : Transactions) (name : List ℕ) (first : Note) → IsOrdered (data_at kept) → IsSome (set_named (data_at kept).graph.versions name) → ((set : ℕ) → set_named (data_at kept).graph.versions name ≡ Some set → first ≡ first_note (data_at kept) set) → Fit first.tables []
take_fits kept name first ordered lives told =
    let it = some_set (set_named (data_at kept).graph.versions name) lives in
    subst (λ (n : Note). Fit n.tables []) (sym (told it.0 it.1)) (fits_first (data_at kept) ordered name it.0 it.1)

-- ---- a watcher more

pub give_kept : (kept : Transactions) (w v : WatchesState) (x : WatcherState) → AreKept kept w → IsFresh x → v ≡ given x w → AreKept kept v
give_kept kept w v x is fresh given_is = record { idle = is.idle; quiet = subst (AreQuiet (data_at kept)) (sym given_is) (quiet_given (data_at kept) x w fresh is.quiet) }
