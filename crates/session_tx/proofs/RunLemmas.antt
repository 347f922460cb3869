-- Runs of writes one after the other, and how they are taken back.
use Rattle.std.proofs.Common.{◌≡◌, ◌+◌, ◌<◌, ◌≤◌, ◌∷◌, ◌++◌, [], ℕ, zero, suc, List, length, Result, Ok, Err, refl, ap, sym, ◌∙◌, subst, append_assoc, arith}
use Rattle.par_base.specs.declared.fault.Fault.{Fault}
use Rattle.par_base.specs.declared.fault.Fault.TheVariants.{Refused, Memory as OutOfMemory}
use Rattle.par_base.specs.declared.refusal.Refusal.{Refusal}
use Rattle.session_tx.specs.Meaning.{Meaning, Ran, Standing, Unsettled}
use Rattle.session_tx.specs.Calls.{after_run, before_runs, taken_back, WasRun}
use Rattle.session_tx.specs.Commits.{with_runs, running, runs_of, after_runs, results, taken_back_times, RanOne, RanSome, RunsAll, RunsOne, Starved, Stopped}

module _ {S M D : Type 0} where
  -- no runs before change nothing
  pub with_none : (r : Result (List (Ran S M D)) Refusal) → with_runs [] r ≡ r
  with_none (Ok runs) = refl
  with_none (Err refusal) = refl

  -- runs and then one more
  pub with_one : (runs : List (Ran S M D)) (ran : Ran S M D) (r : Result (List (Ran S M D)) Refusal) → with_runs runs (with_runs (ran ∷ []) r) ≡ with_runs (runs ++ ran ∷ []) r
  with_one runs ran (Ok more) = ap (λ (all : List (Ran S M D)). Ok all) (sym (append_assoc runs (ran ∷ []) more))
  with_one runs ran (Err refusal) = refl

  pub after_one : (s : Standing S M) (runs : List (Ran S M D)) (ran : Ran S M D) → after_runs s (runs ++ ran ∷ []) ≡ after_run (after_runs s runs) ran
  after_one s [] ran = refl
  after_one s (r ∷ rs) ran = after_one (after_run s r) rs ran

  pub results_one : (runs : List (Ran S M D)) (ran : Ran S M D) → results (runs ++ ran ∷ []) ≡ results runs ++ ran.done ∷ []
  results_one [] ran = refl
  results_one (r ∷ rs) ran = ap (λ (ds : List D). r.done ∷ ds) (results_one rs ran)

  pub results_length : (runs : List (Ran S M D)) → length (results runs) ≡ length runs
  results_length [] = refl
  results_length (r ∷ rs) = ap suc (results_length rs)

  pub counted : (s : Standing S M) (runs : List (Ran S M D)) → length (after_runs s runs).unsettled ≡ length runs + length s.unsettled
  counted s [] = omega arith
  counted s (r ∷ rs) = let h = counted (after_run s r) rs in omega (arith, h)

  -- so many runs more aren't settled
  pub unsettled_after : (s : Standing S M) (runs : List (Ran S M D)) → length runs ≤ length (after_runs s runs).unsettled
  unsettled_after s runs = let h = counted s runs in omega (arith, h)

  -- what was run is taken back
  pub back_after : (s : Standing S M) (runs : List (Ran S M D)) → taken_back_times (length runs) (after_runs s runs) ≡ s
  back_after s [] = refl
  back_after s (r ∷ rs) = ap taken_back (back_after (after_run s r) rs)

module _ {S M : Type 0} where
  pub less_of : (s : Standing S M) (us : List (Unsettled S M)) → length us ≤ length (before_runs s us).unsettled + 1
  less_of s [] = omega arith
  less_of s (u ∷ us) = omega arith

  pub less_one : (s : Standing S M) → length s.unsettled ≤ length (taken_back s).unsettled + 1
  less_one s = less_of s s.unsettled

  -- taking back leaves at least so many
  pub left_after : (s : Standing S M) (n : ℕ) → length s.unsettled ≤ n + length (taken_back_times n s).unsettled
  left_after s zero = omega arith
  left_after s (suc n) = let h = left_after s n in let k = less_one (taken_back_times n s) in omega (arith, h, k)

  -- so another run can be taken back
  pub more_left : (s : Standing S M) (n count : ℕ) → n < count → count ≤ length s.unsettled → 0 < length (taken_back_times n s).unsettled
  more_left s n count below within = let h = left_after s n in omega (arith, h)

module _ {S W M D : Type 0} where
  -- one write was run, and its result put behind the others
  pub ran_one : (m : Meaning S W M D) (write : W) (old new : Standing S M) (done : D) (before after : List D) → WasRun m old write new done → after ≡ before ++ done ∷ [] → RanOne m write old new before after
  ran_one m write old new done before after was put = record {
    ran = was.ran;
    meant = was.meant;
    gives = put ∙ ap (λ (d : D). before ++ d ∷ []) was.gives;
    leaves = was.leaves;
  }

  -- nothing was run yet
  pub ran_none : (m : Meaning S W M D) (writes : List W) (s : Standing S M) (dones : List D) → dones ≡ [] → RanSome m writes writes s s dones
  ran_none m writes s dones none = record {
    runs = [];
    total = sym (with_none (runs_of m s.state writes));
    gives = none;
    leaves = refl;
  }

  -- one more was run
  pub ran_more : (m : Meaning S W M D) (writes : List W) (write : W) (left : List W) (old mid new : Standing S M) (before after : List D) → RanSome m writes (write ∷ left) old mid before → RanOne m write mid new before after → RanSome m writes left old new after
  ran_more m writes write left old mid new before after some one = record {
    runs = some.runs ++ one.ran ∷ [];
    total = some.total
        ∙ ap (λ (r : Result (Ran S M D) Refusal). with_runs some.runs (running r (λ next. runs_of m next left))) one.meant
        ∙ with_one some.runs one.ran (runs_of m one.ran.next left)
        ∙ ap (λ (s : S). with_runs (some.runs ++ one.ran ∷ []) (runs_of m s left)) (sym (ap (λ (s : Standing S M). s.state) one.leaves));
    gives = one.gives ∙ ap (λ (ds : List D). ds ++ one.ran.done ∷ []) some.gives ∙ sym (results_one some.runs one.ran);
    leaves = one.leaves ∙ ap (λ (s : Standing S M). after_run s one.ran) some.leaves ∙ sym (after_one old some.runs one.ran);
  }

  -- the next one is refused
  pub stopped : (m : Meaning S W M D) (writes : List W) (write : W) (left : List W) (old mid : Standing S M) (dones : List D) (refusal : Refusal) → RanSome m writes (write ∷ left) old mid dones → m mid.state write ≡ Err refusal → Stopped m writes old mid dones refusal
  stopped m writes write left old mid dones refusal some refused = record {
    total = some.total ∙ ap (λ (r : Result (Ran S M D) Refusal). with_runs some.runs (running r (λ next. runs_of m next left))) refused;
    runs = some.runs;
    gives = some.gives;
    leaves = some.leaves;
  }

  pub starved : (m : Meaning S W M D) (writes left : List W) (old mid : Standing S M) (dones : List D) → RanSome m writes left old mid dones → Starved old mid dones
  starved m writes left old mid dones some = record { runs = some.runs; gives = some.gives; leaves = some.leaves }

  -- a run leaves one that can be taken back
  pub one_left : (m : Meaning S W M D) (write : W) (old new : Standing S M) (done : D) → WasRun m old write new done → 1 ≤ length new.unsettled
  one_left m write old new done was = subst (λ (s : Standing S M). 1 ≤ length s.unsettled) (sym was.leaves) (omega arith)

  -- whatever stops the next one, those before it stay
  pub run_stopped : (Left Stands : Standing S M → Type 0) (m : Meaning S W M D) (writes : List W) (write : W) (left : List W) (old : Standing S M) (before after : List D) (fault : Fault Refusal) → (mid : Standing S M) × (RanSome m writes (write ∷ left) old mid before × Left mid)
      → ((s : Standing S M) → Left s → RunsOne Stands m write s before after (Err fault)) → RunsAll Stands m writes old after (Err fault)
  run_stopped Left Stands m writes write left old before after (Refused refusal) ran one =
      let here = one ran.0 ran.1.1 in
      (ran.0, (subst (λ (ds : List D). Stopped m writes old ran.0 ds refusal) (sym here.1.1) (stopped m writes write left old ran.0 before refusal ran.1.0 here.0), here.1.0))
  run_stopped Left Stands m writes write left old before after (OutOfMemory memory) ran one =
      let here = one ran.0 ran.1.1 in
      (ran.0, (subst (λ (ds : List D). Starved old ran.0 ds) (sym here.1) (starved m writes (write ∷ left) old ran.0 before ran.1.0), here.0))

  -- the next one is run
  pub run_next : (Left Stands : Standing S M → Type 0) (m : Meaning S W M D) (writes : List W) (write : W) (left : List W) (old : Standing S M) (before after : List D) → (mid : Standing S M) × (RanSome m writes (write ∷ left) old mid before × Left mid)
      → ((s : Standing S M) → Left s → (new : Standing S M) × (RanOne m write s new before after × Stands new)) → (new : Standing S M) × (RanSome m writes left old new after × Stands new)
  run_next Left Stands m writes write left old before after ran one =
      let here = one ran.0 ran.1.1 in
      (here.0, (ran_more m writes write left old ran.0 here.0 before after ran.1.0 here.1.0, here.1.1))
