-- What the calls of an executor do.
use Rattle.std.specs.Prelude.{◌≡◌, ◌+◌, ◌-◌, ◌^◌, ◌≤◌, ◌||◌, ℕ, min, Bool, true, false, List, [], ◌∷◌, length, Result, Ok, Err}
use Rattle.par_base.specs.declared.fault.Fault.{Fault}
use Rattle.par_base.specs.declared.fault.Fault.TheVariants.{Refused, Memory as OutOfMemory}
use Rattle.par_base.specs.declared.refusal.Refusal.{Refusal}
use Rattle.session_tx.specs.Meaning.{Meaning, Ran, Standing, Unsettled}

-- the greatest history number, at which it stays
abbrev pub last_number : ℕ
last_number = 2 ^ 64 - 1

-- the number after a history number
abbrev pub next_number : ℕ → ℕ
next_number n = min (n + 1) last_number

module _ {S M : Type 0} where
  -- the standing after a run that was accepted
  abbrev pub after_run : {D : Type 0} → Standing S M → Ran S M D → Standing S M
  after_run s r = record s { state = r.next; unsettled = record { before = s.state; changes = r.changes } ∷ s.unsettled }

  abbrev pub before_runs : Standing S M → List (Unsettled S M) → Standing S M
  before_runs s [] = s
  before_runs s (u ∷ us) = record s { state = u.before; unsettled = us }

  -- the standing before the newest run that isn't settled
  abbrev pub taken_back : Standing S M → Standing S M
  taken_back s = before_runs s s.unsettled

  -- one of the runs changed what the mark names
  abbrev pub is_changed : List (Unsettled S M) → M → Bool
  is_changed [] mark = false
  is_changed (u ∷ us) mark = u.changes mark || is_changed us mark

  -- some mark names what one of the runs changed
  pub record AnyChanged (runs : List (Unsettled S M)) : Type 0 where
    pub mark : M
    pub changed : is_changed runs mark ≡ true

  -- the runs are settled: they stay, the history number rises where a mark names what they changed, and each such mark has that number
  pub record IsSettled (old new : Standing S M) : Type 0 where
    pub state : new.state ≡ old.state
    pub unsettled : new.unsettled ≡ []
    pub rises : AnyChanged old.unsettled → new.history ≡ next_number old.history
    pub stays : (AnyChanged old.unsettled → ⊥) → new.history ≡ old.history
    pub changed : (mark : M) → is_changed old.unsettled mark ≡ true → new.last mark ≡ new.history
    pub others : (mark : M) → is_changed old.unsettled mark ≡ false → new.last mark ≡ old.last mark

  -- a standing of an executor
  abbrev pub StandsSo : (Standing S M → Type 0) → Type 0
  StandsSo Stands = (s : Standing S M) × Stands s

  -- one from which so many runs can be taken back
  abbrev pub HasRuns : (Standing S M → Type 0) → ℕ → Type 0
  HasRuns Stands count = (s : Standing S M) × (Stands s × (count ≤ length s.unsettled))

  -- one in which nothing is unsettled
  abbrev pub IsIdle : (Standing S M → Type 0) → Type 0
  IsIdle Stands = (s : Standing S M) × (Stands s × (s.unsettled ≡ []))

  -- settling leads from a standing to another one
  abbrev pub LeadsSettled : (Standing S M → Type 0) → Standing S M → Type 0
  LeadsSettled Stands old = (new : Standing S M) × (IsSettled old new × Stands new)

module _ {S W M D : Type 0} where
  -- the write was run as it means
  pub record WasRun (m : Meaning S W M D) (old : Standing S M) (write : W) (new : Standing S M) (done : D) : Type 0 where
    pub ran : Ran S M D
    pub meant : m old.state write ≡ Ok ran
    pub gives : done ≡ ran.done
    pub leaves : new ≡ after_run old ran

  -- the answer of a run from a standing, which leads to another one: it is refused exactly where its meaning says so, and after an error all is as before
  abbrev pub LeadsRun : (Standing S M → Type 0) → Meaning S W M D → Standing S M → W → Result D (Fault Refusal) → Type 0
  LeadsRun Stands m old write (Ok done) = (new : Standing S M) × (WasRun m old write new done × Stands new)
  LeadsRun Stands m old write (Err (Refused refusal)) = (m old.state write ≡ Err refusal) × Stands old
  LeadsRun Stands m old write (Err (OutOfMemory memory)) = Stands old
