-- One start of a run, whatever tells of it.
use Rattle.std.specs.Prelude.{◌<◌, Option, Some, None, IsSome}
use Rattle.std.proofs.Common.{◌≡◌, ℕ, List, length, refl, sym, ap, subst, ◌∙◌, arith}
use Rattle.outside.specs.FileTold.{ToldAs}
use Rattle.change_feed.specs.Watchers.{WatcherState}
use Rattle.dump_formats.specs.Stands.{IsDumpOf}
use Rattle.generated_run.specs.Standing.{Standing}
use Rattle.generated_run.specs.WatchedStanding.{Standing as WatchedStanding}
use Rattle.generated_run.specs.Begun.{empty_standing}
use Rattle.run_words.specs.Words.{Asked, Says}
use Rattle.run_words.specs.Laws.{SayOneThing}
use Rattle.generated_run.specs.Statuses.{limit}
use Rattle.inverda_run.specs.Files.{IsLonger}
use Rattle.inverda_run.specs.Starts.{Loaded, StartsBy, Told}
use Rattle.inverda_run.specs.Statuses.{Loads, NoDump, SayNothing, Starts}
use Rattle.inverda_run.specs.Decided.{IsTold, ToldLonger, ToldNoDump}
use Rattle.inverda_run.specs.Calls.{HoldsNoDump}
use Rattle.inverda_run.specs.Laws.{OneStart}

some_same : {A : Type 0} (a b : A) → Some a ≡ Some b → a ≡ b
some_same a b e = cc

-- a file that is told to be there holds its bytes
told_bytes : (told : Option (Option (List ℕ))) (file bytes : List ℕ) → told ≡ Some (Some file) → ToldAs told bytes → file ≡ bytes
told_bytes None file bytes is holds = cc
told_bytes (Some None) file bytes is holds = absurd holds
told_bytes (Some (Some other)) file bytes is holds = let same : other ≡ file = cc in sym same ∙ holds

told_longer : (told : Option (Option (List ℕ))) (file : List ℕ) → told ≡ Some (Some file) → IsLonger limit told → limit < length file
told_longer None file is longer = cc
told_longer (Some None) file is longer = absurd longer
told_longer (Some (Some other)) file is longer = let same : other ≡ file = cc in subst (λ (f : List ℕ). limit < length f) same longer

-- ---- what is loaded

-- a loaded dump is a dump within the limit
no_loaded : (told : Option (Option (List ℕ))) (file : List ℕ) (max_id : ℕ) (from : Standing) → told ≡ Some (Some file) → NoDump file → Loaded told max_id from → ⊥
no_loaded told file max_id from is none l = none l.kept (subst (λ (b : List ℕ). IsDumpOf b l.kept) (sym (told_bytes told file l.bytes is l.holds)) l.dump)

not_longer : (told : Option (Option (List ℕ))) (file : List ℕ) (max_id : ℕ) (from : Standing) → told ≡ Some (Some file) → limit < length file → Loaded told max_id from → ⊥
not_longer told file max_id from is above l = let same = told_bytes told file l.bytes is l.holds in let within = l.within in omega (arith, ap length same)

-- ---- one start

-- beside the same watches the same stands
pub both : (s t : WatchedStanding) → s.transactions ≡ t.transactions → s.watches ≡ t.watches → s ≡ t
both s t transactions watches = λ i. record { transactions = transactions i; watches = watches i }

module _ (words : List (List ℕ)) (told : Told) (one : SayOneThing) where
  -- the words load one file
  one_name : (asked : Asked) (name other : List ℕ) → Says words asked → asked.load ≡ Some name → Loads words other → other ≡ name
  one_name asked name other says load l = some_same other name (sym l.load ∙ ap (λ (a : Asked). a.load) (one words l.asked asked l.says says) ∙ load)

  -- a start is no refusal
  pub start_not_refused : {waiting : List WatcherState} (asked : Asked) (from : WatchedStanding) → Starts words told waiting asked from → ToldNoDump words told → ⊥
  start_not_refused {waiting} asked from s d = go asked.load refl s.start
    where
      go : (load : Option (List ℕ)) → asked.load ≡ load → StartsBy told load asked.max_id from.transactions → ⊥
      go None is start = let clash : Some d.name ≡ None = sym d.loads.load ∙ ap (λ (a : Asked). a.load) (one words d.loads.asked asked d.loads.says s.says) ∙ is in cc
      go (Some name) is start =
          let same = one_name asked name d.name s.says is d.loads in
          no_loaded (told name) d.file asked.max_id from.transactions (ap told (sym same) ∙ d.holds) d.none start

  -- nor is it too long
  pub start_not_longer : {waiting : List WatcherState} (asked : Asked) (from : WatchedStanding) → Starts words told waiting asked from → ToldLonger words told → ⊥
  start_not_longer {waiting} asked from s d = go asked.load refl s.start
    where
      go : (load : Option (List ℕ)) → asked.load ≡ load → StartsBy told load asked.max_id from.transactions → ⊥
      go None is start = let clash : Some d.name ≡ None = sym d.loads.load ∙ ap (λ (a : Asked). a.load) (one words d.loads.asked asked d.loads.says s.says) ∙ is in cc
      go (Some name) is start =
          let same = one_name asked name d.name s.says is d.loads in
          not_longer (told name) d.file asked.max_id from.transactions (ap told (sym same) ∙ d.holds) d.above start

  -- a file that holds no dump gives no start that is told
  pub refused_no_start : {waiting : List WatcherState} (asked : Asked) (name : List ℕ) (from : WatchedStanding) → Says words asked → asked.load ≡ Some name → HoldsNoDump (told name)
      → (other : Asked) → Starts words told waiting other from → IsTold told other.load → ⊥
  refused_no_start {waiting} asked name from says load holds other s t = go other.load (ap (λ (a : Asked). a.load) (one words asked other says s.says)) t s.start
    where
      go : (l : Option (List ℕ)) → asked.load ≡ l → IsTold told l → StartsBy told l other.max_id from.transactions → ⊥
      go None is k start = let clash : Some name ≡ None = sym load ∙ is in cc
      go (Some found) is k start =
          let same : found ≡ name = some_same found name (sym is ∙ load) in
          let file_is : k.0 ≡ holds.bytes = told_bytes (told name) k.0 holds.bytes (ap told (sym same) ∙ k.1) holds.holds in
          no_loaded (told found) k.0 other.max_id from.transactions k.1 (subst NoDump (sym file_is) holds.none) start

  pub longer_no_start : {waiting : List WatcherState} (asked : Asked) (name : List ℕ) (from : WatchedStanding) → Says words asked → asked.load ≡ Some name → IsLonger limit (told name)
      → (other : Asked) → Starts words told waiting other from → IsTold told other.load → ⊥
  longer_no_start {waiting} asked name from says load longer other s t = go other.load (ap (λ (a : Asked). a.load) (one words asked other says s.says)) t s.start
    where
      go : (l : Option (List ℕ)) → asked.load ≡ l → IsTold told l → StartsBy told l other.max_id from.transactions → ⊥
      go None is k start = let clash : Some name ≡ None = sym load ∙ is in cc
      go (Some found) is k start =
          let same : found ≡ name = some_same found name (sym is ∙ load) in
          not_longer (told found) k.0 other.max_id from.transactions k.1 (told_longer (told name) k.0 (ap told (sym same) ∙ k.1) longer) start

  -- a file that is told isn't both too long and a dump or none
  pub refused_not_longer : (asked : Asked) (name : List ℕ) → Says words asked → asked.load ≡ Some name → HoldsNoDump (told name) → ToldLonger words told → ⊥
  refused_not_longer asked name says load holds d =
      let same = one_name asked name d.name says load d.loads in
      let file_is = told_bytes (told name) d.file holds.bytes (ap told (sym same) ∙ d.holds) holds.holds in
      let within = holds.within in
      let above = d.above in
      omega (arith, ap length file_is)

  pub longer_not_refused : (asked : Asked) (name : List ℕ) → Says words asked → asked.load ≡ Some name → IsLonger limit (told name) → ToldNoDump words told → ⊥
  longer_not_refused asked name says load longer d =
      let same = one_name asked name d.name says load d.loads in
      let more = told_longer (told name) d.file (ap told (sym same) ∙ d.holds) longer in
      let within = d.within in
      omega arith

  -- two starts of one run are one, where the loaded file is told
  pub one_start : OneStart → {waiting : List WatcherState} (asked other : Asked) (from to : WatchedStanding) → Starts words told waiting asked from → Starts words told waiting other to → IsTold told asked.load → to ≡ from
  one_start law {waiting} asked other from to s t k =
      let same = one words other asked t.says s.says in
      both to from (go asked.load k s.start (subst (λ (a : Asked). StartsBy told a.load a.max_id to.transactions) same t.start)) (t.watches ∙ sym s.watches)
    where
      go : (l : Option (List ℕ)) → IsTold told l → StartsBy told l asked.max_id from.transactions → StartsBy told l asked.max_id to.transactions → to.transactions ≡ from.transactions
      go None k first second = second ∙ sym first
      go (Some name) k first second =
          law k.0 asked.max_id to.transactions from.transactions (subst (λ (f : Option (Option (List ℕ))). Loaded f asked.max_id to.transactions) k.1 second)
          (subst (λ (f : Option (Option (List ℕ))). Loaded f asked.max_id from.transactions) k.1 first)

-- a generated script begins with an empty database
pub loads_none : (words : List (List ℕ)) (asked : Asked) (n : ℕ) → Says words asked → asked.generate ≡ Some n → asked.load ≡ None
loads_none words asked n says is = says.load ∙ (says.alone (subst (λ (g : Option ℕ). IsSome g) (sym is) refl)).0

pub starts_empty : (words : List (List ℕ)) (told : Told) {waiting : List WatcherState} (asked : Asked) (from : WatchedStanding) (n : ℕ) → Starts words told waiting asked from → asked.generate ≡ Some n → from.transactions ≡ empty_standing asked.max_id
starts_empty words told {waiting} asked from n s is = subst (λ (l : Option (List ℕ)). StartsBy told l asked.max_id from.transactions) (loads_none words asked n s.says is) s.start

-- the greatest identifier is the one that the words name
pub starts_limit : (words : List (List ℕ)) (told : Told) {waiting : List WatcherState} (asked : Asked) (from : WatchedStanding) → Starts words told waiting asked from → from.transactions.sessions.laid.database.limit ≡ asked.max_id
starts_limit words told {waiting} asked from s = go asked.load s.start
  where
    go : (load : Option (List ℕ)) → StartsBy told load asked.max_id from.transactions → from.transactions.sessions.laid.database.limit ≡ asked.max_id
    go None is = ap (λ (s : Standing). s.sessions.laid.database.limit) is
    go (Some name) loaded = ap (λ (s : Standing). s.sessions.laid.database.limit) loaded.state ∙ loaded.limit_is

-- words that say nothing load nothing and start nothing
pub nothing_refused : (words : List (List ℕ)) (told : Told) → SayNothing words → ToldNoDump words told → ⊥
nothing_refused words told none d = none d.loads.asked d.loads.says

pub nothing_longer : (words : List (List ℕ)) (told : Told) → SayNothing words → ToldLonger words told → ⊥
nothing_longer words told none d = none d.loads.asked d.loads.says

pub nothing_starts : (words : List (List ℕ)) (told : Told) {waiting : List WatcherState} (asked : Asked) (from : WatchedStanding) → SayNothing words → Starts words told waiting asked from → ⊥
nothing_starts words told {waiting} asked from none s = none asked s.says
