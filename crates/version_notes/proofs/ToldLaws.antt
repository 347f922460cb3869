-- What a live watch has been told after steps of the watches.
use Rattle.std.specs.Prelude.{Option, Some, None, if◌then◌else◌}
use Rattle.std.specs.Option.{option_map}
use Rattle.std.specs.Str.{bytes_eq}
use Rattle.std.proofs.Common.{◌≡◌, ◌⊎◌, ◌≤◌, ◌+◌, ◌==◌, ◌++◌, ℕ, Bool, true, false, List, [], ◌∷◌, map, length, length-append, refl, sym, ap, ◌∙◌, subst, arith}
use Rattle.std.proofs.lemmas.Bool.{eqb-true, ne_eqb}
use mathlib.Core.Logic.{inl, inr}
use Rattle.op_law.proofs.OnlyLaws.{by_test}
use Rattle.change_feed.specs.declared.note.Note.{Note}
use Rattle.change_feed.specs.declared.note.VersionNote.{VersionNote}
use Rattle.change_feed.specs.Feeds.{AllQuiet, events_told, notes_of, told_these, with_one}
use Rattle.change_feed.specs.Shown.{Named, after_changes, after_notes, count_rows}
use Rattle.change_feed.specs.Watchers.{IsFresh, WatcherState, counted, rows_shown, with_prepared, with_told}
use Rattle.change_feed.specs.Watches.{AllFresh, WatchState, WatchesState, note_for, taking, watch_of, with_first, without_number, without_version}
use Rattle.change_feed.proofs.FeedLaws.{feeds}
use Rattle.version_model.specs.Kept.{Database}
use Rattle.version_notes.specs.Mirrors.{AllFollow, AreQuiet, Follows, WillShow}
use Rattle.version_notes.specs.Numbers.{AreNumbered}
use Rattle.version_notes.specs.Versions.{tables_of}

-- ---- notes one after the other

pub notes_more : (a b : List (List VersionNote)) (version : List ℕ) → notes_of (a ++ b) version ≡ notes_of a version ++ notes_of b version
notes_more [] b version = refl
notes_more (e ∷ a) b version = ap (with_one (note_for e version)) (notes_more a b version) ∙ one_more (note_for e version) (notes_of a version) (notes_of b version)
  where
    one_more : (o : Option Note) (xs ys : List Note) → with_one o (xs ++ ys) ≡ with_one o xs ++ ys
    one_more None xs ys = refl
    one_more (Some n) xs ys = refl

joined : {A : Type 0} (a b c : List A) → (a ++ b) ++ c ≡ a ++ (b ++ c)
joined [] b c = refl
joined (x ∷ a) b c = ap (λ zs. x ∷ zs) (joined a b c)

heard_two : (h : Option (List Note)) (xs ys : List Note) → option_map (λ before. before ++ ys) (option_map (λ before. before ++ xs) h) ≡ option_map (λ before. before ++ (xs ++ ys)) h
heard_two None xs ys = refl
heard_two (Some before) xs ys = ap Some (joined before xs ys)

after_two : (xs ys : List Note) (tables : Named) → after_notes ys (after_notes xs tables) ≡ after_notes (xs ++ ys) tables
after_two [] ys tables = refl
after_two (x ∷ xs) ys tables = after_two xs ys (after_changes x.tables tables)

shown_two : (s : Option Named) (xs ys : List Note) → option_map (after_notes ys) (option_map (after_notes xs) s) ≡ option_map (after_notes (xs ++ ys)) s
shown_two None xs ys = refl
shown_two (Some tables) xs ys = ap Some (after_two xs ys tables)

told_twice : (xs ys : List Note) (w : WatcherState) → told_these ys (told_these xs w) ≡ told_these (xs ++ ys) w
told_twice xs ys w =
    let many : counted (counted (w.told + length xs) + length ys) ≡ counted (w.told + length (xs ++ ys)) = omega (arith, length-append xs ys) in
    λ i. record { prepared = []; told = many i; heard = heard_two w.heard xs ys i; shown = shown_two w.shown xs ys i }

pub append_none : {A : Type 0} (xs : List A) → xs ++ [] ≡ xs
append_none [] = refl
append_none (x ∷ xs) = ap (λ ys. x ∷ ys) (append_none xs)

heard_none : (h : Option (List Note)) → h ≡ option_map (λ before. before ++ []) h
heard_none None = refl
heard_none (Some before) = ap Some (sym (append_none before))

shown_none : (s : Option Named) → s ≡ option_map (after_notes []) s
shown_none None = refl
shown_none (Some tables) = refl

told_nothing : (w : WatcherState) → w.prepared ≡ [] → w.told ≤ 18446744073709551615 → w ≡ told_these [] w
told_nothing w e h =
    let told : w.told ≡ counted (w.told + 0) = omega (arith, h) in
    λ i. record { prepared = e i; told = told i; heard = heard_none w.heard i; shown = shown_none w.shown i }

-- ---- the watch of a number

-- what became of it: it was told these notes, or ended
abbrev Became : Option WatchState → (List ℕ → List Note) → Option WatchState → Type 0
Became None notes o = o ≡ None
Became (Some w) notes o = (o ≡ None) ⊎ ((v : WatchState) × (o ≡ Some v) × (v.version ≡ w.version) × (v.watcher ≡ told_these (notes w.version) w.watcher))

-- what is always so of watches
pub record AreSound (s : WatchesState) : Type 0 where
  pub fresh : AllFresh s.waiting
  pub quiet : AllQuiet s.live
  pub numbered : AreNumbered 0 s.live s.last

-- a step of the watches, where each is told these notes of its version
pub record Steps (number : ℕ) (notes : List ℕ → List Note) (old new : WatchesState) : Type 0 where
  pub last : old.last ≤ new.last
  pub sound : AreSound new
  pub becomes : number ≤ old.last → Became (watch_of number old.live) notes (watch_of number new.live)

-- one after the other
then_became : (a b : List ℕ → List Note) (o p q : Option WatchState) → Became o a p → Became p b q → Became o (λ version. a version ++ b version) q
then_became a b None p q first second = subst (λ (x : Option WatchState). Became x b q) first second
then_became a b (Some w) p q (inl none) second = inl (subst (λ (x : Option WatchState). Became x b q) none second)
then_became a b (Some w) p q (inr it) second = elim (subst (λ (x : Option WatchState). Became x b q) it.1 second) [
  | inl none ↦ inl none
  | inr next ↦ inr (
    next.0,
    next.1,
    next.2 ∙ it.2,
    next.3 ∙ (λ i. told_these (b (it.2 i)) (it.3 i)) ∙ told_twice (a w.version) (b w.version) w.watcher,
  )
]

pub steps_then : (number : ℕ) (a b : List ℕ → List Note) (s t u : WatchesState) → Steps number a s t → Steps number b t u → Steps number (λ version. a version ++ b version) s u
steps_then number a b s t u first second = record {
  last = (let one = first.last in let two = second.last in omega (arith, one, two));
  sound = second.sound;
  becomes = λ h. then_became a b (watch_of number s.live) (watch_of number t.live) (watch_of number u.live) (first.becomes h) (second.becomes (let one = first.last in omega (arith, one, h)));
}

-- the notes may be said otherwise
pub steps_said : (number : ℕ) (a b : List ℕ → List Note) (s t : WatchesState) → ((version : List ℕ) → a version ≡ b version) → Steps number a s t → Steps number b s t
steps_said number a b s t same steps = subst (λ (notes : List ℕ → List Note). Steps number notes s t) (λ i version. same version i) steps

-- ---- nothing changes

quiet_at : (number : ℕ) (live : List WatchState) (w : WatchState) → AllQuiet live → watch_of number live ≡ Some w → (w.watcher.prepared ≡ []) × (w.watcher.told ≤ 18446744073709551615)
quiet_at number [] w quiet e = absurd (let no : ⊥ = cc in no)
quiet_at number (v ∷ live) w quiet e =
    by_test (v.number == number)
    (λ on. (let same : Some v ≡ Some w = sym (ap (λ (b : Bool). if b then Some v else watch_of number live) on) ∙ e in let one : v ≡ w = cc in subst (λ (u : WatchState). (u.watcher.prepared ≡ []) × (u.watcher.told ≤ 18446744073709551615)) one quiet.0))
    (λ off. quiet_at number live w quiet.1 (sym (ap (λ (b : Bool). if b then Some v else watch_of number live) off) ∙ e))

-- it is as it was, or ended
abbrev Stayed : Option WatchState → Option WatchState → Type 0
Stayed o p = (p ≡ None) ⊎ (p ≡ o)

stayed_became : (number : ℕ) (live : List WatchState) (o p : Option WatchState) → AllQuiet live → watch_of number live ≡ o → Stayed o p → Became o (λ version. []) p
stayed_became number live None p quiet e (inl none) = none
stayed_became number live None p quiet e (inr same) = same
stayed_became number live (Some w) p quiet e (inl none) = inl none
stayed_became number live (Some w) p quiet e (inr same) =
    let own = quiet_at number live w quiet e in
    inr (w, same, refl, told_nothing w.watcher own.0 own.1)

stays_so : (number : ℕ) (s t : WatchesState) → AreSound s → AreSound t → s.last ≤ t.last → (number ≤ s.last → Stayed (watch_of number s.live) (watch_of number t.live)) → Steps number (λ version. []) s t
stays_so number s t sound after last stayed = record {
  last = last;
  sound = after;
  becomes = λ h. stayed_became number s.live (watch_of number s.live) (watch_of number t.live) sound.quiet refl (stayed h);
}

pub steps_same : (number : ℕ) (s : WatchesState) → AreSound s → Steps number (λ version. []) s s
steps_same number s sound = stays_so number s s sound sound (omega arith) (λ h. inr refl)

-- ---- numbers

from_lower : (k m : ℕ) (live : List WatchState) (last : ℕ) → k ≤ m → AreNumbered m live last → AreNumbered k live last
from_lower k m [] last le numbered = omega (arith, le, numbered)
from_lower k m (w ∷ live) last le numbered = (omega (arith, le, numbered.0), numbered.1)

none_above : (number k : ℕ) (live : List WatchState) (last : ℕ) → AreNumbered k live last → number ≤ k → watch_of number live ≡ None
none_above number k [] last numbered le = refl
none_above number k (w ∷ live) last numbered le =
    ap (λ (b : Bool). if b then Some w else watch_of number live) (ne_eqb w.number number (λ same. (let above = numbered.0 in omega (arith, above, le, same))))
    ∙ none_above number w.number live last numbered.1 (let above = numbered.0 in omega (arith, above, le))

-- ---- told

told_numbered : (es : List (List VersionNote)) (k : ℕ) (live : List WatchState) (last : ℕ) → AreNumbered k live last → AreNumbered k (map {A = WatchState} (λ w. record w { watcher = told_these (notes_of es w.version) w.watcher }) live) last
told_numbered es k [] last numbered = numbered
told_numbered es k (w ∷ live) last numbered = (numbered.0, told_numbered es w.number live last numbered.1)

told_quiet : (es : List (List VersionNote)) (live : List WatchState) → AllQuiet (map {A = WatchState} (λ w. record w { watcher = told_these (notes_of es w.version) w.watcher }) live)
told_quiet es [] = tt
told_quiet es (w ∷ live) = ((refl, omega arith), told_quiet es live)

told_became : (es : List (List VersionNote)) (number : ℕ) (live : List WatchState)
    → Became (watch_of number live) (notes_of es) (watch_of number (map {A = WatchState} (λ w. record w { watcher = told_these (notes_of es w.version) w.watcher }) live))
told_became es number [] = refl
told_became es number (w ∷ live) = one_became es number w live (map {A = WatchState} (λ w. record w { watcher = told_these (notes_of es w.version) w.watcher }) live) (w.number == number) (told_became es number live)
  where
    one_became : (es : List (List VersionNote)) (number : ℕ) (w : WatchState) (live others : List WatchState) (b : Bool) → Became (watch_of number live) (notes_of es) (watch_of number others)
        → (let v : WatchState = record w { watcher = told_these (notes_of es w.version) w.watcher } in Became (if b then Some w else watch_of number live) (notes_of es) (if b then Some v else watch_of number others))
    one_became es number w live others true rest = inr (record w { watcher = told_these (notes_of es w.version) w.watcher }, refl, refl, refl)
    one_became es number w live others false rest = rest

pub steps_told : (number : ℕ) (es : List (List VersionNote)) (s : WatchesState) → AreSound s → Steps number (notes_of es) s (events_told es s)
steps_told number es s sound =
    subst (Steps number (notes_of es) s) (sym (feeds es s sound.quiet))
    (record {
      last = omega arith;
      sound = record { fresh = sound.fresh; quiet = told_quiet es s.live; numbered = told_numbered es 0 s.live s.last sound.numbered };
      becomes = λ h. told_became es number s.live;
    })

-- ---- some end

version_numbered : (version : List ℕ) (k : ℕ) (live : List WatchState) (last : ℕ) → AreNumbered k live last → AreNumbered k (without_version version live) last
version_numbered version k [] last numbered = numbered
version_numbered version k (w ∷ live) last numbered = one (bytes_eq w.version version) (without_version version live) (version_numbered version w.number live last numbered.1)
  where
    one : (b : Bool) (rest : List WatchState) → AreNumbered w.number rest last → AreNumbered k (if b then rest else w ∷ rest) last
    one true rest h = from_lower k w.number rest last (let above = numbered.0 in omega (arith, above)) h
    one false rest h = (numbered.0, h)

number_numbered : (number k : ℕ) (live : List WatchState) (last : ℕ) → AreNumbered k live last → AreNumbered k (without_number number live) last
number_numbered number k [] last numbered = numbered
number_numbered number k (w ∷ live) last numbered = one (w.number == number) (without_number number live) (number_numbered number w.number live last numbered.1)
  where
    one : (b : Bool) (rest : List WatchState) → AreNumbered w.number rest last → AreNumbered k (if b then live else w ∷ rest) last
    one true rest h = from_lower k w.number live last (let above = numbered.0 in omega (arith, above)) numbered.1
    one false rest h = (numbered.0, h)

version_quiet : (version : List ℕ) (live : List WatchState) → AllQuiet live → AllQuiet (without_version version live)
version_quiet version [] quiet = tt
version_quiet version (w ∷ live) quiet = one (bytes_eq w.version version) (without_version version live) (version_quiet version live quiet.1)
  where
    one : (b : Bool) (rest : List WatchState) → AllQuiet rest → AllQuiet (if b then rest else w ∷ rest)
    one true rest h = h
    one false rest h = (quiet.0, h)

number_quiet : (number : ℕ) (live : List WatchState) → AllQuiet live → AllQuiet (without_number number live)
number_quiet number [] quiet = tt
number_quiet number (w ∷ live) quiet = one (w.number == number) (without_number number live) (number_quiet number live quiet.1)
  where
    one : (b : Bool) (rest : List WatchState) → AllQuiet rest → AllQuiet (if b then live else w ∷ rest)
    one true rest h = quiet.1
    one false rest h = (quiet.0, h)

-- the first of some is there, or ended; or is another one
head_stayed : (number : ℕ) (w : WatchState) (live rest : List WatchState) (b c : Bool) → (b ≡ true → watch_of number rest ≡ None) → Stayed (watch_of number live) (watch_of number rest)
    → Stayed (if b then Some w else watch_of number live) (if c then watch_of number rest else (if b then Some w else watch_of number rest))
head_stayed number w live rest true true gone stayed = inl (gone refl)
head_stayed number w live rest true false gone stayed = inr refl
head_stayed number w live rest false true gone stayed = stayed
head_stayed number w live rest false false gone stayed = stayed

out_of : (number : ℕ) (w : WatchState) (rest : List WatchState) (c : Bool) → watch_of number (if c then rest else w ∷ rest) ≡ (if c then watch_of number rest else (if w.number == number then Some w else watch_of number rest))
out_of number w rest true = refl
out_of number w rest false = refl

version_stayed : (number : ℕ) (version : List ℕ) (k : ℕ) (live : List WatchState) (last : ℕ) → AreNumbered k live last → Stayed (watch_of number live) (watch_of number (without_version version live))
version_stayed number version k [] last numbered = inr refl
version_stayed number version k (w ∷ live) last numbered =
    let rest = without_version version live in
    subst (Stayed (if w.number == number then Some w else watch_of number live)) (sym (out_of number w rest (bytes_eq w.version version)))
    (head_stayed number w live rest (w.number == number) (bytes_eq w.version version)
    (λ is. none_above number w.number rest last (version_numbered version w.number live last numbered.1) (let same = eqb-true w.number number is in omega (arith, same)))
    (version_stayed number version w.number live last numbered.1))

-- without one number
first_stayed : (number : ℕ) (w : WatchState) (live rest : List WatchState) (b c : Bool) → (b ≡ true → watch_of number live ≡ None) → Stayed (watch_of number live) (watch_of number rest)
    → Stayed (if b then Some w else watch_of number live) (if c then watch_of number live else (if b then Some w else watch_of number rest))
first_stayed number w live rest true true gone stayed = inl (gone refl)
first_stayed number w live rest true false gone stayed = inr refl
first_stayed number w live rest false true gone stayed = inr refl
first_stayed number w live rest false false gone stayed = stayed

out_at : (number : ℕ) (w : WatchState) (live rest : List WatchState) (c : Bool) → watch_of number (if c then live else w ∷ rest) ≡ (if c then watch_of number live else (if w.number == number then Some w else watch_of number rest))
out_at number w live rest true = refl
out_at number w live rest false = refl

number_stayed : (number ended k : ℕ) (live : List WatchState) (last : ℕ) → AreNumbered k live last → Stayed (watch_of number live) (watch_of number (without_number ended live))
number_stayed number ended k [] last numbered = inr refl
number_stayed number ended k (w ∷ live) last numbered =
    let rest = without_number ended live in
    subst (Stayed (if w.number == number then Some w else watch_of number live)) (sym (out_at number w live rest (w.number == ended)))
    (first_stayed number w live rest (w.number == number) (w.number == ended)
    (λ is. none_above number w.number live last numbered.1 (let same = eqb-true w.number number is in omega (arith, same)))
    (number_stayed number ended w.number live last numbered.1))

pub steps_dropped : (number : ℕ) (version : List ℕ) (s : WatchesState) → AreSound s → Steps number (λ version. []) s (record s { live = without_version version s.live })
steps_dropped number version s sound =
    stays_so number s (record s { live = without_version version s.live }) sound
    (record { fresh = sound.fresh; quiet = version_quiet version s.live sound.quiet; numbered = version_numbered version 0 s.live s.last sound.numbered })
    (omega arith) (λ h. version_stayed number version 0 s.live s.last sound.numbered)

pub steps_ended : (number ended : ℕ) (s : WatchesState) → AreSound s → Steps number (λ version. []) s (record s { live = without_number ended s.live })
steps_ended number ended s sound =
    stays_so number s (record s { live = without_number ended s.live }) sound
    (record { fresh = sound.fresh; quiet = number_quiet ended s.live sound.quiet; numbered = number_numbered ended 0 s.live s.last sound.numbered })
    (omega arith) (λ h. number_stayed number ended 0 s.live s.last sound.numbered)

-- ---- one more

more_numbered : (k : ℕ) (live : List WatchState) (last : ℕ) (w : WatchState) → w.number ≡ last + 1 → AreNumbered k live last → AreNumbered k (live ++ w ∷ []) (last + 1)
more_numbered k [] last w is numbered = (omega (arith, is, numbered), omega (arith, is))
more_numbered k (v ∷ live) last w is numbered = (numbered.0, more_numbered v.number live last w is numbered.1)

more_quiet : (live : List WatchState) (w : WatchState) → AllQuiet live → AllQuiet (w ∷ []) → AllQuiet (live ++ w ∷ [])
more_quiet [] w all one = one
more_quiet (v ∷ live) w all one = (all.0, more_quiet live w all.1 one)

more_stayed : (number : ℕ) (live : List WatchState) (w : WatchState) → (w.number == number) ≡ false → watch_of number (live ++ w ∷ []) ≡ watch_of number live
more_stayed number [] w off = ap (λ (b : Bool). if b then Some w else None) off
more_stayed number (v ∷ live) w off = ap (λ (o : Option WatchState). if v.number == number then Some v else o) (more_stayed number live w off)

fresh_quiet : (w : WatcherState) (note : Note) → IsFresh w → (b : Bool) → (let v : WatcherState = if b then w else with_told (with_prepared note w) in (v.prepared ≡ []) × (v.told ≤ 18446744073709551615))
fresh_quiet w note fresh true = (ap (λ (u : WatcherState). u.prepared) fresh, (let none = ap (λ (u : WatcherState). u.told) fresh in omega (arith, none)))
fresh_quiet w note fresh false = (refl, omega arith)

pub steps_taken : (number : ℕ) (ws : List WatcherState) (version : List ℕ) (first : Note) (s : WatchesState) → AllFresh ws → AreSound s → Steps number (λ version. []) s (taking ws s.last version first s)
steps_taken number [] version first s fresh sound = steps_same number s sound
steps_taken number (w ∷ ws) version first s fresh sound =
    let one : WatchState = record { number = s.last + 1; version = version; watcher = with_first first w } in
    stays_so number s (taking (w ∷ ws) s.last version first s) sound
    (record { fresh = fresh.1; quiet = more_quiet s.live one sound.quiet (fresh_quiet w first fresh.0 (length first.tables == 0), tt); numbered = more_numbered 0 s.live s.last one refl sound.numbered })
    (omega arith) (λ h. inr (more_stayed number s.live one (ne_eqb (s.last + 1) number (λ same. omega (arith, h, same)))))

-- ---- what is known of a live watch

most : (k : ℕ) (live : List WatchState) (last : ℕ) → AreNumbered k live last → k ≤ last
most k [] last numbered = numbered
most k (w ∷ live) last numbered = let rest = most w.number live last numbered.1 in let above = numbered.0 in omega (arith, rest, above)

-- its number was given
pub was_given : (number k : ℕ) (live : List WatchState) (last : ℕ) (w : WatchState) → AreNumbered k live last → watch_of number live ≡ Some w → number ≤ last
was_given number k [] last w numbered e = absurd (let no : ⊥ = cc in no)
was_given number k (v ∷ live) last w numbered e =
    by_test (v.number == number)
    (λ is. (let same = eqb-true v.number number is in let rest = most v.number live last numbered.1 in omega (arith, same, rest)))
    (λ off. was_given number v.number live last w numbered.1 (sym (ap (λ (b : Bool). if b then Some v else watch_of number live) off) ∙ e))

-- it was told these notes, where it lives still
pub was_told : (number : ℕ) (notes : List ℕ → List Note) (old new : WatchesState) (w v : WatchState) → AreSound old → Steps number notes old new → watch_of number old.live ≡ Some w → watch_of number new.live ≡ Some v → (v.version ≡ w.version) × (v.watcher ≡ told_these (notes w.version) w.watcher)
was_told number notes old new w v sound steps was is =
    let became : Became (Some w) notes (Some v) = subst (λ (q : Option WatchState × Option WatchState). Became q.0 notes q.1) (λ i. (was i, is i)) (steps.becomes (was_given number 0 old.live old.last w sound.numbered was)) in
    elim became [
      | inl none ↦ absurd (let no : ⊥ = cc in no)
      | inr it ↦ (let same : v ≡ it.0 = some_same v it.0 it.1 in (ap (λ (u : WatchState). u.version) same ∙ it.2, ap (λ (u : WatchState). u.watcher) same ∙ it.3))
    ]
  where
    some_same : (a b : WatchState) → Some a ≡ Some b → a ≡ b
    some_same a b e = cc

-- it shows as many rows as its version has
pub rows_counted : {O : Type 0} (d : Database O) (s : WatchesState) (number : ℕ) (w : WatchState) (rows : ℕ) → AreQuiet d s → watch_of number s.live ≡ Some w → rows_shown w.watcher ≡ Some rows → rows ≡ counted (count_rows (tables_of d w.version))
rows_counted d s number w rows quiet is shown =
    let follows = follow_at number s.live w quiet.follow is in
    let prepared = (quiet_at number s.live w quiet.quiet is).0 in
    go w.watcher.shown (subst (λ (ps : List Note). WillShow (tables_of d w.version) (record w.watcher { prepared = ps }) w.watcher.shown) prepared follows.shows) shown
  where
    follow_at : (number : ℕ) (live : List WatchState) (w : WatchState) → AllFollow d live → watch_of number live ≡ Some w → Follows d w
    follow_at number [] w all e = absurd (let no : ⊥ = cc in no)
    follow_at number (v ∷ live) w all e =
        by_test (v.number == number)
        (λ on. (let same : Some v ≡ Some w = sym (ap (λ (b : Bool). if b then Some v else watch_of number live) on) ∙ e in let one : v ≡ w = cc in subst (Follows d) one all.0))
        (λ off. follow_at number live w all.1 (sym (ap (λ (b : Bool). if b then Some v else watch_of number live) off) ∙ e))

    go : (o : Option Named) → WillShow (tables_of d w.version) (record w.watcher { prepared = [] }) o → option_map (λ tables. counted (count_rows tables)) o ≡ Some rows → rows ≡ counted (count_rows (tables_of d w.version))
    go None will e = absurd (let no : ⊥ = cc in no)
    go (Some tables) will e = let same : counted (count_rows tables) ≡ rows = cc in sym same ∙ ap counted will.many
