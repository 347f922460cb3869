-- Live watches, as numbers and versions beside their watchers.
use Rattle.std.proofs.Common.{◌≡◌, ℕ, zero, suc, ◌+◌, ◌-◌, ◌<◌, ◌≤◌, ◌==◌, List, [], ◌∷◌, ◌++◌, length, map, take, drop, get_or, true, Option, Some, None, if◌then◌else◌, refl, sym, ◌∙◌, ap, subst, arith, slice_set, slice_get, add-one, length-append}
use Rattle.std.specs.Str.{bytes_eq}
use Rattle.std.proofs.lemmas.Option.{slice_get_within}
use Rattle.std.proofs.lemmas.List.Edits.{length-remove}
use Rattle.change_feed.proofs.NameLemmas.{names, picks, passes, one_name, two_names, two_numbers}
use mathlib.Core.Logic.{inl, inr}
use Rattle.std.specs.List.{remove}
use Rattle.std.specs.Option.{option_map}
use Rattle.change_feed.specs.declared.note.Note.{Note}
use Rattle.change_feed.specs.declared.note.VersionNote.{VersionNote}
use Rattle.change_feed.specs.declared.watches.Taken.{Taken}
use Rattle.change_feed.specs.Watchers.{WatcherState, MayPrepare, IsFresh, ShownFits}
use Rattle.change_feed.specs.Shown.{Named, Fit}
use Rattle.change_feed.specs.Watches.{WatchState, WatchesState, AllFresh, each_watch, note_for, with_note, without_note, HasHeard, AllMayPrepare, given, taking, watched, with_first, watch_of, without_number, without_version}
use Rattle.change_feed.specs.Places.{PutsAt}
use Rattle.change_feed.specs.inner.Live.{live_of, each_taken, EachTaken, made_ready, made_unready, EachMay, EachHas, view_of, AreWatches, NoneHas, without_at, dropped_at}

-- the parts give the whole
pub same_state : (a b : List WatcherState) (m n : ℕ) (x y : List WatchState) → a ≡ b → m ≡ n → x ≡ y → (let s : WatchesState = record { waiting = a; last = m; live = x } in let t : WatchesState = record { waiting = b; last = n; live = y } in s ≡ t)
same_state a b m n x y p q r = λ i. record { waiting = p i; last = q i; live = r i }

pub each_len : (f : List ℕ → WatcherState → WatcherState) (ts : List Taken) (ws : List WatcherState) → length (each_taken f ts ws) ≡ length ws
each_len f [] ws = refl
each_len f (t ∷ ts) [] = refl
each_len f (t ∷ ts) (w ∷ ws) = ap suc (each_len f ts ws)

pub each_rest : (f : List ℕ → WatcherState → WatcherState) (ts : List Taken) (ws : List WatcherState) → drop (length ts) (each_taken f ts ws) ≡ drop (length ts) ws
each_rest f [] ws = refl
each_rest f (t ∷ ts) [] = refl
each_rest f (t ∷ ts) (w ∷ ws) = each_rest f ts ws

pub each_live : (f : List ℕ → WatcherState → WatcherState) (ts : List Taken) (ws : List WatcherState) → live_of ts (each_taken f ts ws) ≡ map {A = WatchState} (λ w. record w { watcher = f w.version w.watcher }) (live_of ts ws)
each_live f [] ws = refl
each_live f (t ∷ ts) [] = refl
each_live f (t ∷ ts) (w ∷ ws) = ap (λ rest. record { number = t.number; version = t.version; watcher = f t.version w } ∷ rest) (each_live f ts ws)

-- the next one isn't changed yet
each_get : (f : List ℕ → WatcherState → WatcherState) (ts : List Taken) (ws : List WatcherState) (i : ℕ) → slice_get (each_taken f (take i ts) ws) i ≡ slice_get ws i
each_get f ts ws zero = refl
each_get f [] ws (suc i) = refl
each_get f (t ∷ ts) [] (suc i) = refl
each_get f (t ∷ ts) (w ∷ ws) (suc i) = each_get f ts ws i

each_set : (f : List ℕ → WatcherState → WatcherState) (ts : List Taken) (ws : List WatcherState) (i : ℕ) (t : Taken) (x : WatcherState) → slice_get ts i ≡ Some t → slice_get ws i ≡ Some x → slice_set (each_taken f (take i ts) ws) i (f t.version x) ≡ each_taken f (take (suc i) ts) ws
each_set f [] ws i t x et ex = cc
each_set f (u ∷ ts) [] i t x et ex = cc
each_set f (u ∷ ts) (w ∷ ws) zero t x et ex = let a : u ≡ t = cc in let b : w ≡ x = cc in λ j. f (sym a j).version (sym b j) ∷ ws
each_set f (u ∷ ts) (w ∷ ws) (suc i) t x et ex = ap (λ rest. f u.version w ∷ rest) (each_set f ts ws i t x et ex)

pub get_there : {A : Type 0} (xs : List A) (i : ℕ) (d : A) → i < length xs → slice_get xs i ≡ Some (get_or xs i d)
get_there [] i d h = absurd (omega arith)
get_there (x ∷ xs) zero d h = refl
get_there (x ∷ xs) (suc i) d h = get_there xs i d (omega arith)

-- a pass makes its next step
pub each_next : (f : List ℕ → WatcherState → WatcherState) (ts : List Taken) (ws now new : List WatcherState) (i : ℕ) (d : Taken) → i < length ts → length ts ≤ length ws → now ≡ each_taken f (take i ts) ws → PutsAt now i (f (get_or ts i d).version) new → new ≡ each_taken f (take (i + 1) ts) ws
each_next f ts ws now new i d less within is puts =
    let w : WatcherState = get_or ws i (record { prepared = []; told = 0; heard = None; shown = None }) in
    let there : slice_get ws i ≡ Some w = get_there ws i _ (omega arith) in
    let at : slice_get now i ≡ Some w = ap (λ xs. slice_get xs i) is ∙ each_get f ts ws i ∙ there in
    puts w at ∙ ap (λ xs. slice_set xs i (f (get_or ts i d).version w)) is ∙ each_set f ts ws i (get_or ts i d) w (get_there ts i d less) there ∙ ap (λ n. each_taken f (take n ts) ws) (sym (add-one i))

pub taken_at : (P : List ℕ → WatcherState → Type 0) (ts : List Taken) (ws : List WatcherState) (i : ℕ) (t : Taken) (x : WatcherState) → EachTaken P ts ws → slice_get ts i ≡ Some t → slice_get ws i ≡ Some x → P t.version x
taken_at P [] ws i t x h et ex = cc
taken_at P (u ∷ ts) [] i t x h et ex = cc
taken_at P (u ∷ ts) (w ∷ ws) zero t x h et ex = let a : u ≡ t = cc in let b : w ≡ x = cc in subst (λ v. P t.version v) b (subst (λ v. P v.version w) a h.0)
taken_at P (u ∷ ts) (w ∷ ws) (suc i) t x h et ex = taken_at P ts ws i t x h.1 et ex

-- the next one of a pass, with what is known of it
pub next_there : (P : List ℕ → WatcherState → Type 0) (f : List ℕ → WatcherState → WatcherState) (ts : List Taken) (ws now : List WatcherState) (i : ℕ) (d : Taken) → i < length ts → length ts ≤ length ws → EachTaken P ts ws → now ≡ each_taken f (take i ts) ws → (x : WatcherState) × (slice_get now i ≡ Some x) × P (get_or ts i d).version x
next_there P f ts ws now i d less within h is =
    let w : WatcherState = get_or ws i (record { prepared = []; told = 0; heard = None; shown = None }) in
    let there : slice_get ws i ≡ Some w = get_there ws i _ (omega arith) in
    (w, ap (λ xs. slice_get xs i) is ∙ each_get f ts ws i ∙ there, taken_at P ts ws i (get_or ts i d) w h (get_there ts i d less) there)

-- taking back what was made ready

take_front : {A : Type 0} (xs : List A) (x : A) → take (length (xs ++ x ∷ []) - 1) (xs ++ x ∷ []) ≡ xs
take_front xs x = let e : length (xs ++ x ∷ []) - 1 ≡ length xs = omega (arith, length-append xs (x ∷ [])) in ap (λ n. take n (xs ++ x ∷ [])) e ∙ take_all xs x
  where
    take_all : {A : Type 0} (xs : List A) (x : A) → take (length xs) (xs ++ x ∷ []) ≡ xs
    take_all [] x = refl
    take_all (y ∷ ys) x = ap (λ zs. y ∷ zs) (take_all ys x)

note_back : (o : Option Note) (w : WatcherState) → without_note o (with_note o w) ≡ w
note_back None w = refl
note_back (Some note) w = ap (λ ps. record w { prepared = ps }) (take_front w.prepared note)

note_there : (o : Option Note) (w : WatcherState) → HasHeard o (with_note o w)
note_there None w = tt
note_there (Some note) w = omega (arith, length-append w.prepared (note ∷ []))

pub each_back : (notes : List VersionNote) (ts : List Taken) (ws : List WatcherState) → each_taken (made_unready notes) ts (each_taken (made_ready notes) ts ws) ≡ ws
each_back notes [] ws = refl
each_back notes (t ∷ ts) [] = refl
each_back notes (t ∷ ts) (w ∷ ws) = λ j. note_back (note_for notes t.version) w j ∷ each_back notes ts ws j

pub each_has : (notes : List VersionNote) (ts : List Taken) (ws : List WatcherState) → EachHas notes ts (each_taken (made_ready notes) ts ws)
each_has notes [] ws = tt
each_has notes (t ∷ ts) [] = tt
each_has notes (t ∷ ts) (w ∷ ws) = (note_there (note_for notes t.version) w, each_has notes ts ws)

pub may_live : (notes : List VersionNote) (ts : List Taken) (ws : List WatcherState) → AllMayPrepare notes (live_of ts ws) → EachMay notes ts ws
may_live notes [] ws h = tt
may_live notes (t ∷ ts) [] h = tt
may_live notes (t ∷ ts) (w ∷ ws) h = (h.0, may_live notes ts ws h.1)

-- the whole after a pass
pub each_view : (f : List ℕ → WatcherState → WatcherState) (ts : List Taken) (ws new : List WatcherState) (last : ℕ) (s : WatchesState) → view_of ts ws last ≡ s → new ≡ each_taken f ts ws → view_of ts new last ≡ each_watch f s
each_view f ts ws new last s e is = ap (λ xs. view_of ts xs last) is ∙ same_state _ _ last last _ _ (each_rest f ts ws) refl (each_live f ts ws) ∙ ap (each_watch f) e

pub each_watches : (f : List ℕ → WatcherState → WatcherState) (ts : List Taken) (ws new : List WatcherState) → AreWatches ts ws → new ≡ each_taken f ts ws → AreWatches ts new
each_watches f ts ws new h is =
    let e : drop (length ts) new ≡ drop (length ts) ws = ap (drop (length ts)) is ∙ each_rest f ts ws in
    (omega (arith, h.0, ap length is, each_len f ts ws), subst AllFresh (sym e) h.1)

-- ---- one more watcher waits

drop_push : (ts : List Taken) (ws : List WatcherState) (w : WatcherState) → length ts ≤ length ws → drop (length ts) (ws ++ w ∷ []) ≡ drop (length ts) ws ++ w ∷ []
drop_push [] ws w h = refl
drop_push (t ∷ ts) [] w h = absurd (omega arith)
drop_push (t ∷ ts) (x ∷ ws) w h = drop_push ts ws w (omega arith)

live_push : (ts : List Taken) (ws : List WatcherState) (w : WatcherState) → length ts ≤ length ws → live_of ts (ws ++ w ∷ []) ≡ live_of ts ws
live_push [] ws w h = refl
live_push (t ∷ ts) [] w h = absurd (omega arith)
live_push (t ∷ ts) (x ∷ ws) w h = ap (λ rest. record { number = t.number; version = t.version; watcher = x } ∷ rest) (live_push ts ws w (omega arith))

fresh_push : (ws : List WatcherState) (w : WatcherState) → AllFresh ws → IsFresh w → AllFresh (ws ++ w ∷ [])
fresh_push [] w h f = (f, tt)
fresh_push (x ∷ ws) w h f = (h.0, fresh_push ws w h.1 f)

pub push_watches : (ts : List Taken) (ws new : List WatcherState) (w : WatcherState) → AreWatches ts ws → IsFresh w → new ≡ ws ++ w ∷ [] → AreWatches ts new
push_watches ts ws new w h f is =
    let e : drop (length ts) new ≡ drop (length ts) ws ++ w ∷ [] = ap (drop (length ts)) is ∙ drop_push ts ws w h.0 in
    (omega (arith, h.0, ap length is, length-append ws (w ∷ [])), subst AllFresh (sym e) (fresh_push _ w h.1 f))

pub push_view : (ts : List Taken) (ws new : List WatcherState) (w : WatcherState) (last : ℕ) (s : WatchesState) → AreWatches ts ws → view_of ts ws last ≡ s → new ≡ ws ++ w ∷ [] → view_of ts new last ≡ given w s
push_view ts ws new w last s h e is = ap (λ xs. view_of ts xs last) is ∙ same_state _ _ last last _ _ (drop_push ts ws w h.0) refl (live_push ts ws w h.0) ∙ ap (given w) e

-- ---- notes, places

drop_there : {A : Type 0} (xs : List A) (i : ℕ) (d : A) → i < length xs → drop i xs ≡ get_or xs i d ∷ drop (suc i) xs
drop_there [] i d h = absurd (omega arith)
drop_there (x ∷ xs) zero d h = refl
drop_there (x ∷ xs) (suc i) d h = drop_there xs i d (omega arith)

note_here : (ns : List VersionNote) (v : List ℕ) (i : ℕ) (x : VersionNote) → x ≡ get_or ns i x → i < length ns → note_for ns v ≡ note_for (drop i ns) v → note_for ns v ≡ (if bytes_eq x.version v then Some x.note else note_for (drop (suc i) ns) v)
note_here ns v i x is less h = h ∙ ap (λ ms. note_for ms v) (drop_there ns i x less ∙ ap (λ y. y ∷ drop (suc i) ns) (sym is))

pub note_found : (ns : List VersionNote) (v : List ℕ) (i : ℕ) (x : VersionNote) → x ≡ get_or ns i x → i < length ns → note_for ns v ≡ note_for (drop i ns) v → x.version ≡ v → Some x.note ≡ note_for ns v
note_found ns v i x is less h e = sym (note_here ns v i x is less h ∙ picks (bytes_eq x.version v) (Some x.note) (note_for (drop (suc i) ns) v) (one_name x.version v e))

pub note_passed : (ns : List VersionNote) (v : List ℕ) (i : ℕ) (x : VersionNote) → x ≡ get_or ns i x → i < length ns → note_for ns v ≡ note_for (drop i ns) v → (x.version ≡ v → ⊥) → note_for ns v ≡ note_for (drop (i + 1) ns) v
note_passed ns v i x is less h e = note_here ns v i x is less h ∙ passes (bytes_eq x.version v) (Some x.note) (note_for (drop (suc i) ns) v) (two_names x.version v e) ∙ ap (λ n. note_for (drop n ns) v) (sym (add-one i))

none_next : (n : ℕ) (ts : List Taken) (i : ℕ) (t : Taken) → NoneHas n (take i ts) → i < length ts → (get_or ts i t).number ≡ t.number → (t.number ≡ n → ⊥) → NoneHas n (take (suc i) ts)
none_next n [] i t h less is other = absurd (omega arith)
none_next n (u ∷ ts) zero t h less is other = (two_numbers u.number n (λ e. other (sym is ∙ e)), tt)
none_next n (u ∷ ts) (suc i) t h less is other = (h.0, none_next n ts i t h.1 (omega arith) is other)

pub none_more : (n : ℕ) (ts : List Taken) (i : ℕ) (t : Taken) → NoneHas n (take i ts) → i < length ts → t ≡ get_or ts i t → (t.number ≡ n → ⊥) → NoneHas n (take (i + 1) ts)
none_more n ts i t h less is other = subst (λ m. NoneHas n (take m ts)) (sym (add-one i)) (none_next n ts i t h less (ap (λ x. x.number) (sym is)) other)

-- ---- two changes at one place

get_set : {A : Type 0} (xs : List A) (i : ℕ) (x v : A) → slice_get xs i ≡ Some x → slice_get (slice_set xs i v) i ≡ Some v
get_set [] i x v e = cc
get_set (y ∷ ys) zero x v e = refl
get_set (y ∷ ys) (suc i) x v e = get_set ys i x v e

set_set : {A : Type 0} (xs : List A) (i : ℕ) (a b : A) → slice_set (slice_set xs i a) i b ≡ slice_set xs i b
set_set [] zero a b = refl
set_set [] (suc i) a b = refl
set_set (y ∷ ys) zero a b = refl
set_set (y ∷ ys) (suc i) a b = ap (λ zs. y ∷ zs) (set_set ys i a b)

pub put_within : {A : Type 0} (xs ys : List A) (i : ℕ) (f : A → A) (x : A) → PutsAt xs i f ys → slice_get xs i ≡ Some x → i < length ys
put_within xs ys i f x puts e = slice_get_within ys i (f x) (ap (λ zs. slice_get zs i) (puts x e) ∙ get_set xs i x (f x) e)

pub put_twice : {A : Type 0} (xs ys zs : List A) (i : ℕ) (f g : A → A) → PutsAt xs i f ys → PutsAt ys i g zs → (x : A) → slice_get xs i ≡ Some x → zs ≡ slice_set xs i (g (f x))
put_twice xs ys zs i f g one two x e =
    two (f x) (ap (λ us. slice_get us i) (one x e) ∙ get_set xs i x (f x) e) ∙ ap (λ us. slice_set us i (g (f x))) (one x e) ∙ set_set xs i (f x) (g (f x))

pub take_len : {A : Type 0} (i : ℕ) (xs : List A) → length (take i xs) ≤ length xs
take_len zero xs = omega arith
take_len (suc i) [] = omega arith
take_len (suc i) (x ∷ xs) = omega (arith, take_len i xs)

-- ---- a watch that goes

pub live_len : (ts : List Taken) (ws : List WatcherState) → length ts ≤ length ws → length (live_of ts ws) ≡ length ts
live_len [] ws h = refl
live_len (t ∷ ts) [] h = absurd (omega arith)
live_len (t ∷ ts) (w ∷ ws) h = ap suc (live_len ts ws (omega arith))

rest_remove : (ts : List Taken) (ws : List WatcherState) (i : ℕ) → i < length ts → length ts ≤ length ws → drop (length (remove ts i)) (remove ws i) ≡ drop (length ts) ws
rest_remove [] ws i h l = absurd (omega arith)
rest_remove (t ∷ ts) [] i h l = absurd (omega arith)
rest_remove (t ∷ ts) (w ∷ ws) zero h l = refl
rest_remove (t ∷ ts) (w ∷ ws) (suc i) h l = rest_remove ts ws i (omega arith) (omega arith)

live_remove : (ts : List Taken) (ws : List WatcherState) (i : ℕ) → i < length ts → length ts ≤ length ws → live_of (remove ts i) (remove ws i) ≡ remove (live_of ts ws) i
live_remove [] ws i h l = absurd (omega arith)
live_remove (t ∷ ts) [] i h l = absurd (omega arith)
live_remove (t ∷ ts) (w ∷ ws) zero h l = refl
live_remove (t ∷ ts) (w ∷ ws) (suc i) h l = ap (λ rest. record { number = t.number; version = t.version; watcher = w } ∷ rest) (live_remove ts ws i (omega arith) (omega arith))

pub remove_watches : (ts us : List Taken) (ws new : List WatcherState) (i : ℕ) → AreWatches ts ws → i < length ts → us ≡ remove ts i → new ≡ remove ws i → AreWatches us new
remove_watches ts us ws new i h less a b =
    let e : drop (length us) new ≡ drop (length ts) ws = ap (λ xs. drop (length us) xs) b ∙ ap (λ xs. drop (length xs) (remove ws i)) a ∙ rest_remove ts ws i less h.0 in
    (omega (arith, h.0, less, ap length a, ap length b, length-remove ts i less, length-remove ws i (omega (arith, h.0, less))), subst AllFresh (sym e) h.1)

pub remove_view : (ts us : List Taken) (ws new : List WatcherState) (i last : ℕ) (s : WatchesState) → AreWatches ts ws → view_of ts ws last ≡ s → i < length ts → us ≡ remove ts i → new ≡ remove ws i → view_of us new last ≡ record s { live = remove s.live i }
remove_view ts us ws new i last s h e less a b =
    ap (λ xs. view_of us xs last) b ∙ ap (λ xs. view_of xs (remove ws i) last) a
    ∙ same_state _ _ last last _ _ (rest_remove ts ws i less h.0) refl (live_remove ts ws i less h.0)
    ∙ ap (λ (r : WatchesState). record r { live = remove r.live i }) e

-- ---- the watch of a number

pub none_watch : (n : ℕ) (ts : List Taken) (ws : List WatcherState) → NoneHas n ts → watch_of n (live_of ts ws) ≡ None
none_watch n [] ws h = refl
none_watch n (t ∷ ts) [] h = refl
none_watch n (t ∷ ts) (w ∷ ws) h = passes (t.number == n) _ (watch_of n (live_of ts ws)) h.0 ∙ none_watch n ts ws h.1

pub none_without : (n : ℕ) (ts : List Taken) (ws : List WatcherState) → NoneHas n ts → without_number n (live_of ts ws) ≡ live_of ts ws
none_without n [] ws h = refl
none_without n (t ∷ ts) [] h = refl
none_without n (t ∷ ts) (w ∷ ws) h =
    let it : WatchState = record { number = t.number; version = t.version; watcher = w } in
    passes (t.number == n) (live_of ts ws) (it ∷ without_number n (live_of ts ws)) h.0 ∙ ap (λ rest. it ∷ rest) (none_without n ts ws h.1)

pub first_watch : (n : ℕ) (ts : List Taken) (ws : List WatcherState) (i : ℕ) (t : Taken) (w : WatcherState) → slice_get ts i ≡ Some t → (t.number == n) ≡ true → NoneHas n (take i ts) → slice_get ws i ≡ Some w → watch_of n (live_of ts ws) ≡ Some (record { number = t.number; version = t.version; watcher = w })
first_watch n [] ws i t w et has before ew = cc
first_watch n (u ∷ ts) [] i t w et has before ew = cc
first_watch n (u ∷ ts) (x ∷ ws) zero t w et has before ew =
    let a : u ≡ t = cc in
    let b : x ≡ w = cc in
    picks (u.number == n) (Some (record { number = u.number; version = u.version; watcher = x })) (watch_of n (live_of ts ws)) (ap (λ v. v.number == n) a ∙ has)
    ∙ (λ j. Some (record { number = (a j).number; version = (a j).version; watcher = b j }))
first_watch n (u ∷ ts) (x ∷ ws) (suc i) t w et has before ew =
    passes (u.number == n) (Some (record { number = u.number; version = u.version; watcher = x })) (watch_of n (live_of ts ws)) before.0
    ∙ first_watch n ts ws i t w et has before.1 ew

pub first_without : (n : ℕ) (ts : List Taken) (ws : List WatcherState) (i : ℕ) (t : Taken) → length ts ≤ length ws → slice_get ts i ≡ Some t → (t.number == n) ≡ true → NoneHas n (take i ts) → remove (live_of ts ws) i ≡ without_number n (live_of ts ws)
first_without n [] ws i t l et has before = cc
first_without n (u ∷ ts) [] i t l et has before = absurd (omega arith)
first_without n (u ∷ ts) (x ∷ ws) zero t l et has before =
    let a : u ≡ t = cc in
    let it : WatchState = record { number = u.number; version = u.version; watcher = x } in
    sym (picks (u.number == n) (live_of ts ws) (it ∷ without_number n (live_of ts ws)) (ap (λ v. v.number == n) a ∙ has))
first_without n (u ∷ ts) (x ∷ ws) (suc i) t l et has before =
    let it : WatchState = record { number = u.number; version = u.version; watcher = x } in
    ap (λ rest. it ∷ rest) (first_without n ts ws i t (omega arith) et has before.1)
    ∙ sym (passes (u.number == n) (live_of ts ws) (it ∷ without_number n (live_of ts ws)) before.0)

-- ---- the first watcher that waits

cons_of : {A : Type 0} (xs : List A) → 0 < length xs → (x : A) × (rest : List A) × (xs ≡ x ∷ rest)
cons_of [] h = absurd (omega arith)
cons_of (x ∷ rest) h = (x, rest, refl)

first_is : (ts : List Taken) (ws : List WatcherState) (w : WatcherState) (rest : List WatcherState) → drop (length ts) ws ≡ w ∷ rest → slice_get ws (length ts) ≡ Some w
first_is [] [] w rest e = cc
first_is [] (x ∷ ws) w rest e = cc
first_is (t ∷ ts) [] w rest e = cc
first_is (t ∷ ts) (x ∷ ws) w rest e = first_is ts ws w rest e

rest_taken : (ts : List Taken) (t : Taken) (ws : List WatcherState) (v w : WatcherState) (rest : List WatcherState) → drop (length ts) ws ≡ w ∷ rest → drop (length (ts ++ t ∷ [])) (slice_set ws (length ts) v) ≡ rest
rest_taken [] t [] v w rest e = cc
rest_taken [] t (x ∷ ws) v w rest e = cc
rest_taken (u ∷ ts) t [] v w rest e = cc
rest_taken (u ∷ ts) t (x ∷ ws) v w rest e = rest_taken ts t ws v w rest e

live_taken : (ts : List Taken) (t : Taken) (ws : List WatcherState) (v w : WatcherState) (rest : List WatcherState) → drop (length ts) ws ≡ w ∷ rest → live_of (ts ++ t ∷ []) (slice_set ws (length ts) v) ≡ live_of ts ws ++ record { number = t.number; version = t.version; watcher = v } ∷ []
live_taken [] t [] v w rest e = cc
live_taken [] t (x ∷ ws) v w rest e = refl
live_taken (u ∷ ts) t [] v w rest e = cc
live_taken (u ∷ ts) t (x ∷ ws) v w rest e = ap (λ others. record { number = u.number; version = u.version; watcher = x } ∷ others) (live_taken ts t ws v w rest e)

fits_fresh : (o : Option Named) (first : Note) → Fit first.tables [] → ShownFits [] (option_map (λ tables. []) o) first
fits_fresh None first h = tt
fits_fresh (Some tables) first h = h

-- the first that waits may be told its first note
pub first_may : (ts : List Taken) (ws : List WatcherState) (first : Note) → AreWatches ts ws → 0 < length (drop (length ts) ws) → Fit first.tables [] → (x : WatcherState) × (slice_get ws (length ts) ≡ Some x) × MayPrepare x first
first_may ts ws first h some fits =
    let it = cons_of (drop (length ts) ws) some in
    let fresh : IsFresh it.0 = (subst AllFresh it.2 h.1).0 in
    (it.0, first_is ts ws it.0 it.1 it.2, subst (λ x. MayPrepare x first) (sym fresh) (fits_fresh it.0.shown first fits))

pub take_watches : (ts us : List Taken) (t : Taken) (ws new : List WatcherState) (f : WatcherState → WatcherState) → AreWatches ts ws → 0 < length (drop (length ts) ws) → us ≡ ts ++ t ∷ [] → PutsAt ws (length ts) f new → AreWatches us new
take_watches ts us t ws new f h some is puts =
    let it = cons_of (drop (length ts) ws) some in
    let at = first_is ts ws it.0 it.1 it.2 in
    let e : drop (length us) new ≡ it.1 = ap (λ xs. drop (length xs) new) is ∙ ap (λ xs. drop (length (ts ++ t ∷ [])) xs) (puts it.0 at) ∙ rest_taken ts t ws (f it.0) it.0 it.1 it.2 in
    let within : length ts < length new = put_within ws new (length ts) f it.0 puts at in
    (omega (arith, within, ap length is, length-append ts (t ∷ [])), subst AllFresh (sym e) (subst AllFresh it.2 h.1).1)

pub take_view : (ts us : List Taken) (t : Taken) (ws new : List WatcherState) (first : Note) (last : ℕ) (s : WatchesState) → 0 < length (drop (length ts) ws) → view_of ts ws last ≡ s → us ≡ ts ++ t ∷ [] → t.number ≡ last + 1 → PutsAt ws (length ts) (with_first first) new → view_of us new (last + 1) ≡ watched t.version first s
take_view ts us t ws new first last s some e is number puts =
    let it = cons_of (drop (length ts) ws) some in
    let at = first_is ts ws it.0 it.1 it.2 in
    let one : WatchState = record { number = last + 1; version = t.version; watcher = with_first first it.0 } in
    ap (λ xs. view_of xs new (last + 1)) is ∙ ap (λ xs. view_of (ts ++ t ∷ []) xs (last + 1)) (puts it.0 at)
    ∙ same_state _ it.1 (last + 1) (last + 1) _ (live_of ts ws ++ one ∷ []) (rest_taken ts t ws (with_first first it.0) it.0 it.1 it.2) refl
    (live_taken ts t ws (with_first first it.0) it.0 it.1 it.2 ∙ ap (λ n. live_of ts ws ++ record one { number = n } ∷ []) number)
    ∙ ap (λ xs. taking xs last t.version first (view_of ts ws last)) (sym it.2)
    ∙ ap (λ r. watched t.version first r) e

-- ---- the watches of a version

pub version_there : (ts : List Taken) (ws : List WatcherState) (i : ℕ) (t : Taken) → length ts ≤ length ws → slice_get ts i ≡ Some t → (x : WatchState) × (slice_get (live_of ts ws) i ≡ Some x) × (x.version ≡ t.version)
version_there [] ws i t h e = cc
version_there (u ∷ ts) [] i t h e = absurd (omega arith)
version_there (u ∷ ts) (w ∷ ws) zero t h e = let a : u ≡ t = cc in (record { number = u.number; version = u.version; watcher = w }, refl, ap (λ v. v.version) a)
version_there (u ∷ ts) (w ∷ ws) (suc i) t h e = version_there ts ws i t (omega arith) e

all_taken : (v : List ℕ) (xs : List WatchState) → take (length xs) xs ++ without_version v (drop (length xs) xs) ≡ xs
all_taken v [] = refl
all_taken v (x ∷ xs) = ap (λ ys. x ∷ ys) (all_taken v xs)

part_get : (xs ys : List WatchState) (a : ℕ) (d : WatchState) → a < length xs → slice_get (take (suc a) xs ++ ys) a ≡ Some (get_or xs a d)
part_get [] ys a d h = absurd (omega arith)
part_get (x ∷ xs) ys zero d h = refl
part_get (x ∷ xs) ys (suc a) d h = part_get xs ys a d (omega arith)

part_remove : (xs ys : List WatchState) (a : ℕ) → a < length xs → remove (take (suc a) xs ++ ys) a ≡ take a xs ++ ys
part_remove [] ys a h = absurd (omega arith)
part_remove (x ∷ xs) ys zero h = refl
part_remove (x ∷ xs) ys (suc a) h = ap (λ zs. x ∷ zs) (part_remove xs ys a (omega arith))

part_take : (xs ys : List WatchState) (a : ℕ) (d : WatchState) → a < length xs → take (suc a) xs ++ ys ≡ take a xs ++ get_or xs a d ∷ ys
part_take [] ys a d h = absurd (omega arith)
part_take (x ∷ xs) ys zero d h = refl
part_take (x ∷ xs) ys (suc a) d h = ap (λ zs. x ∷ zs) (part_take xs ys a d (omega arith))

-- one step of dropping, from behind
pub drop_step : (v : List ℕ) (xs : List WatchState) (a : ℕ) → a < length xs → dropped_at v a (take (suc a) xs ++ without_version v (drop (suc a) xs)) ≡ take a xs ++ without_version v (drop a xs)
drop_step v xs a h =
    let d : WatchState = record { number = 0; version = []; watcher = record { prepared = []; told = 0; heard = None; shown = None } } in
    let x : WatchState = get_or xs a d in
    let rest : List WatchState = without_version v (drop (suc a) xs) in
    let here : without_version v (drop a xs) ≡ (if bytes_eq x.version v then rest else x ∷ rest) = ap (without_version v) (drop_there xs a d h) in
    ap (without_at v a (take (suc a) xs ++ rest)) (part_get xs rest a d h)
    ∙ elim (names x.version v) [
      | inl y ↦ picks (bytes_eq x.version v) _ _ y.0 ∙ part_remove xs rest a h ∙ ap (λ zs. take a xs ++ zs) (sym (here ∙ picks (bytes_eq x.version v) rest (x ∷ rest) y.0))
      | inr n ↦ passes (bytes_eq x.version v) _ _ n.0 ∙ part_take xs rest a d h ∙ ap (λ zs. take a xs ++ zs) (sym (here ∙ passes (bytes_eq x.version v) rest (x ∷ rest) n.0))
    ]
