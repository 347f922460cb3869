-- Changes that are put into tables, one after the other.
use Rattle.std.proofs.Common.{◌≡◌, ℕ, suc, ◌+◌, ◌≤◌, List, [], ◌∷◌, ◌++◌, length, take, drop, Some, slice_get, slice_set, refl, sym, ◌∙◌, ap, subst, arith}
use Rattle.row_store.specs.Rows.{Rows}
use Rattle.row_store.specs.Changes.{AreOld}
use Rattle.row_changes.specs.Changed.{changed}
use Rattle.change_feed.specs.declared.note.TableChange.{TableChange}
use Rattle.change_feed.specs.Shown.{Named, with_change, after_changes, Fit}
use Rattle.change_feed.proofs.NameLemmas.{one_name, picks}
use Rattle.feed_mirror.specs.declared.tables.Shown.{Shown}
use Rattle.feed_mirror.specs.declared.kept.Ready.{Ready}
use Rattle.feed_mirror.specs.Tables.{named}
use Rattle.feed_mirror.specs.Kept.{changes_of}
use Rattle.feed_mirror.specs.Padded.{AllThere, IsPlace}
use Rattle.feed_mirror.specs.Rooms.{due_of, MayTell, LeavesTelling}
use Rattle.feed_mirror.proofs.PadLemmas.{after_both, fit_first, there_change, there_first}
use Rattle.feed_mirror.proofs.RoomLemmas.{get_has, place_changed, place_rows, rooms_first, set_rooms}
use Rattle.feed_mirror.proofs.PlaceLemmas.{split_at, take_one}

-- ---- one change

-- the table that it names has its old rows
pub old_here : (c : TableChange) (ts : List Shown) (at : ℕ) (x : Shown) → MayTell (c ∷ []) ts → IsPlace c.table ts at → slice_get ts at ≡ Some x → AreOld x.table.rows c.changes
old_here c ts at x may is e =
    let w : is.which ≡ x = let a = is.stands in cc in
    subst (λ (rows : Rows). AreOld rows c.changes) (place_rows c.table ts at x e (ap (λ (y : Shown). y.name) (sym w) ∙ is.has) is.before) may.fits.0

-- and room for it
pub room_here : (c : TableChange) (ts : List Shown) (at : ℕ) (x : Shown) → MayTell (c ∷ []) ts → IsPlace c.table ts at → slice_get ts at ≡ Some x → length c.changes ≤ x.table.spare
room_here c ts at x may is e =
    let w : is.which ≡ x = let a = is.stands in cc in
    let own = picks _ (length c.changes) 0 (one_name c.table x.name (sym is.has ∙ ap (λ (y : Shown). y.name) w)) in
    let most = get_has ts at x (c ∷ []) e may.rooms in
    omega (arith, own, most)

pub change_here : (c : TableChange) (ts : List Shown) (at : ℕ) (x y : Shown) → IsPlace c.table ts at → slice_get ts at ≡ Some x → y.name ≡ x.name → y.table.rows ≡ changed x.table.rows c.changes → named (slice_set ts at y) ≡ with_change c (named ts)
change_here c ts at x y is e name rows =
    let w : is.which ≡ x = let a = is.stands in cc in
    place_changed c ts at x y e (ap (λ (z : Shown). z.name) (sym w) ∙ is.has) is.before name rows

pub change_leaves : (c : TableChange) (ts : List Shown) (at : ℕ) (x y : Shown) → IsPlace c.table ts at → slice_get ts at ≡ Some x → y.name ≡ x.name → y.table.rows ≡ changed x.table.rows c.changes → x.table.spare ≤ y.table.spare + length c.changes → LeavesTelling (c ∷ []) ts (slice_set ts at y)
change_leaves c ts at x y is e name rows room more may =
    let w : is.which ≡ x = let a = is.stands in cc in
    let now = change_here c ts at x y is e name rows in
    let own = picks _ (length c.changes) 0 (one_name c.table y.name (sym is.has ∙ ap (λ (z : Shown). z.name) w ∙ sym name)) in
    let most = subst (λ (n : List ℕ). due_of n (c ∷ more) ≤ x.table.spare) (sym name) (get_has ts at x (c ∷ more) e may.rooms) in
    record {
      there = subst (λ (us : Named). AllThere more us) (sym now) (there_change c more (named ts) may.there.0 may.there.1);
      fits = subst (λ (us : Named). Fit more us) (sym now) may.fits.1;
      rooms = set_rooms ts at x y (c ∷ more) more e (λ n. omega arith) (omega (arith, own, most, room)) may.rooms;
    }

-- ---- several

tell_first : (ls bs : List TableChange) (ts : List Shown) → MayTell (ls ++ bs) ts → MayTell ls ts
tell_first ls bs ts may = record { there = there_first ls bs (named ts) may.there; fits = fit_first ls bs (named ts) may.fits; rooms = rooms_first ls bs ts may.rooms }

joined : {A : Type 0} (a b c : List A) → (a ++ b) ++ c ≡ a ++ (b ++ c)
joined [] b c = refl
joined (x ∷ a) b c = ap (λ zs. x ∷ zs) (joined a b c)

-- some were put in: the next ones may be
pub tell_may : (done cs rest all : List TableChange) (old mid : List Shown) → all ≡ done ++ (cs ++ rest) → MayTell all old → LeavesTelling done old mid → MayTell cs mid
tell_may done cs rest all old mid is may left = tell_first cs rest mid (left (cs ++ rest) (subst (λ (ds : List TableChange). MayTell ds old) is may))

-- and once they were
pub record Told (done : List TableChange) (old new : List Shown) : Type 0 where
  pub rows : named new ≡ after_changes done (named old)
  pub left : LeavesTelling done old new

pub told_none : (ts : List Shown) → Told [] ts ts
told_none ts = record { rows = refl; left = λ more may. may }

pub told_next : (done cs both : List TableChange) (old mid new : List Shown) → both ≡ done ++ cs → Told done old mid → named new ≡ after_changes cs (named mid) → LeavesTelling cs mid new → Told both old new
told_next done cs both old mid new is told rows left =
    subst (λ (ds : List TableChange). Told ds old new) (sym is) (record {
      rows = rows ∙ ap (after_changes cs) told.rows ∙ sym (after_both done cs (named old));
      left = λ more may. left more (told.left (cs ++ more) (subst (λ (ds : List TableChange). MayTell ds old) (joined done cs more) may));
    })

-- ---- the changes of notes

pub changes_both : (ls bs : List Ready) → changes_of (ls ++ bs) ≡ changes_of ls ++ changes_of bs
changes_both [] bs = refl
changes_both (a ∷ ls) bs = ap (λ (cs : List TableChange). a.note.tables ++ cs) (changes_both ls bs) ∙ sym (joined a.note.tables (changes_of ls) (changes_of bs))

append_none : {A : Type 0} (xs : List A) → xs ++ [] ≡ xs
append_none [] = refl
append_none (x ∷ xs) = ap (λ ys. x ∷ ys) (append_none xs)

pub changes_push : (rs : List Ready) (r : Ready) → changes_of (rs ++ r ∷ []) ≡ changes_of rs ++ r.note.tables
changes_push rs r = changes_both rs (r ∷ []) ∙ ap (λ (cs : List TableChange). changes_of rs ++ cs) (append_none r.note.tables)

pub changes_take : (rs : List Ready) (i : ℕ) (r : Ready) → slice_get rs i ≡ Some r → changes_of (take (suc i) rs) ≡ changes_of (take i rs) ++ r.note.tables
changes_take rs i r e = ap changes_of (take_one rs i r e) ∙ changes_push (take i rs) r

pub changes_split : (rs : List Ready) (i : ℕ) (r : Ready) → slice_get rs i ≡ Some r → changes_of rs ≡ changes_of (take i rs) ++ (r.note.tables ++ changes_of (drop (suc i) rs))
changes_split rs i r e = ap changes_of (split_at rs i r e) ∙ changes_both (take i rs) (r ∷ drop (suc i) rs)
