-- What a mirror keeps, before and after its calls.
use Rattle.std.proofs.Common.{◌≡◌, ℕ, zero, suc, ◌+◌, ◌-◌, ◌≤◌, List, [], ◌∷◌, ◌++◌, length, take, refl, sym, ◌∙◌, ap, subst, arith}
use Rattle.change_feed.specs.declared.note.Note.{Note}
use Rattle.change_feed.specs.declared.note.TableChange.{TableChange}
use Rattle.change_feed.specs.Shown.{Named, after_changes, after_notes, Fit}
use Rattle.feed_mirror.specs.declared.kept.Ready.{Ready}
use Rattle.feed_mirror.specs.declared.tables.Shown.{Shown}
use Rattle.feed_mirror.specs.Tables.{named, named_one}
use Rattle.feed_mirror.specs.Padded.{with_names, AllThere}
use Rattle.feed_mirror.specs.Rooms.{total, HasRooms, RoomsFor, KeepsRooms, MayTell}
use Rattle.feed_mirror.specs.Kept.{AreKept, AreMarked, KeptState, changes_of, notes_of}
use Rattle.feed_mirror.proofs.PadLemmas.{after_both, after_padded, all_there, fit_both, fit_first, fit_padded, names_begin, names_both, names_more, take_take, whole}
use Rattle.feed_mirror.proofs.RoomLemmas.{rooms_first, rooms_for, rooms_none, rooms_take, total_both}
use Rattle.feed_mirror.proofs.TellLemmas.{changes_push}

pub same_kept : (a b : List Note) (m n : ℕ) (x y : Named) → a ≡ b → m ≡ n → x ≡ y → (let s : KeptState = record { prepared = a; told = m; shown = x } in let t : KeptState = record { prepared = b; told = n; shown = y } in s ≡ t)
same_kept a b m n x y p q r = λ i. record { prepared = p i; told = q i; shown = r i }

-- ---- names and lengths

pub named_take : (n : ℕ) (ts : List Shown) → named (take n ts) ≡ take n (named ts)
named_take zero ts = refl
named_take (suc n) [] = refl
named_take (suc n) (t ∷ ts) = ap (λ (us : Named). named_one t ∷ us) (named_take n ts)

pub named_len : (ts : List Shown) → length (named ts) ≡ length ts
named_len [] = refl
named_len (t ∷ ts) = ap suc (named_len ts)

pub named_push : (xs : List Shown) (x : Shown) → named (xs ++ x ∷ []) ≡ named xs ++ named_one x ∷ []
named_push [] x = refl
named_push (y ∷ ys) x = ap (λ (zs : Named). named_one y ∷ zs) (named_push ys x)

taken_len : {A : Type 0} (n : ℕ) (xs : List A) → length (take n xs) ≤ length xs
taken_len zero xs = omega arith
taken_len (suc n) [] = omega arith
taken_len (suc n) (x ∷ xs) = let h = taken_len n xs in omega (arith, h)

take_len : {A : Type 0} (n : ℕ) (xs : List A) → n ≤ length xs → length (take n xs) ≡ n
take_len zero xs h = refl
take_len (suc n) [] h = absurd (omega arith)
take_len (suc n) (x ∷ xs) h = ap suc (take_len n xs (omega arith))

-- names that come leave the old ones first
pub begins_with : (cs : List TableChange) (ts us : List Shown) → named us ≡ with_names cs (named ts) → take (length ts) (named us) ≡ named ts
begins_with cs ts us e = ap (λ (ns : Named). take (length ts) ns) e ∙ ap (λ (n : ℕ). take n (with_names cs (named ts))) (sym (named_len ts)) ∙ names_begin cs (named ts)

-- where the old names stand first, the tables are no fewer
pub begins_len : (ts us : List Shown) → take (length ts) (named us) ≡ named ts → length ts ≤ length us
begins_len ts us e =
    let a = ap (λ (ns : Named). length ns) e in
    let b = taken_len (length ts) (named us) in
    let c = named_len ts in
    let d = named_len us in
    omega (arith, a, b, c, d)

-- and the first of them are the same
pub begins_take : (n : ℕ) (ts us : List Shown) → n ≤ length ts → take (length ts) (named us) ≡ named ts → named (take n us) ≡ named (take n ts)
begins_take n ts us h e = named_take n us ∙ sym (take_take n (length ts) (named us) h) ∙ ap (λ (ns : Named). take n ns) e ∙ sym (named_take n ts)

pub notes_push : (rs : List Ready) (r : Ready) → notes_of (rs ++ r ∷ []) ≡ notes_of rs ++ r.note ∷ []
notes_push [] r = refl
notes_push (x ∷ rs) r = ap (λ (ns : List Note). x.note ∷ ns) (notes_push rs r)

pub notes_len : (rs : List Ready) → length (notes_of rs) ≡ length rs
notes_len [] = refl
notes_len (x ∷ rs) = ap suc (notes_len rs)

-- what notes make is what their changes make
pub after_flat : (rs : List Ready) (s : Named) → after_notes (notes_of rs) s ≡ after_changes (changes_of rs) s
after_flat [] s = refl
after_flat (r ∷ rs) s = after_flat rs (after_changes r.note.tables s) ∙ sym (after_both r.note.tables (changes_of rs) s)

-- ---- marks

mark_push : (s : Named) (d : ℕ) (rs : List Ready) (r : Ready) → AreMarked s d rs → r.tables ≡ length (with_names (changes_of rs) s) → r.due ≡ d + total (changes_of rs) → AreMarked s d (rs ++ r ∷ [])
mark_push s d [] r h tables due = ((tables, let e = due in omega (arith, e)), tt)
mark_push s d (x ∷ rs) r h tables due = (
  h.0,
  mark_push (with_names x.note.tables s) (d + total x.note.tables) rs r h.1
      (tables ∙ ap (λ (us : Named). length us) (names_both x.note.tables (changes_of rs) s))
      (let e = total_both x.note.tables (changes_of rs) in omega (arith, due, e)),
)

mark_last : (s : Named) (d : ℕ) (rs : List Ready) (r : Ready) → AreMarked s d (rs ++ r ∷ []) → AreMarked s d rs × ((r.tables ≡ length (with_names (changes_of rs) s)) × (r.due ≡ d + total (changes_of rs)))
mark_last s d [] r h = (tt, (h.0.0, let e = h.0.1 in omega (arith, e)))
mark_last s d (x ∷ rs) r h =
    let k = mark_last (with_names x.note.tables s) (d + total x.note.tables) rs r h.1 in (
      (h.0, k.0),
      (
        k.1.0 ∙ ap (λ (us : Named). length us) (sym (names_both x.note.tables (changes_of rs) s)),
        (let a = k.1.1 in let e = total_both x.note.tables (changes_of rs) in omega (arith, a, e)),
      ),
    )

-- ---- the calls

-- all changes that wait may be put in
pub may_tell : (ts : List Shown) (shown : ℕ) (rs : List Ready) (due : ℕ) → AreKept ts shown rs due → MayTell (changes_of rs) ts
may_tell ts shown rs due k =
    let s : Named = named (take shown ts) in
    record {
      there = subst (λ (us : Named). AllThere (changes_of rs) us) (sym k.padded) (all_there (changes_of rs) s);
      fits = subst (λ (us : Named). Fit (changes_of rs) us) (sym k.padded) (fit_padded (changes_of rs) s k.fits);
      rooms = k.rooms;
    }

-- and make of the tables what the notes make of those that are shown
pub told_all : (ts new : List Shown) (shown : ℕ) (rs : List Ready) (due : ℕ) → AreKept ts shown rs due → named new ≡ after_changes (changes_of rs) (named ts) → named new ≡ after_notes (notes_of rs) (named (take shown ts))
told_all ts new shown rs due k rows =
    let s : Named = named (take shown ts) in
    rows ∙ ap (λ (us : Named). after_changes (changes_of rs) us) k.padded ∙ after_padded (changes_of rs) s ∙ sym (after_flat rs s)

-- with nothing that waits
pub kept_quiet : (ts : List Shown) (shown : ℕ) → shown ≡ length ts → AreKept ts shown [] 0
kept_quiet ts shown e = record {
  within = omega (arith, e);
  padded = ap named (sym (ap (λ (n : ℕ). take n ts) e ∙ whole ts));
  fits = tt;
  rooms = rooms_none ts;
  due_is = refl;
  marked = tt;
}

pub kept_cleared : (ts : List Shown) (shown : ℕ) (rs : List Ready) (due : ℕ) → AreKept ts shown rs due → AreKept (take shown ts) shown [] 0
kept_cleared ts shown rs due k = kept_quiet (take shown ts) shown (sym (take_len shown ts k.within))

-- the same tables, in which what waits still has room
pub kept_same : (ts us : List Shown) (shown : ℕ) (rs : List Ready) (due : ℕ) → AreKept ts shown rs due → named us ≡ named ts → HasRooms (changes_of rs) us → AreKept us shown rs due
kept_same ts us shown rs due k same rooms =
    let few = k.within in
    let a = ap (λ (ns : Named). length ns) same in
    let b = named_len ts in
    let c = named_len us in
    let first : named (take shown us) ≡ named (take shown ts) = named_take shown us ∙ ap (λ (ns : Named). take shown ns) same ∙ sym (named_take shown ts) in
    record {
      within = omega (arith, few, a, b, c);
      padded = same ∙ k.padded ∙ ap (with_names (changes_of rs)) (sym first);
      fits = subst (λ (ns : Named). Fit (changes_of rs) ns) (sym first) k.fits;
      rooms = rooms;
      due_is = k.due_is;
      marked = subst (λ (ns : Named). AreMarked ns 0 rs) (sym first) k.marked;
    }

-- one note more waits
pub kept_more : (ts us : List Shown) (shown : ℕ) (rs all : List Ready) (r : Ready) (due more : ℕ) → AreKept ts shown rs due → all ≡ rs ++ r ∷ [] → r.tables ≡ length ts → r.due ≡ due → more ≡ due + total r.note.tables
    → Fit r.note.tables (after_notes (notes_of rs) (named (take shown ts))) → named us ≡ with_names r.note.tables (named ts) → take (length ts) (named us) ≡ named ts → RoomsFor r.note.tables more us → KeepsRooms ts us → AreKept us shown all more
kept_more ts us shown rs all r due more k is tables was due_is fits names begins for keeps =
    let s : Named = named (take shown ts) in
    let cs : List TableChange = changes_of rs in
    let ds : List TableChange = r.note.tables in
    let first : named (take shown us) ≡ s = begins_take shown ts us k.within begins in
    let flat : changes_of all ≡ cs ++ ds = ap changes_of is ∙ changes_push rs r in
    let padded : named us ≡ with_names (cs ++ ds) s = names ∙ ap (with_names ds) k.padded ∙ sym (names_both cs ds s) in
    let old : HasRooms cs us = keeps cs (may_tell ts shown rs due k).there k.rooms in
    let sum = total_both cs ds in
    let before = k.due_is in
    let few = k.within in
    let long = begins_len ts us begins in
    record {
      within = omega (arith, few, long);
      padded = padded ∙ ap (λ (es : List TableChange). with_names es s) (sym flat) ∙ ap (with_names (changes_of all)) (sym first);
      fits =
          subst (λ (ns : Named). Fit (changes_of all) ns) (sym first)
          (subst (λ (es : List TableChange). Fit es s) (sym flat) (fit_both cs ds s k.fits (subst (λ (ns : Named). Fit ds ns) (after_flat rs s) fits)));
      rooms = subst (λ (es : List TableChange). HasRooms es us) (sym flat) (rooms_for cs ds more us (omega (arith, due_is, before)) for old);
      due_is = due_is ∙ ap (λ (n : ℕ). n + total ds) before ∙ sym sum ∙ ap total (sym flat);
      marked =
          subst (λ (ns : Named). AreMarked ns 0 all) (sym first)
          (subst (λ (es : List Ready). AreMarked s 0 es) (sym is)
          (mark_push s 0 rs r k.marked (tables ∙ sym (named_len ts) ∙ ap (λ (ns : Named). length ns) k.padded) (let e = was in omega (arith, e, before))));
    }

-- after an error those that were there are kept
pub kept_back : (ts us : List Shown) (shown : ℕ) (rs : List Ready) (due : ℕ) → AreKept ts shown rs due → take (length ts) (named us) ≡ named ts → KeepsRooms ts us → AreKept (take (length ts) us) shown rs due
kept_back ts us shown rs due k begins keeps =
    kept_same ts (take (length ts) us) shown rs due k (named_take (length ts) us ∙ begins)
    (rooms_take (changes_of rs) (length ts) us (keeps (changes_of rs) (may_tell ts shown rs due k).there k.rooms))

pub back_shown : (ts us : List Shown) (shown : ℕ) → shown ≤ length ts → take (length ts) (named us) ≡ named ts → named (take shown (take (length ts) us)) ≡ named (take shown ts)
back_shown ts us shown h begins = ap named (take_take shown (length ts) us h) ∙ begins_take shown ts us h begins

-- one note less
module _ (ts : List Shown) (shown : ℕ) (rs all : List Ready) (r : Ready) (due : ℕ) (k : AreKept ts shown all due) (is : all ≡ rs ++ r ∷ []) where
  abbrev base : Named
  base = named (take shown ts)

  marks : AreMarked base 0 rs × ((r.tables ≡ length (with_names (changes_of rs) base)) × (r.due ≡ 0 + total (changes_of rs)))
  marks = mark_last base 0 rs r (subst (λ (es : List Ready). AreMarked base 0 es) is k.marked)

  flat : changes_of all ≡ changes_of rs ++ r.note.tables
  flat = ap changes_of is ∙ changes_push rs r

  less_named : named (take r.tables ts) ≡ with_names (changes_of rs) base
  less_named =
      let p : Named = with_names (changes_of rs) base in
      named_take r.tables ts
      ∙ ap (λ (ns : Named). take r.tables ns) (k.padded ∙ ap (λ (es : List TableChange). with_names es base) flat ∙ names_both (changes_of rs) r.note.tables base)
      ∙ ap (λ (n : ℕ). take n (with_names r.note.tables p)) marks.1.0
      ∙ names_begin r.note.tables p

  shown_few : shown ≤ r.tables
  shown_few =
      let a = names_more (changes_of rs) base in
      let b = named_len (take shown ts) in
      let c = take_len shown ts k.within in
      let d = marks.1.0 in
      omega (arith, a, b, c, d)

  pub less_shown : named (take shown (take r.tables ts)) ≡ base
  less_shown = ap named (take_take shown r.tables ts shown_few)

  pub kept_less : AreKept (take r.tables ts) shown rs r.due
  kept_less =
      let a = ap (λ (ns : Named). length ns) less_named in
      let b = named_len (take r.tables ts) in
      let d = marks.1.0 in
      let e = shown_few in
      record {
        within = omega (arith, a, b, d, e);
        padded = less_named ∙ ap (with_names (changes_of rs)) (sym less_shown);
        fits = subst (λ (ns : Named). Fit (changes_of rs) ns) (sym less_shown) (fit_first (changes_of rs) r.note.tables base (subst (λ (es : List TableChange). Fit es base) flat k.fits));
        rooms = rooms_take (changes_of rs) r.tables ts (rooms_first (changes_of rs) r.note.tables ts (subst (λ (es : List TableChange). HasRooms es ts) flat k.rooms));
        due_is = (let u = marks.1.1 in omega (arith, u));
        marked = subst (λ (ns : Named). AreMarked ns 0 rs) (sym less_shown) marks.0;
      }

  pub less_notes : notes_of rs ≡ take (length (notes_of all) - 1) (notes_of all)
  less_notes =
      let f : length (notes_of all) - 1 ≡ length (notes_of rs) = (let a = notes_len all in let b = notes_len rs in let c = ap (λ (es : List Ready). length es) is in let d = push_len rs r in omega (arith, a, b, c, d)) in
      sym (ap (λ (n : ℕ). take n (notes_of all)) f ∙ ap (λ (es : List Ready). take (length (notes_of rs)) (notes_of es)) is ∙ ap (λ (ns : List Note). take (length (notes_of rs)) ns) (notes_push rs r) ∙ front (notes_of rs) r.note)
    where
      push_len : (rs : List Ready) (r : Ready) → length (rs ++ r ∷ []) ≡ length rs + 1
      push_len [] r = refl
      push_len (x ∷ rs) r = let h = push_len rs r in omega (arith, h)

      front : (ns : List Note) (n : Note) → take (length ns) (ns ++ n ∷ []) ≡ ns
      front [] n = refl
      front (m ∷ ns) n = ap (λ (ks : List Note). m ∷ ks) (front ns n)
