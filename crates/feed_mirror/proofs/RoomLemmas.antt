-- Room for changes that wait.
use Rattle.std.proofs.Common.{◌≡◌, ℕ, zero, suc, ◌+◌, ◌<◌, ◌≤◌, ◌||◌, List, [], ◌∷◌, ◌++◌, Bool, true, false, length, take, get_or, if◌then◌else◌, ◌==◌, Option, None, Some, slice_get, slice_set, refl, sym, ◌∙◌, ap, subst, arith}
use Rattle.std.specs.Prelude.{nat_lt}
use Rattle.std.proofs.lemmas.Bool.{false≢true}
use Rattle.std.specs.Str.{bytes_eq}
use mathlib.Core.Logic.{inl, inr}
use Rattle.par_base.specs.declared.value.Value.{Value}
use Rattle.row_store.specs.Rows.{Rows}
use Rattle.row_store.specs.declared.change.Change.{Change}
use Rattle.op_rows.specs.Cells.{with_row}
use Rattle.row_changes.specs.Changed.{changed, put_row}
use Rattle.change_feed.specs.declared.note.TableChange.{TableChange}
use Rattle.change_feed.specs.Shown.{Named, rows_at, with_change}
use Rattle.change_feed.proofs.NameLemmas.{names, one_name, two_names, picks, passes}
use Rattle.feed_mirror.specs.declared.tables.Shown.{Shown}
use Rattle.feed_mirror.specs.Tables.{named, named_one}
use Rattle.feed_mirror.specs.Padded.{has_name, with_name, with_names, AllThere, IsPlace}
use Rattle.feed_mirror.specs.Rooms.{is_named, total, due_of, HasRooms, KeepsRooms, RoomsFor, RoomsGrow}
use Rattle.feed_mirror.proofs.PadLemmas.{has_here, has_later, names_both, there_names, two_ways}
use Rattle.feed_mirror.proofs.PlaceLemmas.{all_taken, get_there, take_one}

-- ---- how many rows are due

pick_less : (b : Bool) (n : ℕ) → (if b then n else 0) ≤ n
pick_less true n = omega arith
pick_less false n = omega arith

pub due_total : (name : List ℕ) (cs : List TableChange) → due_of name cs ≤ total cs
due_total name [] = omega arith
due_total name (c ∷ cs) = let h = due_total name cs in let k = pick_less (bytes_eq c.table name) (length c.changes) in omega (arith, h, k)

pub due_both : (name : List ℕ) (ls bs : List TableChange) → due_of name (ls ++ bs) ≡ due_of name ls + due_of name bs
due_both name [] bs = omega arith
due_both name (a ∷ ls) bs = let h = due_both name ls bs in omega (arith, h)

pub total_both : (ls bs : List TableChange) → total (ls ++ bs) ≡ total ls + total bs
total_both [] bs = omega arith
total_both (a ∷ ls) bs = let h = total_both ls bs in omega (arith, h)

-- none of the changes is of the table
due_none : (name : List ℕ) (cs : List TableChange) → is_named name cs ≡ false → due_of name cs ≡ 0
due_none name [] h = refl
due_none name (c ∷ cs) h =
    two_ways (bytes_eq c.table name)
    (λ e. absurd (false≢true (sym h ∙ ap (λ (b : Bool). b || is_named name cs) e)))
    (λ e.
    let rest = due_none name cs (sym (ap (λ (b : Bool). b || is_named name cs) e) ∙ h) in
    let none = passes (bytes_eq c.table name) (length c.changes) 0 e in
    omega (arith, rest, none))

-- each change is of a table that is there, and this one isn't
pub due_other : (name : List ℕ) (cs : List TableChange) (s : Named) → AllThere cs s → has_name name s ≡ false → due_of name cs ≡ 0
due_other name [] s h none = refl
due_other name (c ∷ cs) s h none =
    elim (names c.table name) [
      | inl y ↦ absurd (false≢true (sym none ∙ ap (λ (n : List ℕ). has_name n s) (sym y.1) ∙ h.0))
      | inr n ↦
          let rest = due_other name cs s h.1 none in
          let other = passes (bytes_eq c.table name) (length c.changes) 0 n.0 in
          omega (arith, rest, other)
    ]

-- ---- changes add at most one row each

with_len : (id : ℕ) (new : Option (List Value)) (rows : Rows) → length (with_row id new rows) ≤ length rows + 1
with_len id None rows = omega arith
with_len id (Some row) rows = omega arith

put_len : (id : ℕ) (new : Option (List Value)) (rows : Rows) → length (put_row id new rows) ≤ length rows + 1
put_len id new [] = with_len id new []
put_len id new (r ∷ rs) =
    let N : Bool → Type 0 = λ b. length (if b then with_row id new rs else with_row id new (r ∷ rs)) ≤ length (r ∷ rs) + 1 in
    let less : length (with_row id new rs) ≤ length (r ∷ rs) + 1 = (let h = with_len id new rs in omega (arith, h)) in
    let others : N (r.0 == id) = elim (r.0 == id) as (λ b. N b) [ true ↦ less | false ↦ with_len id new (r ∷ rs) ] in
    let M : Bool → Type 0 = λ b. length (if b then r ∷ put_row id new rs else (if r.0 == id then with_row id new rs else with_row id new (r ∷ rs))) ≤ length (r ∷ rs) + 1 in
    let next : length (r ∷ put_row id new rs) ≤ length (r ∷ rs) + 1 = (let h = put_len id new rs in omega (arith, h)) in
    elim (nat_lt r.0 id) as (λ b. M b) [ true ↦ next | false ↦ others ]

pub changed_len : (rows : Rows) (cs : List Change) → length (changed rows cs) ≤ length rows + length cs
changed_len rows [] = omega arith
changed_len rows (c ∷ cs) = let h = changed_len rows cs in let k = put_len c.id c.new (changed rows cs) in omega (arith, h, k)

-- ---- rooms

pub rooms_end : (cs : List TableChange) (ts : List Shown) (x : Shown) → due_of x.name cs ≤ x.table.spare → HasRooms cs ts → HasRooms cs (ts ++ x ∷ [])
rooms_end cs [] x d h = (d, tt)
rooms_end cs (t ∷ ts) x d h = (h.0, rooms_end cs ts x d h.1)

pub rooms_take : (cs : List TableChange) (n : ℕ) (ts : List Shown) → HasRooms cs ts → HasRooms cs (take n ts)
rooms_take cs zero ts h = tt
rooms_take cs (suc n) [] h = tt
rooms_take cs (suc n) (t ∷ ts) h = (h.0, rooms_take cs n ts h.1)

pub rooms_first : (ls bs : List TableChange) (ts : List Shown) → HasRooms (ls ++ bs) ts → HasRooms ls ts
rooms_first ls bs [] h = tt
rooms_first ls bs (t ∷ ts) h = (let d = due_both t.name ls bs in let k = h.0 in omega (arith, d, k), rooms_first ls bs ts h.1)

pub rooms_none : (ts : List Shown) → HasRooms [] ts
rooms_none [] = tt
rooms_none (t ∷ ts) = (omega arith, rooms_none ts)

-- with room for all in each table that they name
pub rooms_for : (ls bs : List TableChange) (due : ℕ) (ts : List Shown) → total ls + total bs ≤ due → RoomsFor bs due ts → HasRooms ls ts → HasRooms (ls ++ bs) ts
rooms_for ls bs due [] most for h = tt
rooms_for ls bs due (t ∷ ts) most for h = (
  two_ways (is_named t.name bs)
      (λ e. let r = for.0 e in let d = due_total t.name (ls ++ bs) in let k = total_both ls bs in omega (arith, r, d, k, most))
      (λ e. let r = h.0 in let d = due_both t.name ls bs in let k = due_none t.name bs e in omega (arith, r, d, k)),
  rooms_for ls bs due ts most for.1 h.1,
)

-- ---- one table gets other rows or more room

pub get_has : (ts : List Shown) (at : ℕ) (x : Shown) (cs : List TableChange) → slice_get ts at ≡ Some x → HasRooms cs ts → due_of x.name cs ≤ x.table.spare
get_has [] at x cs e h = cc
get_has (t ∷ ts) zero x cs e h = let a : t ≡ x = cc in subst (λ (y : Shown). due_of y.name cs ≤ y.table.spare) a h.0
get_has (t ∷ ts) (suc at) x cs e h = get_has ts at x cs e h.1

pub set_rooms : (ts : List Shown) (at : ℕ) (x y : Shown) (cs ds : List TableChange) → slice_get ts at ≡ Some x → ((n : List ℕ) → due_of n ds ≤ due_of n cs) → due_of y.name ds ≤ y.table.spare → HasRooms cs ts → HasRooms ds (slice_set ts at y)
set_rooms [] at x y cs ds e less d h = cc
set_rooms (t ∷ ts) zero x y cs ds e less d h = (d, all_less ts cs ds less h.1)
  where
    all_less : (ts : List Shown) (cs ds : List TableChange) → ((n : List ℕ) → due_of n ds ≤ due_of n cs) → HasRooms cs ts → HasRooms ds ts
    all_less [] cs ds less h = tt
    all_less (t ∷ ts) cs ds less h = (let k = less t.name in let r = h.0 in omega (arith, k, r), all_less ts cs ds less h.1)
set_rooms (t ∷ ts) (suc at) x y cs ds e less d h = (let k = less t.name in let r = h.0 in omega (arith, k, r), set_rooms ts at x y cs ds e less d h.1)

pub set_named : (ts : List Shown) (at : ℕ) (x y : Shown) → slice_get ts at ≡ Some x → (let p : List ℕ × Rows = named_one y in p ≡ named_one x) → named (slice_set ts at y) ≡ named ts
set_named [] at x y e same = cc
set_named (t ∷ ts) zero x y e same = let a : t ≡ x = cc in ap (λ (p : List ℕ × Rows). p ∷ named ts) (same ∙ ap named_one (sym a))
set_named (t ∷ ts) (suc at) x y e same = ap (λ (us : Named). named_one t ∷ us) (set_named ts at x y e same)

-- the same table with more room
pub set_grows : (ts : List Shown) (at : ℕ) (x y : Shown) (cs : List TableChange) → slice_get ts at ≡ Some x → (let p : List ℕ × Rows = named_one y in p ≡ named_one x) → x.table.spare ≤ y.table.spare → HasRooms cs ts → HasRooms cs (slice_set ts at y)
set_grows ts at x y cs e same more rooms =
    let n : y.name ≡ x.name = ap (λ (p : List ℕ × Rows). p.0) same in
    let d : due_of y.name cs ≡ due_of x.name cs = ap (λ (m : List ℕ). due_of m cs) n in
    let h = get_has ts at x cs e rooms in
    set_rooms ts at x y cs cs e (λ m. omega arith) (omega (arith, d, h, more)) rooms

-- room was made so far
pub set_for : (cs : List TableChange) (due : ℕ) (ts : List Shown) (at : ℕ) (x y : Shown) → slice_get ts at ≡ Some x → (is_named y.name cs ≡ true → due ≤ y.table.spare) → RoomsFor cs due (take at ts) → RoomsFor cs due (take (at + 1) (slice_set ts at y))
set_for cs due ts at x y e room h = subst (λ (n : ℕ). RoomsFor cs due (take n (slice_set ts at y))) (let k : suc at ≡ at + 1 = omega arith in k) (for_one ts at e h)
  where
    for_one : (ts : List Shown) (at : ℕ) → slice_get ts at ≡ Some x → RoomsFor cs due (take at ts) → RoomsFor cs due (take (suc at) (slice_set ts at y))
    for_one [] at e h = cc
    for_one (t ∷ ts) zero e h = (room, tt)
    for_one (t ∷ ts) (suc at) e h = (h.0, for_one ts at e h.1)

-- ---- the first table of a name

none_more : (name : List ℕ) (ts : List Shown) (i : ℕ) (x : Shown) → slice_get ts i ≡ Some x → (x.name ≡ name → ⊥) → has_name name (named (take i ts)) ≡ false → has_name name (named (take (suc i) ts)) ≡ false
none_more name [] i x e other h = cc
none_more name (t ∷ ts) zero x e other h = let a : t ≡ x = cc in has_later (named_one t) [] name (two_names t.name name (λ d. other (ap (λ (y : Shown). y.name) (sym a) ∙ d)))
none_more name (t ∷ ts) (suc i) x e other h =
    two_ways (bytes_eq t.name name)
    (λ b. absurd (false≢true (sym h ∙ has_here (named_one t) (named (take i ts)) name b)))
    (λ b. has_later (named_one t) (named (take (suc i) ts)) name b ∙ none_more name ts i x e other (sym (has_later (named_one t) (named (take i ts)) name b) ∙ h))

pub none_so_far : (name : List ℕ) (ts : List Shown) (i : ℕ) (x : Shown) → i < length ts → x ≡ get_or ts i x → (x.name ≡ name → ⊥) → has_name name (named (take i ts)) ≡ false → has_name name (named (take (i + 1) ts)) ≡ false
none_so_far name ts i x h e other none = ap (λ (n : ℕ). has_name name (named (take n ts))) (let k : i + 1 ≡ suc i = omega arith in k) ∙ none_more name ts i x (get_there ts i x h e) other none

pub none_at_all : (name : List ℕ) (ts : List Shown) (n : ℕ) → length ts ≤ n → has_name name (named (take n ts)) ≡ false → has_name name (named ts) ≡ false
none_at_all name ts n h none = ap (λ (us : List Shown). has_name name (named us)) (sym (all_taken ts n h)) ∙ none

pub place_has : (name : List ℕ) (ts : List Shown) (at : ℕ) → IsPlace name ts at → has_name name (named ts) ≡ true
place_has name ts at is = found ts at is.which is.stands is.has
  where
    found : (ts : List Shown) (at : ℕ) (x : Shown) → slice_get ts at ≡ Some x → x.name ≡ name → has_name name (named ts) ≡ true
    found [] at x e h = cc
    found (t ∷ ts) zero x e h = let a : t ≡ x = cc in has_here (named_one t) (named ts) name (one_name t.name name (ap (λ (y : Shown). y.name) a ∙ h))
    found (t ∷ ts) (suc at) x e h =
        two_ways (bytes_eq t.name name)
        (λ b. has_here (named_one t) (named ts) name b)
        (λ b. has_later (named_one t) (named ts) name b ∙ found ts at x e h)

pub place_rows : (name : List ℕ) (ts : List Shown) (at : ℕ) (x : Shown) → slice_get ts at ≡ Some x → x.name ≡ name → has_name name (named (take at ts)) ≡ false → rows_at (named ts) name ≡ x.table.rows
place_rows name [] at x e h none = cc
place_rows name (t ∷ ts) zero x e h none =
    let a : t ≡ x = cc in
    picks (bytes_eq t.name name) t.table.rows (rows_at (named ts) name) (one_name t.name name (ap (λ (y : Shown). y.name) a ∙ h)) ∙ ap (λ (y : Shown). y.table.rows) a
place_rows name (t ∷ ts) (suc at) x e h none =
    two_ways (bytes_eq t.name name)
    (λ b. absurd (false≢true (sym none ∙ has_here (named_one t) (named (take at ts)) name b)))
    (λ b. passes (bytes_eq t.name name) t.table.rows (rows_at (named ts) name) b ∙ place_rows name ts at x e h (sym (has_later (named_one t) (named (take at ts)) name b) ∙ none))

-- the table there with the change is all tables with it
pub place_changed : (c : TableChange) (ts : List Shown) (at : ℕ) (x y : Shown) → slice_get ts at ≡ Some x → x.name ≡ c.table → has_name c.table (named (take at ts)) ≡ false → y.name ≡ x.name → y.table.rows ≡ changed x.table.rows c.changes → named (slice_set ts at y) ≡ with_change c (named ts)
place_changed c [] at x y e h none name rows = cc
place_changed c (t ∷ ts) zero x y e h none name rows =
    let a : t ≡ x = cc in
    let n : y.name ≡ t.name = name ∙ ap (λ (z : Shown). z.name) (sym a) in
    let r : y.table.rows ≡ changed t.table.rows c.changes = rows ∙ ap (λ (z : Shown). changed z.table.rows c.changes) (sym a) in
    (λ i. (n i, r i) ∷ named ts)
    ∙ sym (picks (bytes_eq t.name c.table) ((t.name, changed t.table.rows c.changes) ∷ named ts) (named_one t ∷ with_change c (named ts)) (one_name t.name c.table (ap (λ (z : Shown). z.name) a ∙ h)))
place_changed c (t ∷ ts) (suc at) x y e h none name rows =
    two_ways (bytes_eq t.name c.table)
    (λ b. absurd (false≢true (sym none ∙ has_here (named_one t) (named (take at ts)) c.table b)))
    (λ b.
    ap (λ (us : Named). named_one t ∷ us) (place_changed c ts at x y e h (sym (has_later (named_one t) (named (take at ts)) c.table b) ∙ none) name rows)
    ∙ sym (passes (bytes_eq t.name c.table) ((t.name, changed t.table.rows c.changes) ∷ named ts) (named_one t ∷ with_change c (named ts)) b))

-- ---- how many rows the first changes name

pub total_next : (cs : List TableChange) (i : ℕ) (c : TableChange) (due all next : ℕ) → i < length cs → c ≡ get_or cs i c → all ≡ due + total (take i cs) → next ≡ all + length c.changes → next ≡ due + total (take (i + 1) cs)
total_next cs i c due all next less is before sum =
    let k : i + 1 ≡ suc i = omega arith in
    let e = one_more cs i c less is in
    let f = ap (λ (n : ℕ). total (take n cs)) k in
    omega (arith, before, sum, e, f)
  where
    one_more : (cs : List TableChange) (i : ℕ) (c : TableChange) → i < length cs → c ≡ get_or cs i c → total (take (suc i) cs) ≡ total (take i cs) + length c.changes
    one_more [] i c less is = absurd (omega arith)
    one_more (d ∷ ds) zero c less is = let e = ap (λ (x : TableChange). length x.changes) is in omega (arith, e)
    one_more (d ∷ ds) (suc i) c less is = let h = one_more ds i c (omega arith) is in omega (arith, h)

-- ---- tables for names, one after the other

-- room is kept over tables that come
pub keeps_both : (ds : List TableChange) (old mid new : List Shown) → named mid ≡ with_names ds (named old) → KeepsRooms old mid → KeepsRooms mid new → KeepsRooms old new
keeps_both ds old mid new names first next cs there rooms =
    next cs (subst (λ (us : Named). AllThere cs us) (sym names) (there_names cs ds (named old) there)) (first cs there rooms)

-- and where they get more room
pub keeps_grow : (old mid new : List Shown) → KeepsRooms old mid → RoomsGrow mid new → KeepsRooms old new
keeps_grow old mid new first more cs there rooms = more cs (first cs there rooms)

-- one name more
pub names_next : (ds : List TableChange) (i : ℕ) (d : TableChange) (old mid new : List Shown) → i < length ds → d ≡ get_or ds i d → named mid ≡ with_names (take i ds) (named old) → named new ≡ with_name d.table (named mid) → named new ≡ with_names (take (i + 1) ds) (named old)
names_next ds i d old mid new less is before now =
    let k : i + 1 ≡ suc i = omega arith in
    let e : take (i + 1) ds ≡ take i ds ++ d ∷ [] = ap (λ (n : ℕ). take n ds) k ∙ take_one ds i d (get_there ds i d less is) in
    now ∙ ap (with_name d.table) before ∙ sym (ap (λ (cs : List TableChange). with_names cs (named old)) e ∙ names_both (take i ds) (d ∷ []) (named old))

-- all of them
pub names_all : (ds : List TableChange) (n : ℕ) (s : Named) → length ds ≤ n → with_names (take n ds) s ≡ with_names ds s
names_all ds n s h = ap (λ (cs : List TableChange). with_names cs s) (all_of ds n h)
  where
    all_of : (ds : List TableChange) (n : ℕ) → length ds ≤ n → take n ds ≡ ds
    all_of [] zero h = refl
    all_of [] (suc n) h = refl
    all_of (d ∷ ds) zero h = absurd (omega arith)
    all_of (d ∷ ds) (suc n) h = ap (λ (cs : List TableChange). d ∷ cs) (all_of ds n (omega arith))
