-- Loops over identifiers and over tables.
use Rattle.std.proofs.Common.{◌≡◌, ℕ, zero, suc, ◌+◌, ◌<◌, ◌≤◌, List, [], ◌∷◌, ◌++◌, take, get_or, length, refl, ap, arith}
use Rattle.row_store.specs.declared.change.Change.{Change}
use Rattle.row_store.specs.Rows.{row_of}
use Rattle.row_store.specs.Changes.{ChangesRise, AreOld, IsAbove}
use Rattle.row_store.specs.States.{TableState}
use Rattle.op_law.specs.Tables.{Tables, contents}
use Rattle.row_changes.specs.Changed.{TableChanges, changed, changed_tables, AreChangesOf}
use Rattle.row_changes.specs.Differences.{AreDifferences, IsDifference}
use Rattle.row_changes.specs.Picked.{Picks, PicksEach}
use Rattle.row_changes.specs.Touched.{touched_in, touched_over}

pub contents_more : (tables : List TableState) (t : TableState) → contents (tables ++ t ∷ []) ≡ contents tables ++ t.rows ∷ []
contents_more [] t = refl
contents_more (u ∷ us) t = ap (λ (ts : Tables). u.rows ∷ ts) (contents_more us t)

-- the changes of one table more
pub changed_next : (tables : List TableState) (changes : TableChanges) (i : ℕ) (d : TableState) (e : List Change) → i < length tables → AreChangesOf (contents tables) changes
    → changed_tables (contents (take (i + 1) tables)) (take (i + 1) changes) ≡ changed_tables (contents (take i tables)) (take i changes) ++ changed (get_or tables i d).rows (get_or changes i e) ∷ []
changed_next [] changes i d e h fit = absurd (omega arith)
changed_next (t ∷ ts) [] i d e h fit = absurd fit
changed_next (t ∷ ts) (c ∷ cs) zero d e h fit = refl
changed_next (t ∷ ts) (c ∷ cs) (suc i) d e h fit = let k : suc i + 1 ≡ suc (i + 1) = omega arith in rw k (ap (λ (us : Tables). changed t.rows c ∷ us) (changed_next ts cs i d e (omega arith) fit.1))

pub fit_many : (tables : List TableState) (changes : TableChanges) → AreChangesOf (contents tables) changes → length changes ≡ length tables
fit_many [] [] fit = refl
fit_many [] (c ∷ cs) fit = absurd fit
fit_many (t ∷ ts) [] fit = absurd fit
fit_many (t ∷ ts) (c ∷ cs) fit = ap suc (fit_many ts cs fit.1)

-- the identifiers of one table's changes more
pub touched_next : (changes : TableChanges) (i : ℕ) (e : List Change) (ids : List ℕ) → i < length changes → touched_over (take (i + 1) changes) ids ≡ touched_in (get_or changes i e) (touched_over (take i changes) ids)
touched_next [] i e ids h = absurd (omega arith)
touched_next (c ∷ cs) zero e ids h = refl
touched_next (c ∷ cs) (suc i) e ids h = let k : suc i + 1 ≡ suc (i + 1) = omega arith in rw k (touched_next cs i e (touched_in c ids) (omega arith))

-- all of the tables
pub all_taken : (tables : List TableState) (changes : TableChanges) (n : ℕ) → length tables ≤ n → AreChangesOf (contents tables) changes → changed_tables (contents (take n tables)) (take n changes) ≡ changed_tables (contents tables) changes
all_taken [] [] zero h fit = refl
all_taken [] [] (suc n) h fit = refl
all_taken [] (c ∷ cs) n h fit = absurd fit
all_taken (t ∷ ts) [] n h fit = absurd fit
all_taken (t ∷ ts) (c ∷ cs) zero h fit = absurd (omega arith)
all_taken (t ∷ ts) (c ∷ cs) (suc n) h fit = ap (λ (us : Tables). changed t.rows c ∷ us) (all_taken ts cs n (omega arith) fit.1)

pub fit_at : (tables : List TableState) (changes : TableChanges) (i : ℕ) (d : TableState) (e : List Change) → i < length tables → AreChangesOf (contents tables) changes → AreOld (get_or tables i d).rows (get_or changes i e)
fit_at [] changes i d e h fit = absurd (omega arith)
fit_at (t ∷ ts) [] i d e h fit = absurd fit
fit_at (t ∷ ts) (c ∷ cs) zero d e h fit = fit.0.1
fit_at (t ∷ ts) (c ∷ cs) (suc i) d e h fit = fit_at ts cs i d e (omega arith) fit.1

pub above_taken : (n : ℕ) (cs : List Change) (i : ℕ) (d : Change) → ChangesRise n cs → i < length cs → IsAbove (take i cs) (get_or cs i d).id
above_taken n [] i d rise h = absurd (omega arith)
above_taken n (c ∷ cs) zero d rise h = tt
above_taken n (c ∷ []) (suc i) d rise h = absurd (omega arith)
above_taken n (c ∷ e ∷ cs) (suc zero) d rise h = omega (arith, rise.1.0)
above_taken n (c ∷ e ∷ cs) (suc (suc i)) d rise h = above_taken (c.id + 1) (e ∷ cs) (suc i) d rise.1 (omega arith)

-- the changes that are picked of one table more
pub picks_next : (ids : List ℕ) (before now : List TableState) (i : ℕ) (d e : TableState) (made : TableChanges) (c : List Change) → i < length before → i < length now
    → PicksEach ids (contents (take i before)) (contents (take i now)) made → Picks (row_of (get_or before i d).rows) (row_of (get_or now i e).rows) ids c
    → PicksEach ids (contents (take (i + 1) before)) (contents (take (i + 1) now)) (made ++ c ∷ [])
picks_next ids [] now i d e made c h k each one = absurd (omega arith)
picks_next ids (t ∷ ts) [] i d e made c h k each one = absurd (omega arith)
picks_next ids (t ∷ ts) (u ∷ us) zero d e [] c h k each one = (one, tt)
picks_next ids (t ∷ ts) (u ∷ us) zero d e (m ∷ ms) c h k each one = absurd each
picks_next ids (t ∷ ts) (u ∷ us) (suc i) d e [] c h k each one = absurd each
picks_next ids (t ∷ ts) (u ∷ us) (suc i) d e (m ∷ ms) c h k each one =
    let j : suc i + 1 ≡ suc (i + 1) = omega arith in
    rw j (each.0, picks_next ids ts us i d e ms c (omega arith) (omega arith) each.1 one)

-- the differences of one table more
pub differences_next : (before now : List TableState) (i : ℕ) (d e : TableState) (made : TableChanges) (c : List Change) → i < length before → i < length now
    → AreDifferences (contents (take i before)) (contents (take i now)) made → IsDifference (get_or before i d).rows (get_or now i e).rows c
    → AreDifferences (contents (take (i + 1) before)) (contents (take (i + 1) now)) (made ++ c ∷ [])
differences_next [] now i d e made c h k each one = absurd (omega arith)
differences_next (t ∷ ts) [] i d e made c h k each one = absurd (omega arith)
differences_next (t ∷ ts) (u ∷ us) zero d e [] c h k each one = (one, tt)
differences_next (t ∷ ts) (u ∷ us) zero d e (m ∷ ms) c h k each one = absurd each
differences_next (t ∷ ts) (u ∷ us) (suc i) d e [] c h k each one = absurd each
differences_next (t ∷ ts) (u ∷ us) (suc i) d e (m ∷ ms) c h k each one =
    let j : suc i + 1 ≡ suc (i + 1) = omega arith in
    rw j (each.0, differences_next ts us i d e ms c (omega arith) (omega arith) each.1 one)
