-- Changes of the first tables of a list, the last ones first.
use Rattle.std.proofs.Common.{◌≡◌, if◌then◌else◌, ◌==◌, Bool, ℕ, ◌<◌, ◌≤◌, length, List, [], ◌∷◌, ◌++◌, slice_index_or, slice_set, ap, sym, ◌∙◌, arith}
use Rattle.std.proofs.lemmas.Bool.{eqb-true}
use Rattle.row_store.specs.declared.change.Change.{Change}
use Rattle.row_store.specs.Rows.{Rows}
use Rattle.row_store.specs.Changes.{AreOld}
use Rattle.row_store.specs.States.{TableState}
use Rattle.op_law.specs.Tables.{Tables, contents}
use Rattle.row_changes.specs.Changed.{TableChanges, AreChangesOf, changed, changed_tables}
use Rattle.op_law.proofs.OnlyLaws.{by_test}
use Rattle.kept_changes.specs.Room.{HaveRoom, spares}
use Rattle.kept_changes.specs.inner.Calls.{Fit}
use Rattle.kept_changes.proofs.ChangesLaws.{no_changes}

pub fit_of : (ts : List TableState) (cs : TableChanges) → AreChangesOf (contents ts) cs → HaveRoom (spares ts) cs → Fit ts cs
fit_of [] [] old room = tt
fit_of [] (c ∷ cs) old room = absurd old
fit_of (t ∷ ts) [] old room = absurd old
fit_of (t ∷ ts) (c ∷ cs) old room = ((old.0.1, room.0), fit_of ts cs old.1 room.1)

pub fit_many : (ts : List TableState) (cs : TableChanges) → Fit ts cs → length cs ≤ length ts
fit_many ts [] h = omega arith
fit_many [] (c ∷ cs) h = absurd h
fit_many (t ∷ ts) (c ∷ cs) h = omega (arith, fit_many ts cs h.1)

-- the last changes are of the table at their place
pub fit_last : (ts : List TableState) (cs : TableChanges) (c : List Change) (d : TableState) → Fit ts (cs ++ c ∷ []) → (length cs < length ts) × AreOld (slice_index_or ts (length cs) d).rows c × (length c ≤ (slice_index_or ts (length cs) d).spare)
fit_last [] [] c d h = absurd h
fit_last [] (x ∷ cs) c d h = absurd h
fit_last (t ∷ ts) [] c d h = (omega arith, h.0.0, h.0.1)
fit_last (t ∷ ts) (x ∷ cs) c d h = let more = fit_last ts cs c d h.1 in (omega (arith, more.0), more.1, more.2)

-- those before them are of tables that stay
pub fit_before : (ts : List TableState) (cs : TableChanges) (c : List Change) (t : TableState) → Fit ts (cs ++ c ∷ []) → Fit (slice_set ts (length cs) t) cs
fit_before ts [] c t h = tt
fit_before [] (x ∷ cs) c t h = absurd h
fit_before (u ∷ ts) (x ∷ cs) c t h = (h.0, fit_before ts cs c t h.1)

-- changing the last table first, and then those before it
pub changed_last : (ts : List TableState) (cs : TableChanges) (c : List Change) (t d : TableState) → Fit ts (cs ++ c ∷ []) → t.rows ≡ changed (slice_index_or ts (length cs) d).rows c
    → changed_tables (contents (slice_set ts (length cs) t)) cs ≡ changed_tables (contents ts) (cs ++ c ∷ [])
changed_last [] [] c t d h e = absurd h
changed_last [] (x ∷ cs) c t d h e = absurd h
changed_last (u ∷ ts) [] c t d h e = ap (λ (rows : Rows). rows ∷ contents ts) e ∙ ap (λ (l : Tables). changed u.rows c ∷ l) (sym (no_changes (contents ts)))
changed_last (u ∷ ts) (x ∷ cs) c t d h e = ap (λ (l : Tables). changed u.rows x ∷ l) (changed_last ts cs c t d h.1 e)

-- as many changes as tables
pub many : (ts : List TableState) (cs : TableChanges) → AreChangesOf (contents ts) cs → length cs ≤ length ts
many [] [] h = omega arith
many [] (c ∷ cs) h = absurd h
many (t ∷ ts) [] h = absurd h
many (t ∷ ts) (c ∷ cs) h = omega (arith, many ts cs h.1)

-- no tables stay none
pub nowhere : (tables : ℕ → Tables) (k n : ℕ) (cs : TableChanges) → tables k ≡ [] → tables n ≡ (if n == k then changed_tables (tables n) cs else tables n)
nowhere tables k n cs none =
    by_test (n == k)
    (λ e.
    let here : tables n ≡ [] = ap tables (eqb-true n k e) ∙ none in
    here ∙ sym (ap (λ (ts : Tables). changed_tables ts cs) here) ∙ sym (ap (λ (b : Bool). if b then changed_tables (tables n) cs else tables n) e))
    (λ e. sym (ap (λ (b : Bool). if b then changed_tables (tables n) cs else tables n) e))
