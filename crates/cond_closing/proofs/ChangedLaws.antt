-- What changes tell of the rows of a side.
use Rattle.std.proofs.Common.{◌≡◌, ℕ, zero, suc, ◌==◌, List, [], ◌∷◌, true, cond, refl, ap, sym, ◌∙◌, subst}
use Rattle.std.proofs.lemmas.Bool.{eqb-true, false≢true}
use Rattle.row_store.specs.declared.change.Change.{Change}
use Rattle.row_store.specs.Rows.{Rows, row_of}
use Rattle.row_store.specs.Changes.{after, AreOld, ChangesRise}
use Rattle.op_law.specs.Identifiers.{has_id}
use Rattle.op_law.specs.Tables.{Tables, AllRise}
use Rattle.op_law.proofs.IdentifierLaws.{has_put}
use Rattle.op_law.proofs.OnlyLaws.{by_test}
use Rattle.row_changes.specs.Changed.{TableChanges, changed_tables, AreChangesOf}
use Rattle.row_changes.specs.Touched.{touched, touched_in}
use Rattle.row_changes.proofs.ChangedLaws.{changed_at}
use Rattle.row_parts.specs.RowCells.{Cell}
use Rattle.pair_rows.specs.Sides.{table_at}
use Rattle.id_closing.specs.Told.{AllOf, changes_at, is_changed}

-- what the tables of a side have after changes, by their number
pub new_at : (which : ℕ) (ts : Tables) (near : TableChanges) (q : ℕ) → AllRise ts → AreChangesOf ts near → row_of (table_at which (changed_tables ts near)) q ≡ after (changes_at near which) q (row_of (table_at which ts) q)
new_at which [] [] q rise fit = refl
new_at which [] (c ∷ cs) q rise fit = absurd fit
new_at which (t ∷ ts) [] q rise fit = absurd fit
new_at zero (t ∷ ts) (c ∷ cs) q rise fit = changed_at t c q rise.0
new_at (suc which) (t ∷ ts) (c ∷ cs) q rise fit = new_at which ts cs q rise.1 fit.1

-- one change of those that name an identifier
pub record NamedBy (Q : Change → Type 0) (rows : Rows) (cs : List Change) (q : ℕ) (o : Cell) : Type 0 where
  pub change : Change
  pub holds : Q change
  pub own : change.id ≡ q
  pub old : change.old ≡ row_of rows q
  pub new : after cs q o ≡ change.new

pub named_by : (Q : Change → Type 0) (rows : Rows) (cs : List Change) (q : ℕ) (o : Cell) → AllOf Q cs → AreOld rows cs → is_changed cs q ≡ true → NamedBy Q rows cs q o
named_by Q rows [] q o all old named = absurd (false≢true named)
named_by Q rows (c ∷ cs) q o all old named =
    by_test (c.id == q)
    (λ here. let same = eqb-true c.id q here in record { change = c; holds = all.0; own = same; old = old.0 ∙ ap (λ (k : ℕ). row_of rows k) same; new = rw here refl })
    (λ other.
    let rest : is_changed cs q ≡ true = rw other at named in
    let f = named_by Q rows cs q o all.1 old.1 rest in
    record { change = f.change; holds = f.holds; own = f.own; old = f.old; new = rw other f.new })

-- what changes of one table name they name there
touched_named : (cs : List Change) (q : ℕ) → has_id (touched_in cs []) q ≡ true → is_changed cs q ≡ true
touched_named [] q h = h
touched_named (c ∷ cs) q h =
    let e : cond (c.id == q) true (has_id (touched_in cs []) q) ≡ true = sym (has_put c.id (touched_in cs []) q) ∙ h in
    by_test (c.id == q)
    (λ here. rw here refl)
    (λ other. let rest : has_id (touched_in cs []) q ≡ true = rw other at e in rw other (touched_named cs q rest))

-- so do those of a side of one table
pub one_named : (ts : Tables) (near : TableChanges) → table_at 0 ts ∷ [] ≡ ts → AreChangesOf ts near → (q : ℕ) → has_id (touched near) q ≡ true → is_changed (changes_at near 0) q ≡ true
one_named ts near is fit = go near (subst (λ (us : Tables). AreChangesOf us near) (sym is) fit)
  where
    go : (changes : TableChanges) → AreChangesOf (table_at 0 ts ∷ []) changes → (q : ℕ) → has_id (touched changes) q ≡ true → is_changed (changes_at changes 0) q ≡ true
    go [] h q e = absurd h
    go (c ∷ []) h q e = touched_named c q e
    go (c ∷ d ∷ ds) h q e = absurd h.1

-- and their old rows are the table's
pub old_rows : (ts : Tables) (near : TableChanges) → table_at 0 ts ∷ [] ≡ ts → AreChangesOf ts near → AreOld (table_at 0 ts) (changes_at near 0)
old_rows ts near is fit = go near (subst (λ (us : Tables). AreChangesOf us near) (sym is) fit)
  where
    go : (changes : TableChanges) → AreChangesOf (table_at 0 ts ∷ []) changes → AreOld (table_at 0 ts) (changes_at changes 0)
    go [] h = absurd h
    go (c ∷ cs) h = h.0.1

-- and they rise
pub changes_rise : (ts : Tables) (near : TableChanges) → AreChangesOf ts near → ChangesRise 0 (changes_at near 0)
changes_rise [] [] fit = tt
changes_rise [] (c ∷ cs) fit = absurd fit
changes_rise (t ∷ ts) [] fit = absurd fit
changes_rise (t ∷ ts) (c ∷ cs) fit = fit.0.0
