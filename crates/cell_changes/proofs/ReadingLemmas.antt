-- What stands at one identifier, table by table.
use Rattle.std.proofs.Common.{◌≡◌, ℕ, zero, suc, ◌+◌, ◌<◌, ◌≤◌, List, [], ◌∷◌, ◌++◌, Option, take, get_or, length, refl, ap, sym, ◌∙◌, arith}
use Rattle.par_base.specs.declared.value.Value.{Value}
use Rattle.row_store.specs.declared.change.Change.{Change}
use Rattle.row_store.specs.Rows.{Rows, row_of}
use Rattle.row_store.specs.Changes.{after}
use Rattle.op_law.specs.Tables.{Tables, AllRise}
use Rattle.op_rows.specs.Cells.{Cells, cells_at}
use Rattle.row_changes.specs.Changed.{TableChanges, AreChangesOf, changed, changed_tables}
use Rattle.row_changes.proofs.ChangedLaws.{changed_at}
use Rattle.operator_changes.specs.Pairs.{table_at}

-- one table more
pub cells_next : (ts : Tables) (id i : ℕ) → i < length ts → cells_at (take (i + 1) ts) id ≡ cells_at (take i ts) id ++ row_of (table_at ts i) id ∷ []
cells_next [] id i h = absurd (omega arith)
cells_next (t ∷ ts) id zero h = refl
cells_next (t ∷ ts) id (suc i) h = let e : suc i + 1 ≡ suc (i + 1) = omega arith in rw e (ap (λ (cs : Cells). row_of t id ∷ cs) (cells_next ts id i (omega arith)))

-- one table more, after its changes
pub after_next : (ts : Tables) (cs : TableChanges) (id i : ℕ) (d : List Change) → i < length cs → AreChangesOf ts cs → AllRise ts
    → cells_at (changed_tables (take (i + 1) ts) (take (i + 1) cs)) id ≡ cells_at (changed_tables (take i ts) (take i cs)) id ++ after (get_or cs i d) id (row_of (table_at ts i) id) ∷ []
after_next [] [] id i d h fit rise = absurd (omega arith)
after_next [] (c ∷ cs) id i d h fit rise = absurd fit
after_next (t ∷ ts) [] id i d h fit rise = absurd fit
after_next (t ∷ ts) (c ∷ cs) id zero d h fit rise = ap (λ (row : Option (List Value)). row ∷ []) (changed_at t c id rise.0)
after_next (t ∷ ts) (c ∷ cs) id (suc i) d h fit rise =
    let e : suc i + 1 ≡ suc (i + 1) = omega arith in
    rw e (ap (λ (rest : Cells). row_of (changed t c) id ∷ rest) (after_next ts cs id i d (omega arith) fit.1 rise.1))

-- all tables
pub after_all : (ts : Tables) (cs : TableChanges) (n : ℕ) → length cs ≤ n → AreChangesOf ts cs → changed_tables (take n ts) (take n cs) ≡ changed_tables ts cs
after_all [] [] zero h fit = refl
after_all [] [] (suc n) h fit = refl
after_all [] (c ∷ cs) n h fit = absurd fit
after_all (t ∷ ts) [] n h fit = absurd fit
after_all (t ∷ ts) (c ∷ cs) zero h fit = absurd (omega arith)
after_all (t ∷ ts) (c ∷ cs) (suc n) h fit = ap (λ (us : Tables). changed t c ∷ us) (after_all ts cs n (omega arith) fit.1)
