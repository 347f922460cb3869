-- Parts of tables, and rows in no pair.
use Rattle.std.proofs.Common.{◌≡◌, ℕ, zero, suc, [], ◌∷◌, Bool, true, false, not, None, refl, ap, sym, ◌∙◌}
use Rattle.row_store.specs.Rows.{Rows, RiseFrom, row_of}
use Rattle.row_store.proofs.UndoLaws.{ext}
use Rattle.id_memory.specs.Pairs.{Pairs}
use Rattle.op_law.specs.Tables.{Tables}
use Rattle.op_law.specs.Local.{rows_only, only}
use Rattle.op_law.proofs.OnlyLaws.{row_in, row_out, rise_only, same_rows}
use Rattle.row_parts.specs.RowCells.{by_test, kept_if}
use Rattle.pair_rows.specs.Kept.{alone}
use Rattle.pair_rows.specs.Sides.{table_at}
use Rattle.pair_rows.specs.Stays.{stands}
use Rattle.pair_rows.specs.inner.Lookups.{filter_found, filter_lost, filter_rise}
use Rattle.pair_parts.specs.Parts.{memory_only}
use Rattle.cond_parts.specs.Closed.{BringsEntry}
use Rattle.cond_parts.proofs.MemoryLemmas.{stands_part}

-- a table of a part is the part of the table
pub table_only : (P : ℕ → Bool) (at : ℕ) (ts : Tables) → table_at at (only P ts) ≡ rows_only P (table_at at ts)
table_only P at [] = refl
table_only P zero (t ∷ ts) = refl
table_only P (suc at) (t ∷ ts) = table_only P at ts

-- tables that are the same elsewhere have the same rows there
pub same_at : (P : ℕ → Bool) (at : ℕ) (ts us : Tables) (q : ℕ) → only (λ i. not (P i)) us ≡ only (λ i. not (P i)) ts → P q ≡ false → row_of (table_at at us) q ≡ row_of (table_at at ts) q
same_at P at ts us q same out =
    let Q : ℕ → Bool = λ i. not (P i) in
    same_rows Q (table_at at us) (table_at at ts) q (ap not out) (sym (table_only Q at us) ∙ ap (table_at at) same ∙ table_only Q at ts)

-- a table that has what another has of what passes, and nothing else, is the part of the other
pub part_is : (P : ℕ → Bool) (t whole : Rows) → RiseFrom 0 t → RiseFrom 0 whole → ((q : ℕ) → P q ≡ true → row_of t q ≡ row_of whole q) → ((q : ℕ) → P q ≡ false → row_of t q ≡ None) → t ≡ rows_only P whole
part_is P t whole rise rise_whole here out =
    ext 0 t (rows_only P whole) rise (rise_only P 0 whole rise_whole)
    (λ q. by_test (P q) (λ e. here q e ∙ sym (row_in P whole q e)) (λ e. out q e ∙ sym (row_out P whole q e)))

-- two tables that have the same of what doesn't pass
pub rest_is : (P : ℕ → Bool) (t u : Rows) → RiseFrom 0 t → RiseFrom 0 u → ((q : ℕ) → P q ≡ false → row_of t q ≡ row_of u q) → rows_only (λ q. not (P q)) t ≡ rows_only (λ q. not (P q)) u
rest_is P t u rise_t rise_u same =
    let Q : ℕ → Bool = λ q. not (P q) in
    ext 0 (rows_only Q t) (rows_only Q u) (rise_only Q 0 t rise_t) (rise_only Q 0 u rise_u)
    (λ q.
    by_test (P q)
    (λ e. row_out Q t q (ap not e) ∙ sym (row_out Q u q (ap not e)))
    (λ e. row_in Q t q (ap not e) ∙ same q e ∙ sym (row_in Q u q (ap not e))))

-- what is in no pair
alone_at : (pick : ℕ × ℕ × ℕ → ℕ) (m : Pairs) (rows : Rows) (q : ℕ) → row_of (alone pick m rows) q ≡ kept_if (not (stands pick m q)) (row_of rows q)
alone_at pick m rows q =
    by_test (not (stands pick m q))
    (λ e. rw e (filter_found (λ i. not (stands pick m i)) rows q e))
    (λ e. rw e (filter_lost (λ i. not (stands pick m i)) rows q e))

-- the rows in no pair of a part are those of the whole that pass
pub alone_part : (P : ℕ → Bool) (pick : ℕ × ℕ × ℕ → ℕ) (m : Pairs) (rows : Rows) → RiseFrom 0 rows → BringsEntry P pick m → alone pick (memory_only P m) (rows_only P rows) ≡ rows_only P (alone pick m rows)
alone_part P pick m rows rise brings =
    let small = memory_only P m in
    part_is P (alone pick small (rows_only P rows)) (alone pick m rows)
    (filter_rise (λ i. not (stands pick small i)) 0 (rows_only P rows) (rise_only P 0 rows rise))
    (filter_rise (λ i. not (stands pick m i)) 0 rows rise)
    (λ q e.
    let same = stands_part P pick m q brings e in
    let row = row_in P rows q e in
    alone_at pick small (rows_only P rows) q ∙ rw (same, row) (sym (alone_at pick m rows q)))
    (λ q e.
    let row = row_out P rows q e in
    alone_at pick small (rows_only P rows) q ∙ rw row (none_kept (not (stands pick small q))))
  where
    none_kept : (b : Bool) → kept_if b None ≡ None
    none_kept true = refl
    none_kept false = refl

-- and those of two tables are the same elsewhere, where these are, and stand in pairs alike
pub alone_rest : (P : ℕ → Bool) (pick : ℕ × ℕ × ℕ → ℕ) (m new : Pairs) (rows now : Rows) → RiseFrom 0 rows → RiseFrom 0 now → ((q : ℕ) → P q ≡ false → row_of now q ≡ row_of rows q) → ((q : ℕ) → P q ≡ false → stands pick new q ≡ stands pick m q)
    → rows_only (λ q. not (P q)) (alone pick new now) ≡ rows_only (λ q. not (P q)) (alone pick m rows)
alone_rest P pick m new rows now rise rise_now same alike =
    rest_is P (alone pick new now) (alone pick m rows)
    (filter_rise (λ i. not (stands pick new i)) 0 now rise_now)
    (filter_rise (λ i. not (stands pick m i)) 0 rows rise)
    (λ q e.
    let both = alike q e in
    let row = same q e in
    alone_at pick new now q ∙ rw (both, row) (sym (alone_at pick m rows q)))
