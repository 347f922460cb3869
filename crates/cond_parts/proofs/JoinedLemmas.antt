-- The joined rows of a part.
use Rattle.std.proofs.Common.{◌≡◌, ℕ, [], ◌∷◌, Bool, true, cond, Some, None, IsSome, refl, ap, sym, ◌∙◌, subst, arith}
use Rattle.row_store.specs.Rows.{Rows}
use Rattle.id_memory.specs.Pairs.{Pairs, has_pair}
use Rattle.op_law.specs.Local.{rows_only}
use Rattle.op_law.proofs.OnlyLaws.{row_in}
use Rattle.op_rows.specs.Cells.{with_row}
use Rattle.row_parts.specs.RowCells.{Cell, by_test}
use Rattle.pair_rows.specs.Shown.{AreThere, IsJoined, Joining, joined, row_at}
use Rattle.pair_rows.specs.inner.PairLemmas.{count_filter, filter_rises}
use Rattle.pair_parts.specs.Parts.{memory_only}
use Rattle.cond_parts.specs.Closed.{BringsRows}
use Rattle.cond_parts.proofs.MemoryLemmas.{Brings, Each, each_brings}

-- one row in front
only_with : (P : ℕ → Bool) (id : ℕ) (c : Cell) (rows : Rows) → rows_only P (with_row id c rows) ≡ cond (P id) (with_row id c (rows_only P rows)) (rows_only P rows)
only_with P id (Some row) rows = refl
only_with P id None rows = by_test (P id) (λ e. rw e refl) (λ e. rw e refl)

-- the rows that pass are those of the entries that do
pub joined_memory : (j : Joining) (P : ℕ → Bool) (s t : Rows) (es : Pairs) → rows_only P (joined j s t es) ≡ joined j s t (memory_only P es)
joined_memory j P s t [] = refl
joined_memory j P s t (e ∷ es) =
    let c = row_at j s t e.1 e.2 in
    let rest = joined_memory j P s t es in
    let here = only_with P e.0 c (joined j s t es) in
    by_test (P e.0)
    (λ q. rw q (here ∙ rw q (ap (λ (rows : Rows). with_row e.0 c rows) rest)))
    (λ q. rw q (here ∙ rw q rest))

-- entries of the same rows are joined alike
pub joined_same : (j : Joining) (s t u v : Rows) (es : Pairs) → Each (λ e. row_at j u v e.1 e.2 ≡ row_at j s t e.1 e.2) es → joined j u v es ≡ joined j s t es
joined_same j s t u v [] all = refl
joined_same j s t u v (e ∷ es) all =
    ap (λ (c : Cell). with_row e.0 c (joined j u v es)) all.0 ∙ ap (λ (rows : Rows). with_row e.0 (row_at j s t e.1 e.2) rows) (joined_same j s t u v es all.1)

-- a pair that passes has the same row
pub row_part : (j : Joining) (P : ℕ → Bool) (s t : Rows) (a b : ℕ) → P a ≡ true → P b ≡ true → row_at j (rows_only P s) (rows_only P t) a b ≡ row_at j s t a b
row_part j P s t a b one other =
    let first = row_in P s a one in
    let second = row_in P t b other in
    rw (first, second) refl

-- the entries of the part have the same rows in both parts
pub each_part : (j : Joining) (P : ℕ → Bool) (s t : Rows) (es : Pairs) → Each (Brings P) es → Each (λ e. row_at j (rows_only P s) (rows_only P t) e.1 e.2 ≡ row_at j s t e.1 e.2) (memory_only P es)
each_part j P s t [] all = tt
each_part j P s t (e ∷ es) all =
    let rest = each_part j P s t es all.1 in
    by_test (P e.0)
    (λ q. let both = all.0 q in rw q (row_part j P s t e.1 e.2 both.0 both.1, rest))
    (λ q. rw q rest)

-- so the part of the joined rows is joined of the parts
pub joined_part : (j : Joining) (P : ℕ → Bool) (s t : Rows) (m : Pairs) → Each (Brings P) m → rows_only P (joined j s t m) ≡ joined j (rows_only P s) (rows_only P t) (memory_only P m)
joined_part j P s t m all = joined_memory j P s t m ∙ sym (joined_same j s t (rows_only P s) (rows_only P t) (memory_only P m) (each_part j P s t m all))

-- the rows of the entries are there in the parts
there_part : (P : ℕ → Bool) (s t : Rows) (es : Pairs) → Each (Brings P) es → AreThere s t es → AreThere (rows_only P s) (rows_only P t) (memory_only P es)
there_part P s t [] all there = tt
there_part P s t (e ∷ es) all there =
    let rest = there_part P s t es all.1 there.1 in
    by_test (P e.0)
    (λ q.
    let both = all.0 q in
    let first = subst (λ (c : Cell). IsSome c) (sym (row_in P s e.1 both.0)) there.0.0 in
    let second = subst (λ (c : Cell). IsSome c) (sym (row_in P t e.2 both.1)) there.0.1 in
    rw q ((first, second), rest))
    (λ q. rw q rest)

-- THE PART OF JOINED TABLES IS JOINED, where its entries bring their rows
pub part_joined : (j : Joining) (P : ℕ → Bool) (s t r : Rows) (m : Pairs) → IsJoined j s t r m → BringsRows P m → IsJoined j (rows_only P s) (rows_only P t) (rows_only P r) (memory_only P m)
part_joined j P s t r m is rows =
    let all = each_brings P m is.rises rows in
    record {
      rises = filter_rises (λ e. P e.0) 0 m is.rises;
      one = λ a b. let fewer = count_filter (has_pair a b) (λ e. P e.0) m in let most = is.one a b in omega (arith, fewer, most);
      there = there_part P s t m all is.there;
      rows = ap (rows_only P) is.rows ∙ joined_part j P s t m all;
    }
