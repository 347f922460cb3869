-- The new entries are a memory.
use Rattle.std.proofs.Common.{◌≡◌, ℕ, ap, sym, ◌∙◌, subst}
use Rattle.row_store.specs.Rows.{Rows, RiseFrom as RowsRise}
use Rattle.id_memory.specs.Pairs.{Pairs, RiseFrom, IsOneToOne}
use Rattle.op_law.specs.Tables.{Tables}
use Rattle.op_law.specs.Meaning.{PairState}
use Rattle.op_law.specs.Premises.{SomeMap}
use Rattle.pair_rows.specs.Shown.{Joining}
use Rattle.pair_rows.specs.Sides.{table_at}
use Rattle.outer_law.specs.Entries.{IsOuter, entries}
use Rattle.outer_law.specs.OuterOn.{outer_on}
use Rattle.outer_law.proofs.ForwardLaws.{forward_half}

-- entries that are a memory
pub record AreEntries (pairs : Pairs) : Type 0 where
  pub rises : RiseFrom 0 pairs
  pub one : IsOneToOne pairs

-- the new entries forward are one
pub forward_entries : (j : Joining) (near : Tables) (old : PairState) (n k : ℕ) (s t ns nt : Rows) (pairs : Pairs) → SomeMap (outer_on j) near old n
    → k ≡ n → s ≡ table_at 0 old.source → t ≡ table_at 1 old.source → ns ≡ table_at 0 near → nt ≡ table_at 1 near
    → pairs ≡ entries j s t old.memory ns nt k → AreEntries pairs
forward_entries j near old n k s t ns nt pairs some same first second new_first new_second is =
    let kept = forward_half j in
    let pair = kept.kept some.hs some.ht near old n some.may in
    let related : IsOuter j (table_at 0 near) (table_at 1 near) _ (entries j (table_at 0 old.source) (table_at 1 old.source) old.memory (table_at 0 near) (table_at 1 near) n) = pair.related in
    let all : pairs ≡ entries j (table_at 0 old.source) (table_at 1 old.source) old.memory (table_at 0 near) (table_at 1 near) n =
    is ∙ ap (λ (rows : Rows). entries j rows t old.memory ns nt k) first
    ∙ ap (λ (rows : Rows). entries j (table_at 0 old.source) rows old.memory ns nt k) second
    ∙ ap (λ (rows : Rows). entries j (table_at 0 old.source) (table_at 1 old.source) old.memory rows nt k) new_first
    ∙ ap (λ (rows : Rows). entries j (table_at 0 old.source) (table_at 1 old.source) old.memory (table_at 0 near) rows k) new_second
    ∙ ap (λ (i : ℕ). entries j (table_at 0 old.source) (table_at 1 old.source) old.memory (table_at 0 near) (table_at 1 near) i) same in
    subst (λ (es : Pairs). AreEntries es) (sym all) (record { rises = related.joined.rises; one = related.joined.one })

-- the rows of a new source are from 1 on
pub near_from : (j : Joining) (near : Tables) (old : PairState) (n : ℕ) (ns nt : Rows) → SomeMap (outer_on j) near old n → ns ≡ table_at 0 near → nt ≡ table_at 1 near → RowsRise 1 ns × RowsRise 1 nt
near_from j near old n ns nt some first second =
    let pair = (forward_half j).kept some.hs some.ht near old n some.may in
    let related : IsOuter j (table_at 0 near) (table_at 1 near) _ (entries j (table_at 0 old.source) (table_at 1 old.source) old.memory (table_at 0 near) (table_at 1 near) n) = pair.related in
    (subst (λ (rows : Rows). RowsRise 1 rows) (sym first) related.first.rise, subst (λ (rows : Rows). RowsRise 1 rows) (sym second) related.second.rise)
