-- What admits a side, and what doesn't.
use Rattle.std.proofs.Common.{◌≡◌, ℕ, zero, suc, ◌+◌, ◌<◌, List, [], ◌∷◌, ◌++◌, length, take, slice_index_or, Option, Some, None, IsSome, refl, ap, sym, ◌∙◌, subst, arith}
use Rattle.std.proofs.lemmas.List.{take_more}
use Rattle.par_base.specs.declared.value.Value.{Value}
use Rattle.row_store.specs.Rows.{Rows, RiseFrom, row_of}
use Rattle.id_memory.specs.Pairs.{Pairs, RiseFrom as PairsRise, IsOneToOne}
use Rattle.row_store.specs.States.{TableState}
use Rattle.op_law.specs.Tables.{Tables, RowsWide, AreTablesOf, contents}
use Rattle.op_law.specs.Meaning.{PairState, flip}
use Rattle.op_law.specs.Premises.{IsPair, Belongs}
use Rattle.op_law.specs.Calls.{Admits}
use Rattle.pair_rows.specs.inner.Lookups.{wide_behind}
use Rattle.pair_rows.specs.Shown.{Joining, AreThere, IsJoined, joined}
use Rattle.pair_rows.specs.inner.ShownLaws.{joined_rise, joined_wide}
use Rattle.pair_rows.specs.Kept.{alone, side_read}
use Rattle.pair_rows.specs.Sides.{JoinFits, table_at}
use Rattle.op_cond_join.specs.JoinOn.{join_on}
use Rattle.pair_rows.specs.Halves.{first_of, second_of}
use Rattle.pair_rows.specs.inner.TwoSides.{two_tables, two_of, one_of}
use Rattle.op_cond_join.specs.inner.JoinOnLaws.{backward_recovered}
use Rattle.op_cond_join.specs.inner.Admitted.{IsSource, AnswersSource}

-- one row more of this width
pub wide_more : (w : ℕ) (rows : Rows) (i : ℕ) (row : ℕ × List Value) → i < length rows → row ≡ slice_index_or rows i row → RowsWide w (take i rows) → length row.1 ≡ w → RowsWide w (take (i + 1) rows)
wide_more w rows i row h at wide long =
    let split : take (i + 1) rows ≡ take i rows ++ row ∷ [] = take_more rows i row h ∙ ap (λ (r : ℕ × List Value). take i rows ++ r ∷ []) (sym at) in
    subst (λ (rs : Rows). RowsWide w rs) (sym split) (wide_behind w (take i rows) row.0 row.1 wide long)

-- each of such rows has this width
wide_get : (w : ℕ) (rows : Rows) (i : ℕ) (d : ℕ × List Value) → i < length rows → RowsWide w rows → length (slice_index_or rows i d).1 ≡ w
wide_get w [] i d h wide = absurd (omega arith)
wide_get w (r ∷ rs) zero d h wide = wide.0
wide_get w (r ∷ rs) (suc i) d h wide = wide_get w rs i d (omega arith) wide.1

-- the same of a row that was read
pub wide_each : (w : ℕ) (rows : Rows) (i : ℕ) (row : ℕ × List Value) → i < length rows → row ≡ slice_index_or rows i row → RowsWide w rows → length row.1 ≡ w
wide_each w rows i row h at wide = ap (λ (r : ℕ × List Value). length r.1) at ∙ wide_get w rows i row h wide

-- one pair more whose rows are there
there_behind : (s t : Rows) (es : Pairs) (e : ℕ × ℕ × ℕ) → AreThere s t es → IsSome (row_of s e.1) → IsSome (row_of t e.2) → AreThere s t (es ++ e ∷ [])
there_behind s t [] e there first second = ((first, second), tt)
there_behind s t (x ∷ xs) e there first second = (there.0, there_behind s t xs e there.1 first second)

-- the same, counted from the front
pub there_more : (s t : Rows) (es : Pairs) (i : ℕ) → i < length es → AreThere s t (take i es) → IsSome (row_of s (slice_index_or es i (0, 0, 0)).1) → IsSome (row_of t (slice_index_or es i (0, 0, 0)).2) → AreThere s t (take (i + 1) es)
there_more s t es i h there first second = subst (λ (all : Pairs). AreThere s t all) (sym (take_more es i (0, 0, 0) h)) (there_behind s t (take i es) (slice_index_or es i (0, 0, 0)) there first second)

-- each of such pairs
pub there_each : (s t : Rows) (es : Pairs) (i : ℕ) → i < length es → AreThere s t es → IsSome (row_of s (slice_index_or es i (0, 0, 0)).1) × IsSome (row_of t (slice_index_or es i (0, 0, 0)).2)
there_each s t [] i h there = absurd (omega arith)
there_each s t (e ∷ es) zero h there = there.0
there_each s t (e ∷ es) (suc i) h there = there_each s t es i (omega arith) there.1

-- the target of a source
pub admits_target : (j : Joining) (near aux : Tables) (m : Pairs) (s t : Rows) (far : Tables) → aux ≡ [] → s ≡ table_at 0 near → t ≡ table_at 1 near → PairsRise 0 m → IsOneToOne m → AreThere s t m → far ≡ joined j s t m ∷ [] → Admits (join_on j) near aux m (Some far)
admits_target j near aux m s t far none first second rise one there far_is hs ht fits near_of =
    let shape : far ≡ joined j (table_at 0 near) (table_at 1 near) m ∷ [] = far_is ∙ ap (λ (rs : Rows). joined j rs t m ∷ []) first ∙ ap (λ (rs : Rows). joined j (table_at 0 near) rs m ∷ []) second in
    record {
      pair = record {
        fits = fits;
        related = record {
          rises = rise;
          one = one;
          there = subst (λ (rs : Rows). AreThere (table_at 0 near) rs m) second (subst (λ (rs : Rows). AreThere rs t m) first there);
          rows = ap (table_at 0) shape;
        };
        source_of = near_of;
        target_of = subst (λ (ts : Tables). AreTablesOf ht ts) (sym shape) (one_of _ ht _ fits.target (joined_rise j 0 (table_at 0 near) (table_at 1 near) m rise) (joined_wide j (table_at 0 near) (table_at 1 near) m));
      };
      aux_is = none;
    }

-- the source of a target
pub admits_source : (j : Joining) (near aux : Tables) (m : Pairs) (r first second s t : Rows) (far : Tables) → r ≡ table_at 0 near → aux ≡ first ∷ second ∷ [] → far ≡ s ∷ t ∷ [] → PairsRise 0 m → IsOneToOne m → RiseFrom 0 s → RiseFrom 0 t
    → IsSource j r m first second s t → Admits (flip (join_on j)) near aux m (Some far)
admits_source j near aux m r first second s t far target kept far_is rise one first_rise second_rise is hs ht fits near_of =
    let source : JoinFits j ht hs = fits in
    let pair : IsPair (flip (join_on j)) hs ht (record { source = near; target = s ∷ t ∷ []; memory = m }) = record {
      fits = fits;
      related = record { rises = rise; one = one; there = is.there; rows = sym target ∙ sym is.rows };
      source_of = near_of;
      target_of = two_of (length j.first) (length j.second) ht s t source.source first_rise is.first_wide second_rise is.second_wide;
    } in
    let alones : aux ≡ alone first_of m s ∷ alone second_of m t ∷ [] = kept ∙ ap (λ (rs : Rows). rs ∷ second ∷ []) (sym is.first_alone) ∙ ap (λ (rs : Rows). alone first_of m s ∷ rs ∷ []) (sym is.second_alone) in
    subst (λ (ts : Tables). Belongs (flip (join_on j)) hs ht aux (record { source = near; target = ts; memory = m })) (sym far_is) (record { pair = pair; aux_is = alones })

-- none, where a test fails
pub refuses_source : (j : Joining) (near aux : Tables) (m : Pairs) (r first second s t : Rows) → r ≡ table_at 0 near → aux ≡ first ∷ second ∷ []
    → s ≡ side_read first_of j.first r m first → t ≡ side_read second_of j.second r m second → (IsSource j r m first second s t → ⊥) → Admits (flip (join_on j)) near aux m None
refuses_source j near aux m r first second s t target kept first_is second_is none hs ht far belongs =
    let p : PairState = record { source = near; target = far; memory = m } in
    let fits : JoinFits j ht hs = belongs.pair.fits in
    let is : IsJoined j (table_at 0 far) (table_at 1 far) (table_at 0 near) m = belongs.pair.related in
    let two = two_tables (length j.first) (length j.second) ht far fits.source belongs.pair.target_of in
    let same : first ∷ second ∷ [] ≡ alone first_of m (table_at 0 far) ∷ alone second_of m (table_at 1 far) ∷ [] = sym kept ∙ belongs.aux_is in
    let first_alone : first ≡ alone first_of m (table_at 0 far) = ap (table_at 0) same in
    let second_alone : second ≡ alone second_of m (table_at 1 far) = ap (table_at 1) same in
    let read = backward_recovered j ht hs p belongs.pair in
    let s_is : s ≡ table_at 0 far = first_is ∙ ap (λ (rs : Rows). side_read first_of j.first rs m first) target ∙ ap (λ (rs : Rows). side_read first_of j.first (table_at 0 near) m rs) first_alone ∙ ap (table_at 0) read in
    let t_is : t ≡ table_at 1 far = second_is ∙ ap (λ (rs : Rows). side_read second_of j.second rs m second) target ∙ ap (λ (rs : Rows). side_read second_of j.second (table_at 0 near) m rs) second_alone ∙ ap (table_at 1) read in
    let found : IsSource j (table_at 0 near) m (alone first_of m (table_at 0 far)) (alone second_of m (table_at 1 far)) (table_at 0 far) (table_at 1 far) = record {
      first_wide = two.first_wide;
      second_wide = two.second_wide;
      there = is.there;
      rows = sym is.rows;
      first_alone = refl;
      second_alone = refl;
    } in
    none (subst (λ (rs : Rows). IsSource j r m first second rs t) (sym s_is)
    (subst (λ (rs : Rows). IsSource j r m first second (table_at 0 far) rs) (sym t_is)
    (subst (λ (rs : Rows). IsSource j rs m first second (table_at 0 far) (table_at 1 far)) (sym target)
    (subst (λ (rs : Rows). IsSource j (table_at 0 near) m rs second (table_at 0 far) (table_at 1 far)) (sym first_alone)
    (subst (λ (rs : Rows). IsSource j (table_at 0 near) m (alone first_of m (table_at 0 far)) rs (table_at 0 far) (table_at 1 far)) (sym second_alone) found)))))

-- so what is answered of the tables that were read is the source
pub answers_admits : (j : Joining) (near aux : Tables) (m : Pairs) (r first second s t : Rows) → r ≡ table_at 0 near → aux ≡ first ∷ second ∷ [] → PairsRise 0 m → IsOneToOne m
    → s ≡ side_read first_of j.first r m first → t ≡ side_read second_of j.second r m second → (source : Option Tables) → AnswersSource j r m first second s t source → Admits (flip (join_on j)) near aux m source
answers_admits j near aux m r first second s t target kept rise one first_is second_is None none = refuses_source j near aux m r first second s t target kept first_is second_is none
answers_admits j near aux m r first second s t target kept rise one first_is second_is (Some far) is = admits_source j near aux m r first second s t far target kept is.0 rise one is.1 is.2 is.3

-- no auxiliary tables
pub no_tables : (tables : List TableState) → length tables ≡ 0 → contents tables ≡ []
no_tables [] none = refl
no_tables (t ∷ ts) none = absurd (omega arith)

-- two auxiliary tables
two_from : (tables : List TableState) (a b : TableState) → length tables ≡ 2 → a ≡ slice_index_or tables 0 a → b ≡ slice_index_or tables 1 b → contents tables ≡ a.rows ∷ b.rows ∷ []
two_from [] a b two first second = absurd (omega arith)
two_from (x ∷ []) a b two first second = absurd (omega arith)
two_from (x ∷ (y ∷ [])) a b two first second = ap (λ (t : TableState). t.rows ∷ y.rows ∷ []) (sym first) ∙ ap (λ (t : TableState). a.rows ∷ t.rows ∷ []) (sym second)
two_from (x ∷ (y ∷ (z ∷ zs))) a b two first second = absurd (omega arith)

-- the same of a list that was read
pub two_tables_are : (all tables : List TableState) (a b : TableState) → all ≡ tables → length all ≡ 2 → a ≡ slice_index_or all 0 a → b ≡ slice_index_or all 1 b → contents tables ≡ a.rows ∷ b.rows ∷ []
two_tables_are all tables a b same two first second = ap contents (sym same) ∙ two_from all a b two first second

-- the source that is read
pub sides_are : (first second : List ℕ) (r target : Rows) (es m : Pairs) (a first_alone b second_alone s t : Rows) (side : Tables) → side ≡ s ∷ t ∷ [] → s ≡ side_read first_of first r es a → t ≡ side_read second_of second r es b
    → r ≡ target → es ≡ m → a ≡ first_alone → b ≡ second_alone → side ≡ side_read first_of first target m first_alone ∷ side_read second_of second target m second_alone ∷ []
sides_are first second r target es m a first_alone b second_alone s t side is first_is second_is rows pairs one other =
    is ∙ ap (λ (rs : Rows). rs ∷ t ∷ []) first_is ∙ ap (λ (rs : Rows). side_read first_of first r es a ∷ rs ∷ []) second_is
    ∙ ap (λ (rs : Rows). side_read first_of first rs es a ∷ side_read second_of second rs es b ∷ []) rows
    ∙ ap (λ (ps : Pairs). side_read first_of first target ps a ∷ side_read second_of second target ps b ∷ []) pairs
    ∙ ap (λ (rs : Rows). side_read first_of first target m rs ∷ side_read second_of second target m b ∷ []) one
    ∙ ap (λ (rs : Rows). side_read first_of first target m first_alone ∷ side_read second_of second target m rs ∷ []) other
