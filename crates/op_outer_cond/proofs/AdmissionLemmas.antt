-- What admits a side, and what doesn't.
use Rattle.std.specs.Prelude.{nat_eq}
use Rattle.std.proofs.Common.{◌≡◌, ℕ, zero, suc, ◌+◌, ◌<◌, ◌≤◌, ◌==◌, List, [], ◌∷◌, ◌++◌, length, take, slice_index_or, if◌then◌else◌, Bool, true, false, not, ◌||◌, ◌&&◌, Option, Some, None, IsSome, is_some, refl, ap, sym, ◌∙◌, subst, arith}
use Rattle.std.proofs.lemmas.List.{take_more}
use Rattle.std.proofs.lemmas.Bool.{and_parts, false≢true, eqb-true, eq-eqb, ne_eqb}
use Rattle.std.proofs.lemmas.Bool.Decides.{nat_tests}
use Rattle.row_store.specs.Rows.{Rows, RiseFrom, row_of}
use Rattle.row_store.specs.States.{TableState}
use Rattle.row_store.specs.inner.FoundRows.{none_under, rise_more}
use Rattle.id_memory.specs.Pairs.{Pairs, RiseFrom as PairsRise, IsOneToOne}
use Rattle.op_law.specs.Tables.{Tables, RowsWide, AreTablesOf, contents}
use Rattle.op_law.specs.Meaning.{flip}
use Rattle.op_law.specs.Premises.{IsPair, Belongs}
use Rattle.op_law.specs.Calls.{Admits}
use Rattle.op_rows.specs.Cells.{with_row, table_from, CellWide}
use Rattle.row_parts.specs.Places.{pick as part}
use Rattle.row_parts.specs.RowCells.{Cell, map_cell, by_test}
use Rattle.row_parts.specs.inner.PlaceLemmas.{length-pick}
use Rattle.pair_rows.specs.declared.half.Half.{Half}
use Rattle.pair_rows.specs.declared.half.Half.TheVariants.{First, Second}
use Rattle.pair_rows.specs.Halves.{first_of, second_of, pick_of}
use Rattle.pair_rows.specs.Stays.{stands}
use Rattle.pair_rows.specs.Kept.{alone, paired, ids_paired, side_read}
use Rattle.pair_rows.specs.Sides.{JoinFits, table_at}
use Rattle.pair_rows.specs.Shown.{Joining, AreThere}
use Rattle.pair_rows.specs.inner.Numbers.{count_cons}
use Rattle.pair_rows.specs.inner.Lookups.{filter_found}
use Rattle.pair_rows.specs.inner.PairLemmas.{count_yes, count_no}
use Rattle.pair_rows.specs.inner.ShownLaws.{joined_rise, joined_wide}
use Rattle.pair_rows.specs.inner.TwoSides.{two_tables, two_of, one_of}
use Rattle.outer_law.specs.Entries.{with_absent, with_half, with_half_alone, IsOuter}
use Rattle.outer_law.specs.OuterOn.{shown, with_it, outer_on}
use Rattle.outer_law.proofs.StartLaws.{ArePicks, first_picks, second_picks, stands_counted, counted_stands}
use Rattle.outer_law.proofs.BackwardLaws.{outer_recovered}
use Rattle.op_outer_cond.specs.inner.Admitted.{other_of, IsOnce, AreOnce, AreIn, AreOuter, IsSource}

-- a half that is absent or there
pub half_is : (places : List ℕ) (rows : Rows) (id : ℕ) → ((id == 0) || is_some (row_of rows id)) ≡ is_some (row_of (with_absent places rows) id)
half_is places rows id =
    by_test (0 == id)
    (λ q. let same = eqb-true 0 id q in let zero_id : (id == 0) ≡ true = ap (λ (i : ℕ). i == 0) (sym same) in rw (q, zero_id) refl)
    (λ q. let away : (id == 0) ≡ false = ne_eqb id 0 (λ u. absurd (false≢true (sym q ∙ ap (λ (i : ℕ). 0 == i) u))) in rw (q, away) refl)

-- one entry more whose halves are there
there_behind : (s t : Rows) (es : Pairs) (e : ℕ × ℕ × ℕ) → AreThere s t es → IsSome (row_of s e.1) → IsSome (row_of t e.2) → AreThere s t (es ++ e ∷ [])
there_behind s t [] e there first second = ((first, second), tt)
there_behind s t (x ∷ xs) e there first second = (there.0, there_behind s t xs e there.1 first second)

-- the same, counted from the front
pub there_more : (s t : Rows) (es : Pairs) (i : ℕ) → i < length es → AreThere s t (take i es) → IsSome (row_of s (slice_index_or es i (0, 0, 0)).1) → IsSome (row_of t (slice_index_or es i (0, 0, 0)).2) → AreThere s t (take (i + 1) es)
there_more s t es i h there first second = subst (λ (all : Pairs). AreThere s t all) (sym (take_more es i (0, 0, 0) h)) (there_behind s t (take i es) (slice_index_or es i (0, 0, 0)) there first second)

-- each of such entries
pub there_each : (s t : Rows) (es : Pairs) (i : ℕ) → i < length es → AreThere s t es → IsSome (row_of s (slice_index_or es i (0, 0, 0)).1) × IsSome (row_of t (slice_index_or es i (0, 0, 0)).2)
there_each s t [] i h there = absurd (omega arith)
there_each s t (e ∷ es) zero h there = there.0
there_each s t (e ∷ es) (suc i) h there = there_each s t es i (omega arith) there.1

-- rows from 1 on have no row 0, and the other way
pub from_one : (rows : Rows) → RiseFrom 0 rows → is_some (row_of rows 0) ≡ false → RiseFrom 1 rows
from_one [] rise none = tt
from_one (r ∷ rs) rise none =
    by_test (r.0 == 0)
    (λ q. let there : true ≡ false = rw q at none in absurd (false≢true (sym there)))
    (λ q. (above r.0 q, rise.1))
  where
    above : (k : ℕ) → (k == 0) ≡ false → 1 ≤ k
    above zero q = absurd (false≢true (sym q))
    above (suc k) q = omega arith

pub none_at_zero : (rows : Rows) → RiseFrom 1 rows → is_some (row_of rows 0) ≡ false
none_at_zero rows rise = ap (λ (c : Cell). is_some c) (none_under 1 rows 0 rise (omega arith))

-- one entry more
once_behind : (pick other : ℕ × ℕ × ℕ → ℕ) (m es : Pairs) (e : ℕ × ℕ × ℕ) → AreOnce pick other m es → IsOnce pick other m e → AreOnce pick other m (es ++ e ∷ [])
once_behind pick other m [] e all one = (one, tt)
once_behind pick other m (x ∷ xs) e all one = (all.0, once_behind pick other m xs e all.1 one)

pub once_more : (pick other : ℕ × ℕ × ℕ → ℕ) (m es : Pairs) (i : ℕ) → i < length es → AreOnce pick other m (take i es) → IsOnce pick other m (slice_index_or es i (0, 0, 0)) → AreOnce pick other m (take (i + 1) es)
once_more pick other m es i h all one = subst (λ (xs : Pairs). AreOnce pick other m xs) (sym (take_more es i (0, 0, 0) h)) (once_behind pick other m (take i es) (slice_index_or es i (0, 0, 0)) all one)

pub once_each : (pick other : ℕ × ℕ × ℕ → ℕ) (m es : Pairs) (i : ℕ) → i < length es → AreOnce pick other m es → IsOnce pick other m (slice_index_or es i (0, 0, 0))
once_each pick other m [] i h all = absurd (omega arith)
once_each pick other m (e ∷ es) zero h all = all.0
once_each pick other m (e ∷ es) (suc i) h all = once_each pick other m es i (omega arith) all.1

-- where each entry alone is the only one, so is each half alone
pub once_alone : (pick other : ℕ × ℕ × ℕ → ℕ) (m es : Pairs) (id : ℕ) → AreOnce pick other m es → 1 ≤ with_half_alone pick other id es → with_half pick id m ≤ 1
once_alone pick other m [] id all some = absurd (omega (arith, some))
once_alone pick other m (e ∷ es) id all some =
    by_test (pick e == id && other e == 0)
    (λ q.
    let both = and_parts (pick e == id) (other e == 0) q in
    subst (λ (i : ℕ). with_half pick i m ≤ 1) (eqb-true (pick e) id both.0) (all.0 both.1))
    (λ q. let less = count_no (λ e. pick e == id && other e == 0) e es q in once_alone pick other m es id all.1 (omega (arith, some, less)))

-- and the other way
alone_from : (pick other : ℕ × ℕ × ℕ → ℕ) (m es : Pairs) → ((id : ℕ) → 1 ≤ with_half_alone pick other id m → with_half pick id m ≤ 1) → ((id : ℕ) → with_half_alone pick other id es ≤ with_half_alone pick other id m) → AreOnce pick other m es
alone_from pick other m [] alone within = tt
alone_from pick other m (e ∷ es) alone within = (
  λ lone.
      let own = eq-eqb (pick e) (pick e) refl in
      let more = count_yes (λ f. pick f == pick e && other f == 0) e es (rw (own, lone) refl) in
      let some = within (pick e) in
      alone (pick e) (omega (arith, more, some)),
  alone_from pick other m es alone (λ id.
      let all = count_cons (λ f. pick f == id && other f == 0) e es in
      let some = within id in
      omega (arith, all, some)),
)

pub alone_once : (pick other : ℕ × ℕ × ℕ → ℕ) (m : Pairs) → ((id : ℕ) → 1 ≤ with_half_alone pick other id m → with_half pick id m ≤ 1) → AreOnce pick other m m
alone_once pick other m alone = alone_from pick other m m alone (λ id. omega arith)

-- where no row is in no entry, each is in some
pub none_left : (pick other : ℕ × ℕ × ℕ → ℕ) → ArePicks pick other → (rows : Rows) (m : Pairs) → length (alone pick m rows) ≡ 0 → AreIn pick rows m
none_left pick other picks rows m none id some =
    by_test (stands pick m id)
    (λ q. stands_counted pick other picks m id q)
    (λ q.
    let here = filter_found (λ i. not (stands pick m i)) rows id (ap not q) in
    let gone : row_of (alone pick m rows) id ≡ None = empty_none (alone pick m rows) id none in
    let lost : false ≡ true = subst (λ (c : Cell). IsSome c) (sym here ∙ gone) some in
    absurd (false≢true lost))
  where
    empty_none : (rows : Rows) (id : ℕ) → length rows ≡ 0 → row_of rows id ≡ None
    empty_none [] id none = refl
    empty_none (r ∷ rs) id none = absurd (omega (arith, none))

-- and the other way
pub all_in : (pick other : ℕ × ℕ × ℕ → ℕ) → ArePicks pick other → (rows : Rows) (m : Pairs) → AreIn pick rows m → length (alone pick m rows) ≡ 0
all_in pick other picks [] m each = refl
all_in pick other picks (r ∷ rs) m each =
    let own = eq-eqb r.0 r.0 refl in
    let here : IsSome (row_of (r ∷ rs) r.0) = rw own refl in
    let there = counted_stands pick other picks m r.0 (each r.0 here) in
    rw there (all_in pick other picks rs m (λ id some. each id (by_test (r.0 == id) (λ q. rw q refl) (λ q. rw q some))))

-- the halves of an entry
pub half_picks : (half : Half) → ArePicks (pick_of half) (other_of half)
half_picks First = first_picks
half_picks Second = second_picks

-- no length but 0
pub is_zero : (n : ℕ) → nat_eq n 0 ≡ true → n ≡ 0
is_zero n h = grind (arith, nat_tests)

pub zero_is : (n : ℕ) → n ≡ 0 → nat_eq n 0 ≡ true
zero_is n h = grind (arith, nat_tests)

-- a part of a row is as wide as its places
wide_head : (w x : ℕ) (c : Cell) (rows : Rows) → CellWide w c → RowsWide w rows → RowsWide w (with_row x c rows)
wide_head w x None rows h wide = wide
wide_head w x (Some row) rows h wide = (h, wide)

wide_from : (w : ℕ) (ids : List ℕ) (f : ℕ → Cell) → ((id : ℕ) → CellWide w (f id)) → RowsWide w (table_from ids f)
wide_from w [] f h = tt
wide_from w (x ∷ xs) f h = wide_head w x (f x) (table_from xs f) (h x) (wide_from w xs f h)

part_wide : (places : List ℕ) (c : Cell) → CellWide (length places) (map_cell (part places) c)
part_wide places None = tt
part_wide places (Some row) = length-pick places row

paired_wide : (pick : ℕ × ℕ × ℕ → ℕ) (places : List ℕ) (r : Rows) (es : Pairs) (id : ℕ) → CellWide (length places) (paired pick places r es id)
paired_wide pick places r [] id = tt
paired_wide pick places r (e ∷ es) id =
    by_test (pick e == id) (λ q. rw q (part_wide places (row_of r e.0))) (λ q. rw q (paired_wide pick places r es id))

-- so a table that is read back is
pub read_wide : (pick : ℕ × ℕ × ℕ → ℕ) (places : List ℕ) (r : Rows) (m : Pairs) → RowsWide (length places) (side_read pick places r m [])
read_wide pick places r m = wide_from (length places) (ids_paired pick m []) (λ id. paired pick places r m id) (λ id. paired_wide pick places r m id)

-- no auxiliary tables
pub no_tables : (tables : List TableState) → length tables ≡ 0 → contents tables ≡ []
no_tables [] none = refl
no_tables (t ∷ ts) none = absurd (omega arith)

-- the target of a source
pub admits_target : (j : Joining) (near aux : Tables) (m : Pairs) (s t : Rows) (far : Tables) → aux ≡ [] → s ≡ table_at 0 near → t ≡ table_at 1 near → PairsRise 0 m → IsOneToOne m → AreOuter s t m
    → far ≡ shown j (table_at 0 near) (table_at 1 near) m ∷ [] → Admits (outer_on j) near aux m (Some far)
admits_target j near aux m s t far none first second rise one outer far_is hs ht fits near_of =
    let is : AreOuter (table_at 0 near) (table_at 1 near) m = subst (λ (rs : Rows). AreOuter (table_at 0 near) rs m) second (subst (λ (rs : Rows). AreOuter rs t m) first outer) in
    let a = with_absent j.first (table_at 0 near) in
    let b = with_absent j.second (table_at 1 near) in
    record {
      pair = record {
        fits = fits;
        related = record {
          joined = record { rises = rise; one = one; there = is.there j.first j.second; rows = ap (table_at 0) far_is };
          none = is.none;
          first = is.first;
          second = is.second;
        };
        source_of = near_of;
        target_of = subst (λ (ts : Tables). AreTablesOf ht ts) (sym far_is) (one_of _ ht _ fits.target (joined_rise j 0 a b m rise) (joined_wide j a b m));
      };
      aux_is = none;
    }

-- none, where the rows and entries don't belong together
outer_is : (j : Joining) (s t r : Rows) (m : Pairs) → IsOuter j s t r m → AreOuter s t m
outer_is j s t r m is = record { there = λ first second. there_any j.first j.second first second s t m is.joined.there; none = is.none; first = is.first; second = is.second }
  where
    some_any : (a b : List ℕ) (rows : Rows) (id : ℕ) → IsSome (row_of (with_absent a rows) id) → IsSome (row_of (with_absent b rows) id)
    some_any a b rows id some = sym (half_is b rows id) ∙ half_is a rows id ∙ some

    there_any : (a b c d : List ℕ) (s t : Rows) (es : Pairs) → AreThere (with_absent a s) (with_absent b t) es → AreThere (with_absent c s) (with_absent d t) es
    there_any a b c d s t [] there = tt
    there_any a b c d s t (e ∷ es) there = ((some_any a c s e.1 there.0.0, some_any b d t e.2 there.0.1), there_any a b c d s t es there.1)

pub refuses_target : (j : Joining) (near aux : Tables) (m : Pairs) (s t : Rows) → s ≡ table_at 0 near → t ≡ table_at 1 near → (AreOuter s t m → ⊥) → Admits (outer_on j) near aux m None
refuses_target j near aux m s t first second none hs ht far belongs =
    let is : IsOuter j (table_at 0 near) (table_at 1 near) (table_at 0 far) m = belongs.pair.related in
    let outer = outer_is j (table_at 0 near) (table_at 1 near) (table_at 0 far) m is in
    none (subst (λ (rs : Rows). AreOuter s rs m) (sym second) (subst (λ (rs : Rows). AreOuter rs (table_at 1 near) m) (sym first) outer))

-- the source of a target
pub admits_source : (j : Joining) (near aux : Tables) (m : Pairs) (r s t : Rows) (far : Tables) → r ≡ table_at 0 near → aux ≡ [] → far ≡ s ∷ t ∷ [] → PairsRise 0 m → IsOneToOne m
    → s ≡ side_read first_of j.first r (with_it first_of m) [] → t ≡ side_read second_of j.second r (with_it second_of m) [] → IsSource j r m s t → Admits (flip (outer_on j)) near aux m (Some far)
admits_source j near aux m r s t far target kept far_is rise one first_is second_is is hs ht fits near_of =
    let source : JoinFits j ht hs = fits in
    let outer = is.outer in
    let first_wide = subst (λ (rs : Rows). RowsWide (length j.first) rs) (sym first_is) (read_wide first_of j.first r (with_it first_of m)) in
    let second_wide = subst (λ (rs : Rows). RowsWide (length j.second) rs) (sym second_is) (read_wide second_of j.second r (with_it second_of m)) in
    let pair : IsPair (flip (outer_on j)) hs ht (record { source = near; target = s ∷ t ∷ []; memory = m }) = record {
      fits = fits;
      related = record {
        joined = record { rises = rise; one = one; there = outer.there j.first j.second; rows = sym target ∙ sym is.rows };
        none = outer.none;
        first = outer.first;
        second = outer.second;
      };
      source_of = near_of;
      target_of = two_of (length j.first) (length j.second) ht s t source.source (rise_more 0 1 s (omega arith) outer.first.rise) first_wide (rise_more 0 1 t (omega arith) outer.second.rise) second_wide;
    } in
    subst (λ (ts : Tables). Belongs (flip (outer_on j)) hs ht aux (record { source = near; target = ts; memory = m })) (sym far_is) (record { pair = pair; aux_is = kept })

-- none, where the source that is read isn't one of the target
pub refuses_source : (j : Joining) (near aux : Tables) (m : Pairs) (r s t : Rows) → r ≡ table_at 0 near → s ≡ side_read first_of j.first r (with_it first_of m) [] → t ≡ side_read second_of j.second r (with_it second_of m) []
    → (IsSource j r m s t → ⊥) → Admits (flip (outer_on j)) near aux m None
refuses_source j near aux m r s t target first_is second_is none hs ht far belongs =
    let fits : JoinFits j ht hs = belongs.pair.fits in
    let a = table_at 0 far in
    let b = table_at 1 far in
    let is : IsOuter j a b (table_at 0 near) m = belongs.pair.related in
    let two = two_tables (length j.first) (length j.second) ht far fits.source belongs.pair.target_of in
    let here : IsOuter j a b r m = subst (λ (rs : Rows). IsOuter j a b rs m) (sym target) is in
    let read = outer_recovered j a b r m fits.places two.first_wide two.second_wide here in
    let s_is : s ≡ a = first_is ∙ read.0 in
    let t_is : t ≡ b = second_is ∙ read.1 in
    let found : IsSource j r m a b = record { outer = outer_is j a b r m here; rows = sym here.joined.rows } in
    none (subst (λ (rs : Rows). IsSource j r m rs t) (sym s_is) (subst (λ (rs : Rows). IsSource j r m a rs) (sym t_is) found))

-- the side that is read back, by the test whether it is one of the target
pub admits_by : (j : Joining) (near aux : Tables) (m : Pairs) (known : Bool) (far : Tables) (found : Option Tables) → aux ≡ [] → far ≡ side_read first_of j.first (table_at 0 near) (with_it first_of m) [] ∷ side_read second_of j.second (table_at 0 near) (with_it second_of m) [] ∷ []
    → PairsRise 0 m → IsOneToOne m → (known ≡ true → IsSource j (table_at 0 near) m (table_at 0 far) (table_at 1 far)) → (IsSource j (table_at 0 near) m (table_at 0 far) (table_at 1 far) → known ≡ true)
    → found ≡ (if known then Some far else None) → Admits (flip (outer_on j)) near aux m found
admits_by j near aux m known far found none far_is rise one is back found_is = subst (λ (o : Option Tables). Admits (flip (outer_on j)) near aux m o) (sym found_is) (by_known known is back)
  where
    first_is : table_at 0 far ≡ side_read first_of j.first (table_at 0 near) (with_it first_of m) []
    first_is = ap (table_at 0) far_is

    second_is : table_at 1 far ≡ side_read second_of j.second (table_at 0 near) (with_it second_of m) []
    second_is = ap (table_at 1) far_is

    two_is : far ≡ table_at 0 far ∷ table_at 1 far ∷ []
    two_is = far_is ∙ sym (ap (λ (ts : Tables). table_at 0 ts ∷ table_at 1 ts ∷ []) far_is)

    by_known : (b : Bool) → (b ≡ true → IsSource j (table_at 0 near) m (table_at 0 far) (table_at 1 far)) → (IsSource j (table_at 0 near) m (table_at 0 far) (table_at 1 far) → b ≡ true) → Admits (flip (outer_on j)) near aux m (if b then Some far else None)
    by_known true is back = admits_source j near aux m (table_at 0 near) (table_at 0 far) (table_at 1 far) far refl none two_is rise one first_is second_is (is refl)
    by_known false is back = refuses_source j near aux m (table_at 0 near) (table_at 0 far) (table_at 1 far) refl first_is second_is (λ it. false≢true (back it))
