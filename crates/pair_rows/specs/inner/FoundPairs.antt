-- Entries whose rows are the parts of joined rows, and the parts of joined rows.
use Rattle.std.proofs.Common.{◌≡◌, ℕ, ◌+◌, ◌<◌, ◌==◌, List, [], ◌∷◌, length, true, false, not, ◌||◌, Some, None, IsSome, refl, ap, sym, ◌∙◌, subst, arith}
use Rattle.std.proofs.lemmas.Bool.{ne_eqb, eq-eqb, or_right}
use Rattle.par_base.specs.declared.value.Value.{Value}
use Rattle.row_store.specs.Rows.{Rows, RiseFrom, row_of}
use Rattle.id_memory.specs.Pairs.{Pairs, RiseFrom as PairsRise, pair_of}
use Rattle.op_law.specs.Tables.{RowsWide}
use Rattle.op_law.specs.Sound.{IsBelow, RowsSound, PairsSound}
use Rattle.op_law.proofs.SoundLaws.{sound_at, wide_at}
use Rattle.op_rows.specs.Cells.{with_row}
use Rattle.row_parts.specs.Places.{pick as part, row_of_both as joined_row, ArePartition}
use Rattle.row_parts.specs.RowCells.{Cell, map_cell, by_test, by_option}
use Rattle.row_parts.specs.inner.PlaceLemmas.{first_join, second_join, join_parts}
use Rattle.pair_rows.specs.inner.Lookups.{filter_found}
use Rattle.pair_rows.specs.Shown.{Joining, join_cells, row_at, joined, AreThere, IsJoined}
use Rattle.pair_rows.specs.Stays.{stands, staying}
use Rattle.pair_rows.specs.inner.ShownLaws.{row_for, joined_found, there_cells}

-- each entry is one of a row, and the rows of its pair are the row's parts
abbrev pub AreFound : Joining → Rows → Rows → Pairs → Rows → Type 0
AreFound j a b [] [] = Unit {0}
AreFound j a b [] (x ∷ xs) = ⊥
AreFound j a b (e ∷ es) [] = ⊥
AreFound j a b (e ∷ es) (x ∷ xs) = ((e.0 ≡ x.0) × (row_of a e.1 ≡ Some (part j.first x.1)) × (row_of b e.2 ≡ Some (part j.second x.1))) × AreFound j a b es xs

-- a row that is there
some_is : (c : Cell) (row : List Value) → c ≡ Some row → IsSome c
some_is c row e = rw e refl

-- so the rows of its pair are there
pub found_there : (j : Joining) (a b : Rows) (es : Pairs) (xs : Rows) → AreFound j a b es xs → AreThere a b es
found_there j a b [] xs found = tt
found_there j a b (e ∷ es) [] found = absurd found
found_there j a b (e ∷ es) (x ∷ xs) found = ((some_is (row_of a e.1) (part j.first x.1) found.0.1, some_is (row_of b e.2) (part j.second x.1) found.0.2), found_there j a b es xs found.1)

-- so the rows are the joined ones
pub found_joined : (j : Joining) → ArePartition j.first j.second → (a b : Rows) (es : Pairs) (xs : Rows) → RowsWide (length j.first + length j.second) xs → AreFound j a b es xs → xs ≡ joined j a b es
found_joined j parts a b [] [] wide found = refl
found_joined j parts a b [] (x ∷ xs) wide found = absurd found
found_joined j parts a b (e ∷ es) [] wide found = absurd found
found_joined j parts a b (e ∷ es) (x ∷ xs) wide found =
    let first = found.0.1 in
    let second = found.0.2 in
    let whole = join_parts j.first j.second parts x.1 wide.0 in
    let row : row_at j a b e.1 e.2 ≡ Some x.1 = rw (first, second) (ap (λ (v : List Value). Some v) whole) in
    let rest = found_joined j parts a b es xs wide.1 found.1 in
    sym (ap (λ (c : Cell). with_row e.0 c (joined j a b es)) row ∙ ap (λ (rows : Rows). (e.0, x.1) ∷ rows) (sym rest) ∙ ap (λ (p : ℕ). (p, x.1) ∷ xs) found.0.0)

-- their identifiers rise as those of the rows, and all is sound
pub found_rises : (j : Joining) (a b : Rows) (k : ℕ) (es : Pairs) (xs : Rows) → RiseFrom k xs → AreFound j a b es xs → PairsRise k es
found_rises j a b k [] xs rise found = tt
found_rises j a b k (e ∷ es) [] rise found = absurd found
found_rises j a b k (e ∷ es) (x ∷ xs) rise found =
    let same = found.0.0 in
    let low = rise.0 in
    let next : x.0 + 1 ≡ e.0 + 1 = omega (arith, same) in
    (omega (arith, same, low), subst (λ (i : ℕ). PairsRise i es) next (found_rises j a b (x.0 + 1) es xs rise.1 found.1))

-- and so are the pairs
pub found_sound : (j : Joining) (a b : Rows) (k : ℕ) (es : Pairs) (xs : Rows) → RowsSound k a → RowsSound k b → RowsSound k xs → AreFound j a b es xs → PairsSound k es
found_sound j a b k [] xs one other sound found = tt
found_sound j a b k (e ∷ es) [] one other sound found = absurd found
found_sound j a b k (e ∷ es) (x ∷ xs) one other sound found = (
  (
    subst (λ (i : ℕ). IsBelow k i) (sym found.0.0) sound.0.0,
    (sound_at k a e.1 (part j.first x.1) one found.0.1).0.1,
    (sound_at k b e.2 (part j.second x.1) other found.0.2).0.1,
  ),
  found_sound j a b k es xs one other sound.1 found.1,
)

-- rows that stand in a pair stay
abbrev pub AllStand : (ℕ × ℕ × ℕ → ℕ) → Pairs → Pairs → Type 0
AllStand pick m [] = Unit {0}
AllStand pick m (e ∷ es) = (stands pick m (pick e) ≡ true) × AllStand pick m es

-- with one entry more
all_stand_more : (pick : ℕ × ℕ × ℕ → ℕ) (e : ℕ × ℕ × ℕ) (m es : Pairs) → AllStand pick m es → AllStand pick (e ∷ m) es
all_stand_more pick e m [] all = tt
all_stand_more pick e m (f ∷ fs) all = (by_test (pick e == pick f) (λ q. rw q refl) (λ q. rw q all.0), all_stand_more pick e m fs all.1)

-- the identifiers of all pairs stand in one
pub all_stand : (pick : ℕ × ℕ × ℕ → ℕ) (m : Pairs) → AllStand pick m m
all_stand pick [] = tt
all_stand pick (e ∷ es) = (let own = eq-eqb (pick e) (pick e) refl in rw own refl, all_stand_more pick e es es (all_stand pick es))

-- a row that stands in a pair is found
stays_found : (pick : ℕ × ℕ × ℕ → ℕ) (old new : Pairs) (rows : Rows) (id : ℕ) → stands pick new id ≡ true → row_of (staying pick old new rows) id ≡ row_of rows id
stays_found pick old new rows id h = filter_found (λ i. not (stands pick old i) || stands pick new i) rows id (or_right (not (stands pick old id)) (stands pick new id) h)

-- so what was found stays
pub found_stays : (j : Joining) (old new : Pairs) (a b : Rows) (es : Pairs) (xs : Rows) → AllStand (λ e. e.1) new es → AllStand (λ e. e.2) new es → AreFound j a b es xs → AreFound j (staying (λ e. e.1) old new a) (staying (λ e. e.2) old new b) es xs
found_stays j old new a b [] [] one other found = tt
found_stays j old new a b [] (x ∷ xs) one other found = absurd found
found_stays j old new a b (e ∷ es) [] one other found = absurd found
found_stays j old new a b (e ∷ es) (x ∷ xs) one other found = (
  (
    found.0.0,
    stays_found (λ e. e.1) old new a e.1 one.0 ∙ found.0.1,
    stays_found (λ e. e.2) old new b e.2 other.0 ∙ found.0.2,
  ),
  found_stays j old new a b es xs one.1 other.1 found.1,
)

-- each entry is that of its identifier
abbrev pub AllPaired : Pairs → Pairs → Type 0
AllPaired es [] = Unit {0}
AllPaired es (f ∷ fs) = (pair_of es f.0 ≡ Some (f.1, f.2)) × AllPaired es fs

-- with one entry more
all_paired_more : (e : ℕ × ℕ × ℕ) (es fs : Pairs) (k : ℕ) → e.0 < k → PairsRise k fs → AllPaired es fs → AllPaired (e ∷ es) fs
all_paired_more e es [] k h rise all = tt
all_paired_more e es (f ∷ fs) k h rise all =
    let low = rise.0 in
    let other = ne_eqb e.0 f.0 (λ q. absurd (omega (arith, q, low, h))) in
    (rw other all.0, all_paired_more e es fs (f.0 + 1) (omega (arith, h, low)) rise.1 all.1)

-- each entry is found by its identifier
pub all_paired : (k : ℕ) (es : Pairs) → PairsRise k es → AllPaired es es
all_paired k [] rise = tt
all_paired k (e ∷ es) rise = (let own = eq-eqb e.0 e.0 refl in rw own refl, all_paired_more e es es (e.0 + 1) (omega arith) rise.1 (all_paired (e.0 + 1) es rise.1))

-- a joined row from its cells
join_some : (j : Joining) → ArePartition j.first j.second → (c d : Cell) (o : List Value) → ((a : List Value) → c ≡ Some a → length a ≡ length j.first) → ((b : List Value) → d ≡ Some b → length b ≡ length j.second) → join_cells j c d ≡ Some o → (c ≡ Some (part j.first o)) × (d ≡ Some (part j.second o))
join_some j parts (Some a) (Some b) o wide other_wide e =
    let row : joined_row j.first j.second a b ≡ o = cc in
    let first = first_join j.first j.second parts a b (wide a refl) (other_wide b refl) in
    let second = second_join j.first j.second parts a b (wide a refl) (other_wide b refl) in
    (ap (λ (v : List Value). Some v) (sym first ∙ ap (part j.first) row), ap (λ (v : List Value). Some v) (sym second ∙ ap (part j.second) row))
join_some j parts (Some a) None o wide other_wide e = absurd (cc)
join_some j parts None d o wide other_wide e = absurd (cc)

-- the source, target and memory
module _ (j : Joining) (parts : ArePartition j.first j.second) (s t r : Rows) (m : Pairs) (is : IsJoined j s t r m) (wide : RowsWide (length j.first) s) (other_wide : RowsWide (length j.second) t) where
  -- the rows of an old pair are the parts of the old row
  pub old_pair : (p : ℕ) (o : List Value) (pair : ℕ × ℕ) → row_of r p ≡ Some o → pair_of m p ≡ Some pair → (row_of s pair.0 ≡ Some (part j.first o)) × (row_of t pair.1 ≡ Some (part j.second o))
  old_pair p o pair at has_it =
      let found : row_of r p ≡ row_for j s t (pair_of m p) = ap (λ (rows : Rows). row_of rows p) is.rows ∙ joined_found j s t m p is.there in
      let row : row_at j s t pair.0 pair.1 ≡ Some o = sym (ap (row_for j s t) has_it) ∙ sym found ∙ at in
      join_some j parts (row_of s pair.0) (row_of t pair.1) o (λ a e. wide_at (length j.first) s pair.0 a wide e) (λ b e. wide_at (length j.second) t pair.1 b other_wide e) row

-- the part of the joined row of an entry is the row of its pair
abbrev pub PartsFound : Joining → Rows → Rows → Rows → Pairs → Type 0
PartsFound j s t r [] = Unit {0}
PartsFound j s t r (e ∷ es) = ((map_cell (part j.first) (row_of r e.0) ≡ row_of s e.1) × (map_cell (part j.second) (row_of r e.0) ≡ row_of t e.2)) × PartsFound j s t r es

module _ (j : Joining) (parts : ArePartition j.first j.second) (s t r : Rows) (m : Pairs) (is : IsJoined j s t r m) (wide : RowsWide (length j.first) s) (other_wide : RowsWide (length j.second) t) where
  -- the parts of some entries
  parts_from : (es : Pairs) → AllPaired m es → AreThere s t es → PartsFound j s t r es
  parts_from [] paired there = tt
  parts_from (e ∷ es) paired there =
      let found : row_of r e.0 ≡ row_at j s t e.1 e.2 = ap (λ (rows : Rows). row_of rows e.0) is.rows ∙ joined_found j s t m e.0 is.there ∙ ap (row_for j s t) paired.0 in
      let some : IsSome (row_of r e.0) = subst (λ (c : Cell). IsSome c) (sym found) (there_cells j (row_of s e.1) (row_of t e.2) there.0.0 there.0.1) in (
        by_option (row_of r e.0)
            (λ q. let none : false ≡ true = rw q at some in absurd (cc))
            (λ o q.
            let both = old_pair j parts s t r m is wide other_wide e.0 o (e.1, e.2) q paired.0 in
            rw q (sym both.0, sym both.1)),
        parts_from es paired.1 there.1,
      )

  -- the parts of all entries
  pub parts_found : PartsFound j s t r m
  parts_found = parts_from m (all_paired 0 m is.rises) is.there
