-- The entries that a new source shows, of a part and of the whole.
use Rattle.std.proofs.Common.{◌≡◌, ℕ, ◌==◌, ◌⊎◌, filter, Bool, true, false, not, ◌&&◌, ◌||◌, Some, IsSome, is_some, refl, ap, sym, ◌∙◌, subst}
use Rattle.std.proofs.lemmas.Bool.{and_parts, eqb-true, false≢true, not-true}
use mathlib.Core.Logic.{inl, inr}
use Rattle.row_store.specs.Rows.{Rows, RiseFrom, row_of}
use Rattle.id_memory.specs.Pairs.{Pairs, pair_of}
use Rattle.op_law.specs.Local.{rows_only}
use Rattle.op_law.proofs.OnlyLaws.{row_in}
use Rattle.row_parts.specs.RowCells.{Cell, by_test}
use Rattle.pair_rows.specs.Halves.{first_of, second_of}
use Rattle.pair_rows.specs.Shown.{Joining, has, is_shown, row_at}
use Rattle.pair_rows.specs.inner.PairLemmas.{all_in}
use Rattle.pair_rows.specs.inner.ShownLaws.{there_cells}
use Rattle.outer_law.specs.Entries.{IsOuter, is_alone, some_row, with_absent}
use Rattle.pair_parts.specs.Parts.{memory_only}
use Rattle.cond_parts.specs.Forward.{BringsShown}
use Rattle.cond_parts.proofs.FilterLemmas.{in_whole}
use Rattle.cond_parts.proofs.MatchLemmas.{cells_part, has_same, new_inside, none_new, row_same, shown_alike, shown_by, still}
use Rattle.cond_parts.proofs.MemoryLemmas.{Each, each_both, each_map, each_of, each_there, pair_in}
use Rattle.outer_parts.specs.Closed.{BringsOther}
use Rattle.outer_parts.proofs.AbsentLemmas.{Found, from_one, real_there, some_part}
use Rattle.outer_parts.proofs.EntryLemmas.{HasHalf, alone_is_one, each_test, entry_has, entry_stands, half_of, has_whole, pair_entry}

-- what is shown and isn't new was there
was_there : (u h : Bool) → (u && not h) ≡ false → u ≡ true → h ≡ true
was_there true true e q = refl
was_there true false e q = absurd (false≢true (sym e))
was_there false h e q = absurd (false≢true q)

-- neither is so
pub neither : (a b : Bool) → (a || b) ≡ false → (a ≡ false) × (b ≡ false)
neither true b e = absurd (false≢true (sym e))
neither false b e = (refl, e)

module _ (j : Joining) (C P : ℕ → Bool) (s t r : Rows) (m : Pairs) (ns nt : Rows) (is : IsOuter j s t r m)
    (in_part_of : (q : ℕ) → C q ≡ true → P q ≡ true) (same_s : (q : ℕ) → C q ≡ false → row_of ns q ≡ row_of s q) (same_t : (q : ℕ) → C q ≡ false → row_of nt q ≡ row_of t q)
    (c : BringsShown j C P m ns nt) (first : BringsOther C P first_of m) (second : BringsOther C P second_of m) (rise_s : RiseFrom 1 ns) (rise_t : RiseFrom 1 nt) where
  -- what is shown of full pairs, of the whole and of the part
  abbrev pub whole : ℕ → ℕ → Bool
  whole a b = is_shown j s t m ns nt a b

  abbrev pub small : ℕ → ℕ → Bool
  small a b = is_shown j (rows_only P s) (rows_only P t) (memory_only P m) (rows_only P ns) (rows_only P nt) a b

  -- what is known of an entry of the memory
  pub record IsKnown (e : ℕ × ℕ × ℕ) : Type 0 where
    pub at : pair_of m e.0 ≡ Some (e.1, e.2)
    pub first_there : IsSome (row_of (with_absent j.first s) e.1)
    pub second_there : IsSome (row_of (with_absent j.second t) e.2)
    pub was : has m e.1 e.2 ≡ true

  pub found : Each (λ e. pair_of m e.0 ≡ Some (e.1, e.2)) m
  found = each_of (λ e. pair_of m e.0 ≡ Some (e.1, e.2)) m is.joined.rises (λ e at. at)

  pub known : Each IsKnown m
  known =
      each_map (λ e. (pair_of m e.0 ≡ Some (e.1, e.2)) × ((IsSome (row_of (with_absent j.first s) e.1) × IsSome (row_of (with_absent j.second t) e.2)) × (has m e.1 e.2 ≡ true))) IsKnown m
      (λ e all. record { at = all.0; first_there = all.1.0.0; second_there = all.1.0.1; was = all.1.1 })
      (each_both _ _ m found (each_both _ _ m (each_there (with_absent j.first s) (with_absent j.second t) m is.joined.there) (in_whole m m (all_in m))))

  -- the entry of a part
  part_has : (id a b : ℕ) → pair_of m id ≡ Some (a, b) → P id ≡ true → has (memory_only P m) a b ≡ true
  part_has id a b at pass = entry_has (memory_only P m) id a b (pair_in P m id pass ∙ at)

  -- a full entry of which no half is changed is shown
  full_still : (e : ℕ × ℕ × ℕ) → IsKnown e → (e.1 == 0) ≡ false → (e.2 == 0) ≡ false → IsSome (row_at j s t e.1 e.2)
  full_still e k one other = there_cells j (row_of s e.1) (row_of t e.2) (real_there j.first s e.1 one k.first_there) (real_there j.second t e.2 other k.second_there)

  pub shown_still : (e : ℕ × ℕ × ℕ) → IsKnown e → (C e.1 || C e.2) ≡ false → (e.1 == 0) ≡ false → (e.2 == 0) ≡ false → whole e.1 e.2 ≡ true
  shown_still e k u one other = still j C P s t m ns nt is.joined.rises in_part_of same_s same_t c e.1 e.2 (has m e.1 e.2) u k.was (full_still e k one other)

  -- in the part too, where it passes
  small_still : (e : ℕ × ℕ × ℕ) → IsKnown e → P e.0 ≡ true → (C e.1 || C e.2) ≡ false → (e.1 == 0) ≡ false → (e.2 == 0) ≡ false → small e.1 e.2 ≡ true
  small_still e k pass u one other =
      let both = c.rows e.0 e.1 e.2 k.at pass in
      cells_part j C P s t m ns nt is.joined.rises in_part_of same_s same_t c e.1 e.2 both.0 both.1
      ∙ still j C P s t m ns nt is.joined.rises in_part_of same_s same_t c e.1 e.2 (has (memory_only P m) e.1 e.2) u (part_has e.0 e.1 e.2 k.at pass) (full_still e k one other)

  -- a pair of which none is changed has its old row, where it is shown
  old_there : (a b : ℕ) (was : Bool) → (C a || C b) ≡ false → shown_by j (row_at j ns nt a b) (row_at j s t a b) was ≡ true → IsSome (row_at j s t a b)
  old_there a b was u e =
      let there = (and_parts (is_some (row_at j ns nt a b)) _ e).0 in
      subst (λ (x : Cell). IsSome x) (row_same j C P s t m ns nt is.joined.rises in_part_of same_s same_t c a b u) there

  -- a pair that the part shows the whole shows
  back : (a b : ℕ) → P a ≡ true → P b ≡ true → small a b ≡ true → whole a b ≡ true
  back a b one other e =
      by_test (C a || C b)
      (λ u. sym (shown_alike j C P s t m ns nt is.joined.rises in_part_of same_s same_t c a b one other (has_same j C P s t m ns nt is.joined.rises in_part_of same_s same_t c a b u)) ∙ e)
      (λ u.
      let was = has (memory_only P m) a b in
      let shown = sym (cells_part j C P s t m ns nt is.joined.rises in_part_of same_s same_t c a b one other) ∙ e in
      let had = was_there (shown_by j (row_at j ns nt a b) (row_at j s t a b) was) was (none_new j C P s t m ns nt is.joined.rises in_part_of same_s same_t c a b was u) shown in
      still j C P s t m ns nt is.joined.rises in_part_of same_s same_t c a b (has m a b) u (has_whole P m a b had) (old_there a b was u shown))

  -- a pair that the whole shows is shown by the part, or has an entry outside of which none is changed
  pub record Inside (a b : ℕ) : Type 0 where
    pub one : P a ≡ true
    pub other : P b ≡ true
    pub shown : small a b ≡ true

  pub record Outside (a b : ℕ) : Type 0 where
    pub id : ℕ
    pub at : pair_of m id ≡ Some (a, b)
    pub out : P id ≡ false

  pub forth : (a b : ℕ) → whole a b ≡ true → Inside a b ⊎ Outside a b
  forth a b e =
      by_test (C a || C b)
      (λ u.
      let was = has_same j C P s t m ns nt is.joined.rises in_part_of same_s same_t c a b u in
      let both : (P a ≡ true) × (P b ≡ true) =
      by_test (has m a b)
      (λ h. let p = pair_entry m m a b found h in c.rows p.id a b p.at (c.entries p.id a b p.at u))
      (λ h. new_inside j C P s t m ns nt is.joined.rises in_part_of same_s same_t c a b (ap (λ (x : Bool). x && not (has m a b)) e ∙ ap not h)) in
      inl (record { one = both.0; other = both.1; shown = shown_alike j C P s t m ns nt is.joined.rises in_part_of same_s same_t c a b both.0 both.1 was ∙ e }))
      (λ u.
      let had = was_there (whole a b) (has m a b) (none_new j C P s t m ns nt is.joined.rises in_part_of same_s same_t c a b (has m a b) u) e in
      let p = pair_entry m m a b found had in
      by_test (P p.id)
      (λ v.
      let both = c.rows p.id a b p.at v in
      inl (record {
        one = both.0;
        other = both.1;
        shown = cells_part j C P s t m ns nt is.joined.rises in_part_of same_s same_t c a b both.0 both.1
            ∙ still j C P s t m ns nt is.joined.rises in_part_of same_s same_t c a b (has (memory_only P m) a b) u (part_has p.id a b p.at v) (old_there a b (has m a b) u e);
      }))
      (λ v. inr (record { id = p.id; at = p.at; out = v })))

  -- an entry that passes and of which no half is changed
  abbrev pub Other : ℕ × ℕ × ℕ → Type 0
  Other e = IsKnown e × ((P e.0 && not (C e.1 || C e.2)) ≡ true)

  -- a row that passes and has an entry outside has another inside
  pub other_first : (id a b : ℕ) → (a == 0) ≡ false → P a ≡ true → pair_of m id ≡ Some (a, b) → P id ≡ false → HasHalf Other first_of a
  other_first id a b one pass at out =
      half_of Other first_of (filter (λ e. P e.0 && not (C e.1 || C e.2)) m) a (each_test IsKnown (λ e. P e.0 && not (C e.1 || C e.2)) m known)
      (first a (from_one a one) pass (entry_stands (λ i. not (P i)) first_of m id a b at (ap not out)))

  pub other_second : (id a b : ℕ) → (b == 0) ≡ false → P b ≡ true → pair_of m id ≡ Some (a, b) → P id ≡ false → HasHalf Other second_of b
  other_second id a b one pass at out =
      half_of Other second_of (filter (λ e. P e.0 && not (C e.1 || C e.2)) m) b (each_test IsKnown (λ e. P e.0 && not (C e.1 || C e.2)) m known)
      (second b (from_one b one) pass (entry_stands (λ i. not (P i)) second_of m id a b at (ap not out)))

  -- so an entry of it alone passes
  pub first_passes : (id a : ℕ) → (a == 0) ≡ false → P a ≡ true → pair_of m id ≡ Some (a, 0) → P id ≡ true
  first_passes id a one pass at =
      by_test (P id)
      (λ u. u)
      (λ u.
      let w = other_first id a 0 one pass at u in
      let same = alone_is_one first_of second_of m (id, a, 0) w.entry (is.first.alone a) at w.holds.0.at w.half refl in
      let own = (and_parts (P w.entry.0) _ w.holds.1).0 in
      ap P same ∙ own)

  pub second_passes : (id b : ℕ) → (b == 0) ≡ false → P b ≡ true → pair_of m id ≡ Some (0, b) → P id ≡ true
  second_passes id b one pass at =
      by_test (P id)
      (λ u. u)
      (λ u.
      let w = other_second id 0 b one pass at u in
      let same = alone_is_one second_of first_of m (id, 0, b) w.entry (is.second.alone b) at w.holds.0.at w.half refl in
      let own = (and_parts (P w.entry.0) _ w.holds.1).0 in
      ap P same ∙ own)

  -- a row of T with which a row that passes is shown is found in the part
  forth_first : (a b : ℕ) → (a == 0) ≡ false → P a ≡ true → IsSome (row_of nt b) → whole a b ≡ true → Found (λ b. small a b) (rows_only P nt)
  forth_first a b one pass there e =
      elim (forth a b e) [
        | inl x ↦ record { id = b; there = subst (λ (k : Cell). IsSome k) (sym (row_in P nt b x.other)) there; holds = x.shown }
        | inr o ↦
            let w = other_first o.id a b one pass o.at o.out in
            let k = w.holds.0 in
            let parts = and_parts (P w.entry.0) (not (C w.entry.1 || C w.entry.2)) w.holds.1 in
            let unchanged = not-true (C w.entry.1 || C w.entry.2) parts.1 in
            let own : (w.entry.1 == 0) ≡ false = ap (λ (i : ℕ). i == 0) w.half ∙ one in
            let both = c.rows w.entry.0 w.entry.1 w.entry.2 k.at parts.0 in
            by_test (w.entry.2 == 0)
            (λ z.
            let same = alone_is_one first_of second_of m w.entry (o.id, a, b) (is.first.alone w.entry.1) k.at o.at (sym w.half) (eqb-true w.entry.2 0 z) in
            absurd (false≢true (sym o.out ∙ sym (ap P same) ∙ parts.0)))
            (λ z.
            let old = real_there j.second t w.entry.2 z k.second_there in
            let now = subst (λ (x : Cell). IsSome x) (sym (row_in P nt w.entry.2 both.1 ∙ same_t w.entry.2 (neither (C w.entry.1) (C w.entry.2) unchanged).1)) old in
            record { id = w.entry.2; there = now; holds = sym (ap (λ (i : ℕ). small i w.entry.2) w.half) ∙ small_still w.entry k parts.0 unchanged own z })
      ]

  forth_second : (a b : ℕ) → (b == 0) ≡ false → P b ≡ true → IsSome (row_of ns a) → whole a b ≡ true → Found (λ a. small a b) (rows_only P ns)
  forth_second a b one pass there e =
      elim (forth a b e) [
        | inl x ↦ record { id = a; there = subst (λ (k : Cell). IsSome k) (sym (row_in P ns a x.one)) there; holds = x.shown }
        | inr o ↦
            let w = other_second o.id a b one pass o.at o.out in
            let k = w.holds.0 in
            let parts = and_parts (P w.entry.0) (not (C w.entry.1 || C w.entry.2)) w.holds.1 in
            let unchanged = not-true (C w.entry.1 || C w.entry.2) parts.1 in
            let own : (w.entry.2 == 0) ≡ false = ap (λ (i : ℕ). i == 0) w.half ∙ one in
            let both = c.rows w.entry.0 w.entry.1 w.entry.2 k.at parts.0 in
            by_test (w.entry.1 == 0)
            (λ z.
            let same = alone_is_one second_of first_of m w.entry (o.id, a, b) (is.second.alone w.entry.2) k.at o.at (sym w.half) (eqb-true w.entry.1 0 z) in
            absurd (false≢true (sym o.out ∙ sym (ap P same) ∙ parts.0)))
            (λ z.
            let old = real_there j.first s w.entry.1 z k.first_there in
            let now = subst (λ (x : Cell). IsSome x) (sym (row_in P ns w.entry.1 both.0 ∙ same_s w.entry.1 (neither (C w.entry.1) (C w.entry.2) unchanged).0)) old in
            record { id = w.entry.1; there = now; holds = sym (ap (λ (i : ℕ). small w.entry.1 i) w.half) ∙ small_still w.entry k parts.0 unchanged z own })
      ]

  -- A ROW THAT PASSES IS ALONE IN THE PART WHERE IT IS ALONE IN THE WHOLE
  pub alone_first : (a : ℕ) → (a == 0) ≡ false → P a ≡ true → is_alone (rows_only P ns) (λ b. small a b) (rows_only P nt) a ≡ is_alone ns (λ b. whole a b) nt a
  alone_first a one pass =
      ap (λ (x : Cell). is_some x && not (some_row (λ b. small a b) (rows_only P nt))) (row_in P ns a pass)
      ∙ ap (λ (u : Bool). is_some (row_of ns a) && not u) (some_part P (λ b. whole a b) (λ b. small a b) nt (λ b other there e. back a b pass other e) (λ b there e. forth_first a b one pass there e))

  pub alone_second : (b : ℕ) → (b == 0) ≡ false → P b ≡ true → is_alone (rows_only P nt) (λ a. small a b) (rows_only P ns) b ≡ is_alone nt (λ a. whole a b) ns b
  alone_second b one pass =
      ap (λ (x : Cell). is_some x && not (some_row (λ a. small a b) (rows_only P ns))) (row_in P nt b pass)
      ∙ ap (λ (u : Bool). is_some (row_of nt b) && not u) (some_part P (λ a. whole a b) (λ a. small a b) ns (λ a other there e. back a b other pass e) (λ a there e. forth_second a b one pass there e))
