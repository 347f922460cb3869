-- The new memory and the new target of a part.
use Rattle.std.proofs.Common.{◌≡◌, ℕ, ◌+◌, ◌≤◌, ◌==◌, List, [], ◌∷◌, ◌++◌, filter, Bool, true, false, not, ◌&&◌, ◌||◌, Option, Some, IsSome, is_some, refl, ap, sym, ◌∙◌, subst, arith}
use Rattle.std.proofs.lemmas.Bool.{and_parts, eq-eqb, eqb-true, false≢true}
use mathlib.Core.Logic.{inl, inr}
use Rattle.row_store.specs.Rows.{Rows, RiseFrom, row_of}
use Rattle.id_memory.specs.Pairs.{Pairs, has_pair, pair_of}
use Rattle.op_law.specs.Local.{rows_only}
use Rattle.row_parts.specs.RowCells.{Cell, by_test}
use Rattle.pair_rows.specs.Halves.{first_of, second_of}
use Rattle.pair_rows.specs.Shown.{Joining, all_pairs, has, is_shown, join_cells, joined, numbered, row_at}
use Rattle.pair_rows.specs.inner.Lookups.{filter_append}
use Rattle.outer_law.specs.Entries.{IsOuter, entries, is_alone, is_entry, new_entries, some_row, with_absent}
use Rattle.outer_law.specs.OuterOn.{shown}
use Rattle.pair_parts.specs.Parts.{memory_only}
use Rattle.cond_parts.specs.Forward.{BringsShown}
use Rattle.cond_parts.proofs.FilterLemmas.{each_append, each_filter, filter_part, filter_rest, has_part, numbered_part, numbered_rest, pairs_part}
use Rattle.cond_parts.proofs.JoinedLemmas.{joined_memory, joined_part, joined_same}
use Rattle.cond_parts.proofs.MatchLemmas.{new_alike, new_inside, shown_alike}
use Rattle.cond_parts.proofs.MemoryLemmas.{Brings, Each, each_brings, each_map, each_rest, pair_in}
use Rattle.outer_parts.specs.Closed.{BringsOther}
use Rattle.outer_parts.proofs.AbsentLemmas.{absent_same, not_zero, real_there, row_from, some_found, some_is}
use Rattle.outer_parts.proofs.EntryLemmas.{alone_is_one, count_entry, count_stands, entry_has, half_of}
use Rattle.outer_parts.proofs.PartLaws.{absent_only}
use Rattle.outer_parts.proofs.ShownLemmas.{IsKnown, alone_first, alone_second, first_passes, forth, known, neither, second_passes, shown_still}

module _ (j : Joining) (C P : ℕ → Bool) (s t r : Rows) (m : Pairs) (ns nt : Rows) (is : IsOuter j s t r m)
    (in_part_of : (q : ℕ) → C q ≡ true → P q ≡ true) (same_s : (q : ℕ) → C q ≡ false → row_of ns q ≡ row_of s q) (same_t : (q : ℕ) → C q ≡ false → row_of nt q ≡ row_of t q)
    (c : BringsShown j C P m ns nt) (first : BringsOther C P first_of m) (second : BringsOther C P second_of m) (rise_s : RiseFrom 1 ns) (rise_t : RiseFrom 1 nt) where
  -- the entries of the whole, and of the part
  abbrev big : ℕ → ℕ → Bool
  big a b = is_entry j s t m ns nt a b

  abbrev part : ℕ → ℕ → Bool
  part a b = is_entry j (rows_only P s) (rows_only P t) (memory_only P m) (rows_only P ns) (rows_only P nt) a b

  -- what is known of each entry
  abbrev Knows : ℕ × ℕ × ℕ → Type 0
  Knows e = IsKnown j C P s t r m ns nt is in_part_of same_s same_t c first second rise_s rise_t e

  all_known : Each Knows m
  all_known = known j C P s t r m ns nt is in_part_of same_s same_t c first second rise_s rise_t

  -- an entry is one of four kinds
  lone_first : (a b : ℕ) → (a == 0) ≡ false → (b == 0) ≡ true → P a ≡ true → part a b ≡ big a b
  lone_first a b one other pass =
      let same = alone_first j C P s t r m ns nt is in_part_of same_s same_t c first second rise_s rise_t a one pass in
      rw (one, other) same

  lone_second : (a b : ℕ) → (a == 0) ≡ true → (b == 0) ≡ false → P b ≡ true → part a b ≡ big a b
  lone_second a b one other pass =
      let same = alone_second j C P s t r m ns nt is in_part_of same_s same_t c first second rise_s rise_t b other pass in
      rw (one, other) same

  neither_half : (a b : ℕ) → (a == 0) ≡ true → (b == 0) ≡ true → part a b ≡ big a b
  neither_half a b one other = rw (one, other) refl

  -- what the memory has of an entry alone
  has_first : (a b : ℕ) → (a == 0) ≡ false → (b == 0) ≡ true → P a ≡ true → has (memory_only P m) a b ≡ has m a b
  has_first a b one other pass =
      has_part P a b m (each_map Knows (λ e. has_pair a b e ≡ true → P e.0 ≡ true) m
      (λ e k pair.
      let parts = and_parts (e.1 == a) (e.2 == b) pair in
      let here : pair_of m e.0 ≡ Some (a, 0) = k.at ∙ ap (λ (i : ℕ). Some (i, e.2)) (eqb-true e.1 a parts.0) ∙ ap (λ (i : ℕ). Some (a, i)) (eqb-true e.2 b parts.1 ∙ eqb-true b 0 other) in
      first_passes j C P s t r m ns nt is in_part_of same_s same_t c first second rise_s rise_t e.0 a one pass here)
      all_known)

  has_second : (a b : ℕ) → (a == 0) ≡ true → (b == 0) ≡ false → P b ≡ true → has (memory_only P m) a b ≡ has m a b
  has_second a b one other pass =
      has_part P a b m (each_map Knows (λ e. has_pair a b e ≡ true → P e.0 ≡ true) m
      (λ e k pair.
      let parts = and_parts (e.1 == a) (e.2 == b) pair in
      let here : pair_of m e.0 ≡ Some (0, b) = k.at ∙ ap (λ (i : ℕ). Some (i, e.2)) (eqb-true e.1 a parts.0 ∙ eqb-true a 0 one) ∙ ap (λ (i : ℕ). Some (0, i)) (eqb-true e.2 b parts.1) in
      second_passes j C P s t r m ns nt is in_part_of same_s same_t c first second rise_s rise_t e.0 b other pass here)
      all_known)

  -- a pair of the part is new where it is new in the whole
  alike : (a b : ℕ) → P a ≡ true → P b ≡ true → (part a b && not (has (memory_only P m) a b)) ≡ (big a b && not (has m a b))
  alike a b pass other_pass =
      by_test (a == 0)
      (λ u.
      by_test (b == 0)
      (λ v. rw (u, v) refl)
      (λ v. ap (λ (x : Bool). x && not (has (memory_only P m) a b)) (lone_second a b u v other_pass) ∙ ap (λ (x : Bool). big a b && not x) (has_second a b u v other_pass)))
      (λ u.
      by_test (b == 0)
      (λ v. ap (λ (x : Bool). x && not (has (memory_only P m) a b)) (lone_first a b u v pass) ∙ ap (λ (x : Bool). big a b && not x) (has_first a b u v pass))
      (λ v. let same = new_alike j C P s t m ns nt is.joined.rises in_part_of same_s same_t c a b pass other_pass in rw (u, v) same))

  -- a row that doesn't pass isn't changed
  not_changed : (q : ℕ) → P q ≡ false → C q ≡ false
  not_changed q out = by_test (C q) (λ u. let pass = in_part_of q u in absurd (false≢true (sym out ∙ pass))) (λ u. u)

  -- none of an entry that doesn't pass is changed
  unchanged : (e : ℕ × ℕ × ℕ) → Knows e → P e.0 ≡ false → (C e.1 || C e.2) ≡ false
  unchanged e k out = by_test (C e.1 || C e.2) (λ u. let pass = c.entries e.0 e.1 e.2 k.at u in absurd (false≢true (sym out ∙ pass))) (λ u. u)

  -- a row that doesn't pass stands in entries that don't
  out_first : (e : ℕ × ℕ × ℕ) (a : ℕ) → Knows e → e.1 ≡ a → P a ≡ false → P e.0 ≡ false
  out_first e a k half out = by_test (P e.0) (λ u. let both = c.rows e.0 e.1 e.2 k.at u in absurd (false≢true (sym out ∙ sym (ap P half) ∙ both.0))) (λ u. u)

  out_second : (e : ℕ × ℕ × ℕ) (b : ℕ) → Knows e → e.2 ≡ b → P b ≡ false → P e.0 ≡ false
  out_second e b k half out = by_test (P e.0) (λ u. let both = c.rows e.0 e.1 e.2 k.at u in absurd (false≢true (sym out ∙ sym (ap P half) ∙ both.1))) (λ u. u)

  -- a row alone that has no such entry passes
  new_first : (a b : ℕ) → (a == 0) ≡ false → (b == 0) ≡ true → is_alone ns (λ b. is_shown j s t m ns nt a b) nt a ≡ true → has m a b ≡ false → P a ≡ true
  new_first a b one other e none =
      by_test (P a)
      (λ u. u)
      (λ u.
      let parts = and_parts (is_some (row_of ns a)) (not (some_row (λ b. is_shown j s t m ns nt a b) nt)) e in
      let old : IsSome (row_of s a) = subst (λ (x : Cell). IsSome x) (same_s a (not_changed a u)) parts.0 in
      let w = half_of Knows first_of m a all_known (count_stands first_of m a (is.first.each a old)) in
      let k = w.holds in
      let out = out_first w.entry a k w.half u in
      let still = unchanged w.entry k out in
      by_test (w.entry.2 == 0)
      (λ z.
      let here : pair_of m w.entry.0 ≡ Some (a, b) = k.at ∙ ap (λ (i : ℕ). Some (i, w.entry.2)) w.half ∙ ap (λ (i : ℕ). Some (a, i)) (eqb-true w.entry.2 0 z ∙ sym (eqb-true b 0 other)) in
      absurd (false≢true (sym none ∙ entry_has m w.entry.0 a b here)))
      (λ z.
      let own : (w.entry.1 == 0) ≡ false = ap (λ (i : ℕ). i == 0) w.half ∙ one in
      let shows = sym (ap (λ (i : ℕ). is_shown j s t m ns nt i w.entry.2) w.half) ∙ shown_still j C P s t r m ns nt is in_part_of same_s same_t c first second rise_s rise_t w.entry k still own z in
      let there = subst (λ (x : Cell). IsSome x) (sym (same_t w.entry.2 (neither (C w.entry.1) (C w.entry.2) still).1)) (real_there j.second t w.entry.2 z k.second_there) in
      let some = some_found (λ b. is_shown j s t m ns nt a b) nt w.entry.2 there shows in
      absurd (false≢true (ap not (sym some) ∙ parts.1))))

  new_second : (a b : ℕ) → (a == 0) ≡ true → (b == 0) ≡ false → is_alone nt (λ a. is_shown j s t m ns nt a b) ns b ≡ true → has m a b ≡ false → P b ≡ true
  new_second a b one other e none =
      by_test (P b)
      (λ u. u)
      (λ u.
      let parts = and_parts (is_some (row_of nt b)) (not (some_row (λ a. is_shown j s t m ns nt a b) ns)) e in
      let old : IsSome (row_of t b) = subst (λ (x : Cell). IsSome x) (same_t b (not_changed b u)) parts.0 in
      let w = half_of Knows second_of m b all_known (count_stands second_of m b (is.second.each b old)) in
      let k = w.holds in
      let out = out_second w.entry b k w.half u in
      let still = unchanged w.entry k out in
      by_test (w.entry.1 == 0)
      (λ z.
      let here : pair_of m w.entry.0 ≡ Some (a, b) = k.at ∙ ap (λ (i : ℕ). Some (i, w.entry.2)) (eqb-true w.entry.1 0 z ∙ sym (eqb-true a 0 one)) ∙ ap (λ (i : ℕ). Some (a, i)) w.half in
      absurd (false≢true (sym none ∙ entry_has m w.entry.0 a b here)))
      (λ z.
      let own : (w.entry.2 == 0) ≡ false = ap (λ (i : ℕ). i == 0) w.half ∙ other in
      let shows = sym (ap (λ (i : ℕ). is_shown j s t m ns nt w.entry.1 i) w.half) ∙ shown_still j C P s t r m ns nt is in_part_of same_s same_t c first second rise_s rise_t w.entry k still z own in
      let there = subst (λ (x : Cell). IsSome x) (sym (same_s w.entry.1 (neither (C w.entry.1) (C w.entry.2) still).0)) (real_there j.first s w.entry.1 z k.first_there) in
      let some = some_found (λ a. is_shown j s t m ns nt a b) ns w.entry.1 there shows in
      absurd (false≢true (ap not (sym some) ∙ parts.1))))

  -- not, where it is so
  no_more : (h : Bool) → not h ≡ true → h ≡ false
  no_more true e = absurd (false≢true e)
  no_more false e = refl

  -- a new pair is one of halves that pass
  inside : P 0 ≡ true → (a b : ℕ) → (big a b && not (has m a b)) ≡ true → (P a ≡ true) × (P b ≡ true)
  inside zero a b e =
      let none = no_more (has m a b) (and_parts (big a b) (not (has m a b)) e).1 in
      let is_big = (and_parts (big a b) (not (has m a b)) e).0 in
      by_test (a == 0)
      (λ u.
      let absent = ap P (eqb-true a 0 u) ∙ zero in
      by_test (b == 0)
      (λ v. let bad : false ≡ true = rw (u, v) at is_big in absurd (false≢true bad))
      (λ v. let alone : is_alone nt (λ a. is_shown j s t m ns nt a b) ns b ≡ true = rw (u, v) at is_big in (absent, new_second a b u v alone none)))
      (λ u.
      by_test (b == 0)
      (λ v. let alone : is_alone ns (λ b. is_shown j s t m ns nt a b) nt a ≡ true = rw (u, v) at is_big in (new_first a b u v alone none, ap P (eqb-true b 0 v) ∙ zero))
      (λ v. let full : (is_shown j s t m ns nt a b && not (has m a b)) ≡ true = rw (u, v) at e in new_inside j C P s t m ns nt is.joined.rises in_part_of same_s same_t c a b full))

  -- an entry that passes is kept in the part where it is kept in the whole
  kept_alike : Each (λ e. P e.0 ≡ true → part e.1 e.2 ≡ big e.1 e.2) m
  kept_alike = each_map Knows _ m
      (λ e k pass.
      let both = c.rows e.0 e.1 e.2 k.at pass in
      by_test (e.1 == 0)
      (λ u. by_test (e.2 == 0) (λ v. neither_half e.1 e.2 u v) (λ v. lone_second e.1 e.2 u v both.1))
      (λ u.
      by_test (e.2 == 0)
      (λ v. lone_first e.1 e.2 u v both.0)
      (λ v.
      let was = part_of_has e k pass in
      let same = shown_alike j C P s t m ns nt is.joined.rises in_part_of same_s same_t c e.1 e.2 both.0 both.1 was in
      rw (u, v) same)))
      all_known
    where
      part_of_has : (e : ℕ × ℕ × ℕ) → Knows e → P e.0 ≡ true → has (memory_only P m) e.1 e.2 ≡ has m e.1 e.2
      part_of_has e k pass = entry_has (memory_only P m) e.0 e.1 e.2 (pair_in P m e.0 pass ∙ k.at) ∙ sym k.was

  -- a row with an entry alone that doesn't pass is shown with none
  lone_stays : (e : ℕ × ℕ × ℕ) → Knows e → P e.0 ≡ false → (e.1 == 0) ≡ false → (e.2 == 0) ≡ true → is_alone ns (λ b. is_shown j s t m ns nt e.1 b) nt e.1 ≡ true
  lone_stays e k out one other =
      let still = neither (C e.1) (C e.2) (unchanged e k out) in
      let there : IsSome (row_of ns e.1) = subst (λ (x : Cell). IsSome x) (sym (same_s e.1 still.0)) (real_there j.first s e.1 one k.first_there) in
      let none : some_row (λ b. is_shown j s t m ns nt e.1 b) nt ≡ false =
      by_test (some_row (λ b. is_shown j s t m ns nt e.1 b) nt)
      (λ u.
      let f = some_is (λ b. is_shown j s t m ns nt e.1 b) nt u in
      let real = not_zero f.id (row_from 1 nt f.id rise_t f.there) in
      let here : pair_of m e.0 ≡ Some (e.1, 0) = k.at ∙ ap (λ (i : ℕ). Some (e.1, i)) (eqb-true e.2 0 other) in
      elim (forth j C P s t r m ns nt is in_part_of same_s same_t c first second rise_s rise_t e.1 f.id f.holds) [
        | inl x ↦ let pass = first_passes j C P s t r m ns nt is in_part_of same_s same_t c first second rise_s rise_t e.0 e.1 one x.one here in absurd (false≢true (sym out ∙ pass))
        | inr o ↦
            let same = alone_is_one first_of second_of m (e.0, e.1, 0) (o.id, e.1, f.id) (is.first.alone e.1) here o.at refl refl in
            let two : ◌≡◌ {A = Option (ℕ × ℕ)} (Some (e.1, 0)) (Some (e.1, f.id)) = sym here ∙ ap (pair_of m) same ∙ o.at in
            let pair : ◌≡◌ {A = ℕ × ℕ} (e.1, 0) (e.1, f.id) = cc in
            let zero = eq-eqb f.id 0 (sym (ap (λ (x : ℕ × ℕ). x.1) pair)) in
            absurd (false≢true (sym real ∙ zero))
      ])
      (λ u. u) in
      rw none (and_true (is_some (row_of ns e.1)) there)
    where
      and_true : (a : Bool) → a ≡ true → (a && not false) ≡ true
      and_true a h = rw h refl

  lone_second_stays : (e : ℕ × ℕ × ℕ) → Knows e → P e.0 ≡ false → (e.1 == 0) ≡ true → (e.2 == 0) ≡ false → is_alone nt (λ a. is_shown j s t m ns nt a e.2) ns e.2 ≡ true
  lone_second_stays e k out one other =
      let still = neither (C e.1) (C e.2) (unchanged e k out) in
      let there : IsSome (row_of nt e.2) = subst (λ (x : Cell). IsSome x) (sym (same_t e.2 still.1)) (real_there j.second t e.2 other k.second_there) in
      let none : some_row (λ a. is_shown j s t m ns nt a e.2) ns ≡ false =
      by_test (some_row (λ a. is_shown j s t m ns nt a e.2) ns)
      (λ u.
      let f = some_is (λ a. is_shown j s t m ns nt a e.2) ns u in
      let real = not_zero f.id (row_from 1 ns f.id rise_s f.there) in
      let here : pair_of m e.0 ≡ Some (0, e.2) = k.at ∙ ap (λ (i : ℕ). Some (i, e.2)) (eqb-true e.1 0 one) in
      elim (forth j C P s t r m ns nt is in_part_of same_s same_t c first second rise_s rise_t f.id e.2 f.holds) [
        | inl x ↦ let pass = second_passes j C P s t r m ns nt is in_part_of same_s same_t c first second rise_s rise_t e.0 e.2 other x.other here in absurd (false≢true (sym out ∙ pass))
        | inr o ↦
            let same = alone_is_one second_of first_of m (e.0, 0, e.2) (o.id, f.id, e.2) (is.second.alone e.2) here o.at refl refl in
            let two : ◌≡◌ {A = Option (ℕ × ℕ)} (Some (0, e.2)) (Some (f.id, e.2)) = sym here ∙ ap (pair_of m) same ∙ o.at in
            let pair : ◌≡◌ {A = ℕ × ℕ} (0, e.2) (f.id, e.2) = cc in
            let zero = eq-eqb f.id 0 (sym (ap (λ (x : ℕ × ℕ). x.0) pair)) in
            absurd (false≢true (sym real ∙ zero))
      ])
      (λ u. u) in
      rw none (and_true (is_some (row_of nt e.2)) there)
    where
      and_true : (a : Bool) → a ≡ true → (a && not false) ≡ true
      and_true a h = rw h refl

  -- an entry that doesn't pass stays
  rest_stays : Each (λ e. P e.0 ≡ false → big e.1 e.2 ≡ true) m
  rest_stays = each_map Knows _ m
      (λ e k out.
      by_test (e.1 == 0)
      (λ u.
      by_test (e.2 == 0)
      (λ v.
      let both : has_pair 0 0 e ≡ true = rw (u, v) refl in
      let some = count_entry (has_pair 0 0) m e.0 e.1 e.2 k.at both in
      let none = is.none in
      absurd (omega (arith, some, none)))
      (λ v. let lone = lone_second_stays e k out u v in rw (u, v) lone))
      (λ u.
      by_test (e.2 == 0)
      (λ v. let lone = lone_stays e k out u v in rw (u, v) lone)
      (λ v. let full = shown_still j C P s t r m ns nt is in_part_of same_s same_t c first second rise_s rise_t e k (unchanged e k out) u v in rw (u, v) full)))
      all_known

  -- THE NEW ENTRIES OF THE PART ARE THOSE OF THE WHOLE
  pub new_part : P 0 ≡ true → new_entries j (rows_only P s) (rows_only P t) (memory_only P m) (rows_only P ns) (rows_only P nt) ≡ new_entries j s t m ns nt
  new_part zero =
      let test : ℕ × ℕ → Bool = λ x. part x.0 x.1 && not (has (memory_only P m) x.0 x.1) in
      ap (λ (rows : Rows). filter test (all_pairs rows (with_absent j.second (rows_only P nt)))) (sym (absent_only P j.first ns zero))
      ∙ ap (λ (rows : Rows). filter test (all_pairs (rows_only P (with_absent j.first ns)) rows)) (sym (absent_only P j.second nt zero))
      ∙ pairs_part P (λ x. big x.0 x.1 && not (has m x.0 x.1)) test alike (inside zero) (with_absent j.first ns) (with_absent j.second nt)

  -- THE NEW MEMORY OF THE PART IS THE PART OF THE NEW MEMORY
  pub entries_part : P 0 ≡ true → (n : ℕ) → ((q : ℕ) → n ≤ q → P q ≡ true) → entries j (rows_only P s) (rows_only P t) (memory_only P m) (rows_only P ns) (rows_only P nt) n ≡ memory_only P (entries j s t m ns nt n)
  entries_part zero n high =
      let kept = filter (λ e. big e.1 e.2) m in
      let new = new_entries j s t m ns nt in
      ap (λ (es : Pairs). es ++ numbered n (new_entries j (rows_only P s) (rows_only P t) (memory_only P m) (rows_only P ns) (rows_only P nt))) (filter_part P (λ e. big e.1 e.2) (λ e. part e.1 e.2) m kept_alike)
      ∙ ap (λ (xs : List (ℕ × ℕ)). memory_only P kept ++ numbered n xs) (new_part zero)
      ∙ ap (λ (es : Pairs). memory_only P kept ++ es) (sym (numbered_part P n new high))
      ∙ sym (filter_append (λ e. P e.0) kept (numbered n new))

  -- elsewhere it is as it was
  pub entries_rest : (n : ℕ) → ((q : ℕ) → n ≤ q → P q ≡ true) → memory_only (λ q. not (P q)) (entries j s t m ns nt n) ≡ memory_only (λ q. not (P q)) m
  entries_rest n high =
      let kept = filter (λ e. big e.1 e.2) m in
      let new = new_entries j s t m ns nt in
      filter_append (λ e. not (P e.0)) kept (numbered n new)
      ∙ ap (λ (es : Pairs). memory_only (λ q. not (P q)) kept ++ es) (numbered_rest P n new high)
      ∙ append_none (memory_only (λ q. not (P q)) kept)
      ∙ filter_rest P (λ e. big e.1 e.2) m rest_stays
    where
      append_none : (es : Pairs) → es ++ [] ≡ es
      append_none [] = refl
      append_none (e ∷ es) = ap (λ (fs : Pairs). e ∷ fs) (append_none es)

  -- the drawn entries bring their halves
  drawn_bring : P 0 ≡ true → (k : ℕ) (xs : List (ℕ × ℕ)) → Each (Brings P) (numbered k (filter (λ x. big x.0 x.1 && not (has m x.0 x.1)) xs))
  drawn_bring zero k [] = tt
  drawn_bring zero k (x ∷ xs) =
      by_test (big x.0 x.1 && not (has m x.0 x.1))
      (λ e. rw e ((λ pass. inside zero x.0 x.1 e), drawn_bring zero (k + 1) xs))
      (λ e. rw e (drawn_bring zero k xs))

  -- so do all
  pub entries_bring : P 0 ≡ true → (n : ℕ) → Each (Brings P) (entries j s t m ns nt n)
  entries_bring zero n =
      each_append (Brings P) (filter (λ e. big e.1 e.2) m) (numbered n (new_entries j s t m ns nt))
      (each_filter (Brings P) (λ e. big e.1 e.2) m (each_brings P m is.joined.rises c.rows)) (drawn_bring zero n (all_pairs (with_absent j.first ns) (with_absent j.second nt)))

  -- THE NEW TARGET OF THE PART IS THE PART OF THE NEW TARGET
  pub target_part : P 0 ≡ true → (n : ℕ) → ((q : ℕ) → n ≤ q → P q ≡ true)
      → shown j (rows_only P ns) (rows_only P nt) (entries j (rows_only P s) (rows_only P t) (memory_only P m) (rows_only P ns) (rows_only P nt) n) ≡ rows_only P (shown j ns nt (entries j s t m ns nt n))
  target_part zero n high =
      let es = entries j s t m ns nt n in
      ap (λ (rows : Rows). joined j rows (with_absent j.second (rows_only P nt)) (entries j (rows_only P s) (rows_only P t) (memory_only P m) (rows_only P ns) (rows_only P nt) n)) (sym (absent_only P j.first ns zero))
      ∙ ap (λ (rows : Rows). joined j (rows_only P (with_absent j.first ns)) rows (entries j (rows_only P s) (rows_only P t) (memory_only P m) (rows_only P ns) (rows_only P nt) n)) (sym (absent_only P j.second nt zero))
      ∙ ap (joined j (rows_only P (with_absent j.first ns)) (rows_only P (with_absent j.second nt))) (entries_part zero n high)
      ∙ sym (joined_part j P (with_absent j.first ns) (with_absent j.second nt) es (entries_bring zero n))

  -- the rows of an entry that doesn't pass are as they were
  rows_rest : Each (λ e. P e.0 ≡ false → row_at j (with_absent j.first ns) (with_absent j.second nt) e.1 e.2 ≡ row_at j (with_absent j.first s) (with_absent j.second t) e.1 e.2) m
  rows_rest = each_map Knows _ m
      (λ e k out.
      let still = neither (C e.1) (C e.2) (unchanged e k out) in
      let one = absent_same j.first s ns e.1 (same_s e.1 still.0) in
      let other = absent_same j.second t nt e.2 (same_t e.2 still.1) in
      both_cells (row_of (with_absent j.first ns) e.1) (row_of (with_absent j.first s) e.1) (row_of (with_absent j.second nt) e.2) (row_of (with_absent j.second t) e.2) one other)
      all_known
    where
      both_cells : (a b x y : Cell) → a ≡ b → x ≡ y → join_cells j a x ≡ join_cells j b y
      both_cells a b x y p q = ap (λ (k : Cell). join_cells j k x) p ∙ ap (λ (k : Cell). join_cells j b k) q

  -- elsewhere the target is as it was
  pub target_rest : (n : ℕ) → ((q : ℕ) → n ≤ q → P q ≡ true) → rows_only (λ q. not (P q)) (shown j ns nt (entries j s t m ns nt n)) ≡ rows_only (λ q. not (P q)) r
  target_rest n high =
      let Q : ℕ → Bool = λ q. not (P q) in
      joined_memory j Q (with_absent j.first ns) (with_absent j.second nt) (entries j s t m ns nt n)
      ∙ ap (joined j (with_absent j.first ns) (with_absent j.second nt)) (entries_rest n high)
      ∙ joined_same j (with_absent j.first s) (with_absent j.second t) (with_absent j.first ns) (with_absent j.second nt) (memory_only Q m)
      (each_rest P (λ e. row_at j (with_absent j.first ns) (with_absent j.second nt) e.1 e.2 ≡ row_at j (with_absent j.first s) (with_absent j.second t) e.1 e.2) m rows_rest)
      ∙ sym (joined_memory j Q (with_absent j.first s) (with_absent j.second t) m)
      ∙ ap (rows_only Q) (sym is.joined.rows)
