-- The entries that the rows of a new outer join get, one after the other, and what is there at the end.
use Rattle.std.proofs.Common.{◌≡◌, ℕ, ◌+◌, List, [], ◌∷◌, ◌++◌, length, count_by, Bool, true, false, Option, Some, None, refl, ap, arith}
use Rattle.par_base.specs.declared.value.Value.{Value}
use Rattle.row_store.specs.Rows.{Rows, RiseFrom, row_of}
use Rattle.id_memory.specs.Pairs.{Pairs, pair_of}
use Rattle.op_law.specs.Tables.{RowsWide}
use Rattle.op_law.specs.Sound.{RowsSound, PairsSound}
use Rattle.row_parts.specs.Places.{pick as part, ArePartition}
use Rattle.row_parts.specs.RowCells.{by_test}
use Rattle.pair_rows.specs.Shown.{Joining}
use Rattle.pair_rows.specs.Given.{unchanged, kept_entry, kept_in}
use Rattle.pair_rows.specs.inner.Numbers.{count_cons}
use Rattle.pair_rows.specs.inner.PairLemmas.{count_yes, count_no}
use Rattle.pair_rows.specs.inner.FoundPairs.{AreFound}
use Rattle.outer_law.specs.Entries.{with_absent, IsOuter}
use Rattle.outer_law.specs.Placed.{is_present, Placing, parts_of, place_halves, place_changed, place_by, place_row, placed, ending}
use Rattle.outer_law.proofs.SubsetLaws.{AreKept}
use Rattle.outer_law.proofs.HalfLaws.{count_more, count_same}
use Rattle.outer_law.proofs.ChoiceLaws.{absent_keeps}
use Rattle.outer_law.proofs.PlacedLaws.{Ready, Grown, MayCome, grown_same, grown_on, placed_is}

module _ (j : Joining) (parts : ArePartition j.first j.second) (s t r : Rows) (m kept : Pairs) (old : IsOuter j s t r m) (wide : RowsWide (length j.first) s) (other_wide : RowsWide (length j.second) t) where
  -- what holds of what is placed
  abbrev TheReady : ℕ → ℕ → Placing → Type 0
  TheReady n k d = Ready j parts s t r m kept old wide other_wide n k d

  abbrev TheGrown : ℕ → Placing → Placing → Type 0
  TheGrown n d e = Grown j parts s t r m kept old wide other_wide n d e

  -- rows of a new target
  pub record AllCome (n k : ℕ) (xs : Rows) : Type 0 where
    pub rise : RiseFrom k xs
    pub keeps : AreKept r m kept xs
    pub sound : RowsSound n xs
    pub memory : PairsSound n m

  pub head_comes : (n k : ℕ) (x : ℕ × List Value) (xs : Rows) → AllCome n k (x ∷ xs) → MayCome j parts s t r m kept old wide other_wide n k x
  head_comes n k x xs all = record { next = all.rise.0; keeps = all.keeps.0; below = all.sound.0.0; values = all.sound.0.1; memory = all.memory }

  pub rest_comes : (n k : ℕ) (x : ℕ × List Value) (xs : Rows) → AllCome n k (x ∷ xs) → AllCome n (x.0 + 1) xs
  rest_comes n k x xs all = record { rise = all.rise.1; keeps = all.keeps.1; sound = all.sound.1; memory = all.memory }

  -- what is there at the end
  pub record Ended (n : ℕ) (d e : Placing) : Type 0 where
    pub last : ℕ
    pub ready : TheReady n last e
    pub grown : TheGrown n d e

  pub ended : (n k : ℕ) (d : Placing) (xs : Rows) → TheReady n k d → AllCome n k xs → Ended n d (ending j r m d xs)
  ended n k d [] ready all = record { last = k; ready = ready; grown = grown_same j parts s t r m kept old wide other_wide n d }
  ended n k d (x ∷ xs) ready all =
      let p = placed_is j parts s t r m kept old wide other_wide n k d x ready (head_comes n k x xs all) in
      let rest = ended n (x.0 + 1) (place_row j r m d x).after xs p.ready (rest_comes n k x xs all) in
      record { last = rest.last; ready = rest.ready; grown = grown_on j parts s t r m kept old wide other_wide n d (place_row j r m d x).after (ending j r m d (x ∷ xs)) p.grown rest.grown }

  -- and the halves of each entry are found there
  pub ended_found : (n k : ℕ) (d : Placing) (xs : Rows) → TheReady n k d → AllCome n k xs → AreFound j (with_absent j.first (ending j r m d xs).first) (with_absent j.second (ending j r m d xs).second) (placed j r m d xs) xs
  ended_found n k d [] ready all = tt
  ended_found n k d (x ∷ xs) ready all =
      let p = placed_is j parts s t r m kept old wide other_wide n k d x ready (head_comes n k x xs all) in
      let now = place_row j r m d x in
      let on = (ended n (x.0 + 1) now.after xs p.ready (rest_comes n k x xs all)).grown in (
        (
          refl,
          absent_keeps j.first now.after.first (ending j r m d (x ∷ xs)).first now.first (part j.first x.1) on.first_keeps p.first,
          absent_keeps j.second now.after.second (ending j r m d (x ∷ xs)).second now.second (part j.second x.1) on.second_keeps p.second,
        ),
        ended_found n (x.0 + 1) now.after xs p.ready (rest_comes n k x xs all),
      )

-- an entry that is given is taken then
taken_is : (j : Joining) (r : Rows) (m : Pairs) (d : Placing) (x : ℕ × List Value) (first second : Bool)
    → (place_halves m (parts_of j r m x) d x.0 first second).after.taken ≡ d.taken ++ (x.0, (place_halves m (parts_of j r m x) d x.0 first second).first, (place_halves m (parts_of j r m x) d x.0 first second).second) ∷ []
taken_is j r m d x true true = refl
taken_is j r m d x true false = refl
taken_is j r m d x false true = refl
taken_is j r m d x false false = refl

-- so the entries are those that are taken at the end
count_by_o : (j : Joining) (r : Rows) (m : Pairs) (f : ℕ × ℕ × ℕ → Bool) (d : Placing) (x : ℕ × List Value) (xs : Rows) (o : Option (ℕ × ℕ))
    → (count_by f (placed j r m (place_by j r m d x o).after xs) + count_by f (place_by j r m d x o).after.taken ≡ count_by f (kept_in r m xs) + count_by f (ending j r m (place_by j r m d x o).after xs).taken)
    → count_by f ((x.0, (place_by j r m d x o).first, (place_by j r m d x o).second) ∷ placed j r m (place_by j r m d x o).after xs) + count_by f d.taken ≡ count_by f (kept_entry x.0 o (kept_in r m xs)) + count_by f (ending j r m (place_by j r m d x o).after xs).taken
count_by_o j r m f d x xs (Some pair) rest =
    let one = count_cons f (x.0, pair.0, pair.1) (placed j r m d xs) in
    let other = count_cons f (x.0, pair.0, pair.1) (kept_in r m xs) in
    omega (arith, one, other, rest)
count_by_o j r m f d x xs None rest =
    let p = place_changed m (parts_of j r m x) d x.0 in
    let e : ℕ × ℕ × ℕ = (x.0, p.first, p.second) in
    let more = ap (count_by f) (taken_is j r m d x (is_present (parts_of j r m x).first) (is_present (parts_of j r m x).second)) in
    let one = count_cons f (x.0, p.first, p.second) (placed j r m p.after xs) in
    by_test (f (x.0, p.first, p.second))
    (λ q.
    let a = count_more f d.taken (x.0, p.first, p.second) q in
    let b = count_yes f (x.0, p.first, p.second) (placed j r m p.after xs) q in
    omega (arith, more, a, b, rest))
    (λ q.
    let a = count_same f d.taken (x.0, p.first, p.second) q in
    let b = count_no f (x.0, p.first, p.second) (placed j r m p.after xs) q in
    omega (arith, more, a, b, rest))

pub count_placed : (j : Joining) (r : Rows) (m : Pairs) (f : ℕ × ℕ × ℕ → Bool) (d : Placing) (xs : Rows) → count_by f (placed j r m d xs) + count_by f d.taken ≡ count_by f (kept_in r m xs) + count_by f (ending j r m d xs).taken
count_placed j r m f d [] = omega arith
count_placed j r m f d (x ∷ xs) = count_by_o j r m f d x xs (unchanged (row_of r x.0) (pair_of m x.0) x.1) (count_placed j r m f (place_row j r m d x).after xs)
