-- Passes over the rows of a new target.
use Rattle.std.proofs.Common.{◌≡◌, ℕ, ◌+◌, ◌<◌, ◌≤◌, List, [], ◌∷◌, ◌++◌, length, take, drop, slice_index_or, take-append-drop, Bool, true, false, Option, Some, None, refl, ap, sym, ◌∙◌, arith}
use Rattle.std.proofs.lemmas.List.{take_more, drop_more}
use Rattle.std.proofs.lemmas.Bool.{false≢true}
use Rattle.par_base.specs.declared.value.Value.{Value}
use Rattle.row_store.specs.Rows.{Rows, row_of}
use Rattle.id_memory.specs.Pairs.{Pairs, pair_of}
use Rattle.pair_rows.specs.Halves.{first_of, second_of}
use Rattle.pair_rows.specs.Shown.{Joining}
use Rattle.pair_rows.specs.Given.{unchanged}
use Rattle.pair_rows.proofs.GivenLaws.{got_rises}
use Rattle.outer_law.specs.Placed.{Parts, parts_of, Placing, is_present, first_both, first_got, second_both, second_got, last_both, place_both, place_first, place_second, own_alone, place_halves, place_by, place_row, placed, ending}

-- placing one row more
placed_append : (j : Joining) (r : Rows) (m : Pairs) (d : Placing) (xs : Rows) (x : ℕ × List Value)
    → (placed j r m d (xs ++ x ∷ []) ≡ placed j r m d xs ++ (x.0, (place_row j r m (ending j r m d xs) x).first, (place_row j r m (ending j r m d xs) x).second) ∷ [])
    × (ending j r m d (xs ++ x ∷ []) ≡ (place_row j r m (ending j r m d xs) x).after)
placed_append j r m d [] x = (refl, refl)
placed_append j r m d (y ∷ ys) x =
    let rest = placed_append j r m (place_row j r m d y).after ys x in
    (ap (λ (es : Pairs). (y.0, (place_row j r m d y).first, (place_row j r m d y).second) ∷ es) rest.0, rest.1)

-- one row more
ending_split : (j : Joining) (r : Rows) (m : Pairs) (d : Placing) (xs ys : Rows) → ending j r m d (xs ++ ys) ≡ ending j r m (ending j r m d xs) ys
ending_split j r m d [] ys = refl
ending_split j r m d (x ∷ xs) ys = ending_split j r m (place_row j r m d x).after xs ys

-- an entry with both halves draws identifiers above
pub both_rises : (parts : Parts) (d : Placing) (p : ℕ) → d.next ≤ (place_both parts d p).after.next
both_rises parts d p =
    let one = got_rises (first_both parts d) d.first parts.first.values d.next in
    let two = got_rises (second_both parts d) d.second parts.second.values (first_got parts d).next in
    let three = got_rises (last_both parts d) (first_got parts d).rows parts.first.values (second_got parts d).next in
    omega (arith, one, two, three)

-- the same of each kind of entry
halves_rises : (m : Pairs) (parts : Parts) (d : Placing) (p : ℕ) (first second : Bool) → d.next ≤ (place_halves m parts d p first second).after.next
halves_rises m parts d p true true = both_rises parts d p
halves_rises m parts d p true false = got_rises (own_alone first_of m parts.first.own) d.first parts.first.values d.next
halves_rises m parts d p false true = got_rises (own_alone second_of m parts.second.own) d.second parts.second.values d.next
halves_rises m parts d p false false = got_rises (own_alone first_of m parts.first.own) d.first parts.first.values d.next

-- the first half alone, where the second isn't present
pub first_halves : (m : Pairs) (parts : Parts) (d : Placing) (p : ℕ) (first second : Bool) → second ≡ false → place_halves m parts d p first second ≡ place_first m parts d p
first_halves m parts d p true true e = absurd (false≢true (sym e))
first_halves m parts d p false true e = absurd (false≢true (sym e))
first_halves m parts d p true false e = refl
first_halves m parts d p false false e = refl

-- both, where both are
pub both_halves : (m : Pairs) (parts : Parts) (d : Placing) (p : ℕ) (first second : Bool) → first ≡ true → second ≡ true → place_halves m parts d p first second ≡ place_both parts d p
both_halves m parts d p true true e f = refl
both_halves m parts d p false true e f = absurd (false≢true e)
both_halves m parts d p true false e f = absurd (false≢true f)
both_halves m parts d p false false e f = absurd (false≢true f)

-- the second half alone, where the first isn't
pub second_halves : (m : Pairs) (parts : Parts) (d : Placing) (p : ℕ) (first second : Bool) → first ≡ false → second ≡ true → place_halves m parts d p first second ≡ place_second m parts d p
second_halves m parts d p true true e f = absurd (false≢true (sym e))
second_halves m parts d p false true e f = refl
second_halves m parts d p true false e f = absurd (false≢true f)
second_halves m parts d p false false e f = absurd (false≢true f)

-- the same of kept entries and others
rises_by : (j : Joining) (r : Rows) (m : Pairs) (d : Placing) (x : ℕ × List Value) (o : Option (ℕ × ℕ)) → d.next ≤ (place_by j r m d x o).after.next
rises_by j r m d x (Some pair) = omega arith
rises_by j r m d x None = halves_rises m (parts_of j r m x) d x.0 (is_present (parts_of j r m x).first) (is_present (parts_of j r m x).second)

-- the same of each row
pub placed_rises : (j : Joining) (r : Rows) (m : Pairs) (d : Placing) (x : ℕ × List Value) → d.next ≤ (place_row j r m d x).after.next
placed_rises j r m d x = rises_by j r m d x (unchanged (row_of r x.0) (pair_of m x.0) x.1)

-- the same of all rows
ending_rises : (j : Joining) (r : Rows) (m : Pairs) (d : Placing) (xs : Rows) → d.next ≤ (ending j r m d xs).next
ending_rises j r m d [] = omega arith
ending_rises j r m d (x ∷ xs) =
    let one = placed_rises j r m d x in
    let rest = ending_rises j r m (place_row j r m d x).after xs in
    omega (arith, one, rest)

-- what is placed after one row more
pub record Step (j : Joining) (r : Rows) (m : Pairs) (d : Placing) (near : Rows) (i : ℕ) (made : Pairs) (now : Placing) : Type 0 where
  pub entries : made ≡ placed j r m d (take (i + 1) near)
  pub state : now ≡ ending j r m d (take (i + 1) near)

-- one row more is placed
pub place_step : (j : Joining) (r : Rows) (m : Pairs) (d : Placing) (near : Rows) (i : ℕ) (x : ℕ × List Value) (made new : Pairs) (state now : Placing) (pair : ℕ × ℕ) → i < length near → x ≡ slice_index_or near i x
    → made ≡ placed j r m d (take i near) → state ≡ ending j r m d (take i near) → pair ≡ ((place_row j r m state x).first, (place_row j r m state x).second) → now ≡ (place_row j r m state x).after → new ≡ made ++ (x.0, pair.0, pair.1) ∷ []
    → Step j r m d near i new now
place_step j r m d near i x made new state now pair h at is ended both after pushed =
    let rows : take (i + 1) near ≡ take i near ++ x ∷ [] = take_more near i x h ∙ ap (λ (y : ℕ × List Value). take i near ++ y ∷ []) (sym at) in
    let more = placed_append j r m d (take i near) x in
    let first : pair.0 ≡ (place_row j r m (ending j r m d (take i near)) x).first = ap (λ (k : ℕ × ℕ). k.0) both ∙ ap (λ (s : Placing). (place_row j r m s x).first) ended in
    let second : pair.1 ≡ (place_row j r m (ending j r m d (take i near)) x).second = ap (λ (k : ℕ × ℕ). k.1) both ∙ ap (λ (s : Placing). (place_row j r m s x).second) ended in
    record {
      entries = pushed ∙ ap (λ (es : Pairs). es ++ (x.0, pair.0, pair.1) ∷ []) is
          ∙ ap (λ (a : ℕ). placed j r m d (take i near) ++ (x.0, a, pair.1) ∷ []) first
          ∙ ap (λ (b : ℕ). placed j r m d (take i near) ++ (x.0, (place_row j r m (ending j r m d (take i near)) x).first, b) ∷ []) second
          ∙ sym more.0 ∙ ap (placed j r m d) (sym rows);
      state = after ∙ ap (λ (s : Placing). (place_row j r m s x).after) ended ∙ sym more.1 ∙ ap (ending j r m d) (sym rows);
    }

-- what the rows before draw is within what all draw
pub step_within : (j : Joining) (r : Rows) (m : Pairs) (d : Placing) (near : Rows) (i : ℕ) (x : ℕ × List Value) (state : Placing) → i < length near → x ≡ slice_index_or near i x
    → state ≡ ending j r m d (take i near) → (place_row j r m state x).after.next ≤ (ending j r m d near).next
step_within j r m d near i x state h at ended =
    let here : (place_row j r m state x).after ≡ (place_row j r m (ending j r m d (take i near)) x).after = ap (λ (s : Placing). (place_row j r m s x).after) ended in
    let rows : near ≡ take i near ++ x ∷ drop (i + 1) near = sym (take-append-drop i near) ∙ ap (λ (rest : Rows). take i near ++ rest) (drop_more near i x h ∙ ap (λ (y : ℕ × List Value). y ∷ drop (i + 1) near) (sym at)) in
    let all : ending j r m d near ≡ ending j r m (place_row j r m (ending j r m d (take i near)) x).after (drop (i + 1) near) = ap (ending j r m d) rows ∙ ending_split j r m d (take i near) (x ∷ drop (i + 1) near) in
    let rest = ending_rises j r m (place_row j r m (ending j r m d (take i near)) x).after (drop (i + 1) near) in
    let one = ap (λ (s : Placing). s.next) here in
    let two = ap (λ (s : Placing). s.next) all in
    omega (arith, rest, one, two)
