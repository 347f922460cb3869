-- Passes over the rows of a new target.
use Rattle.std.proofs.Common.{◌≡◌, ℕ, ◌+◌, ◌<◌, ◌≤◌, List, [], ◌∷◌, ◌++◌, length, take, drop, slice_index_or, if◌then◌else◌, take-append-drop, Option, Some, None, refl, ap, sym, ◌∙◌, arith}
use Rattle.std.specs.Option.{option_map}
use Rattle.std.proofs.lemmas.List.{take_more, drop_more}
use Rattle.row_parts.specs.RowCells.{Cell}
use Rattle.op_cond_join.specs.inner.Assignings.{AreBelowNext}
use Rattle.par_base.specs.declared.value.Value.{Value}
use Rattle.row_store.specs.Rows.{Rows, AreBelow, row_of}
use Rattle.row_store.specs.inner.FoundRows.{below_more}
use Rattle.id_memory.specs.Pairs.{Pairs, pair_of}
use Rattle.pair_rows.specs.Shown.{Joining, has}
use Rattle.row_parts.specs.Places.{pick as part}
use Rattle.pair_rows.proofs.GivenLaws.{got_rises, got_below}
use Rattle.pair_rows.specs.Given.{unchanged, least, own, or_id, side_got}
use Rattle.op_cond_join.specs.Assigned.{Assigning, first_got, second_got, last_got, place_changed, place_by, place_row, assigned, ending}

-- assigning one row more
assigned_append : (j : Joining) (r : Rows) (m : Pairs) (d : Assigning) (xs : Rows) (x : ℕ × List Value)
    → (assigned j r m d (xs ++ x ∷ []) ≡ assigned j r m d xs ++ (x.0, (place_row j r m (ending j r m d xs) x).first, (place_row j r m (ending j r m d xs) x).second) ∷ [])
    × (ending j r m d (xs ++ x ∷ []) ≡ (place_row j r m (ending j r m d xs) x).after)
assigned_append j r m d [] x = (refl, refl)
assigned_append j r m d (y ∷ ys) x =
    let rest = assigned_append j r m (place_row j r m d y).after ys x in
    (ap (λ (es : Pairs). (y.0, (place_row j r m d y).first, (place_row j r m d y).second) ∷ es) rest.0, rest.1)

-- a row of one side draws at most one identifier more
pub side_rises : (places : List ℕ) (old : Cell) (id : Option ℕ) (row : List Value) (rows : Rows) (n : ℕ) → n ≤ (side_got places old id row rows n).next
side_rises places old id row rows n = got_rises (or_id (own places old id row) (least rows (part places row))) rows (part places row) n

-- and leaves rows below the next one
pub side_below : (places : List ℕ) (old : Cell) (id : Option ℕ) (row : List Value) (rows : Rows) (n : ℕ) → AreBelow rows n → AreBelow (side_got places old id row rows n).rows (side_got places old id row rows n).next
side_below places old id row rows n below = got_below (or_id (own places old id row) (least rows (part places row))) rows (part places row) n below

-- one row more
ending_split : (j : Joining) (r : Rows) (m : Pairs) (d : Assigning) (xs ys : Rows) → ending j r m d (xs ++ ys) ≡ ending j r m (ending j r m d xs) ys
ending_split j r m d [] ys = refl
ending_split j r m d (x ∷ xs) ys = ending_split j r m (place_row j r m d x).after xs ys

-- a changed row draws identifiers above
changed_rises : (j : Joining) (r : Rows) (m : Pairs) (d : Assigning) (x : ℕ × List Value) → d.next ≤ (place_changed j r m d x).after.next
changed_rises j r m d x =
    let a = first_got j r m d x in
    let b = second_got j r m d x in
    let one : d.next ≤ a.next = side_rises j.first (row_of r x.0) (option_map (λ pair. pair.0) (pair_of m x.0)) x.1 d.first d.next in
    let two : a.next ≤ b.next = side_rises j.second (row_of r x.0) (option_map (λ pair. pair.1) (pair_of m x.0)) x.1 d.second a.next in
    let three : b.next ≤ (last_got j r m d x).next = got_rises (if has d.taken a.id b.id then None else Some a.id) a.rows (part j.first x.1) b.next in
    omega (arith, one, two, three)

-- the same of both kinds of rows
rises_by : (j : Joining) (r : Rows) (m : Pairs) (d : Assigning) (x : ℕ × List Value) (o : Option (ℕ × ℕ)) → d.next ≤ (place_by j r m d x o).after.next
rises_by j r m d x (Some pair) = omega arith
rises_by j r m d x None = changed_rises j r m d x

-- the same of each row
pub placed_rises : (j : Joining) (r : Rows) (m : Pairs) (d : Assigning) (x : ℕ × List Value) → d.next ≤ (place_row j r m d x).after.next
placed_rises j r m d x = rises_by j r m d x (unchanged (row_of r x.0) (pair_of m x.0) x.1)

-- a changed row leaves both tables below the next identifier
changed_below : (j : Joining) (r : Rows) (m : Pairs) (d : Assigning) (x : ℕ × List Value) → AreBelowNext d → AreBelowNext (place_changed j r m d x).after
changed_below j r m d x below =
    let a = first_got j r m d x in
    let b = second_got j r m d x in
    let c = last_got j r m d x in
    let one : d.next ≤ a.next = side_rises j.first (row_of r x.0) (option_map (λ pair. pair.0) (pair_of m x.0)) x.1 d.first d.next in
    let two : a.next ≤ b.next = side_rises j.second (row_of r x.0) (option_map (λ pair. pair.1) (pair_of m x.0)) x.1 d.second a.next in
    let three : b.next ≤ c.next = got_rises (if has d.taken a.id b.id then None else Some a.id) a.rows (part j.first x.1) b.next in
    let first : AreBelow a.rows a.next = side_below j.first (row_of r x.0) (option_map (λ pair. pair.0) (pair_of m x.0)) x.1 d.first d.next below.0 in
    let second : AreBelow b.rows b.next = side_below j.second (row_of r x.0) (option_map (λ pair. pair.1) (pair_of m x.0)) x.1 d.second a.next (below_more d.second d.next a.next one below.1) in
    (got_below (if has d.taken a.id b.id then None else Some a.id) a.rows (part j.first x.1) b.next (below_more a.rows a.next b.next two first), below_more b.rows b.next c.next three second)

-- the same of both kinds of rows
below_by : (j : Joining) (r : Rows) (m : Pairs) (d : Assigning) (x : ℕ × List Value) (o : Option (ℕ × ℕ)) → AreBelowNext d → AreBelowNext (place_by j r m d x o).after
below_by j r m d x (Some pair) below = below
below_by j r m d x None below = changed_below j r m d x below

-- the same of each row
pub placed_below : (j : Joining) (r : Rows) (m : Pairs) (d : Assigning) (x : ℕ × List Value) → AreBelowNext d → AreBelowNext (place_row j r m d x).after
placed_below j r m d x below = below_by j r m d x (unchanged (row_of r x.0) (pair_of m x.0) x.1) below

-- the same of all rows
pub ending_rises : (j : Joining) (r : Rows) (m : Pairs) (d : Assigning) (xs : Rows) → d.next ≤ (ending j r m d xs).next
ending_rises j r m d [] = omega arith
ending_rises j r m d (x ∷ xs) =
    let one = placed_rises j r m d x in
    let rest = ending_rises j r m (place_row j r m d x).after xs in
    omega (arith, one, rest)

-- what is assigned after one row more
pub record Step (j : Joining) (r : Rows) (m : Pairs) (d : Assigning) (near : Rows) (i : ℕ) (made : Pairs) (now : Assigning) : Type 0 where
  pub entries : made ≡ assigned j r m d (take (i + 1) near)
  pub state : now ≡ ending j r m d (take (i + 1) near)

-- one row more is assigned
pub assign_step : (j : Joining) (r : Rows) (m : Pairs) (d : Assigning) (near : Rows) (i : ℕ) (x : ℕ × List Value) (made new : Pairs) (state now : Assigning) (pair : ℕ × ℕ) → i < length near → x ≡ slice_index_or near i x
    → made ≡ assigned j r m d (take i near) → state ≡ ending j r m d (take i near) → pair ≡ ((place_row j r m state x).first, (place_row j r m state x).second) → now ≡ (place_row j r m state x).after → new ≡ made ++ (x.0, pair.0, pair.1) ∷ []
    → Step j r m d near i new now
assign_step j r m d near i x made new state now pair h at is ended both after pushed =
    let rows : take (i + 1) near ≡ take i near ++ x ∷ [] = take_more near i x h ∙ ap (λ (y : ℕ × List Value). take i near ++ y ∷ []) (sym at) in
    let more = assigned_append j r m d (take i near) x in
    let first : pair.0 ≡ (place_row j r m (ending j r m d (take i near)) x).first = ap (λ (k : ℕ × ℕ). k.0) both ∙ ap (λ (s : Assigning). (place_row j r m s x).first) ended in
    let second : pair.1 ≡ (place_row j r m (ending j r m d (take i near)) x).second = ap (λ (k : ℕ × ℕ). k.1) both ∙ ap (λ (s : Assigning). (place_row j r m s x).second) ended in
    record {
      entries = pushed ∙ ap (λ (es : Pairs). es ++ (x.0, pair.0, pair.1) ∷ []) is
          ∙ ap (λ (a : ℕ). assigned j r m d (take i near) ++ (x.0, a, pair.1) ∷ []) first
          ∙ ap (λ (b : ℕ). assigned j r m d (take i near) ++ (x.0, (place_row j r m (ending j r m d (take i near)) x).first, b) ∷ []) second
          ∙ sym more.0 ∙ ap (assigned j r m d) (sym rows);
      state = after ∙ ap (λ (s : Assigning). (place_row j r m s x).after) ended ∙ sym more.1 ∙ ap (ending j r m d) (sym rows);
    }

-- what the rows before draw is within what all draw
pub step_within : (j : Joining) (r : Rows) (m : Pairs) (d : Assigning) (near : Rows) (i : ℕ) (x : ℕ × List Value) (state : Assigning) → i < length near → x ≡ slice_index_or near i x
    → state ≡ ending j r m d (take i near) → (place_row j r m state x).after.next ≤ (ending j r m d near).next
step_within j r m d near i x state h at ended =
    let here : (place_row j r m state x).after ≡ (place_row j r m (ending j r m d (take i near)) x).after = ap (λ (s : Assigning). (place_row j r m s x).after) ended in
    let rows : near ≡ take i near ++ x ∷ drop (i + 1) near = sym (take-append-drop i near) ∙ ap (λ (rest : Rows). take i near ++ rest) (drop_more near i x h ∙ ap (λ (y : ℕ × List Value). y ∷ drop (i + 1) near) (sym at)) in
    let all : ending j r m d near ≡ ending j r m (place_row j r m (ending j r m d (take i near)) x).after (drop (i + 1) near) = ap (ending j r m d) rows ∙ ending_split j r m d (take i near) (x ∷ drop (i + 1) near) in
    let rest = ending_rises j r m (place_row j r m (ending j r m d (take i near)) x).after (drop (i + 1) near) in
    let one = ap (λ (s : Assigning). s.next) here in
    let two = ap (λ (s : Assigning). s.next) all in
    omega (arith, rest, one, two)
