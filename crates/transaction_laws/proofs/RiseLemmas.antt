-- Identifiers only rise.
use Rattle.std.specs.Prelude.{Option, Some, None, map}
use Rattle.std.proofs.Common.{◌≤◌, ◌+◌, ℕ, Bool, true, false, List, [], ◌∷◌, length, arith}
use Rattle.par_base.specs.declared.value.Value.{Value}
use Rattle.row_store.specs.Rows.{Rows, row_of}
use Rattle.id_memory.specs.Pairs.{Pairs, pair_of}
use Rattle.version_graph.specs.Forest.{Crossing, crossing, forest, link, walk}
use Rattle.version_graph.specs.Evolve.{placed_next}
use Rattle.version_graph.specs.declared.parts.Edge.{Edge}
use Rattle.version_graph.specs.declared.parts.Placed.{Placed}
use Rattle.pair_rows.specs.Given.{got, unchanged}
use Rattle.pair_rows.specs.Shown.{Joining}
use Rattle.pair_rows.specs.Sides.{table_at}
use Rattle.op_law.specs.Meaning.{PairState, exchanged}
use Rattle.op_law.specs.Tables.{Tables}
use Rattle.op_cond_join.specs.Assigned as assigned
use Rattle.op_cond_join.specs.JoinOn.{join_backward}
use Rattle.outer_law.specs.OuterOn.{outer_backward}
use Rattle.outer_law.specs.Placed as placed
use Rattle.op_any.specs.Operators.{AnyView, Built, AddColumn, AddTracked, CreateTable, DecomposeFk, DecomposeOn, DecomposePk, DecomposeSingle, DropColumn, DropTable, JoinFk, JoinOn, JoinPk, Merge, OuterJoinFk, OuterJoinOn, OuterJoinPk, Rename, Split, any_meaning, joining_by, meaning_of, outer_by}
use Rattle.version_model.specs.Evolving.{grown_state, with_link}
use Rattle.version_model.specs.States.{State, empty_at}
use Rattle.version_model.specs.Steps.{after, directed, pair_in, run}
use Rattle.version_model.specs.Writes.{write, written}

same : (n : ℕ) → n ≤ n
same n = omega arith

more : (n k : ℕ) → n ≤ n + k
more n k = omega arith

on : (a b c : ℕ) → a ≤ b → b ≤ c → a ≤ c
on a b c x y = omega (arith, x, y)

-- ---- rows that are found or drawn

got_rises : (o : Option ℕ) (rows : Rows) (x : List Value) (n : ℕ) → n ≤ (got o rows x n).next
got_rises (Some id) rows x n = same n
got_rises None rows x n = more n 1

module _ (j : Joining) (r : Rows) (m : Pairs) where
  -- a join on a condition
  pairs_rise : (d : assigned.Assigning) (x : ℕ × List Value) (o : Option (ℕ × ℕ)) → d.next ≤ (assigned.place_by j r m d x o).after.next
  pairs_rise d x (Some pair) = same d.next
  pairs_rise d x None =
      let a : d.next ≤ (assigned.first_got j r m d x).next = got_rises _ _ _ d.next in
      let b : (assigned.first_got j r m d x).next ≤ (assigned.second_got j r m d x).next = got_rises _ _ _ (assigned.first_got j r m d x).next in
      let c : (assigned.second_got j r m d x).next ≤ (assigned.last_got j r m d x).next = got_rises _ _ _ (assigned.second_got j r m d x).next in
      on d.next (assigned.first_got j r m d x).next (assigned.last_got j r m d x).next a (on (assigned.first_got j r m d x).next (assigned.second_got j r m d x).next (assigned.last_got j r m d x).next b c)

  pairs_rise_on : (d : assigned.Assigning) (xs : Rows) → d.next ≤ (assigned.ending j r m d xs).next
  pairs_rise_on d [] = same d.next
  pairs_rise_on d (x ∷ xs) =
      let next = (assigned.place_row j r m d x).after in
      on d.next next.next (assigned.ending j r m next xs).next (pairs_rise d x (unchanged (row_of r x.0) (pair_of m x.0) x.1)) (pairs_rise_on next xs)

  -- an outer one
  both_rise : (parts : placed.Parts) (d : placed.Placing) (p : ℕ) → d.next ≤ (placed.place_both parts d p).after.next
  both_rise parts d p =
      let a : d.next ≤ (placed.first_got parts d).next = got_rises _ _ _ d.next in
      let b : (placed.first_got parts d).next ≤ (placed.second_got parts d).next = got_rises _ _ _ (placed.first_got parts d).next in
      let c : (placed.second_got parts d).next ≤ (placed.last_got parts d).next = got_rises _ _ _ (placed.second_got parts d).next in
      on d.next (placed.first_got parts d).next (placed.last_got parts d).next a (on (placed.first_got parts d).next (placed.second_got parts d).next (placed.last_got parts d).next b c)

  halves_rise : (parts : placed.Parts) (d : placed.Placing) (p : ℕ) (first second : Bool) → d.next ≤ (placed.place_halves m parts d p first second).after.next
  halves_rise parts d p true true = both_rise parts d p
  halves_rise parts d p true false = got_rises _ _ _ d.next
  halves_rise parts d p false true = got_rises _ _ _ d.next
  halves_rise parts d p false false = got_rises _ _ _ d.next

  entries_rise : (d : placed.Placing) (x : ℕ × List Value) (o : Option (ℕ × ℕ)) → d.next ≤ (placed.place_by j r m d x o).after.next
  entries_rise d x (Some pair) = same d.next
  entries_rise d x None =
      let parts = placed.parts_of j r m x in
      halves_rise parts d x.0 (placed.is_present parts.first) (placed.is_present parts.second)

  entries_rise_on : (d : placed.Placing) (xs : Rows) → d.next ≤ (placed.ending j r m d xs).next
  entries_rise_on d [] = same d.next
  entries_rise_on d (x ∷ xs) =
      let next = (placed.place_row j r m d x).after in
      on d.next next.next (placed.ending j r m next xs).next (entries_rise d x (unchanged (row_of r x.0) (pair_of m x.0) x.1)) (entries_rise_on next xs)

-- backward over such joins
join_rises : (j : Joining) (near : Tables) (old : PairState) (n : ℕ) → n ≤ (join_backward j near old n).next
join_rises j near old n =
    let r = table_at 0 old.target in
    pairs_rise_on j r old.memory (assigned.beginning (table_at 0 old.source) (table_at 1 old.source) r old.memory (table_at 0 near) n) (table_at 0 near)

outer_rises : (j : Joining) (near : Tables) (old : PairState) (n : ℕ) → n ≤ (outer_backward j near old n).next
outer_rises j near old n =
    let r = table_at 0 old.target in
    entries_rise_on j r old.memory (placed.beginning (table_at 0 old.source) (table_at 1 old.source) r old.memory (table_at 0 near) n) (table_at 0 near)

-- ---- operators, whatever stands on their sides

forward_rises : (o : Built) (near : Tables) (old : PairState) (n : ℕ) → n ≤ ((meaning_of o).forward near old n).next
forward_rises CreateTable near old n = same n
forward_rises (DropTable width) near old n = same n
forward_rises Rename near old n = same n
forward_rises (AddColumn place e) near old n = same n
forward_rises (AddTracked e) near old n = same n
forward_rises (DropColumn place e) near old n = same n
forward_rises (Split width first second) near old n = same n
forward_rises (Merge width first second) near old n = same n
forward_rises (DecomposeSingle columns width) near old n = same n
forward_rises (DecomposePk first second) near old n = same n
forward_rises (OuterJoinPk first second) near old n = same n
forward_rises (JoinPk first second) near old n = same n
forward_rises (DecomposeFk first second place) near old n = more n _
forward_rises (OuterJoinFk first second place) near old n = same n
forward_rises (JoinFk first second place) near old n = same n
forward_rises (JoinOn first second c) near old n = more n _
forward_rises (DecomposeOn first second c) near old n = join_rises (joining_by first second c) near (exchanged old) n
forward_rises (OuterJoinOn first second c) near old n = more n _

backward_rises : (o : Built) (near : Tables) (old : PairState) (n : ℕ) → n ≤ ((meaning_of o).backward near old n).next
backward_rises CreateTable near old n = same n
backward_rises (DropTable width) near old n = same n
backward_rises Rename near old n = same n
backward_rises (AddColumn place e) near old n = same n
backward_rises (AddTracked e) near old n = same n
backward_rises (DropColumn place e) near old n = same n
backward_rises (Split width first second) near old n = same n
backward_rises (Merge width first second) near old n = same n
backward_rises (DecomposeSingle columns width) near old n = same n
backward_rises (DecomposePk first second) near old n = same n
backward_rises (OuterJoinPk first second) near old n = same n
backward_rises (JoinPk first second) near old n = same n
backward_rises (DecomposeFk first second place) near old n = same n
backward_rises (OuterJoinFk first second place) near old n = more n _
backward_rises (JoinFk first second place) near old n = more n _
backward_rises (JoinOn first second c) near old n = join_rises (joining_by first second c) near old n
backward_rises (DecomposeOn first second c) near old n = more n _
backward_rises (OuterJoinOn first second c) near old n = outer_rises (outer_by first second c) near old n

-- ---- states

way_rises : (back : Bool) (o : AnyView) (near : Tables) (old : PairState) (n : ℕ) → n ≤ ((directed back (any_meaning o)).forward near old n).next
way_rises false o near old n = forward_rises o.operator near old n
way_rises true o near old n = backward_rises o.operator near (exchanged old) n

after_rises : (old now : State) (p : Crossing AnyView) → now.next ≤ (after any_meaning old now p).next
after_rises old now p = way_rises p.backward p.operator (map now.tables p.near) (pair_in old p) now.next

run_rises : (old now : State) (ps : List (Crossing AnyView)) → now.next ≤ (run any_meaning old now ps).next
run_rises old now [] = same now.next
run_rises old now (p ∷ ps) =
    let next = after any_meaning old now p in
    on now.next next.next (run any_meaning old next ps).next (after_rises old now p) (run_rises old next ps)

-- a write
pub write_rises : (es : List (Placed AnyView)) (s : State) (w t : ℕ) (rows : Rows) (next : ℕ) → next ≤ (write any_meaning es s w t rows next).next
write_rises es s w t rows next = run_rises s (written s t rows next) (walk (forest es) w)

-- an evolution
pub evolution_rises : (es : List (Placed AnyView)) (p o t : ℕ) (edges : List (Edge AnyView)) (s : State) → s.next ≤ (grown_state any_meaning es p o t edges s).next
evolution_rises es p o t [] s = same s.next
evolution_rises es p o t (e ∷ edges) s =
    let new = placed_next p o t e in
    let next = with_link any_meaning s (link es new) in
    on s.next next.next (grown_state any_meaning (new ∷ es) (o + 1) (o + 1) (t + length e.targets) edges next).next
    (after_rises (empty_at s.next) s (crossing false (link es new))) (evolution_rises (new ∷ es) (o + 1) (o + 1) (t + length e.targets) edges next)
