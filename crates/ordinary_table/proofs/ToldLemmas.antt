-- What the changes that statements tell make of a table.
use Rattle.std.specs.Option.{option_map, option_and_then}
use Rattle.std.specs.List.{filter}
use Rattle.std.proofs.Common.{◌≡◌, ◌∙◌, ℕ, suc, ◌+◌, ◌<◌, ◌≤◌, ◌==◌, List, [], ◌∷◌, ◌++◌, Bool, true, false, if◌then◌else◌, cond, map, length, take, get_or, Option, Some, None, refl, ap, sym, arith, append-nil, add-one}
use Rattle.std.proofs.lemmas.Bool.Decides.{nat_tests}
use Rattle.std.proofs.lemmas.Bool.{cases_order, cases_lt, eq-eqb}
use Rattle.std.proofs.lemmas.List.{length-map, map-append}
use Rattle.std.proofs.lemmas.List.Sums.{length-filter}
use mathlib.Core.Logic.{inl, inr}
use Rattle.par_base.specs.declared.value.Value.{Value}
use Rattle.expr_lang.specs.Terms.{Term}
use Rattle.row_store.specs.declared.change.Change.{Change}
use Rattle.row_store.specs.Rows.{Rows, RiseFrom, AreBelow, row_of}
use Rattle.row_store.specs.Changes.{IsAbove, AreOld, after}
use Rattle.row_store.specs.inner.FoundRows.{none_under, below_more, later, none_above}
use Rattle.row_changes.specs.Changed.{changed}
use Rattle.row_changes.proofs.ChangedLaws.{changed_is}
use Rattle.ordinary_table.specs.Shown.{HasChosen, meets}
use Rattle.ordinary_table.specs.Written.{SetTerm, numbered, inserted, set_row, updated_row, updated, deleted, chosen_count}
use Rattle.ordinary_table.specs.inner.Told.{Renewal, set_to, gone, change_to, chosen_change, chosen_changes, added, added_changes}
use Rattle.ordinary_table.proofs.KeptLaws.{rises_numbered, rises_inserted, rises_updated, rises_deleted}
use Rattle.ordinary_table.proofs.RowOfLaws.{row_of_updated, row_of_deleted}
use Rattle.ordinary_table.proofs.RowLemmas.{IsRowAt, below_numbered}
use Rattle.ordinary_table.proofs.StepLemmas.{filter_row, numbered_suc}

-- ---- one more change

abbrev AllBelow : List Change → ℕ → Type 0
AllBelow [] n = Unit {0}
AllBelow (c ∷ cs) n = (c.id < n) × AllBelow cs n

above_all : (cs : List Change) (n : ℕ) → AllBelow cs n → IsAbove cs n
above_all [] n below = tt
above_all (c ∷ []) n below = below.0
above_all (c ∷ d ∷ cs) n below = above_all (d ∷ cs) n below.1

below_cons : (now : Renewal) (b : Bool) (r : ℕ × List Value) (rs : Rows) (n : ℕ) → r.0 < n → AllBelow (map (change_to now) rs) n → AllBelow (map (change_to now) (cond b (r ∷ rs) rs)) n
below_cons now true r rs n h below = (h, below)
below_cons now false r rs n h below = below

below_chosen : (condition : Option (Term ℕ)) (now : Renewal) (rows : Rows) (n : ℕ) → AreBelow rows n → AllBelow (chosen_changes condition now rows) n
below_chosen condition now [] n below = tt
below_chosen condition now (r ∷ rs) n below = below_cons now (meets condition r) r (filter (meets condition) rs) n below.0 (below_chosen condition now rs n below.1)

-- a row behind the others has a greater identifier than their changes
pub above_chosen : (condition : Option (Term ℕ)) (now : Renewal) (rows : Rows) (n : ℕ) → AreBelow rows n → IsAbove (chosen_changes condition now rows) n
above_chosen condition now rows n below = above_all (chosen_changes condition now rows) n (below_chosen condition now rows n below)

below_added : (rows : Rows) (n : ℕ) → AreBelow rows n → AllBelow (map added rows) n
below_added [] n below = tt
below_added (r ∷ rs) n below = (below.0, below_added rs n below.1)

-- so has a new row
pub above_added : (next : ℕ) (new : List (List Value)) (n : ℕ) → next + length new ≤ n → IsAbove (added_changes next new) n
above_added next new n h = above_all (added_changes next new) n (below_added (numbered next new) n (below_numbered next new n h))

-- a row that meets the condition is told, and no other one
pub changes_met : (rows : Rows) (condition : Option (Term ℕ)) (now : Renewal) (i : ℕ) (r : ℕ × List Value) → IsRowAt rows i r → meets condition r ≡ true
    → chosen_changes condition now (take (i + 1) rows) ≡ chosen_changes condition now (take i rows) ++ change_to now r ∷ []
changes_met rows condition now i r at met =
    ap (map (change_to now)) (filter_row (meets condition) rows i r at) ∙ rw met (map-append (change_to now) (filter (meets condition) (take i rows)) (r ∷ []))

pub changes_unmet : (rows : Rows) (condition : Option (Term ℕ)) (now : Renewal) (i : ℕ) (r : ℕ × List Value) → IsRowAt rows i r → meets condition r ≡ false
    → chosen_changes condition now (take (i + 1) rows) ≡ chosen_changes condition now (take i rows)
changes_unmet rows condition now i r at unmet =
    ap (map (change_to now)) (filter_row (meets condition) rows i r at ∙ rw unmet (append-nil (filter (meets condition) (take i rows))))

some_told : (b : Bool) (x change : Change) → Some change ≡ (if b then Some x else None) → (b ≡ true) × (change ≡ x)
some_told true x change is = (refl, cc)
some_told false x change is = absurd cc

none_told : (b : Bool) (x : Change) → None ≡ (if b then Some x else None) → b ≡ false
none_told true x is = absurd cc
none_told false x is = refl

-- a change that was asked for is the row's
pub some_id : (condition : Option (Term ℕ)) (now : Renewal) (r : ℕ × List Value) (change : Change) → Some change ≡ chosen_change condition now r → change.id ≡ r.0
some_id condition now r change is = ap (λ (c : Change). c.id) (some_told (meets condition r) (change_to now r) change is).1

-- the same where the change of the row was asked for
pub changes_some : (rows : Rows) (condition : Option (Term ℕ)) (now : Renewal) (i : ℕ) (r : ℕ × List Value) (change : Change) → IsRowAt rows i r → Some change ≡ chosen_change condition now r
    → chosen_changes condition now (take (i + 1) rows) ≡ chosen_changes condition now (take i rows) ++ change ∷ []
changes_some rows condition now i r change at is =
    let told = some_told (meets condition r) (change_to now r) change is in
    changes_met rows condition now i r at told.0 ∙ ap (λ (c : Change). chosen_changes condition now (take i rows) ++ c ∷ []) (sym told.1)

pub changes_none : (rows : Rows) (condition : Option (Term ℕ)) (now : Renewal) (i : ℕ) (r : ℕ × List Value) → IsRowAt rows i r → None ≡ chosen_change condition now r
    → chosen_changes condition now (take (i + 1) rows) ≡ chosen_changes condition now (take i rows)
changes_none rows condition now i r at is = changes_unmet rows condition now i r at (none_told (meets condition r) (change_to now r) is)

-- a new row is told under its identifier
pub added_more : (new : List (List Value)) (next i : ℕ) (d : List Value) → i < length new
    → added_changes next (take (i + 1) new) ≡ added_changes next (take i new) ++ added (next + i, get_or new i d) ∷ []
added_more new next i d within =
    rw add-one (ap (map added) (numbered_suc next new i d within) ∙ map-append added (numbered next (take i new)) ((next + i, get_or new i d) ∷ []))

numbered_long : (new : List (List Value)) (next : ℕ) → length (numbered next new) ≡ length new
unfolding numbered
numbered_long [] next = refl
numbered_long (row ∷ rows) next = ap suc (numbered_long rows (next + 1))

-- as many as new rows
pub length_added : (new : List (List Value)) (next : ℕ) → length (added_changes next new) ≡ length new
length_added new next = length-map (numbered next new) added ∙ numbered_long new next

-- a part with the rows that are chosen of a whole table tells the same changes
pub changes_same : (condition : Option (Term ℕ)) (now : Renewal) (whole part : Rows) → HasChosen condition whole part → chosen_changes condition now part ≡ chosen_changes condition now whole
changes_same condition now whole part has = ap (map (change_to now)) (sym has.same)

-- there are as many changes as rows that meet the condition
pub changes_count : (rows : Rows) (condition : Option (Term ℕ)) (now : Renewal) → length (chosen_changes condition now rows) ≡ chosen_count rows condition
changes_count rows condition now = length-map (filter (meets condition) rows) (change_to now) ∙ length-filter (meets condition) rows

-- ---- changes of chosen rows

-- what the change of an identifier's row leaves, where the table has it
abbrev left_at : Option (Term ℕ) → Renewal → ℕ → Option (List Value) → Option (List Value) → Option (List Value)
left_at condition now id None other = other
left_at condition now id (Some row) other = if meets condition (id, row) then now (id, row) else other

after_cons : (now : Renewal) (b : Bool) (r : ℕ × List Value) (rs : Rows) (id : ℕ) (o : Option (List Value)) → (r.0 == id) ≡ true
    → after (map (change_to now) (cond b (r ∷ rs) rs)) id o ≡ (if b then now r else after (map (change_to now) rs) id o)
after_cons now true r rs id o same = rw same refl
after_cons now false r rs id o same = refl

after_other : (now : Renewal) (b : Bool) (r : ℕ × List Value) (rs : Rows) (id : ℕ) (o : Option (List Value)) → (r.0 == id) ≡ false
    → after (map (change_to now) (cond b (r ∷ rs) rs)) id o ≡ after (map (change_to now) rs) id o
after_other now true r rs id o other = rw other refl
after_other now false r rs id o other = refl

after_chosen : (n : ℕ) (condition : Option (Term ℕ)) (now : Renewal) (rows : Rows) (id : ℕ) (o : Option (List Value)) → RiseFrom n rows
    → after (chosen_changes condition now rows) id o ≡ left_at condition now id (row_of rows id) o
after_chosen n condition now [] id o rise = refl
after_chosen n condition now (r ∷ rs) id o rise =
    let chosen = filter (meets condition) rs in
    let rest = after_chosen (r.0 + 1) condition now rs id o rise.1 in
    elim (cases_order r.0 id) [
      | inl e ↦
          let same : (r.0 == id) ≡ true = grind (arith, nat_tests) in
          let none = none_under (r.0 + 1) rs id rise.1 (omega arith) in
          let kept : after (chosen_changes condition now rs) id o ≡ o = rest ∙ ap (λ (row : Option (List Value)). left_at condition now id row o) none in
          rw same
          (after_cons now (meets condition r) r chosen id o same
          ∙ ap (λ (row : Option (List Value)). if meets condition r then now r else row) kept
          ∙ ap (λ (p : ℕ). if meets condition (p, r.1) then now (p, r.1) else o) e)
      | inr (inl h) ↦
          let other : (r.0 == id) ≡ false = grind (arith, nat_tests) in
          rw other (after_other now (meets condition r) r chosen id o other ∙ rest)
      | inr (inr h) ↦
          let other : (r.0 == id) ≡ false = grind (arith, nat_tests) in
          rw other (after_other now (meets condition r) r chosen id o other ∙ rest)
    ]

old_cons : (whole : Rows) (now : Renewal) (b : Bool) (r : ℕ × List Value) (rs : Rows) → Some r.1 ≡ row_of whole r.0 → AreOld whole (map (change_to now) rs) → AreOld whole (map (change_to now) (cond b (r ∷ rs) rs))
old_cons whole now true r rs is old = (is, old)
old_cons whole now false r rs is old = old

old_among : (n : ℕ) (whole : Rows) (condition : Option (Term ℕ)) (now : Renewal) (rows : Rows) → RiseFrom n rows → ((id : ℕ) (row : List Value) → row_of rows id ≡ Some row → row_of whole id ≡ Some row)
    → AreOld whole (chosen_changes condition now rows)
old_among n whole condition now [] rise in_whole = tt
old_among n whole condition now (r ∷ rs) rise in_whole =
    let own = eq-eqb r.0 r.0 refl in
    let first : row_of (r ∷ rs) r.0 ≡ Some r.1 = rw own refl in
    old_cons whole now (meets condition r) r (filter (meets condition) rs) (sym (in_whole r.0 r.1 first))
    (old_among (r.0 + 1) whole condition now rs rise.1 (λ id row is. in_whole id row (later r rs id row rise.1 is)))

-- each old row is the table's
pub old_chosen : (condition : Option (Term ℕ)) (now : Renewal) (rows : Rows) → RiseFrom 0 rows → AreOld rows (chosen_changes condition now rows)
old_chosen condition now rows rise = old_among 0 rows condition now rows rise (λ id row is. is)

updated_at : (sets : List SetTerm) (condition : Option (Term ℕ)) (id : ℕ) (found : Option (List Value)) → option_map (λ row. updated_row sets condition (id, row)) found ≡ left_at condition (set_to sets) id found found
updated_at sets condition id None = refl
updated_at sets condition id (Some row) =
    let M : Bool → Type 0 = λ b. Some (if b then set_row sets (id, row) else row) ≡ (if b then Some (set_row sets (id, row)) else Some row) in
    elim (meets condition (id, row)) as (λ b. M b) [ true ↦ refl | false ↦ refl ]

-- the changes of an UPDATE make the table after it
pub changed_updated : (rows : Rows) (sets : List SetTerm) (condition : Option (Term ℕ)) → RiseFrom 0 rows → changed rows (chosen_changes condition (set_to sets) rows) ≡ updated rows sets condition
changed_updated rows sets condition rise =
    sym (changed_is rows (chosen_changes condition (set_to sets) rows) (updated rows sets condition) rise (record {
      rises = rises_updated 0 rows sets condition rise;
      rows = λ id. row_of_updated rows sets condition id ∙ updated_at sets condition id (row_of rows id) ∙ sym (after_chosen 0 condition (set_to sets) rows id (row_of rows id) rise);
    }))

deleted_at : (condition : Option (Term ℕ)) (id : ℕ) (found : Option (List Value)) → option_and_then (λ row. if meets condition (id, row) then None else Some row) found ≡ left_at condition gone id found found
deleted_at condition id None = refl
deleted_at condition id (Some row) = refl

-- those of a DELETE make the table after it
pub changed_deleted : (rows : Rows) (condition : Option (Term ℕ)) → RiseFrom 0 rows → changed rows (chosen_changes condition gone rows) ≡ deleted rows condition
changed_deleted rows condition rise =
    sym (changed_is rows (chosen_changes condition gone rows) (deleted rows condition) rise (record {
      rises = rises_deleted 0 rows condition rise;
      rows = λ id. row_of_deleted 0 rows condition id rise ∙ deleted_at condition id (row_of rows id) ∙ sym (after_chosen 0 condition gone rows id (row_of rows id) rise);
    }))

-- ---- changes that add rows

abbrev first_of : Option (List Value) → Option (List Value) → Option (List Value)
first_of None later = later
first_of (Some row) later = Some row

row_of_append : (rows more : Rows) (id : ℕ) → row_of (rows ++ more) id ≡ first_of (row_of rows id) (row_of more id)
row_of_append [] more id = refl
row_of_append (r ∷ rs) more id =
    let M : Bool → Type 0 = λ b. (if b then Some r.1 else row_of (rs ++ more) id) ≡ first_of (if b then Some r.1 else row_of rs id) (row_of more id) in
    elim (r.0 == id) as (λ b. M b) [ true ↦ refl | false ↦ row_of_append rs more id ]

after_added : (rows : Rows) (id : ℕ) (o : Option (List Value)) → after (map added rows) id o ≡ first_of (row_of rows id) o
after_added [] id o = refl
after_added (r ∷ rs) id o =
    let M : Bool → Type 0 = λ b. (if b then Some r.1 else after (map added rs) id o) ≡ first_of (if b then Some r.1 else row_of rs id) o in
    elim (r.0 == id) as (λ b. M b) [ true ↦ refl | false ↦ after_added rs id o ]

first_none : (row : Option (List Value)) → first_of row None ≡ row
first_none None = refl
first_none (Some row) = refl

-- an identifier has a row of the table or a new one
swapped : (rows : Rows) (next : ℕ) (new : List (List Value)) (id : ℕ) → AreBelow rows next
    → first_of (row_of rows id) (row_of (numbered next new) id) ≡ first_of (row_of (numbered next new) id) (row_of rows id)
swapped rows next new id below =
    elim (cases_lt id next) [
      | inl h ↦
          let none = none_under next (numbered next new) id (rises_numbered next new) h in
          rw none (first_none (row_of rows id))
      | inr h ↦
          let none = none_above rows next id below h in
          rw none (sym (first_none (row_of (numbered next new) id)))
    ]

-- those of an INSERT put its rows behind
pub changed_inserted : (rows : Rows) (new : List (List Value)) (next : ℕ) → RiseFrom 0 rows → AreBelow rows next → changed rows (added_changes next new) ≡ inserted rows new next
changed_inserted rows new next rise below =
    sym (changed_is rows (added_changes next new) (inserted rows new next) rise (record {
      rises = rises_inserted rows new next rise below;
      rows = λ id. row_of_append rows (numbered next new) id ∙ swapped rows next new id below ∙ sym (after_added (numbered next new) id (row_of rows id));
    }))

-- nothing stood at their identifiers
pub old_added : (rows : Rows) (new : List (List Value)) (next : ℕ) → AreBelow rows next → AreOld rows (added_changes next new)
unfolding numbered
old_added rows [] next below = tt
old_added rows (row ∷ new) next below = (sym (none_above rows next next below (omega arith)), old_added rows new (next + 1) (below_more rows next (next + 1) (omega arith) below))
