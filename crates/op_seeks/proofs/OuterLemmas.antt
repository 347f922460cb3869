-- What changes through OUTER JOIN ON a condition have to see, both ways.
use Rattle.std.proofs.Common.{◌≡◌, ℕ, ◌+◌, List, length, Bool, true, false, Option, sym, ◌∙◌, subst}
use Rattle.expr_lang.specs.Val.{fits_row}
use Rattle.row_store.specs.Rows.{Rows}
use Rattle.id_memory.specs.Pairs.{Pairs}
use Rattle.op_law.specs.Tables.{Tables}
use Rattle.op_law.specs.Meaning.{exchanged}
use Rattle.row_changes.specs.Changed.{TableChanges}
use Rattle.pair_rows.specs.Shown.{Joining}
use Rattle.pair_rows.specs.Sides.{table_at}
use Rattle.op_cond_join.specs.Joinings.{joining}
use Rattle.outer_law.specs.OuterOn.{outer_on}
use Rattle.equal_columns.specs.Columns.{equal_in}
use Rattle.cond_closing.specs.declared.assigned.ByValues.{ByValues}
use Rattle.outer_closing.specs.Calls.{AreOuterApart, AreOuterAssignedApart, AreOuterAssignedFootprint, AreOuterFootprint}
use Rattle.op_seeks.specs.Places.{AreCondKeys, condition_place}
use Rattle.op_seeks.specs.Seeking.{ApartOver, FootprintOf}
use Rattle.op_seeks.specs.declared.known.CondKeys.{CondKeys}
use Rattle.op_seeks.specs.declared.known.Known.TheVariants.{Entries}
use Rattle.op_seeks.proofs.ConditionLemmas.{keeps_mapped, sought_by, valued}

-- whatever keys lead to rows that match: in two columns that are equal, or in all
module _ (j : Joining) (knows : Rows → Rows → Type 0) (o : Option (ℕ × ℕ)) (it : CondKeys)
    (known : (t : Bool) (st : Tables) (m : Pairs) → AreCondKeys (sought_by t o) st m it → knows (table_at 0 st) (table_at 1 st))
    (near : TableChanges) (ids : List ℕ) where
  -- changes of S and T
  pub shown_foot : AreOuterFootprint j knows it.memory.now.entries near ids → FootprintOf (outer_on j) (condition_place false o) false (Entries it) near ids
  shown_foot foot p n are may = foot p n (record { tables = known false p.source p.memory are; memory = sym are.memory }) may

  pub shown_apart : AreOuterApart j knows it.memory.now.entries near ids → (changes : TableChanges) → ApartOver (outer_on j) (condition_place false o) false (Entries it) near changes ids
  shown_apart apart changes old new n are is mapped elsewhere =
      keeps_mapped (outer_on j) false near old new n ids mapped (apart old mapped.next (record { tables = known false old.source old.memory are; memory = sym are.memory }) mapped.may)

-- a condition that reads columns which joined rows don't have is that of no pair
module _ (j : Joining) (knows : Rows → Rows → Type 0) (m : Pairs) (near : TableChanges) (ids : List ℕ) (unread : fits_row j.condition (length j.first + length j.second) ≡ true → ⊥) where
  pub unread_foot : AreOuterFootprint j knows m near ids
  unread_foot p n known may = absurd (unread may.may.sound.pair.fits.reads)

  pub unread_apart : AreOuterApart j knows m near ids
  unread_apart p n known may = absurd (unread may.may.sound.pair.fits.reads)

module _ (v : ByValues) (it : CondKeys) (memory : v.memory.now.entries ≡ it.memory.now.entries) (first : v.first.now.rows ≡ it.first_rows.now.rows) (second : v.second.now.rows ≡ it.second_rows.now.rows) (near : TableChanges) (ids : List ℕ) where
  abbrev j : Joining
  j = joining v.join.now

  -- changes of R
  pub assigned_foot : (o : Option (ℕ × ℕ)) → AreOuterAssignedFootprint v near ids → FootprintOf (outer_on j) (condition_place false o) true (Entries it) near ids
  assigned_foot o foot p n are may = foot (exchanged p) n (record { tables = valued v it memory first second near ids false o p.source p are; memory = sym are.memory ∙ sym memory }) may

  pub assigned_apart : (o : Option (ℕ × ℕ)) → AreOuterAssignedApart v near ids → (changes : TableChanges) → ApartOver (outer_on j) (condition_place false o) true (Entries it) near changes ids
  assigned_apart o apart changes old new n are is mapped elsewhere =
      keeps_mapped (outer_on j) true near old new n ids mapped (apart (exchanged old) mapped.next (record { tables = valued v it memory first second near ids false o old.source old are; memory = sym are.memory ∙ sym memory }) mapped.may)

-- of one join as of another that is the same
pub foot_as : (ids : List ℕ) (j k : Joining) → j ≡ k → (backward : Bool) (it : CondKeys) (near : TableChanges)
    → FootprintOf (outer_on j) (condition_place false (equal_in j j.condition)) backward (Entries it) near ids → FootprintOf (outer_on k) (condition_place false (equal_in k k.condition)) backward (Entries it) near ids
foot_as ids j k same backward it near foot = subst (λ (x : Joining). FootprintOf (outer_on x) (condition_place false (equal_in x x.condition)) backward (Entries it) near ids) same foot

pub apart_as : (ids : List ℕ) (j k : Joining) → j ≡ k → (backward : Bool) (it : CondKeys) (near changes : TableChanges)
    → ApartOver (outer_on j) (condition_place false (equal_in j j.condition)) backward (Entries it) near changes ids → ApartOver (outer_on k) (condition_place false (equal_in k k.condition)) backward (Entries it) near changes ids
apart_as ids j k same backward it near changes apart = subst (λ (x : Joining). ApartOver (outer_on x) (condition_place false (equal_in x x.condition)) backward (Entries it) near changes ids) same apart
