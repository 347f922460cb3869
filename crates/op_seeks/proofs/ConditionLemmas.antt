-- What changes through JOIN ON a condition have to see, both ways, and through its flip.
use Rattle.std.proofs.Common.{◌≡◌, ℕ, ◌+◌, List, length, Bool, true, false, Option, Some, None, sym, ◌∙◌, subst}
use Rattle.expr_lang.specs.Val.{fits_row}
use Rattle.row_store.specs.Rows.{Rows}
use Rattle.id_memory.specs.Pairs.{Pairs}
use Rattle.op_law.specs.Tables.{Tables}
use Rattle.op_law.specs.Meaning.{Meaning, PairState, exchanged, flip}
use Rattle.row_changes.specs.Changed.{TableChanges}
use Rattle.table_keys.proofs.KeyLaws.{keys_all}
use Rattle.operator_changes.specs.Calls.{ahead, toward}
use Rattle.operator_changes.specs.Footprint.{passes}
use Rattle.pair_rows.specs.Shown.{Joining}
use Rattle.pair_rows.specs.Sides.{table_at}
use Rattle.op_cond_join.specs.Joinings.{joining}
use Rattle.op_cond_join.specs.JoinOn.{join_on}
use Rattle.pair_parts.specs.Apart.{KeepsApart}
use Rattle.pair_parts.proofs.SplitLaws.{keeps_behind}
use Rattle.cond_parts.specs.Apart.{MapsPairApart}
use Rattle.cond_closing.specs.Assigned.{AreRowKeys}
use Rattle.cond_closing.specs.Calls.{AreAssignedApart, AreAssignedFootprint, AreShownApart, AreShownFootprint}
use Rattle.cond_closing.specs.Keyed.{AreKeysOf}
use Rattle.cond_closing.specs.Tabled.{AreTables}
use Rattle.cond_closing.specs.declared.assigned.ByValues.{ByValues}
use Rattle.cond_closing.specs.declared.by_keys.ByKeys.{ByKeys}
use Rattle.cond_closing.specs.declared.by_rows.ByRows.{ByRows}
use Rattle.op_seeks.specs.Places.{AreCondKeys, condition_place, first_columns, second_columns}
use Rattle.op_seeks.specs.Seeking.{ApartOver, FootprintOf, IsMappedPair}
use Rattle.op_seeks.specs.declared.known.CondKeys.{CondKeys}
use Rattle.op_seeks.specs.declared.place.CondPlace.{CondPlace}
use Rattle.op_seeks.specs.declared.known.Known.TheVariants.{Entries}

-- the pair that was mapped is the new one
pub keeps_mapped : (m : Meaning) (back : Bool) (near : TableChanges) (old new : PairState) (n : ℕ) (ids : List ℕ) (mapped : IsMappedPair m back near old new n ids)
    → MapsPairApart (toward back m) near (ahead back old) mapped.next (passes ids mapped.next) → KeepsApart m old new (passes ids n)
keeps_mapped m false near old new n ids mapped maps =
    subst (λ (P : ℕ → Bool). KeepsApart m old new P) mapped.same (subst (λ (q : PairState). KeepsApart m old q (passes ids mapped.next)) (sym mapped.is) maps.apart)
keeps_mapped m true near old new n ids mapped maps =
    let keeps : KeepsApart (flip m) (exchanged old) (exchanged new) (passes ids mapped.next) = subst (λ (q : PairState). KeepsApart (flip m) (exchanged old) q (passes ids mapped.next)) (sym mapped.is) maps.apart in
    subst (λ (P : ℕ → Bool). KeepsApart m old new P) mapped.same (keeps_behind (flip m) (passes ids mapped.next) (exchanged old) (exchanged new) keeps)

-- what is sought by where a condition makes these two columns equal, or none
abbrev pub sought_by : Bool → Option (ℕ × ℕ) → CondPlace
sought_by t o = record { on_target = t; first = first_columns o; second = second_columns o }

-- whatever keys lead to rows that match: in two columns that are equal, or in all
module _ (j : Joining) (knows : Rows → Rows → Type 0) (o : Option (ℕ × ℕ)) (it : CondKeys)
    (known : (t : Bool) (st : Tables) (m : Pairs) → AreCondKeys (sought_by t o) st m it → knows (table_at 0 st) (table_at 1 st))
    (near : TableChanges) (ids : List ℕ) where
  -- changes of S and T
  pub shown_foot : AreShownFootprint j knows it.memory.now.entries near ids → FootprintOf (join_on j) (condition_place false o) false (Entries it) near ids
  shown_foot foot p n are may = foot p n (record { tables = known false p.source p.memory are; memory = sym are.memory }) may

  pub flipped_foot : AreShownFootprint j knows it.memory.now.entries near ids → FootprintOf (flip (join_on j)) (condition_place true o) true (Entries it) near ids
  flipped_foot foot p n are may = foot (exchanged p) n (record { tables = known true p.target p.memory are; memory = sym are.memory }) may

  pub shown_apart : AreShownApart j knows it.memory.now.entries near ids → (changes : TableChanges) → ApartOver (join_on j) (condition_place false o) false (Entries it) near changes ids
  shown_apart apart changes old new n are is mapped elsewhere =
      keeps_mapped (join_on j) false near old new n ids mapped (apart old mapped.next (record { tables = known false old.source old.memory are; memory = sym are.memory }) mapped.may)

  pub flipped_apart : AreShownApart j knows it.memory.now.entries near ids → (changes : TableChanges) → ApartOver (flip (join_on j)) (condition_place true o) true (Entries it) near changes ids
  flipped_apart apart changes old new n are is mapped elsewhere =
      keeps_mapped (flip (join_on j)) true near old new n ids mapped (apart (exchanged old) mapped.next (record { tables = known true old.target old.memory are; memory = sym are.memory }) mapped.may)

-- these keys are in two columns
pub keyed : (k : ByKeys) (it : CondKeys) → k.first.now.rows ≡ it.first.now.rows → k.second.now.rows ≡ it.second.now.rows → (t : Bool) (st : Tables) (m : Pairs)
    → AreCondKeys (sought_by t (Some (k.x, k.y))) st m it → AreKeysOf k (table_at 0 st) (table_at 1 st)
keyed k it first second t st m are = record { first = first ∙ are.first; second = second ∙ are.second }

-- those in all columns are the rows
pub tabled : (k : ByRows) (it : CondKeys) → k.first.now.rows ≡ it.first.now.rows → k.second.now.rows ≡ it.second.now.rows → (t : Bool) (st : Tables) (m : Pairs)
    → AreCondKeys (sought_by t None) st m it → AreTables k (table_at 0 st) (table_at 1 st)
tabled k it first second t st m are = record { first = first ∙ are.first ∙ keys_all (table_at 0 st); second = second ∙ are.second ∙ keys_all (table_at 1 st) }

-- a condition that reads columns which joined rows don't have is that of no pair
module _ (j : Joining) (knows : Rows → Rows → Type 0) (m : Pairs) (near : TableChanges) (ids : List ℕ) (unread : fits_row j.condition (length j.first + length j.second) ≡ true → ⊥) where
  pub unread_foot : AreShownFootprint j knows m near ids
  unread_foot p n known may = absurd (unread may.may.sound.pair.fits.reads)

  pub unread_apart : AreShownApart j knows m near ids
  unread_apart p n known may = absurd (unread may.may.sound.pair.fits.reads)

module _ (v : ByValues) (it : CondKeys) (memory : v.memory.now.entries ≡ it.memory.now.entries) (first : v.first.now.rows ≡ it.first_rows.now.rows) (second : v.second.now.rows ≡ it.second_rows.now.rows) (near : TableChanges) (ids : List ℕ) where
  abbrev j : Joining
  j = joining v.join.now

  pub valued : (t : Bool) (o : Option (ℕ × ℕ)) (st : Tables) (p : PairState) → AreCondKeys (sought_by t o) st p.memory it → AreRowKeys v (table_at 0 st) (table_at 1 st)
  valued t o st p are = record { first = first ∙ are.first_rows; second = second ∙ are.second_rows }

  -- changes of R
  pub assigned_foot : (o : Option (ℕ × ℕ)) → AreAssignedFootprint v near ids → FootprintOf (join_on j) (condition_place false o) true (Entries it) near ids
  assigned_foot o foot p n are may = foot (exchanged p) n (record { tables = valued false o p.source p are; memory = sym are.memory ∙ sym memory }) may

  pub turned_foot : (o : Option (ℕ × ℕ)) → AreAssignedFootprint v near ids → FootprintOf (flip (join_on j)) (condition_place true o) false (Entries it) near ids
  turned_foot o foot p n are may = foot p n (record { tables = valued true o p.target p are; memory = sym are.memory ∙ sym memory }) may

  pub assigned_apart : (o : Option (ℕ × ℕ)) → AreAssignedApart v near ids → (changes : TableChanges) → ApartOver (join_on j) (condition_place false o) true (Entries it) near changes ids
  assigned_apart o apart changes old new n are is mapped elsewhere =
      keeps_mapped (join_on j) true near old new n ids mapped (apart (exchanged old) mapped.next (record { tables = valued false o old.source old are; memory = sym are.memory ∙ sym memory }) mapped.may)

  pub turned_apart : (o : Option (ℕ × ℕ)) → AreAssignedApart v near ids → (changes : TableChanges) → ApartOver (flip (join_on j)) (condition_place true o) false (Entries it) near changes ids
  turned_apart o apart changes old new n are is mapped elsewhere =
      keeps_mapped (flip (join_on j)) false near old new n ids mapped (apart old mapped.next (record { tables = valued true o old.target old are; memory = sym are.memory ∙ sym memory }) mapped.may)
