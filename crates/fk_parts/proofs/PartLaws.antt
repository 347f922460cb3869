-- The laws, with the parts of real columns.
use Rattle.std.proofs.Common.{◌≡◌, ℕ, ◌-◌, Bool, not, refl, sym, subst}
use Rattle.op_law.specs.Tables.{AllRise, Tables}
use Rattle.op_law.specs.Local.{only}
use Rattle.op_rows.specs.inner.Tabulated.{all_rise}
use Rattle.op_tables.specs.SideTables.{first_table, second_table}
use Rattle.row_changes.specs.Changed.{TableChanges, changed_tables}
use Rattle.foreign_keys.specs.KeyParts.{FkParts}
use Rattle.op_fk_decompose.specs.Columns.{column_parts, DecomposeFits}
use Rattle.op_fk_join.specs.Columns.{side_parts, JoinFits}
use Rattle.fk_footprints.specs.Closed.{SeesNoChange}
use Rattle.fk_parts.specs.Closed.{IsClosed, IsClosedOver}
use Rattle.fk_parts.specs.Laws.{DecomposeKeepsApart, DecomposeSplits, JoinKeepsApart, JoinSplits}
use Rattle.fk_parts.proofs.ClosingLemmas.{closed_after, closed_before, closed_by_keys}
use Rattle.fk_parts.proofs.DecomposeLemmas.{splits_decompose}
use Rattle.fk_parts.proofs.JoinLemmas.{splits_join}
use Rattle.fk_parts.proofs.PartLemmas.{first_rise, first_same, second_rise, second_same}
use Rattle.fk_parts.proofs.RestLemmas.{decompose_rest, join_rest}

pub decompose_splits : DecomposeSplits
decompose_splits first second place keys ids P hs ht p are closing listed pair =
    let k = column_parts first second place in
    splits_decompose (DecomposeFits first second place) k P hs ht p pair (closed_by_keys k place (λ v. refl) p.target keys ids P are closing listed)

pub join_splits : JoinSplits
join_splits first second place keys ids P hs ht p are closing listed pair =
    let k = side_parts (first - 1) second place in
    splits_join (JoinFits first second place) k P hs ht p pair (closed_by_keys k place (λ v. refl) p.source keys ids P are closing listed)

-- closed over changes, of the new tables as they are given
module _ (k : FkParts) (P : ℕ → Bool) (near : TableChanges) (st new : Tables) (is : new ≡ changed_tables st near) (c : IsClosedOver k P near st) (same : only (λ q. not (P q)) new ≡ only (λ q. not (P q)) st) where
  now : IsClosed k P (first_table new) (second_table new)
  now =
      let own = subst (λ (x : Tables). only (λ q. not (P q)) x ≡ only (λ q. not (P q)) st) is same in
      subst (λ (x : Tables). IsClosed k P (first_table x) (second_table x)) (sym is) (closed_after k P near st c (first_same P st (changed_tables st near) own))

  others_are : SeesNoChange k P (first_table st) (second_table st) (second_table new)
  others_are = subst (λ (x : Tables). SeesNoChange k P (first_table st) (second_table st) (second_table x)) (sym is) c.others

pub decompose_keeps_apart : DecomposeKeepsApart
decompose_keeps_apart first second place near P hs ht old new before after same is c =
    let k = column_parts first second place in
    let rise : AllRise old.target = all_rise ht old.target before.target_of in
    let new_rise : AllRise new.target = all_rise ht new.target after.target_of in
    let closed = now k P near old.target new.target is c same.target in
    record {
      splits = splits_decompose (DecomposeFits first second place) k P hs ht new after closed;
      at_source = decompose_rest k P (first_table old.target) (second_table old.target) (first_table new.target) (second_table new.target) (first_rise old.target rise) (first_rise new.target new_rise)
          (first_same P old.target new.target same.target) (second_same P old.target new.target same.target) (closed_before k P near old.target c) closed (second_rise old.target rise) (second_rise new.target new_rise)
          (others_are k P near old.target new.target is c same.target);
      at_target = refl;
    }

pub join_keeps_apart : JoinKeepsApart
join_keeps_apart first second place near P hs ht old new before after same is c =
    let k = side_parts (first - 1) second place in
    let rise : AllRise old.source = all_rise hs old.source before.source_of in
    let new_rise : AllRise new.source = all_rise hs new.source after.source_of in
    let r_rise : AllRise old.target = all_rise ht old.target before.target_of in
    let new_r_rise : AllRise new.target = all_rise ht new.target after.target_of in
    let closed = now k P near old.source new.source is c same.source in
    record {
      splits = splits_join (JoinFits first second place) k P hs ht new after closed;
      at_source = refl;
      at_target = join_rest k P (first_table old.source) (second_table old.source) (first_table new.source) (second_table new.source) (first_rise old.source rise) (first_rise new.source new_rise)
          (first_same P old.source new.source same.source) (second_same P old.source new.source same.source) (closed_before k P near old.source c) closed (first_table old.target) (first_table new.target)
          (second_rise old.source rise) (second_rise new.source new_rise) (first_rise old.target r_rise) (first_rise new.target new_r_rise) (first_same P old.target new.target same.target);
    }
