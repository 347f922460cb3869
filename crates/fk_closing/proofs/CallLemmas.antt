-- Identifiers that are closed under the rules of an operator are closed as its footprints ask.
use Rattle.std.proofs.Common.{◌≡◌, ℕ, ◌+◌, ◌-◌, List, [], ◌∷◌, length, true, Some, refl, sym, ◌∙◌}
use Rattle.par_base.specs.declared.value.Value.{Value}
use Rattle.row_store.specs.Rows.{RiseFrom, row_of}
use Rattle.op_law.specs.Tables.{Tables, AllRise}
use Rattle.op_law.specs.Meaning.{PairState, flip}
use Rattle.op_law.specs.Identifiers.{has_id}
use Rattle.op_rows.specs.inner.Tabulated.{all_rise}
use Rattle.op_tables.specs.SideTables.{first_table, second_table}
use Rattle.row_changes.specs.Changed.{TableChanges, changed_tables}
use Rattle.operator_changes.specs.Calls.{MayChange}
use Rattle.operator_changes.specs.Footprint.{passes}
use Rattle.fk_footprints.specs.Closed.{BringsWitness}
use Rattle.op_fk_join.specs.Columns.{join_columns, side_parts, JoinFits}
use Rattle.op_fk_join.specs.inner.ColumnLemmas.{fits as join_fits}
use Rattle.op_fk_join.specs.inner.JoinLaws.{source_two}
use Rattle.op_fk_decompose.specs.Columns.{column_parts, decompose_columns, DecomposeFits}
use Rattle.op_fk_decompose.specs.inner.ColumnLemmas.{fits as decompose_fits}
use Rattle.op_fk_decompose.specs.inner.DecomposeLaws.{target_of}
use Rattle.fk_footprints.specs.JoinForward.{IsClosedJoin}
use Rattle.fk_footprints.specs.JoinBackward.{IsClosedJoinBack}
use Rattle.fk_footprints.specs.DecomposeForward.{IsClosedDecompose}
use Rattle.fk_footprints.specs.DecomposeBackward.{IsClosedDecomposeBack}
use Rattle.fk_footprints.proofs.DecomposeRowLemmas.{still_keeps as decompose_keeps}
use Rattle.fk_footprints.proofs.JoinBackwardLaws.{still_keeps as join_keeps}
use Rattle.fk_closing.specs.Keys.{AreFkKeys, KeyRows, shared_among}
use Rattle.id_closing.specs.Told.{changes_at, is_changed}
use Rattle.fk_closing.specs.Begins.{BeginsAtRows, BeginsAtTables}
use Rattle.fk_closing.specs.Looking.{HasGoal}
use Rattle.id_closing.specs.Closing.{IsClosing}
use Rattle.fk_closing.specs.Brought.{Rule, IsBrought}
use Rattle.fk_closing.proofs.KeyLemmas.{goals_of_keys, row_is, shared_is, witness_over}
use Rattle.fk_closing.proofs.ClosedLemmas.{touches_all, goals_closed, new_goals_closed, others_closed, witness_closed, least_closed}

-- the second table rises where all do
second_rises : (ts : Tables) → AllRise ts → RiseFrom 0 (second_table ts)
second_rises [] rise = tt
second_rises (t ∷ []) rise = tt
second_rises (t ∷ u ∷ us) rise = rise.1.0

-- the rule of the operators
abbrev pub witness_rule : KeyRows → List ℕ → Rule
witness_rule keys changed = record { keys = keys.keys; changed = changed; witness = true }

module _ (place : ℕ) (keys : KeyRows) (near : TableChanges) (p : PairState) (n : ℕ) (changed begin ids : List ℕ) where
  -- JOIN ON FK, from S and T
  pub join_closes : (first second : ℕ) → AreFkKeys place p.source keys → MayChange (join_columns first second place) near p n → BeginsAtTables place keys.keys near begin
      → IsClosing (IsBrought (witness_rule keys changed)) begin ids → IsClosedJoin (side_parts (first - 1) second place) near p n ids
  join_closes first second are may begins closing =
      let k = side_parts (first - 1) second place in
      let rise = all_rise may.hs p.source may.may.sound.pair.source_of in
      let goals : (q : ℕ) (v : List Value) → has_id ids q ≡ true → row_of (first_table p.source) q ≡ Some v → HasGoal place ids v = λ q v has at. goals_of_keys place p.source keys are ids q (closing.closed q has).goal v at in
      record {
        rise = closing.rise;
        touches = touches_all near begin ids begins.touched closing.begins;
        old_goals = goals_closed k place (λ v. refl) p.source n ids may.may.sound.source goals;
        new_goals = new_goals_closed k place (λ v. refl) p.source near n begin ids rise may.fit may.may.near_sound keys are begins closing.begins goals;
        others = others_closed k place (λ v. refl) p.source near n begin ids rise may.fit may.may.near_sound keys are begins closing.begins goals;
      }

  -- with a row of S that stays for each row of T
  pub join_witness : (first second : ℕ) → AreFkKeys place p.source keys → MayChange (join_columns first second place) near p n → BeginsAtTables place keys.keys near begin
      → ((q : ℕ) → has_id changed q ≡ is_changed (changes_at near 0) q) → IsClosing (IsBrought (witness_rule keys changed)) begin ids
      → BringsWitness (side_parts (first - 1) second place) (passes ids n) (first_table p.source) (second_table p.source) (first_table p.source) (first_table (changed_tables p.source near))
  join_witness first second are may begins same closing =
      witness_closed (side_parts (first - 1) second place) place (has_id changed) (λ v. refl) p.source p.source near n ids (all_rise may.hs p.source may.may.sound.pair.source_of) may.fit may.may.sound.source
      (touches_all near begin ids begins.touched closing.begins) same
      (λ q x v has still at goal. witness_over place p.source keys are (has_id changed) q ids (closing.closed q has).witness x v still at goal)

  -- DECOMPOSE ON FK, from S and T
  pub decompose_back_closes : (first second : List ℕ) → AreFkKeys place p.source keys → MayChange (flip (decompose_columns first second place)) near p n → BeginsAtTables place keys.keys near begin
      → ((q : ℕ) → has_id changed q ≡ is_changed (changes_at near 0) q)
      → IsClosing (IsBrought (witness_rule keys changed)) begin ids → IsClosedDecomposeBack (column_parts first second place) near p n ids
  decompose_back_closes first second are may begins same closing =
      let k = column_parts first second place in
      let rise = all_rise may.hs p.source may.may.sound.pair.source_of in
      let goals : (q : ℕ) (v : List Value) → has_id ids q ≡ true → row_of (first_table p.source) q ≡ Some v → HasGoal place ids v = λ q v has at. goals_of_keys place p.source keys are ids q (closing.closed q has).goal v at in
      let touches = touches_all near begin ids begins.touched closing.begins in
      record {
        rise = closing.rise;
        touches = touches;
        old_goals = goals_closed k place (λ v. refl) p.source n ids may.may.sound.source goals;
        new_goals = new_goals_closed k place (λ v. refl) p.source near n begin ids rise may.fit may.may.near_sound keys are begins closing.begins goals;
        others = others_closed k place (λ v. refl) p.source near n begin ids rise may.fit may.may.near_sound keys are begins closing.begins goals;
        witness = witness_closed k place (has_id changed) (λ v. refl) p.source p.source near n ids rise may.fit may.may.sound.source touches same
            (λ q x v has still at goal. witness_over place p.source keys are (has_id changed) q ids (closing.closed q has).witness x v still at goal);
      }

  -- JOIN ON FK, from R
  pub join_back_closes : (first second : ℕ) → AreFkKeys place p.target keys → MayChange (flip (join_columns first second place)) near p n
      → BeginsAtRows (side_parts (first - 1) second place).second keys.rows near begin
      → IsClosing (IsBrought (witness_rule keys changed)) begin ids → IsClosedJoinBack (side_parts (first - 1) second place) near p n ids
  join_back_closes first second are may begins closing =
      let k = side_parts (first - 1) second place in
      let rise = all_rise may.hs p.source may.may.sound.pair.source_of in
      let t_rise = second_rises p.target (all_rise may.ht p.target may.may.sound.pair.target_of) in
      let fit = join_fits first second place in
      let two = source_two (JoinFits first second place) k ((first - 1) + second) (first - 1) second ((first - 1) + 1) fit may.ht may.hs p.target may.may.sound.pair.fits may.may.sound.pair.target_of in
      let well = (fit may.ht may.hs may.may.sound.pair.fits).well in
      record {
        rise = closing.rise;
        touches = touches_all near begin ids begins.touched closing.begins;
        goals = goals_closed k place (λ v. refl) p.target n ids may.may.sound.target (λ q v has at. goals_of_keys place p.target keys are ids q (closing.closed q has).goal v at);
        least = λ q row g pass at key least.
            least_closed k.second keys.rows p.source near n begin ids rise may.fit begins closing.begins q row g at
            (λ was. join_keeps k ((first - 1) + second) (first - 1) second ((first - 1) + 1) well (first_table p.target) (second_table p.target) two.wide0 two.wide1 q row (sym (may.may.sound.pair.related.1 q) ∙ was) key)
            (row_is place p.target keys are (k.second row) g t_rise least);
      }

  -- with a row of S that stays for each row of T
  pub join_back_witness : (first second : ℕ) → AreFkKeys place p.target keys → MayChange (flip (join_columns first second place)) near p n
      → BeginsAtRows (side_parts (first - 1) second place).second keys.rows near begin
      → ((q : ℕ) → has_id changed q ≡ is_changed (changes_at near 0) q) → IsClosing (IsBrought (witness_rule keys changed)) begin ids
      → BringsWitness (side_parts (first - 1) second place) (passes ids n) (first_table p.target) (second_table p.target) (first_table p.source) (first_table (changed_tables p.source near))
  join_back_witness first second are may begins same closing =
      witness_closed (side_parts (first - 1) second place) place (has_id changed) (λ v. refl) p.target p.source near n ids (all_rise may.hs p.source may.may.sound.pair.source_of) may.fit may.may.sound.target
      (touches_all near begin ids begins.touched closing.begins) same
      (λ q x v has still at goal. witness_over place p.target keys are (has_id changed) q ids (closing.closed q has).witness x v still at goal)

  -- DECOMPOSE ON FK, from R
  pub decompose_closes : (first second : List ℕ) → AreFkKeys place p.target keys → MayChange (decompose_columns first second place) near p n
      → BeginsAtRows (column_parts first second place).second (shared_among keys) near begin
      → ((q : ℕ) → has_id changed q ≡ is_changed (changes_at near 0) q)
      → IsClosing (IsBrought (witness_rule keys changed)) begin ids → IsClosedDecompose (column_parts first second place) near p n ids
  decompose_closes first second are may begins same closing =
      let k = column_parts first second place in
      let rise = all_rise may.hs p.source may.may.sound.pair.source_of in
      let t_rise = second_rises p.target (all_rise may.ht p.target may.may.sound.pair.target_of) in
      let touches = touches_all near begin ids begins.touched closing.begins in
      let fit = decompose_fits first second place in
      let w = length first + length second in
      let two = target_of (DecomposeFits first second place) k (length first + length second) (length first) (length second) (length first + 1) fit may.hs may.ht p.target may.may.sound.pair.fits may.may.sound.pair.target_of in
      let well = (fit may.hs may.ht may.may.sound.pair.fits).well in
      record {
        rise = closing.rise;
        touches = touches;
        goals = goals_closed k place (λ v. refl) p.target n ids may.may.sound.target (λ q v has at. goals_of_keys place p.target keys are ids q (closing.closed q has).goal v at);
        witness = witness_closed k place (has_id changed) (λ v. refl) p.target p.source near n ids rise may.fit may.may.sound.target touches same
            (λ q x v has still at goal. witness_over place p.target keys are (has_id changed) q ids (closing.closed q has).witness x v still at goal);
        least = λ q row g pass at key nonnull least.
            least_closed k.second (shared_among keys) p.source near n begin ids rise may.fit begins closing.begins q row g at
            (λ was. decompose_keeps k (length first + length second) (length first) (length second) (length first + 1) well (first_table p.target) (second_table p.target) two.wide0 two.wide1 q row (sym (may.may.sound.pair.related.1 q) ∙ was) key)
            (shared_is place p.target keys are k (λ v. refl) (k.second row) g t_rise least);
      }
