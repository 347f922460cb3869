-- Identifiers that are closed by the keys of S are closed, and stay so over changes.
use Rattle.std.proofs.Common.{◌≡◌, ℕ, List, [], Bool, false, Some, None, refl, ap, sym, ◌∙◌}
use mathlib.Core.Logic.{inl}
use Rattle.par_base.specs.declared.value.Value.{Value}
use Rattle.row_store.specs.Rows.{row_of}
use Rattle.op_law.specs.Tables.{Tables}
use Rattle.op_law.specs.Identifiers.{has_id}
use Rattle.op_tables.specs.SideTables.{first_table, second_table}
use Rattle.row_parts.specs.RowCells.{by_option}
use Rattle.row_parts.specs.RowEdits.{value_at}
use Rattle.row_changes.specs.Changed.{TableChanges, changed_tables}
use Rattle.foreign_keys.specs.KeyParts.{FkParts}
use Rattle.foreign_keys.specs.References.{goal_of}
use Rattle.fk_closing.specs.Keys.{AreFkKeys, KeyRows}
use Rattle.fk_parts.proofs.KeyLemmas.{goals_of_keys, witness_over}
use Rattle.fk_parts.specs.Closed.{IsClosed, IsClosedOver, PassListed}
use Rattle.fk_parts.specs.Laws.{AreClosing}

-- by the keys of S
pub closed_by_keys : (k : FkParts) (place : ℕ) → ((v : List Value) → k.key v ≡ value_at place v) → (st : Tables) (keys : KeyRows) (ids : List ℕ) (P : ℕ → Bool) → AreFkKeys place st keys → AreClosing keys ids → PassListed P ids st
    → IsClosed k P (first_table st) (second_table st)
closed_by_keys k place key st keys ids P are closing listed = record {
  goals = λ p v q pass at goal. inl (listed.all q (goals_of_keys place st keys are ids p (closing.1.closed p (listed.first p v at pass)).goal v at q (ap goal_of (sym (key v)) ∙ goal)));
  witness = λ q u p v pass at out is goal.
      let w = witness_over place st keys are (has_id []) q ids (closing.1.closed q (listed.second q u at pass)).witness p v refl is (ap goal_of (sym (key v)) ∙ goal) in
      record { id = w.id; row = w.refers.row; passed = listed.all w.id w.among; at = w.refers.at; goal = ap goal_of (key w.refers.row) ∙ w.refers.goal; still = refl };
}

-- before changes over which they are closed
pub closed_before : (k : FkParts) (P : ℕ → Bool) (near : TableChanges) (st : Tables) → IsClosedOver k P near st → IsClosed k P (first_table st) (second_table st)
closed_before k P near st c = record {
  goals = c.old_goals;
  witness = λ q u p v pass at out is goal.
      let w = c.witness q u p v pass at out is goal in
      record { id = w.id; row = w.row; passed = w.passed; at = w.at; goal = w.goal; still = refl };
}

-- and after them, where S is the same elsewhere
pub closed_after : (k : FkParts) (P : ℕ → Bool) (near : TableChanges) (st : Tables) → IsClosedOver k P near st
    → ((q : ℕ) → P q ≡ false → row_of (first_table (changed_tables st near)) q ≡ row_of (first_table st) q)
    → IsClosed k P (first_table (changed_tables st near)) (second_table (changed_tables st near))
closed_after k P near st c same = record {
  goals = c.new_goals;
  witness = λ q u p v pass at out is goal.
      let was = sym (same p out) ∙ is in
      by_option (row_of (second_table st) q)
      (λ none.
      let gone = c.others p v q out was goal in
      let clash : Some u ≡ None = sym at ∙ gone ∙ none in absurd (let no : ⊥ = cc in no))
      (λ old there.
      let w = c.witness q old p v pass there out was goal in
      record { id = w.id; row = w.row; passed = w.passed; at = w.still ∙ w.at; goal = w.goal; still = refl });
}
