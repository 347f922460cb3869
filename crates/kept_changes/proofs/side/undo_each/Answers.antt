use Rattle.std.proofs.Common.{◌≡◌, ℕ, length, [], slice_index_or, slice_set, ap, sym, ◌∙◌, subst, arith, ◌+◌}
use Rattle.row_store.specs.Rows.{Rows}
use Rattle.row_store.specs.States.{TableState}
use Rattle.op_law.specs.Tables.{Tables, contents}
use Rattle.row_changes.specs.Changed.{TableChanges}
use Rattle.kept_changes.specs.Room.{spares}
use Rattle.kept_changes.specs.Undo.{LeadsBack, SideLeadsBack}
use Rattle.kept_changes.proofs.BackLemmas.{side_last, side_less}
use Rattle.kept_changes.proofs.CapacityLaws.{capacities_set}
use Rattle.kept_changes.proofs.side.undo_each.Goals as goal

pub index_mut-requires : goal.index_mut-requires
index_mut-requires c =
    let ts = c.loop-one.tables.items in
    let led = subst (λ (cs : TableChanges). SideLeadsBack c.loop-one.invariant.some.0 (contents ts) (spares ts) cs) c.in-Some.ensures.items c.loop-one.invariant.some.1 in
    let last = side_last c.loop-one.invariant.some.0 ts c.pop.new.self.items c.in-Some.one (record { rows = []; spare = 0 }) led in
    omega (arith, last.0, c.len.ensures)

pub undo-requires : goal.undo-requires
undo-requires c =
    let ts = c.loop-one.tables.items in
    let d = c.index_mut.result.now in
    let one = c.in-Some.one in
    let rest = c.pop.new.self.items in
    let led = subst (λ (cs : TableChanges). SideLeadsBack c.loop-one.invariant.some.0 (contents ts) (spares ts) cs) c.in-Some.ensures.items c.loop-one.invariant.some.1 in
    let last = side_last c.loop-one.invariant.some.0 ts rest one d led in
    let count : length rest ≡ c.len.result = omega (arith, c.len.ensures) in
    let here : slice_index_or ts (length rest) d ≡ d = ap (λ (n : ℕ). slice_index_or ts n d) count ∙ sym c.index_mut.ensures.value in
    (last.1.0, subst (λ (t : TableState). LeadsBack last.1.0 t.rows t.spare one) here last.1.1)

pub loop-one-preserved : goal.loop-one-preserved
loop-one-preserved c =
    let ts = c.loop-one.tables.items in
    let d = c.index_mut.result.now in
    let one = c.in-Some.one in
    let rest = c.pop.new.self.items in
    let t = c.undo.new.table in
    let count : length rest ≡ c.len.result = omega (arith, c.len.ensures) in
    let here : slice_index_or ts (length rest) d ≡ d = ap (λ (n : ℕ). slice_index_or ts n d) count ∙ sym c.index_mut.ensures.value in
    let restored : (b : Rows) → LeadsBack b (slice_index_or ts (length rest) d).rows (slice_index_or ts (length rest) d).spare one → t.rows ≡ b = λ b led.
    c.undo.ensures.restores b (subst (λ (u : TableState). LeadsBack b u.rows u.spare one) here led) in
    let less : (before : Tables) → SideLeadsBack before (contents ts) (spares ts) c.loop-one.left.items → SideLeadsBack before (contents (slice_set ts c.len.result t)) (spares (slice_set ts c.len.result t)) rest = λ before led.
    let all = subst (λ (cs : TableChanges). SideLeadsBack before (contents ts) (spares ts) cs) c.in-Some.ensures.items led in
    subst (λ (n : ℕ). SideLeadsBack before (contents (slice_set ts n t)) (spares (slice_set ts n t)) rest) count (side_less before ts rest one t d all restored) in
    record {
      some = (c.loop-one.invariant.some.0, less c.loop-one.invariant.some.0 c.loop-one.invariant.some.1);
      all = λ before led. less before (c.loop-one.invariant.all before led);
      capacity = capacities_set ts c.len.result t d (c.undo.ensures.capacity ∙ ap (λ (u : TableState). u.spare + length u.rows) c.index_mut.ensures.value) ∙ c.loop-one.invariant.capacity;
    }
