use Rattle.std.proofs.Common.{◌≡◌, ◌≤◌, ◌-◌, length, sym, ap, subst, arith}
use Rattle.row_store.specs.Rows.{Rows}
use Rattle.row_store.specs.States.{TableState}
use Rattle.row_store.specs.Changes.{WasApplied}
use Rattle.row_store.proofs.UndoLaws.{room_added, room_others, undone}
use Rattle.row_store.proofs.table.Table.undo.Goals as goal

pub exchange-requires-clause-room : goal.exchange-requires-clause-room
exchange-requires-clause-room c =
    let was = c.requires.applied.2 in
    room_added c.self.inside.pages.entries c.requires.applied.0 c.requires.applied.1 c.args.changes.now c.self.inside.pages.capacity c.self.invariant.0 c.self.invariant.1 was.fit was.reversed

pub exchange-requires-2-clause-room : goal.exchange-requires-2-clause-room
exchange-requires-2-clause-room c =
    let rows_is = ap (λ (table : TableState). table.rows) c.self.view_is in
    let spare_is : c.self.inside.pages.capacity - length c.self.inside.pages.entries ≡ c.args.self.now.spare = ap (λ (table : TableState). table.spare) c.self.view_is in
    let long : length c.self.inside.pages.entries ≡ length c.args.self.now.rows = ap length rows_is in
    let within = c.self.invariant.1 in
    let same = c.exchange.ensures.capacity in
    let most = c.requires.applied.3 in
    let fits : length c.requires.applied.0 ≤ c.exchange.new.rows.capacity = omega (arith, spare_is, long, within, same, most) in
    room_others c.exchange.new.rows.entries c.self.inside.pages.entries c.requires.applied.0 c.requires.applied.1 c.args.changes.now c.exchange.new.self c.exchange.new.rows.capacity
    (subst (λ (rows : Rows). WasApplied c.requires.applied.0 c.requires.applied.1 rows c.args.changes.now) (sym rows_is) c.requires.applied.2)
    fits c.exchange.ensures.rows c.exchange.ensures.changes

pub returns-clause-restores : goal.returns-clause-restores
returns-clause-restores c = λ before applied was.
    let rows_is = ap (λ (table : TableState). table.rows) c.self.view_is in
    undone c.exchange-2.new.rows.entries c.exchange.new.rows.entries c.self.inside.pages.entries before applied c.args.changes.now c.exchange.new.self c.exchange-2.new.self
    (subst (λ (rows : Rows). WasApplied before applied rows c.args.changes.now) (sym rows_is) was)
    c.exchange.ensures.order c.exchange.ensures.rows c.exchange.ensures.changes c.exchange-2.ensures.rises c.exchange-2.ensures.rows c.exchange-2.ensures.changes
