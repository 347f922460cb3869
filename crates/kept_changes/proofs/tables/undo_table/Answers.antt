use Rattle.std.specs.List.{position}
use Rattle.std.proofs.Common.{◌==◌, List, [], ap, sym, ◌∙◌, ◌+◌, ℕ, length}
use Rattle.row_store.specs.States.{TableState}
use Rattle.version_model.specs.declared.numbered.Numbered.{Numbered}
use Rattle.version_model.specs.Kept.{rows_at}
use Rattle.kept_changes.specs.Room.{room_at}
use Rattle.kept_changes.proofs.PlaceLemmas.{has_place, put_here, put_numbers, put_other, read_here, put_both}
use Rattle.kept_changes.proofs.BackLemmas.{leads_same}
use Rattle.row_store.specs.Rows.{Rows}
use Rattle.kept_changes.proofs.tables.undo_table.Goals as goal

pub unreachable-requires : goal.unreachable-requires
unreachable-requires c =
    let items = c.args.tables.now.items in
    let k = c.args.item.number in
    let found = ap (λ (l : List (Numbered _)). position (λ (i : Numbered _). k == i.number) l) (sym c.as_slice.ensures.value) ∙ sym c.place_of.ensures ∙ c.in_default.is in
    has_place items k c.requires.kept found

pub undo-requires : goal.undo-requires
undo-requires c =
    let items = c.args.tables.now.items in
    let k = c.args.item.number in
    let x = c.index_mut.result.now in
    let is = c.index_mut.ensures.value in
    let found = ap (λ (l : List (Numbered _)). position (λ (i : Numbered _). k == i.number) l) (sym c.as_slice.ensures.value) ∙ sym c.place_of.ensures ∙ c.in-Some.is in
    let before = c.requires.back.0 in (
      before,
      leads_same before (rows_at items k) x.value.rows (room_at items k) x.value.spare c.args.item.value (read_here (λ (table : TableState). table.rows) [] items k c.in-Some.at x is found) (read_here (λ (table : TableState). table.spare) 0 items k c.in-Some.at x is found) c.requires.back.1,
    )

pub returns-clause-restores : goal.returns-clause-restores
returns-clause-restores c = λ before back.
    let items = c.args.tables.now.items in
    let k = c.args.item.number in
    let x = c.index_mut.result.now in
    let is = c.index_mut.ensures.value in
    let found = ap (λ (l : List (Numbered _)). position (λ (i : Numbered _). k == i.number) l) (sym c.as_slice.ensures.value) ∙ sym c.place_of.ensures ∙ c.in-Some.is in
    put_here (λ (table : TableState). table.rows) [] items k c.in-Some.at x is found c.undo.new.table
    ∙ c.undo.ensures.restores before (leads_same before (rows_at items k) x.value.rows (room_at items k) x.value.spare c.args.item.value (read_here (λ (table : TableState). table.rows) [] items k c.in-Some.at x is found) (read_here (λ (table : TableState). table.spare) 0 items k c.in-Some.at x is found) back)

pub returns-clause-others : goal.returns-clause-others
returns-clause-others c = λ n other.
    let items = c.args.tables.now.items in
    let k = c.args.item.number in
    let x = c.index_mut.result.now in
    let is = c.index_mut.ensures.value in
    let found = ap (λ (l : List (Numbered _)). position (λ (i : Numbered _). k == i.number) l) (sym c.as_slice.ensures.value) ∙ sym c.place_of.ensures ∙ c.in-Some.is in
    (put_other (λ (table : TableState). table.rows) [] items k c.in-Some.at x is found c.undo.new.table n other, put_other (λ (table : TableState). table.spare) 0 items k c.in-Some.at x is found c.undo.new.table n other)

pub returns-clause-numbers : goal.returns-clause-numbers
returns-clause-numbers c = put_numbers c.args.tables.now.items c.in-Some.at c.index_mut.result.now c.index_mut.ensures.value c.undo.new.table

pub returns-clause-capacity : goal.returns-clause-capacity
returns-clause-capacity c =
    let items = c.args.tables.now.items in
    let k = c.args.item.number in
    let found = ap (λ (l : List (Numbered _)). position (λ (i : Numbered _). k == i.number) l) (sym c.as_slice.ensures.value) ∙ sym c.place_of.ensures ∙ c.in-Some.is in
    put_both (λ (table : TableState). table.spare) 0 (λ (table : TableState). table.rows) [] (λ (room : ℕ) (rows : Rows). room + length rows) items k c.in-Some.at c.index_mut.result.now c.index_mut.ensures.value found c.undo.new.table c.undo.ensures.capacity
