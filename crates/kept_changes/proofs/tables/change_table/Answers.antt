use Rattle.std.specs.List.{position}
use Rattle.std.proofs.Common.{◌≡◌, ℕ, ◌==◌, ◌≤◌, length, List, [], slice_set, ap, sym, ◌∙◌, subst, ◌+◌}
use Rattle.row_store.specs.Changes.{AreOld}
use Rattle.row_store.specs.Rows.{Rows}
use Rattle.row_store.specs.States.{TableState}
use Rattle.row_changes.specs.Changed.{changed}
use Rattle.version_graph.specs.Sets.{In}
use Rattle.version_model.specs.declared.numbered.Numbered.{Numbered}
use Rattle.version_model.specs.Kept.{rows_at}
use Rattle.kept_changes.specs.Room.{room_at}
use Rattle.kept_changes.specs.Undo.{LeadsBack}
use Rattle.kept_changes.proofs.PlaceLemmas.{has_place, put_here, put_made, put_numbers, put_other, read_here, put_both}
use Rattle.kept_changes.proofs.BackLemmas.{leads_same}
use Rattle.kept_changes.proofs.tables.change_table.Goals as goal

pub unreachable-requires : goal.unreachable-requires
unreachable-requires c =
    let items = c.args.tables.now.items in
    let k = c.args.item.now.number in
    let found = ap (λ (l : List (Numbered _)). position (λ (i : Numbered _). k == i.number) l) (sym c.as_slice.ensures.value) ∙ sym c.place_of.ensures ∙ c.in_default.is in
    has_place items k c.requires.old.0 found

pub change-requires-clause-old : goal.change-requires-clause-old
change-requires-clause-old c =
    let items = c.args.tables.now.items in
    let k = c.args.item.now.number in
    let found = ap (λ (l : List (Numbered _)). position (λ (i : Numbered _). k == i.number) l) (sym c.as_slice.ensures.value) ∙ sym c.place_of.ensures ∙ c.in-Some.is in
    subst (λ (rows : Rows). AreOld rows c.args.item.now.value) (read_here (λ (table : TableState). table.rows) [] items k c.in-Some.at c.index_mut.result.now c.index_mut.ensures.value found) c.requires.old.1

pub change-requires-clause-room : goal.change-requires-clause-room
change-requires-clause-room c =
    let items = c.args.tables.now.items in
    let k = c.args.item.now.number in
    let found = ap (λ (l : List (Numbered _)). position (λ (i : Numbered _). k == i.number) l) (sym c.as_slice.ensures.value) ∙ sym c.place_of.ensures ∙ c.in-Some.is in
    subst (λ (room : ℕ). length c.args.item.now.value ≤ room) (read_here (λ (table : TableState). table.spare) 0 items k c.in-Some.at c.index_mut.result.now c.index_mut.ensures.value found) c.requires.room

pub returns-clause-rows : goal.returns-clause-rows
returns-clause-rows c =
    let items = c.args.tables.now.items in
    let k = c.args.item.now.number in
    let found = ap (λ (l : List (Numbered _)). position (λ (i : Numbered _). k == i.number) l) (sym c.as_slice.ensures.value) ∙ sym c.place_of.ensures ∙ c.in-Some.is in
    put_made (λ (table : TableState). table.rows) [] items k c.in-Some.at c.index_mut.result.now c.index_mut.ensures.value found c.change.new.table (λ (rows : Rows). changed rows c.args.item.now.value) c.change.ensures.rows

pub returns-clause-back : goal.returns-clause-back
returns-clause-back c =
    let items = c.args.tables.now.items in
    let k = c.args.item.now.number in
    let x = c.index_mut.result.now in
    let is = c.index_mut.ensures.value in
    let new = c.change.new.table in
    let found = ap (λ (l : List (Numbered _)). position (λ (i : Numbered _). k == i.number) l) (sym c.as_slice.ensures.value) ∙ sym c.place_of.ensures ∙ c.in-Some.is in
    let put = slice_set items c.in-Some.at (record { number = x.number; value = new }) in
    let old : x.value.rows ≡ rows_at items k = sym (read_here (λ (table : TableState). table.rows) [] items k c.in-Some.at x is found) in (
      subst (λ (ns : List ℕ). In k ns) (sym (put_numbers items c.in-Some.at x is new)) c.requires.old.0,
      subst (λ (rows : Rows). LeadsBack rows (rows_at put k) (room_at put k) c.change.new.changes) old
          (leads_same x.value.rows new.rows (rows_at put k) new.spare (room_at put k) c.change.new.changes (sym (put_here (λ (table : TableState). table.rows) [] items k c.in-Some.at x is found new)) (sym (put_here (λ (table : TableState). table.spare) 0 items k c.in-Some.at x is found new)) c.change.ensures.back),
    )

pub returns-clause-room : goal.returns-clause-room
returns-clause-room c =
    let items = c.args.tables.now.items in
    let k = c.args.item.now.number in
    let found = ap (λ (l : List (Numbered _)). position (λ (i : Numbered _). k == i.number) l) (sym c.as_slice.ensures.value) ∙ sym c.place_of.ensures ∙ c.in-Some.is in
    put_other (λ (table : TableState). table.spare) 0 items k c.in-Some.at c.index_mut.result.now c.index_mut.ensures.value found c.change.new.table

pub returns-clause-numbers : goal.returns-clause-numbers
returns-clause-numbers c = put_numbers c.args.tables.now.items c.in-Some.at c.index_mut.result.now c.index_mut.ensures.value c.change.new.table

pub returns-clause-capacity : goal.returns-clause-capacity
returns-clause-capacity c =
    let items = c.args.tables.now.items in
    let k = c.args.item.now.number in
    let found = ap (λ (l : List (Numbered _)). position (λ (i : Numbered _). k == i.number) l) (sym c.as_slice.ensures.value) ∙ sym c.place_of.ensures ∙ c.in-Some.is in
    put_both (λ (table : TableState). table.spare) 0 (λ (table : TableState). table.rows) [] (λ (room : ℕ) (rows : Rows). room + length rows) items k c.in-Some.at c.index_mut.result.now c.index_mut.ensures.value found c.change.new.table c.change.ensures.capacity
