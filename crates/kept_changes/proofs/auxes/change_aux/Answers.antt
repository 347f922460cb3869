use Rattle.std.specs.List.{position}
use Rattle.std.proofs.Common.{◌≡◌, ℕ, ◌==◌, List, [], slice_set, ap, sym, ◌∙◌, subst}
use Rattle.op_law.specs.Calls.{tables_of}
use Rattle.op_law.specs.Tables.{Tables}
use Rattle.op_law.specs.declared.side.Aux.{Aux}
use Rattle.row_changes.specs.Changed.{AreChangesOf, changed_tables}
use Rattle.version_model.specs.declared.numbered.Numbered.{Numbered}
use Rattle.version_model.specs.Kept.{auxes_at}
use Rattle.kept_changes.specs.Room.{HaveRoom, rooms_at, spares, capacities}
use Rattle.kept_changes.specs.Undo.{SideLeadsBack}
use Rattle.kept_changes.proofs.PlaceLemmas.{put_here, put_made, put_numbers, put_other, read_here, unplaced_seen, put_both}
use Rattle.kept_changes.proofs.SideLemmas.{fit_of, nowhere}
use Rattle.kept_changes.proofs.BackLemmas.{none_changed, side_same}
use Rattle.kept_changes.proofs.auxes.change_aux.Goals as goal

pub change_side-requires : goal.change_side-requires
change_side-requires c =
    let items = c.args.auxes.now.items in
    let k = c.args.item.now.number in
    let found = ap (λ (l : List (Numbered _)). position (λ (i : Numbered _). k == i.number) l) (sym c.as_slice.ensures.value) ∙ sym c.place_of.ensures ∙ c.in-Some.is in
    fit_of c.index_mut.result.now.value.tables c.args.item.now.value.tables
    (subst (λ (ts : Tables). AreChangesOf ts c.args.item.now.value.tables) (read_here (λ (aux : Aux). tables_of aux) [] items k c.in-Some.at c.index_mut.result.now c.index_mut.ensures.value found) c.requires.old)
    (subst (λ (rs : List ℕ). HaveRoom rs c.args.item.now.value.tables) (read_here (λ (aux : Aux). spares aux.tables) [] items k c.in-Some.at c.index_mut.result.now c.index_mut.ensures.value found) c.requires.room)

pub returns-in-Some-clause-rows : goal.returns-in-Some-clause-rows
returns-in-Some-clause-rows c =
    let items = c.args.auxes.now.items in
    let k = c.args.item.now.number in
    let found = ap (λ (l : List (Numbered _)). position (λ (i : Numbered _). k == i.number) l) (sym c.as_slice.ensures.value) ∙ sym c.place_of.ensures ∙ c.in-Some.is in
    put_made (λ (aux : Aux). tables_of aux) [] items k c.in-Some.at c.index_mut.result.now c.index_mut.ensures.value found (record { tables = c.change_side.new.tables }) (λ (ts : Tables). changed_tables ts c.args.item.now.value.tables) c.change_side.ensures.rows

pub returns-in-Some-clause-back : goal.returns-in-Some-clause-back
returns-in-Some-clause-back c =
    let items = c.args.auxes.now.items in
    let k = c.args.item.now.number in
    let x = c.index_mut.result.now in
    let is = c.index_mut.ensures.value in
    let new : Aux = record { tables = c.change_side.new.tables } in
    let put = slice_set items c.in-Some.at (record { number = x.number; value = new }) in
    let found = ap (λ (l : List (Numbered _)). position (λ (i : Numbered _). k == i.number) l) (sym c.as_slice.ensures.value) ∙ sym c.place_of.ensures ∙ c.in-Some.is in
    let old : tables_of x.value ≡ auxes_at items k = sym (read_here (λ (aux : Aux). tables_of aux) [] items k c.in-Some.at x is found) in
    subst (λ (ts : Tables). SideLeadsBack ts (auxes_at put k) (rooms_at put k) c.change_side.new.changes) old
    (side_same (tables_of x.value) (tables_of new) (auxes_at put k) (spares new.tables) (rooms_at put k) c.change_side.new.changes (sym (put_here (λ (aux : Aux). tables_of aux) [] items k c.in-Some.at x is found new)) (sym (put_here (λ (aux : Aux). spares aux.tables) [] items k c.in-Some.at x is found new)) c.change_side.ensures.back)

pub returns-in-Some-clause-room : goal.returns-in-Some-clause-room
returns-in-Some-clause-room c =
    let items = c.args.auxes.now.items in
    let k = c.args.item.now.number in
    let found = ap (λ (l : List (Numbered _)). position (λ (i : Numbered _). k == i.number) l) (sym c.as_slice.ensures.value) ∙ sym c.place_of.ensures ∙ c.in-Some.is in
    put_other (λ (aux : Aux). spares aux.tables) [] items k c.in-Some.at c.index_mut.result.now c.index_mut.ensures.value found (record { tables = c.change_side.new.tables })

pub returns-in-Some-clause-numbers : goal.returns-in-Some-clause-numbers
returns-in-Some-clause-numbers c = put_numbers c.args.auxes.now.items c.in-Some.at c.index_mut.result.now c.index_mut.ensures.value (record { tables = c.change_side.new.tables })

pub returns-in_default-clause-rows : goal.returns-in_default-clause-rows
returns-in_default-clause-rows c n =
    let items = c.args.auxes.now.items in
    let k = c.args.item.now.number in
    let found = ap (λ (l : List (Numbered _)). position (λ (i : Numbered _). k == i.number) l) (sym c.as_slice.ensures.value) ∙ sym c.place_of.ensures ∙ c.in_default.is in
    nowhere (auxes_at items) k n c.args.item.now.value.tables (unplaced_seen (λ (aux : Aux). tables_of aux) [] items k found)

pub returns-in_default-clause-back : goal.returns-in_default-clause-back
returns-in_default-clause-back c =
    let items = c.args.auxes.now.items in
    let k = c.args.item.now.number in
    let found = ap (λ (l : List (Numbered _)). position (λ (i : Numbered _). k == i.number) l) (sym c.as_slice.ensures.value) ∙ sym c.place_of.ensures ∙ c.in_default.is in
    none_changed (auxes_at items k) (rooms_at items k) c.args.item.now.value.tables (unplaced_seen (λ (aux : Aux). tables_of aux) [] items k found) c.requires.old

pub returns-in-Some-clause-capacity : goal.returns-in-Some-clause-capacity
returns-in-Some-clause-capacity c =
    let items = c.args.auxes.now.items in
    let k = c.args.item.now.number in
    let found = ap (λ (l : List (Numbered _)). position (λ (i : Numbered _). k == i.number) l) (sym c.as_slice.ensures.value) ∙ sym c.place_of.ensures ∙ c.in-Some.is in
    put_both (λ (aux : Aux). spares aux.tables) [] (λ (aux : Aux). tables_of aux) [] capacities items k c.in-Some.at c.index_mut.result.now c.index_mut.ensures.value found (record { tables = c.change_side.new.tables }) c.change_side.ensures.capacity
