use Rattle.std.specs.List.{position}
use Rattle.std.proofs.Common.{◌≡◌, ◌==◌, List, [], refl, ap, sym, ◌∙◌}
use Rattle.op_law.specs.Calls.{tables_of}
use Rattle.op_law.specs.declared.side.Aux.{Aux}
use Rattle.version_model.specs.declared.numbered.Numbered.{Numbered}
use Rattle.version_model.specs.Kept.{auxes_at}
use Rattle.kept_changes.specs.Room.{rooms_at, spares, capacities}
use Rattle.kept_changes.proofs.PlaceLemmas.{put_here, put_numbers, put_other, read_here, unplaced_seen, put_both}
use Rattle.kept_changes.proofs.BackLemmas.{side_none, side_same}
use Rattle.kept_changes.proofs.auxes.undo_aux.Goals as goal

pub undo_side-requires : goal.undo_side-requires
undo_side-requires c =
    let items = c.args.auxes.now.items in
    let k = c.args.item.number in
    let x = c.index_mut.result.now in
    let is = c.index_mut.ensures.value in
    let found = ap (λ (l : List (Numbered _)). position (λ (i : Numbered _). k == i.number) l) (sym c.as_slice.ensures.value) ∙ sym c.place_of.ensures ∙ c.in-Some.is in (
      c.requires.0,
      side_same c.requires.0 (auxes_at items k) (tables_of x.value) (rooms_at items k) (spares x.value.tables) c.args.item.value.tables (read_here (λ (aux : Aux). tables_of aux) [] items k c.in-Some.at x is found) (read_here (λ (aux : Aux). spares aux.tables) [] items k c.in-Some.at x is found) c.requires.1,
    )

pub returns-in-Some-clause-restores : goal.returns-in-Some-clause-restores
returns-in-Some-clause-restores c = λ before back.
    let items = c.args.auxes.now.items in
    let k = c.args.item.number in
    let x = c.index_mut.result.now in
    let is = c.index_mut.ensures.value in
    let found = ap (λ (l : List (Numbered _)). position (λ (i : Numbered _). k == i.number) l) (sym c.as_slice.ensures.value) ∙ sym c.place_of.ensures ∙ c.in-Some.is in
    put_here (λ (aux : Aux). tables_of aux) [] items k c.in-Some.at x is found (record { tables = c.undo_side.new.tables })
    ∙ c.undo_side.ensures.restores before (side_same before (auxes_at items k) (tables_of x.value) (rooms_at items k) (spares x.value.tables) c.args.item.value.tables (read_here (λ (aux : Aux). tables_of aux) [] items k c.in-Some.at x is found) (read_here (λ (aux : Aux). spares aux.tables) [] items k c.in-Some.at x is found) back)

pub returns-in-Some-clause-others : goal.returns-in-Some-clause-others
returns-in-Some-clause-others c = λ n other.
    let items = c.args.auxes.now.items in
    let k = c.args.item.number in
    let x = c.index_mut.result.now in
    let is = c.index_mut.ensures.value in
    let new : Aux = record { tables = c.undo_side.new.tables } in
    let found = ap (λ (l : List (Numbered _)). position (λ (i : Numbered _). k == i.number) l) (sym c.as_slice.ensures.value) ∙ sym c.place_of.ensures ∙ c.in-Some.is in
    (put_other (λ (aux : Aux). tables_of aux) [] items k c.in-Some.at x is found new n other, put_other (λ (aux : Aux). spares aux.tables) [] items k c.in-Some.at x is found new n other)

pub returns-in-Some-clause-numbers : goal.returns-in-Some-clause-numbers
returns-in-Some-clause-numbers c = put_numbers c.args.auxes.now.items c.in-Some.at c.index_mut.result.now c.index_mut.ensures.value (record { tables = c.undo_side.new.tables })

pub returns-in_default-clause-restores : goal.returns-in_default-clause-restores
returns-in_default-clause-restores c = λ before back.
    let items = c.args.auxes.now.items in
    let k = c.args.item.number in
    let found = ap (λ (l : List (Numbered _)). position (λ (i : Numbered _). k == i.number) l) (sym c.as_slice.ensures.value) ∙ sym c.place_of.ensures ∙ c.in_default.is in
    let none : auxes_at items k ≡ [] = unplaced_seen (λ (aux : Aux). tables_of aux) [] items k found in
    none ∙ side_none before (rooms_at items k) c.args.item.value.tables (side_same before (auxes_at items k) [] (rooms_at items k) (rooms_at items k) c.args.item.value.tables none refl back)

pub returns-in-Some-clause-capacity : goal.returns-in-Some-clause-capacity
returns-in-Some-clause-capacity c =
    let items = c.args.auxes.now.items in
    let k = c.args.item.number in
    let found = ap (λ (l : List (Numbered _)). position (λ (i : Numbered _). k == i.number) l) (sym c.as_slice.ensures.value) ∙ sym c.place_of.ensures ∙ c.in-Some.is in
    put_both (λ (aux : Aux). spares aux.tables) [] (λ (aux : Aux). tables_of aux) [] capacities items k c.in-Some.at c.index_mut.result.now c.index_mut.ensures.value found (record { tables = c.undo_side.new.tables }) c.undo_side.ensures.capacity
