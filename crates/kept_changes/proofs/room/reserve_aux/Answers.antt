use Rattle.std.specs.List.{position}
use Rattle.std.proofs.Common.{◌≡◌, ℕ, ◌==◌, ◌≤◌, length, List, [], OnOk, refl, ap, sym, ◌∙◌, subst}
use Rattle.op_law.specs.Calls.{tables_of}
use Rattle.op_law.specs.Tables.{Tables}
use Rattle.op_law.specs.declared.side.Aux.{Aux}
use Rattle.row_changes.specs.Changed.{AreChangesOf, TableChanges}
use Rattle.version_model.specs.declared.numbered.Numbered.{Numbered}
use Rattle.kept_changes.specs.Room.{HaveRoom, rooms_at, spares, AreAtLeast}
use Rattle.kept_changes.proofs.PlaceLemmas.{put_here, put_numbers, put_related, read_here, unplaced_seen}
use Rattle.kept_changes.proofs.CapacityLaws.{at_least_same}
use Rattle.kept_changes.proofs.SideLemmas.{many}
use Rattle.kept_changes.proofs.room.reserve_aux.Goals as goal

pub reserve_side-requires : goal.reserve_side-requires
reserve_side-requires c =
    let items = c.args.auxes.now.items in
    let k = c.args.item.now.number in
    let found = ap (λ (l : List (Numbered _)). position (λ (i : Numbered _). k == i.number) l) (sym c.as_slice.ensures.value) ∙ sym c.place_of.ensures ∙ c.in-Some.is in
    let tables = c.index_mut.result.now.value.tables in
    let least : length c.args.item.now.value.tables ≤ length tables =
    many tables c.args.item.now.value.tables (subst (λ (ts : Tables). AreChangesOf ts c.args.item.now.value.tables) (read_here (λ (aux : Aux). tables_of aux) [] items k c.in-Some.at c.index_mut.result.now c.index_mut.ensures.value found) c.requires) in
    subst (λ (cs : TableChanges). length cs ≤ length tables) (sym c.as_slice-in-Some.ensures) least

pub returns-in-Some-clause-room : goal.returns-in-Some-clause-room
returns-in-Some-clause-room c =
    let items = c.args.auxes.now.items in
    let k = c.args.item.now.number in
    let found = ap (λ (l : List (Numbered _)). position (λ (i : Numbered _). k == i.number) l) (sym c.as_slice.ensures.value) ∙ sym c.place_of.ensures ∙ c.in-Some.is in
    subst (λ (rs : List ℕ). OnOk c.reserve_side.result (HaveRoom rs c.args.item.now.value.tables)) (sym (put_here (λ (aux : Aux). spares aux.tables) [] items k c.in-Some.at c.index_mut.result.now c.index_mut.ensures.value found (record { tables = c.reserve_side.new.tables })))
    (subst (λ (cs : TableChanges). OnOk c.reserve_side.result (HaveRoom (spares c.reserve_side.new.tables) cs)) c.as_slice-in-Some.ensures c.reserve_side.ensures.room)

pub returns-in-Some-clause-grown : goal.returns-in-Some-clause-grown
returns-in-Some-clause-grown c =
    let items = c.args.auxes.now.items in
    let k = c.args.item.now.number in
    let found = ap (λ (l : List (Numbered _)). position (λ (i : Numbered _). k == i.number) l) (sym c.as_slice.ensures.value) ∙ sym c.place_of.ensures ∙ c.in-Some.is in
    put_related (λ (aux : Aux). spares aux.tables) [] items k c.in-Some.at c.index_mut.result.now c.index_mut.ensures.value found AreAtLeast at_least_same (record { tables = c.reserve_side.new.tables }) c.reserve_side.ensures.grown

pub returns-in-Some-clause-same : goal.returns-in-Some-clause-same
returns-in-Some-clause-same c =
    let items = c.args.auxes.now.items in
    let k = c.args.item.now.number in
    let found = ap (λ (l : List (Numbered _)). position (λ (i : Numbered _). k == i.number) l) (sym c.as_slice.ensures.value) ∙ sym c.place_of.ensures ∙ c.in-Some.is in
    put_related (λ (aux : Aux). tables_of aux) [] items k c.in-Some.at c.index_mut.result.now c.index_mut.ensures.value found (λ (a b : Tables). b ≡ a) (λ (a : Tables). refl) (record { tables = c.reserve_side.new.tables }) c.reserve_side.ensures.same

pub returns-in-Some-clause-numbers : goal.returns-in-Some-clause-numbers
returns-in-Some-clause-numbers c = put_numbers c.args.auxes.now.items c.in-Some.at c.index_mut.result.now c.index_mut.ensures.value (record { tables = c.reserve_side.new.tables })

pub returns-in-None-clause-room : goal.returns-in-None-clause-room
returns-in-None-clause-room c =
    let items = c.args.auxes.now.items in
    let k = c.args.item.now.number in
    let found = ap (λ (l : List (Numbered _)). position (λ (i : Numbered _). k == i.number) l) (sym c.as_slice.ensures.value) ∙ sym c.place_of.ensures ∙ c.in-None.is in
    subst (λ (rs : List ℕ). HaveRoom rs c.args.item.now.value.tables) (sym (unplaced_seen (λ (aux : Aux). spares aux.tables) [] items k found)) tt

pub returns-in-None-clause-grown : goal.returns-in-None-clause-grown
returns-in-None-clause-grown c n = at_least_same (rooms_at c.args.auxes.now.items n)
