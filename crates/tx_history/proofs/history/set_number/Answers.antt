-- The number under the table is another one, and no other changes.
use Rattle.std.specs.List.{position}
use Rattle.std.proofs.Common.{ℕ, ◌==◌, List, slice_set, sym, ap, ◌∙◌}
use Rattle.version_model.specs.Kept.{numbers_in}
use Rattle.version_model.specs.declared.numbered.Numbered.{Numbered}
use Rattle.version_model.proofs.NumberedLaws.{numbers_set}
use Rattle.tx_history.specs.History.{number_in}
use Rattle.tx_history.proofs.NumberLaws.{no_place, number_put}
use Rattle.tx_history.proofs.history.set_number.Goals as goal

pub returns-in-Some-clause-rows : goal.returns-in-Some-clause-rows
returns-in-Some-clause-rows c = λ kept t.
    let items = c.args.changed.now.items in
    let d = c.index_mut.result.now in
    let k = c.args.table in
    let found = ap (λ (l : List (Numbered ℕ)). position (λ (i : Numbered ℕ). k == i.number) l) (sym c.as_slice.ensures.value) ∙ sym c.place_of.ensures ∙ c.in-Some.is in
    ap (λ (x : Numbered ℕ). number_in (slice_set items c.in-Some.place (record { number = x.number; value = c.args.at })) t) c.index_mut.ensures.value
    ∙ number_put items k c.in-Some.place c.args.at d found t

pub returns-in-Some-clause-numbers : goal.returns-in-Some-clause-numbers
returns-in-Some-clause-numbers c =
    let items = c.args.changed.now.items in
    ap (λ (x : Numbered ℕ). numbers_in (slice_set items c.in-Some.place (record { number = x.number; value = c.args.at }))) c.index_mut.ensures.value
    ∙ numbers_set items c.in-Some.place c.args.at c.index_mut.result.now

pub returns-in_default-clause-rows : goal.returns-in_default-clause-rows
returns-in_default-clause-rows c = λ kept t.
    let k = c.args.table in
    let found = ap (λ (l : List (Numbered ℕ)). position (λ (i : Numbered ℕ). k == i.number) l) (sym c.as_slice.ensures.value) ∙ sym c.place_of.ensures ∙ c.in_default.is in
    absurd (no_place c.args.changed.now.items k kept found)
