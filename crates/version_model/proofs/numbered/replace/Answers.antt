use Rattle.std.specs.List.{position}
use Rattle.std.proofs.Common.{◌==◌, List, map, slice_set, ap, sym, ◌∙◌}
use Rattle.version_model.specs.Kept.{value_of}
use Rattle.version_model.specs.declared.numbered.Numbered.{Numbered}
use Rattle.version_model.proofs.NumberedLaws.{numbers_set, renewed_there, renewed_nowhere}
use Rattle.version_model.proofs.numbered.replace.Goals as goal

pub returns-in-Some-clause-values : goal.returns-in-Some-clause-values
returns-in-Some-clause-values g c n =
    let items = c.args.items.now.items in
    let d = c.index_mut.result.now in
    let k = c.args.item.number in
    let found = ap (λ (l : List (Numbered _)). position (λ (i : Numbered _). k == i.number) l) (sym c.as_slice.ensures.value) ∙ sym c.place_of.ensures ∙ c.in-Some.is in
    ap (λ (x : Numbered _). value_of (slice_set items c.in-Some.at (record { number = x.number; value = c.args.item.value })) n) c.index_mut.ensures.value
    ∙ renewed_there items k c.in-Some.at c.args.item.value d found n

pub returns-in_default-clause-values : goal.returns-in_default-clause-values
returns-in_default-clause-values g c n =
    let k = c.args.item.number in
    let found = ap (λ (l : List (Numbered _)). position (λ (i : Numbered _). k == i.number) l) (sym c.as_slice.ensures.value) ∙ sym c.place_of.ensures ∙ c.in_default.is in
    renewed_nowhere c.args.items.now.items k c.args.item.value found n

pub returns-in-Some-clause-numbers : goal.returns-in-Some-clause-numbers
returns-in-Some-clause-numbers g c =
    let items = c.args.items.now.items in
    let d = c.index_mut.result.now in
    ap (λ (x : Numbered _). map (λ (i : Numbered _). i.number) (slice_set items c.in-Some.at (record { number = x.number; value = c.args.item.value }))) c.index_mut.ensures.value
    ∙ numbers_set items c.in-Some.at c.args.item.value d
