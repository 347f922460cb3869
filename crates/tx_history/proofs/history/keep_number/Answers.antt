-- A number stands there, or a 0 comes behind the others.
use Rattle.std.specs.List.{position}
use Rattle.std.proofs.Common.{ℕ, ◌==◌, List, refl, sym, ap, subst, ◌∙◌}
use Rattle.version_graph.specs.Sets.{In}
use Rattle.version_model.specs.Kept.{numbers_in}
use Rattle.version_model.specs.declared.numbered.Numbered.{Numbered}
use Rattle.tx_history.specs.History.{number_in}
use Rattle.tx_history.proofs.NumberLaws.{in_more, number_more, ok_push, on_push, place_in, within_more}
use Rattle.tx_history.proofs.history.keep_number.Goals as goal

pub returns-then-is_some-clause-ok : goal.returns-then-is_some-clause-ok
returns-then-is_some-clause-ok c =
    let k = c.args.table in
    let found = c.place_of.ensures ∙ ap (λ (l : List (Numbered ℕ)). position (λ (i : Numbered ℕ). k == i.number) l) c.as_slice.ensures in
    place_in c.args.changed.now k c.place_of.result found (sym c.is_some.ensures ∙ c.if-is_some.true)

pub returns-clause-same : goal.returns-clause-same
returns-clause-same c t =
    let x : Numbered ℕ = record { number = c.args.table; value = 0 } in
    on_push c.push.result c.push.ensures.ok c.push.ensures.err
    (λ e. ap (λ (l : List (Numbered ℕ)). number_in l t) e ∙ number_more c.args.changed.now x refl t)
    (λ e. ap (λ (l : List (Numbered ℕ)). number_in l t) e)

pub returns-clause-more : goal.returns-clause-more
returns-clause-more c n i =
    let x : Numbered ℕ = record { number = c.args.table; value = 0 } in
    on_push c.push.result c.push.ensures.ok c.push.ensures.err
    (λ e. subst (λ (l : List (Numbered ℕ)). In n (numbers_in l)) (sym e) (within_more c.args.changed.now x n i))
    (λ e. subst (λ (l : List (Numbered ℕ)). In n (numbers_in l)) (sym e) i)

pub returns-clause-ok : goal.returns-clause-ok
returns-clause-ok c =
    let x : Numbered ℕ = record { number = c.args.table; value = 0 } in
    ok_push c.push.result c.push.ensures.ok (λ e. subst (λ (l : List (Numbered ℕ)). In c.args.table (numbers_in l)) (sym e) (in_more c.args.changed.now x))
