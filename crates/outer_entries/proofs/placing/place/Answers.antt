use Rattle.std.proofs.Common.{◌≤◌, ℕ, ap, ◌∙◌, refl, rules, sym, subst, take, arith}
use Rattle.std.proofs.lemmas.Result.{err_from_is_err_and}
use Rattle.id_memory.specs.States.{CounterState}
use Rattle.row_store.specs.inner.RowsLeft.{all_left, comes, none_passed, passed, take_passed}
use Rattle.op_law.specs.Calls.{first_refused}
use Rattle.pair_rows.proofs.GivenLaws.{refused_later}
use Rattle.outer_law.specs.Placed.{Placing, placed, place_row, ending}
use Rattle.outer_entries.specs.Showings.{joining_of}
use Rattle.outer_entries.specs.Placings.{placing_of, IsReady}
use Rattle.outer_entries.proofs.PlacingLemmas.{place_step, step_within, placed_rises}
use Rattle.outer_entries.proofs.placing.place.Goals as goal

pub loop-row-init : goal.loop-row-init
loop-row-init c =
    let j = joining_of c.args.join.now in
    let r = c.args.old.now.rows.now.rows in
    let m = c.args.old.now.memory.now.entries in
    let d = placing_of c.args.it.now c.args.ids.now.next in
    let rows = c.args.near.now.rows in
    let all = c.into_iter-row-iterator.result in
    let same = c.into_iter-row-iterator.ensures.into_iter_gives ∙ c.iter-row-items.ensures.all in
    let start = sym (none_passed rows all same) in
    record {
      left = all_left rows all same;
      made = c.new-made.ensures ∙ ap (λ (n : ℕ). placed j r m d (take n rows)) start;
      state = ap (λ (n : ℕ). ending j r m d (take n rows)) start;
      ready = c.requires;
      within = search rules;
      rises = omega arith;
      limit = refl;
    }

pub returns-in_err-a : goal.returns-in_err-a
returns-in_err-a c =
    let j = joining_of c.args.join.now in
    let r = c.args.old.now.rows.now.rows in
    let m = c.args.old.now.memory.now.entries in
    let d = placing_of c.args.it.now c.args.ids.now.next in
    let state = placing_of c.loop-row.it c.loop-row.ids.next in
    let inv = c.loop-row.invariant in
    let rows = c.args.near.now.rows in
    let come = comes rows c.loop-row.row-iterator c.in-Some.row.now c.next.new.self inv.left c.in-Some.ensures.steps in
    let within = step_within j r m d rows (passed rows c.loop-row.row-iterator) c.in-Some.row.now state come.within come.is inv.state in
    let p = err_from_is_err_and c.from_residual.result c.from_residual.ensures.1 in
    rw (p.1, p.2) (refused_later (place_row j r m state c.in-Some.row.now).after.next (ending j r m d rows).next c.args.ids.now c.loop-row.ids c.in_err-a.field-0.0 inv.limit inv.rises inv.within within c.in_err-a.ensures)

pub loop-row-preserved : goal.loop-row-preserved
loop-row-preserved c =
    let j = joining_of c.args.join.now in
    let r = c.args.old.now.rows.now.rows in
    let m = c.args.old.now.memory.now.entries in
    let d = placing_of c.args.it.now c.args.ids.now.next in
    let state = placing_of c.loop-row.it c.loop-row.ids.next in
    let now = placing_of c.place_row.new.it c.place_row.new.ids.next in
    let inv = c.loop-row.invariant in
    let rows = c.args.near.now.rows in
    let come = comes rows c.loop-row.row-iterator c.in-Some.row.now c.next.new.self inv.left c.in-Some.ensures.steps in
    let given = c.in_ok-a.ensures in
    let next = ap (λ (counter : CounterState). counter.next) given.2 in
    let after = ap (λ (n : ℕ). placing_of c.place_row.new.it n) next ∙ given.1.after in
    let step = place_step j r m d rows (passed rows c.loop-row.row-iterator) c.in-Some.row.now c.loop-row.made c.push.new.self state now (c.in_ok-a.a, c.in_ok-a.b) come.within come.is inv.made inv.state given.1.both after c.in_ok-push.ensures.ok in
    let limit = ap (λ (counter : CounterState). counter.limit) given.2 in
    let rises = placed_rises j r m state c.in-Some.row.now in
    let low = given.0 in
    let before = inv.rises in
    let within = inv.within in
    let same = inv.limit in
    record {
      left = come.rest;
      made = step.entries ∙ ap (λ (n : ℕ). placed j r m d (take n rows)) (sym come.next);
      state = step.state ∙ ap (λ (n : ℕ). ending j r m d (take n rows)) (sym come.next);
      ready = subst (λ (n : ℕ). IsReady c.place_row.new.it n) (sym next) given.1.ready;
      within = omega (arith, next, low, same, within, before);
      rises = omega (arith, next, rises, before);
      limit = limit ∙ same;
    }

pub returns : goal.returns
returns c =
    let j = joining_of c.args.join.now in
    let r = c.args.old.now.rows.now.rows in
    let m = c.args.old.now.memory.now.entries in
    let d = placing_of c.args.it.now c.args.ids.now.next in
    let rows = c.args.near.now.rows in
    let inv = c.loop-row.invariant in
    let all = take_passed rows c.loop-row.row-iterator c.in-None.ensures.steps.0 in
    let state = inv.state ∙ ap (ending j r m d) all in
    let next = ap (λ (s : Placing). s.next) state in (
      subst (λ (n : ℕ). n ≤ first_refused c.args.ids.now) next inv.within,
      (inv.made ∙ ap (placed j r m d) all, state),
      ap (λ (n : ℕ). record { next = n; limit = c.loop-row.ids.limit }) next
          ∙ ap (λ (l : ℕ). record { next = (ending j r m d rows).next; limit = l }) inv.limit,
    )
