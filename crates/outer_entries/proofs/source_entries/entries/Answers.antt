use Rattle.std.proofs.Common.{◌∙◌, ℕ, ◌+◌, ◌≤◌, List, ◌++◌, length, filter, ap, subst}
use Rattle.id_memory.specs.Pairs.{Pairs}
use Rattle.id_memory.specs.States.{CounterState}
use Rattle.op_law.specs.Calls.{first_refused}
use Rattle.pair_rows.specs.Shown.{numbered}
use Rattle.outer_entries.specs.inner.Calls.{is_entry_in}
use Rattle.outer_entries.proofs.source_entries.entries.Goals as goal

pub returns : goal.returns
returns g c =
    let it = c.args.it.now in
    let ids : CounterState = c.args.ids.now in
    let kept : Pairs → Pairs = λ es. filter (λ e. is_entry_in it e.1 e.2) es in
    let old = c.as_slice.ensures ∙ c.in_ok-old.ensures.all in
    let new = c.as_slice-2.ensures ∙ c.in_ok-new.ensures in
    let drawn = c.as_slice-3.ensures ∙ c.in_ok-drawn.ensures.1 ∙ ap (numbered ids.next) new in (
      subst (λ (xs : List (ℕ × ℕ)). ids.next + length xs ≤ first_refused ids) new c.in_ok-drawn.ensures.0,
      c.in_ok-append.ensures ∙ ap (λ (es : Pairs). es ++ c.as_slice-3.result.now) (c.in_ok-made.ensures ∙ ap kept old) ∙ ap (λ (es : Pairs). kept it.memory.now.entries ++ es) drawn,
      c.in_ok-drawn.ensures.2 ∙ ap (λ (xs : List (ℕ × ℕ)). record ids { next = ids.next + length xs }) new,
    )
