use Rattle.std.specs.Prelude.{IfSome}
use Rattle.std.proofs.Common.{ℕ, List, Option, filter, ap, ◌∙◌, subst}
use Rattle.equal_columns.specs.declared.keyed.KeyedRows.{KeyedRows}
use Rattle.pair_rows.specs.inner.Changed.{pairs_of}
use Rattle.pair_rows.proofs.ChangedLemmas.{pairs_all}
use Rattle.outer_entries.specs.Showings.{joining_in}
use Rattle.outer_entries.specs.inner.Calls.{AreSecondsKeyed}
use Rattle.outer_entries.proofs.seconds.ids_for.Goals as goal

pub returns-in_ok-ids-in-Some : goal.returns-in_ok-ids-in-Some
returns-in_ok-ids-in-Some c it are =
    let j = joining_in it in
    let keyed = subst (λ (o : Option KeyedRows). IfSome o (AreSecondsKeyed it)) c.in-Some.is are.keyed in
    c.in_ok-ids-in-Some.ensures j j.condition it.new_t.now.rows are.rise keyed

pub returns-in_ok-ids-in-None : goal.returns-in_ok-ids-in-None
returns-in_ok-ids-in-None c it are a test passes =
    ap (λ (bs : List ℕ). filter test (pairs_of a bs)) (c.in_ok-ids-in-None.ensures ∙ c.as_slice.ensures ∙ are.all_of) ∙ ap (filter test) (pairs_all a it.new_t.now.rows)
