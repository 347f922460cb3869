use Rattle.std.proofs.Common.{◌≡◌, ◌∙◌, ℕ, ◌+◌, ◌≤◌, List, length, take, ap, sym, subst, arith}
use Rattle.std.proofs.lemmas.List.{length-take-le, take_all}
use Rattle.row_store.specs.declared.change.Change.{Change}
use Rattle.par_base.specs.declared.value.Value.{Value}
use Rattle.row_store.specs.Changes.{IsAbove, AreOld}
use Rattle.row_changes.specs.Changed.{changed}
use Rattle.ordinary_table.specs.Written.{numbered}
use Rattle.ordinary_table.specs.inner.Told.{added_changes}
use Rattle.ordinary_table.proofs.ToldLemmas.{above_added, added_more, changed_inserted, length_added, old_added}
use Rattle.ordinary_table.proofs.insert.insert_rows.Goals as goal

pub loop-at-init : goal.loop-at-init
unfolding numbered
loop-at-init c = c.new-made.ensures

pub push-requires : goal.push-requires
push-requires c =
    subst (λ (changes : List Change). IsAbove changes (c.args.next + c.loop-at.at)) (sym c.loop-at.invariant)
    (above_added c.args.next (take c.loop-at.at c.args.rows.now) (c.args.next + c.loop-at.at) (omega (arith, length-take-le c.loop-at.at c.args.rows.now (omega (arith, c.loop-at-test.true)))))

pub loop-at-preserved : goal.loop-at-preserved
loop-at-preserved c =
    rw (c.in_ok-push.ensures.ok, c.loop-at.invariant, c.in_ok-copy.ensures, c.index-rows-at.is)
    (sym (added_more c.args.rows.now c.args.next c.loop-at.at c.index-rows-at.result c.loop-at-test.true))

-- at the end the changes are those of all new rows
ended : (new : List (List Value)) (next i : ℕ) (changes : List Change) → changes ≡ added_changes next (take i new) → length new ≤ i → changes ≡ added_changes next new
ended new next i changes is all = is ∙ ap (added_changes next) (take_all i new all)

pub returns-clause-rows : goal.returns-clause-rows
returns-clause-rows c table rise below =
    ap (changed table) (ended c.args.rows.now c.args.next c.loop-at.at c.loop-at.made c.loop-at.invariant (omega (arith, c.loop-at-test.false)))
    ∙ changed_inserted table c.args.rows.now c.args.next rise below

pub returns-clause-count : goal.returns-clause-count
returns-clause-count c =
    ap (λ (l : List Change). length l) (ended c.args.rows.now c.args.next c.loop-at.at c.loop-at.made c.loop-at.invariant (omega (arith, c.loop-at-test.false)))
    ∙ length_added c.args.rows.now c.args.next

pub returns-clause-old : goal.returns-clause-old
returns-clause-old c table below =
    subst (AreOld table) (sym (ended c.args.rows.now c.args.next c.loop-at.at c.loop-at.made c.loop-at.invariant (omega (arith, c.loop-at-test.false))))
    (old_added table c.args.rows.now c.args.next below)
