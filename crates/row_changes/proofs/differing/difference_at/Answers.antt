use Rattle.std.proofs.Common.{◌≡◌, ℕ, List, [], ◌∷◌, ◌++◌, true, false, take, get_or, ◌+◌, ap, sym, ◌∙◌, subst}
use Rattle.std.proofs.lemmas.Bool.{false≢true}
use Rattle.row_store.specs.declared.change.Change.{Change}
use Rattle.row_store.specs.Changes.{IsAbove}
use Rattle.row_store.specs.Rows.{row_of}
use Rattle.row_changes.specs.Picked.{Picks}
use Rattle.row_changes.proofs.PickLaws.{picks_more, picks_push, picks_same}
use Rattle.row_changes.proofs.differing.difference_at.Goals as goal
use Rattle.row_changes.proofs.differing.difference_at.Goals.{then-not-is_same_at+in_ok-change_at+in_ok-push, else-not-is_same_at}

pub push-requires : goal.push-requires
push-requires c =
    let i = c.loop-id.id-index in
    let f = row_of c.args.before.now.rows in
    let h = row_of c.args.now.now.rows in
    subst (λ (id : ℕ). IsAbove c.loop-id.changes id) (sym (ap (λ (x : Change). x.id) c.in_ok-change_at.ensures))
    (picks_push f h c.args.ids.now i c.loop-id.changes c.requires c.loop-id-test.true c.loop-id.invariant)

pub loop-id-preserved : goal.loop-id-preserved
loop-id-preserved c =
    let i = c.loop-id.id-index in
    let ids = c.args.ids.now in
    let id = get_or c.args.ids.now c.loop-id.id-index 0 in
    let f = row_of c.args.before.now.rows in
    let h = row_of c.args.now.now.rows in
    elim c.if-not-is_same_at.branch [
      | then-not-is_same_at+in_ok-change_at+in_ok-push w ↦
          let differ : f id ≡ h id → ⊥ = λ e. let yes : c.is_same_at.result ≡ true = c.is_same_at.ensures.1 e in let no : c.is_same_at.result ≡ false = w.if-not-is_same_at.true in absurd (false≢true (sym no ∙ yes)) in
          subst (λ (cs : List Change). Picks f h (take (i + 1) ids) cs) (sym (w.changes-is ∙ w.in_ok-push.ensures.ok ∙ ap (λ (x : Change). c.loop-id.changes ++ x ∷ []) w.in_ok-change_at.ensures))
          (picks_more f h ids i c.loop-id.changes c.loop-id-test.true c.loop-id.invariant differ)
      | else-not-is_same_at w ↦
          let same : f id ≡ h id = c.is_same_at.ensures.0 w.if-not-is_same_at.false in
          subst (λ (cs : List Change). Picks f h (take (i + 1) ids) cs) (sym w.changes-is) (picks_same f h ids i c.loop-id.changes c.loop-id-test.true c.loop-id.invariant same)
    ]
