use Rattle.std.proofs.Common.{◌≡◌, ℕ, List, [], ◌∷◌, ◌++◌, true, take, get_or, subst}
use Rattle.std.proofs.lemmas.List.{take_more}
use mathlib.Core.Logic.{inl, inr}
use Rattle.op_law.specs.Identifiers.{has_id}
use Rattle.id_closing.proofs.FoundLaws.{end_has, end_is, end_stays}
use Rattle.id_closing.proofs.found.add_all.Goals as goal

pub loop-id-preserved : goal.loop-id-preserved
loop-id-preserved c =
    let inv = c.loop-id.invariant in
    let more = c.args.more.now in
    let i = c.loop-id.id-index in
    let d = get_or c.args.more.now c.loop-id.id-index 0 in
    let ids = c.loop-id.ids in
    let taken = take_more more i 0 c.loop-id-test.true in
    record {
      all = λ q h. rw c.in_ok-push.ensures.ok (elim (end_is (take i more) d q (subst (λ (xs : List ℕ). has_id xs q ≡ true) taken h)) [
        | inl old ↦ end_stays ids d q (inv.all q old)
        | inr same ↦ subst (λ (x : ℕ). has_id (ids ++ d ∷ []) x ≡ true) same (end_has ids d)
      ]);
      stay = λ q h. rw c.in_ok-push.ensures.ok (end_stays ids d q (inv.stay q h));
    }
