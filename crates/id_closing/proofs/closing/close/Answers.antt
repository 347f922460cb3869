use Rattle.std.proofs.Common.{◌≡◌, ℕ, List, true, subst, ◌∙◌, ap}
use mathlib.Core.Logic.{inl, inr}
use Rattle.op_law.specs.Identifiers.{has_id}
use Rattle.id_closing.specs.Found.{ids_left, Left}
use Rattle.id_closing.proofs.FoundLaws.{end_is, left_more}
use Rattle.id_closing.proofs.closing.close.Goals as goal

pub loop-next-preserved : goal.loop-next-preserved
loop-next-preserved g c =
    let inv = c.loop-next.invariant in
    let more = c.in_ok-follow.ensures.more in
    let rule = c.args.rule.now in
    let found = c.follow.new.found in
    let id = c.in-Some.next.0 in
    let were : ids_left c.loop-next.left ≡ _ = ap (λ (xs : Left). ids_left xs) c.in-Some.ensures ∙ left_more c.pop.new.self c.in-Some.next in
    record {
      ids = more.ids;
      begins = λ q h. more.stay q (inv.begins q h);
      followed = λ q h.
          elim (more.others q h) [
            | inr left ↦ inl left
            | inl old ↦
                elim (inv.followed q old) [
                  | inr done ↦ inr (g.met.R.Rule.more rule q c.loop-next.found found more.stay done)
                  | inl was ↦
                      elim (end_is (ids_left c.pop.new.self) id q (subst (λ (xs : List ℕ). has_id xs q ≡ true) were was)) [
                        | inl rest ↦ inl (more.remain q rest)
                        | inr same ↦ inr (subst (λ (x : ℕ). g.R.Rule.brings rule x found) same c.in_ok-follow.ensures.all)
                      ]
                ]
          ];
    }
