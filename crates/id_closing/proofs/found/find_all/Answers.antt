use Rattle.std.proofs.Common.{◌≡◌, ℕ, List, true, take, get_or, sym, subst, arith}
use Rattle.std.proofs.lemmas.List.{take_more, take_all}
use mathlib.Core.Logic.{inl, inr}
use Rattle.op_law.specs.Identifiers.{has_id}
use Rattle.std.proofs.lemmas.Bool.{false≢true}
use Rattle.id_closing.proofs.FoundLaws.{finds_none, finds_both, end_is}
use Rattle.id_closing.proofs.found.find_all.Goals as goal

pub loop-id-init : goal.loop-id-init
loop-id-init c = record { more = finds_none c.args.found.now c.args.left.now c.requires; all = λ q h. absurd (false≢true h) }

pub find_one-requires : goal.find_one-requires
find_one-requires c = c.loop-id.invariant.more.ids

pub loop-id-preserved : goal.loop-id-preserved
loop-id-preserved c =
    let inv = c.loop-id.invariant in
    let more = c.in_ok-find_one.ensures.more in
    record {
      more = finds_both c.args.found.now c.args.left.now c.loop-id.found c.loop-id.left c.find_one.new.found c.find_one.new.left inv.more more;
      all = λ q h.
          elim (end_is (take c.loop-id.id-index c.args.ids.now) (get_or c.args.ids.now c.loop-id.id-index 0) q (subst (λ (xs : List ℕ). has_id xs q ≡ true) (take_more c.args.ids.now c.loop-id.id-index 0 c.loop-id-test.true) h)) [
            | inl e ↦ more.stay q (inv.all q e)
            | inr e ↦ subst (λ (x : ℕ). has_id c.find_one.new.found x ≡ true) e c.in_ok-find_one.ensures.own
          ];
    }

pub returns-clause-more : goal.returns-clause-more
returns-clause-more c = c.loop-id.invariant.more

pub returns-clause-all : goal.returns-clause-all
returns-clause-all c q h =
    c.loop-id.invariant.all q (subst (λ (xs : List ℕ). has_id xs q ≡ true) (sym (take_all c.loop-id.id-index c.args.ids.now (omega (arith, c.loop-id-test.false)))) h)
