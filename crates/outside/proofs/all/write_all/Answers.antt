use Rattle.std.proofs.Common.{◌≡◌, ◌+◌, ◌-◌, ◌++◌, List, ℕ, take, drop, length, arith, sym, subst, ◌∙◌, ap}
use Rattle.std.proofs.Math.Seq.{take-add}
use Rattle.std.proofs.lemmas.Grind.{common_steps}
use Rattle.std.specs.Io.KnownBytes.{Appends}
use Rattle.std.proofs.KnownBytes.{Appends-trans}
use Rattle.outside.proofs.all.write_all.Goals as goal

rest_is : (n : ℕ) (xs : List ℕ) → take (length xs - n) (drop n xs) ≡ drop n xs
rest_is n xs = grind (arith, common_steps)

pub loop-at-preserved : goal.loop-at-preserved
loop-at-preserved g c =
    let xs : List ℕ = c.args.bytes.now in
    let more : take c.loop-at.at xs ++ take c.in_ok-at.field-0 (take (length xs - c.loop-at.at) (drop c.loop-at.at xs)) ≡ take (c.loop-at.at + c.in_ok-at.field-0) xs =
    ap (λ (r : List ℕ). take c.loop-at.at xs ++ take c.in_ok-at.field-0 r) (rest_is c.loop-at.at xs) ∙ sym (take-add c.loop-at.at c.in_ok-at.field-0 xs) in
    record {
      stays = omega (arith, c.loop-at.invariant.stays, c.in_ok-at.ensures.cause.stays);
      put = subst (Appends (g.K.Sink.held c.args.sink.now) (g.K.Sink.held c.put.new.self)) more (Appends-trans _ _ _ _ _ c.loop-at.invariant.put c.in_ok-at.ensures.bytes);
      within = omega (arith, c.in_ok-at.ensures.bound);
    }
