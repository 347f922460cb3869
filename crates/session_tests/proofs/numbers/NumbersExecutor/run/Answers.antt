-- The number that it replaced stands before the others.
use Rattle.std.proofs.Common.{ℕ, refl, subst, sym}
use Rattle.session_tx.specs.Meaning.{Standing}
use Rattle.session_tx.specs.Calls.{WasRun}
use Rattle.session_tests.specs.Numbers.{means, number_at, standing_of}
use Rattle.session_tests.specs.declared.side.Side.{Side}
use Rattle.session_tests.proofs.NumberLemmas.{wrote}
use Rattle.session_tests.proofs.numbers.NumbersExecutor.run.Goals as goal

pub returns : goal.returns
returns g c = λ s is.
    let own = c.args.self.now in
    let next = standing_of c.put-self.result own.changed own.history c.insert.new.self in (
      next,
      (
        subst (λ (x : Standing (ℕ × ℕ) Side). WasRun means x c.args.write.now next c.number_at-old.result) (sym is)
            (wrote own.history (λ side. number_at side own.changed) own.numbers own.replaced c.insert.new.self c.args.write.now c.put-self.result c.number_at-old.result c.if-number-gt-MOST.false c.number_at-old.ensures c.put-self.ensures c.in_ok-insert.ensures.ok),
        refl,
      ),
    )
