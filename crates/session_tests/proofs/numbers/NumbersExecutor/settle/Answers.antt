-- What was replaced has the new number.
use Rattle.std.proofs.Common.{ℕ, ap, refl, subst, sym, ◌∙◌}
use Rattle.session_tx.specs.Meaning.{Standing}
use Rattle.session_tx.specs.Calls.{IsSettled}
use Rattle.session_tests.specs.Numbers.{changed_in, history_in, standing_of}
use Rattle.session_tests.specs.declared.side.Side.{Side}
use Rattle.session_tests.proofs.NumberLemmas.{settles}
use Rattle.session_tests.proofs.numbers.NumbersExecutor.settle.Goals as goal

pub returns : goal.returns
returns c = λ s is.
    let own = c.args.self.now in
    let next = standing_of own.numbers c.changed_after-changed.result c.history_after-history.result c.truncate.new.self in (
      next,
      (
        subst (λ (x : Standing (ℕ × ℕ) Side). IsSettled x next) (sym is)
            (settles own.numbers own.changed own.history own.replaced c.truncate.new.self c.history_after-history.result c.changed_after-changed.result
            (c.history_after-history.ensures ∙ ap (λ l. history_in l own.history) c.as_slice-replaced.ensures)
            (c.changed_after-changed.ensures ∙ ap (λ l. changed_in l own.changed c.history_after-history.result) c.as_slice-replaced.ensures)
            c.truncate.ensures),
        refl,
      ),
    )
