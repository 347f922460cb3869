use Rattle.std.proofs.Common.{ℕ, sym, ◌∙◌, ap}
use Rattle.std.proofs.lemmas.Bool.{false≢true}
use Rattle.db_check.specs.inner.Tests.{rows_wide}
use Rattle.db_check.proofs.TestLemmas.{rows_tell, wide_tells}
use Rattle.db_check.proofs.scan.may_stand.Goals as goal

pub returns-then-rows_wide : goal.returns-then-rows_wide
returns-then-rows_wide g c =
    let rows = c.args.item.now.value.rows in
    let same = c.rows_wide.ensures ∙ ap (λ (w : ℕ). rows_wide w rows) c.width_of.ensures in
    let wide = wide_tells _ rows in
    let below = rows_tell c.args.next rows in (
      (λ h. record { rise = c.iter-rows.ensures.rise; wide = wide.0 (sym same ∙ c.if-rows_wide.true); below = below.0 (sym c.rows_below.ensures ∙ h) }),
      (λ s. c.rows_below.ensures ∙ below.1 s.below),
    )

pub returns-else-rows_wide : goal.returns-else-rows_wide
returns-else-rows_wide g c =
    let rows = c.args.item.now.value.rows in
    let same = c.rows_wide.ensures ∙ ap (λ (w : ℕ). rows_wide w rows) c.width_of.ensures in
    let wide = wide_tells _ rows in (
      (λ h. absurd (false≢true (sym c.if-rows_wide.false ∙ h))),
      (λ s. same ∙ wide.1 s.wide),
    )
