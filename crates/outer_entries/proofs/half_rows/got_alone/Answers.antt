use Rattle.std.proofs.Common.{ℕ, List, ◌++◌, ◌∷◌, [], None, refl, ap, ◌∙◌, arith}
use Rattle.par_base.specs.declared.value.Value.{Value}
use Rattle.outer_entries.proofs.HalfRowLemmas.{alone_ready}
use Rattle.outer_entries.proofs.half_rows.got_alone.Goals as goal

pub returns-in_ok-push-in-Ok : goal.returns-in_ok-push-in-Ok
returns-in_ok-push-in-Ok c =
    let rows = c.args.rows.now.all.rows in
    let shared = c.args.rows.now.shared.table.rows in
    let x = c.args.values.now in
    let n = c.args.ids.now.next in
    let number = c.in-Ok.ensures.ok.0 in
    let within = c.in-Ok.ensures.ok.1 in
    let all = c.in_ok-push-in-Ok.ensures.ok ∙ ap (λ (i : ℕ). rows ++ (i, c.in_ok-copy-in-Ok.field-0) ∷ []) number ∙ ap (λ (v : List Value). rows ++ (n, v) ∷ []) c.in_ok-copy-in-Ok.ensures in
    rw c.in_default.is (
      omega (arith, number, within),
      record { number = number; all = all; may_share = refl; ready = alone_ready None rows shared x n (record { all = c.push.new.self; shared = c.args.rows.now.shared }) all refl c.requires.indexed c.requires.all c.requires.shared },
      c.in-Ok.ensures.raised,
    )
