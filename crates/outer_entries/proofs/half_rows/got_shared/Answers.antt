use Rattle.std.proofs.Common.{ℕ, ◌++◌, ◌∷◌, [], None, ap, ◌∙◌, arith}
use Rattle.outer_entries.proofs.HalfRowLemmas.{shared_ready}
use Rattle.outer_entries.proofs.half_rows.got_shared.Goals as goal

pub returns-in_ok-put_shared-in-Ok : goal.returns-in_ok-put_shared-in-Ok
returns-in_ok-put_shared-in-Ok c =
    let rows = c.args.rows.now.all.rows in
    let shared = c.args.rows.now.shared.table.rows in
    let x = c.args.values.now in
    let n = c.args.ids.now.next in
    let number = c.in-Ok.ensures.ok.0 in
    let within = c.in-Ok.ensures.ok.1 in
    let put = c.in_ok-put_shared-in-Ok.ensures in
    let all = put.all ∙ ap (λ (i : ℕ). rows ++ (i, x) ∷ []) number in
    let may_share = put.shared ∙ ap (λ (i : ℕ). shared ++ (i, x) ∷ []) number in
    rw c.in_default.is (
      omega (arith, number, within),
      record { number = number; all = all; may_share = may_share; ready = shared_ready None rows shared x n c.put_shared.new.rows all may_share put.indexed c.requires.all c.requires.shared },
      c.in-Ok.ensures.raised,
    )
