use Rattle.std.proofs.Common.{ℕ, ◌≤◌, sym, subst, ◌∙◌}
use Rattle.std.proofs.lemmas.Bool.{eq-eqb}
use Rattle.outer_law.specs.Entries.{with_half}
use Rattle.pair_rows.specs.Halves.{pick_of}
use Rattle.op_outer_cond.specs.inner.Admitted.{other_of}
use Rattle.op_outer_cond.proofs.admission.is_once.Goals as goal

pub returns : goal.returns
returns c =
    let m = c.args.memory.now.entries in
    let e = c.args.entry.now in
    let alone = eq-eqb (other_of c.args.half e) 0 (sym c.other_in.ensures ∙ c.if-other_in-ne0.false) in (
      λ yes own. subst (λ (id : ℕ). with_half (pick_of c.args.half) id m ≤ 1) c.half_in.ensures (c.has_no_two.ensures.0 yes),
      λ once. c.has_no_two.ensures.1 (subst (λ (id : ℕ). with_half (pick_of c.args.half) id m ≤ 1) (sym c.half_in.ensures) (once alone)),
    )
