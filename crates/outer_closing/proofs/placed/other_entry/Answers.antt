use Rattle.std.proofs.Common.{◌≡◌, ℕ, Some, sym, ◌∙◌, subst}
use Rattle.cond_closing.specs.Steady.{IsStillBy, changed_entries}
use Rattle.outer_closing.proofs.placed.other_entry.Goals as goal

pub returns : goal.returns
returns c a is =
    let some : Some c.in-Some.id ≡ Some a = sym c.in-Some.is ∙ is in
    let same : c.in-Some.id ≡ a = cc in
    subst (λ (q : ℕ). IsStillBy c.args.half (changed_entries c.args.memory.now.entries c.args.these.now) q 0 c.first_still.result) same c.first_still.ensures
