use Rattle.std.proofs.Common.{ℕ, length, ap, ◌∙◌}
use Rattle.op_outer_cond.specs.Outerings.{places_from}
use Rattle.op_outer_cond.proofs.PlaceLemmas.{places_long}
use Rattle.op_outer_cond.proofs.places.places_of.Goals as goal

pub returns-clause-second : goal.returns-clause-second
returns-clause-second c =
    c.in_ok-second.ensures
    ∙ ap (λ (n : ℕ). places_from n c.args.it.now.second) (ap length (c.as_slice.ensures ∙ c.in_ok-first.ensures) ∙ places_long 0 c.args.it.now.first)
