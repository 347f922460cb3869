use Rattle.std.proofs.Common.{◌≡◌, ℕ, Some, sym, ap, ◌∙◌}
use Rattle.id_memory.specs.Pairs.{id_of}
use Rattle.cond_closing.proofs.BackwardLemmas.{entry_found}
use Rattle.cond_closing.proofs.assigned.entry_of.Goals as goal

pub returns : goal.returns
returns c a b entry one other at =
    let m = c.args.memory.now.entries in
    let some : Some c.in-Some.a ≡ Some a = sym c.in-Some.is ∙ one in
    let first : c.in-Some.a ≡ a = cc in
    let some_other : Some c.in-Some-second.b ≡ Some b = sym c.in-Some-second.is ∙ other in
    let second : c.in-Some-second.b ≡ b = cc in
    c.id_of.ensures ∙ ap (λ (k : ℕ). id_of m k c.in-Some-second.b) first ∙ ap (λ (k : ℕ). id_of m a k) second ∙ entry_found c.id_of_is_the_other_way.ensures m c.iter.ensures.rise c.iter.ensures.one a b entry at
