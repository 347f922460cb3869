use Rattle.std.proofs.Common.{◌≡◌, ℕ, Option, false, sym, subst}
use Rattle.pair_rows.specs.Halves.{pick_of}
use Rattle.pair_rows.specs.Stays.{stands}
use Rattle.cond_closing.specs.Steady.{IsStillBy, changed_entries}
use Rattle.outer_closing.specs.Shared.{shared_in}
use Rattle.outer_closing.proofs.SharedLemmas.{found_shared, lost_shared, none_shared, one_up}
use Rattle.outer_closing.proofs.shared.is_shared.Goals as goal

pub returns-then-id-eq0 : goal.returns-then-id-eq0
returns-then-id-eq0 c =
    let m = c.args.memory.now.entries in
    let replaced = c.args.replaced.now in
    subst (λ (q : ℕ). false ≡ stands (pick_of c.args.half) (shared_in m replaced) q) (sym c.if-id-eq0.true) (sym (none_shared c.args.half m replaced c.iter.ensures.rise))

pub returns-in-Some : goal.returns-in-Some
returns-in-Some c =
    let m = c.args.memory.now.entries in
    let replaced = c.args.replaced.now in
    let still = subst (λ (o : Option ℕ). IsStillBy c.args.half (changed_entries m replaced) c.args.id 1 o) c.in-Some.is c.first_still.ensures in
    sym (found_shared c.args.half m replaced c.args.id c.in-Some.field-0 (one_up c.args.id c.if-id-eq0.false) still)

pub returns-in-None : goal.returns-in-None
returns-in-None c =
    let m = c.args.memory.now.entries in
    let replaced = c.args.replaced.now in
    let none = subst (λ (o : Option ℕ). IsStillBy c.args.half (changed_entries m replaced) c.args.id 1 o) c.in-None.is c.first_still.ensures in
    sym (lost_shared c.args.half m replaced c.args.id c.iter.ensures.rise none)
