use Rattle.std.proofs.Common.{◌≡◌, List, Option, ℕ, Some, sym, subst}
use Rattle.par_base.specs.declared.value.Value.{Value}
use Rattle.pair_rows.specs.Given.{least}
use Rattle.cond_closing.specs.Matching.{own_of}
use Rattle.outer_closing.specs.Assigned.{found_row}
use Rattle.outer_closing.specs.Shared.{shared_rows}
use Rattle.outer_closing.proofs.placed.or_shared.Goals as goal

pub returns-in-Some : goal.returns-in-Some
returns-in-Some c s t a known found =
    subst (λ (o : Option ℕ). found_row c.args.half c.args.it.now.values.now.memory.now.entries c.args.it.now.replaced.now (own_of c.args.half s t) o c.args.values.now ≡ Some a) c.in-Some.is found

pub returns-in-None : goal.returns-in-None
returns-in-None c s t a known found =
    let m = c.args.it.now.values.now.memory.now.entries in
    let replaced = c.args.it.now.replaced.now in
    let rows = own_of c.args.half s t in
    let least_is : least (shared_rows c.args.half m replaced rows) c.args.values.now ≡ Some a =
    subst (λ (o : Option ℕ). found_row c.args.half m replaced rows o c.args.values.now ≡ Some a) c.in-None.is found in
    c.least_shared.ensures rows a (c.keys_of-keys.ensures s t known) (subst (λ (key : List Value). least (shared_rows c.args.half m replaced rows) key ≡ Some a) (sym c.as_slice.ensures) least_is)
