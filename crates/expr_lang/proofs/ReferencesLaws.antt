-- The first unknown reference of two operands.
use Rattle.std.proofs.Common.{◌≡◌, ℕ, ◌++◌}
use Rattle.std.proofs.lemmas.List.Folds.{find-append}
use Rattle.std.specs.List.{find}
use Rattle.std.specs.Option.{option_or}
use Rattle.expr_lang.specs.Terms.{Term, references_in}
use Rattle.expr_lang.specs.Resolved.{first_unknown_id, is_unknown}

-- the left operand's goes first
pub first_unknown_id-both : {C : Type 0} (next : ℕ) (t u : Term C) → find (is_unknown next) (references_in t ++ references_in u) ≡ option_or (first_unknown_id next t) (first_unknown_id next u)
unfolding first_unknown_id
first_unknown_id-both next t u = find-append (is_unknown next) (references_in t) (references_in u)

-- for the call that looks into both operands
pub ruleset both = (first_unknown_id-both)
