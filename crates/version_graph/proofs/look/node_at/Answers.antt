use Rattle.std.proofs.Common.{◌≡◌, ℕ, ◌<◌, ◌≤◌, List, length, get_or, refl, sym}
use Rattle.std.specs.Prelude.{Option, Some, None, MatchOption, IfSome, slice_get}
use Rattle.std.specs.Option.{option_map}
use Rattle.std.proofs.lemmas.Option.{slice_get_past, slice_get_read}
use Rattle.version_graph.proofs.look.node_at.Goals as goal

-- what was read is the item at the place
read_at : {B X : Type 0} (value : B → X) (P : B → Type 0) (found : Option B) (xs : List X) (i : ℕ) → IfSome found (λ b. value b ≡ get_or xs i (value b)) → MatchOption found (length xs ≤ i) (λ b. (i < length xs) × P b) → option_map value found ≡ slice_get xs i
read_at value P None xs i is within = sym (slice_get_past xs i within)
read_at value P (Some b) xs i is within = sym (slice_get_read xs (length xs) i (value b) refl within.0 is)

pub returns : goal.returns
returns g c = read_at (λ b. b.now) _ c.get.result c.args.nodes.now c.args.place c.get.ensures.lookup.1 c.get.ensures.lookup.3
