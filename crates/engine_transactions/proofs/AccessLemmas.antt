-- Accesses, one more behind the others.
use Rattle.std.proofs.Common.{◌≡◌, ℕ, List, [], ◌∷◌, ◌++◌, refl}
use Rattle.layout_planner.specs.declared.planning.TableCount.{TableCount}
use Rattle.engine_sessions.specs.Accesses.{raised}
use Rattle.engine_transactions.specs.Act.{raised_all}

pub raised_more : (counts : List TableCount) (ts : List ℕ) (t : ℕ) → raised_all counts (ts ++ t ∷ []) ≡ raised (raised_all counts ts) t
raised_more counts [] t = refl
raised_more counts (u ∷ us) t = raised_more (raised counts u) us t
