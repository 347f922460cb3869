-- The set of the pairs that are taken.
use Rattle.std.proofs.Common.{◌≡◌, ℕ, ◌∷◌, [], ◌++◌, refl, sym, ◌∙◌}
use Rattle.id_memory.specs.Pairs.{Pairs, has_pair}
use Rattle.id_sets.specs.IdPairs.{IdPairs, holds_pair, IsWithPair}
use Rattle.row_parts.specs.RowCells.{by_test}
use Rattle.pair_rows.specs.Shown.{has}
use Rattle.pair_rows.specs.inner.TakenPairs.{has_behind, has_before}

-- one pair more
pub pairs_more : (es : Pairs) (e : ℕ × ℕ × ℕ) (old new : IdPairs) → ((a b : ℕ) → holds_pair old a b ≡ has es a b) → IsWithPair old e.1 e.2 new
    → (a b : ℕ) → holds_pair new a b ≡ has (es ++ e ∷ []) a b
pairs_more es e old new knows with a b =
    by_test (has_pair a b e)
    (λ q. with a b ∙ rw q refl ∙ sym (has_behind es e a b q))
    (λ q. with a b ∙ rw q (knows a b) ∙ sym (has_before es e a b q))
