-- What the calls before a crossing gave.
use Rattle.std.proofs.Common.{◌≡◌, ℕ, List, map, ap, ◌∙◌}
use Rattle.row_store.specs.States.{TableState}
use Rattle.op_law.specs.Tables.{Tables}
use Rattle.version_model.specs.Kept.{rows_now}
use Rattle.version_model.specs.declared.numbered.Numbered.{Numbered}

-- the near tables as they are now
pub near_kept : (stored kept made now : List (Numbered TableState)) (near : Tables) (ks : List ℕ) → near ≡ map (rows_now stored made) ks → stored ≡ kept → made ≡ now → near ≡ map (rows_now kept now) ks
near_kept stored kept made now near ks is same equal = is ∙ ap (λ l. map (rows_now l made) ks) same ∙ ap (λ l. map (rows_now kept l) ks) equal
