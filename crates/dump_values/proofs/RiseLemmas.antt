-- Rows below an identifier.
use Rattle.std.specs.Prelude.{◌≤◌, nat_le, option_map, option_and_then, if◌then◌else◌}
use Rattle.std.proofs.Common.{◌≡◌, Bool, true, Option, Some, None, refl, sym, ap, ◌∙◌, append_assoc, ℕ, ◌+◌, List, [], ◌∷◌, ◌++◌}
use Rattle.par_base.specs.declared.value.Value.{Value}
use Rattle.std.proofs.lemmas.Bool.{le-leb}
use Rattle.serde_json.specs.Data.{Data, Items, item}
use Rattle.dump_values.specs.Tables.{rows_from}
use Rattle.dump_values.specs.Values.{row_of}
use Rattle.row_store.specs.Rows.{Rows}

-- one row more was read
pub step : (old : Rows) (least id : ℕ) (row : List Value) (d : Data) (ds : Items) → row_of d ≡ Some (id, row) → least ≤ id
    → option_map (λ (rs : Rows). old ++ rs) (rows_from least (item d ds)) ≡ option_map (λ (rs : Rows). (old ++ (id, row) ∷ []) ++ rs) (rows_from (id + 1) ds)
step old least id row d ds is low =
    let passes : nat_le least id ≡ true = le-leb least id low in
    ap (λ (o : Option (ℕ × List Value)). option_map (λ (rs : Rows). old ++ rs) (option_and_then (λ (r : ℕ × List Value). if nat_le least r.0 then option_map (λ rs. r ∷ rs) (rows_from (r.0 + 1) ds) else None) o)) is
    ∙ ap (λ (b : Bool). option_map (λ (rs : Rows). old ++ rs) (if b then option_map (λ (rs : Rows). (id, row) ∷ rs) (rows_from (id + 1) ds) else None)) passes
    ∙ rest (rows_from (id + 1) ds)
  where
    rest : (o : Option Rows) → option_map (λ (rs : Rows). old ++ rs) (option_map (λ (rs : Rows). (id, row) ∷ rs) o) ≡ option_map (λ (rs : Rows). (old ++ (id, row) ∷ []) ++ rs) o
    rest None = refl
    rest (Some rs) = ap (λ (l : Rows). Some l) (sym (append_assoc old ((id, row) ∷ []) rs))
