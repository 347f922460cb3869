-- One field or one record more.
use Rattle.std.specs.Prelude.{Some, None}
use Rattle.std.proofs.Common.{◌≡◌, ◌+◌, ◌∙◌, ℕ, zero, suc, List, [], ◌∷◌, ◌++◌, map, take, add-one, refl, sym, ap}
use Rattle.std.proofs.lemmas.List.{map-append}
use Rattle.par_base.specs.declared.value.Value.{Value}
use Rattle.csv.specs.Records.{field_at}
use Rattle.csv_io.specs.Fields.{field_value}

-- the fields up to one that is there
take_field : (fields : List (List ℕ)) (at : ℕ) (field : List ℕ) → Some field ≡ field_at fields at → take (suc at) fields ≡ take at fields ++ field ∷ []
unfolding field_at
take_field [] at field is = cc
take_field (f ∷ fs) zero field is = let same : f ≡ field = cc in ap (λ (x : List ℕ). x ∷ []) same
take_field (f ∷ fs) (suc at) field is = ap (λ (l : List (List ℕ)). f ∷ l) (take_field fs at field is)

-- all fields
pub take_fields : (fields : List (List ℕ)) (at : ℕ) → None ≡ field_at fields at → take at fields ≡ fields
unfolding field_at
take_fields [] zero is = refl
take_fields [] (suc at) is = refl
take_fields (f ∷ fs) zero is = cc
take_fields (f ∷ fs) (suc at) is = ap (λ (l : List (List ℕ)). f ∷ l) (take_fields fs at is)

-- a row with one value more
pub value_more : (fields : List (List ℕ)) (at : ℕ) (field : List ℕ) (row new : List Value) (value : Value) → row ≡ map field_value (take at fields) → Some field ≡ field_at fields at
    → value ≡ field_value field → new ≡ row ++ value ∷ [] → new ≡ map field_value (take (at + 1) fields)
value_more fields at field row new value so is read more =
    let next : take (at + 1) fields ≡ take at fields ++ field ∷ [] = rw add-one (take_field fields at field is) in
    more ∙ rw (so, read) (sym (ap (map field_value) next ∙ map-append field_value (take at fields) (field ∷ [])))

-- rows with one row more
pub row_more : (records : List (List (List ℕ))) (fields : List (List ℕ)) (rows new : List (List Value)) (row : List Value) → rows ≡ map (map field_value) records
    → row ≡ map field_value fields → new ≡ rows ++ row ∷ [] → new ≡ map (map field_value) (records ++ fields ∷ [])
row_more records fields rows new row so read more = more ∙ rw (so, read) (sym (map-append (map field_value) records (fields ∷ [])))
