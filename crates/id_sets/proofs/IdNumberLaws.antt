-- Lemmas on the numbers of identifiers.
use Rattle.std.proofs.Common.{◌≡◌, ℕ, [], ◌∷◌, refl}
use Rattle.std.specs.Ordering.{nat_cmp}
use Rattle.std.specs.BTreeMap.{is_at}
use Rattle.std.specs.Cmp.{unsigned_tied}
use Rattle.std.specs.Map.{lookup}
use Rattle.id_sets.specs.IdNumbers.{IdNumbers, number_of_id}

-- the number of an identifier is what a look-up finds
pub number_of_id-lookup : (es : IdNumbers) (id : ℕ) → number_of_id es id ≡ lookup (is_at (nat_cmp id)) es
unfolding number_of_id
number_of_id-lookup [] id = refl
number_of_id-lookup (e ∷ es) id =
    let same = unsigned_tied id e.0 in
    rw (number_of_id-lookup es id) (rw same refl)
