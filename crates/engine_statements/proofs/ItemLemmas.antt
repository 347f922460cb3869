-- The places of listed names.
use Rattle.std.proofs.Common.{◌≡◌, ℕ, suc, ◌+◌, ◌<◌, ◌≤◌, List, [], ◌∷◌, Option, Some, None, Ok, Err, length, refl, sym, ◌∙◌, ap, subst, arith}
use Rattle.std.specs.List.{All}
use Rattle.expr_lang.specs.Resolved.{place_of}
use Rattle.par_base.specs.Checked.{Checked, ◌then◌}
use Rattle.op_checks.specs.NameChecks.{known_column}
use Rattle.engine_statements.specs.Found.{shown_names}
use Rattle.engine_statements.specs.Statements.{places_from, known_items, listed_names, listed_places}
use Rattle.engine_statements.proofs.ExpressionLemmas.{all_cons, ok_same, place_within}

-- ---- all places

all_from : (names : List (List ℕ)) (place most : ℕ) → place + length names ≤ most + 1 → All (λ at. at ≤ most) (places_from place names)
unfolding places_from
all_from [] place most fits = λ k d within. absurd (omega (arith, within))
all_from (name ∷ names) place most fits = all_cons (λ at. at ≤ most) place (places_from (place + 1) names) (omega (arith, fits)) (all_from names (place + 1) most (omega (arith, fits)))

length-places_from : (place : ℕ) (names : List (List ℕ)) → length (places_from place names) ≡ length names
unfolding places_from
length-places_from place [] = refl
length-places_from place (name ∷ names) = ap (λ (n : ℕ). suc n) (length-places_from (place + 1) names)

-- ---- named places

place_found : (name : List ℕ) (o : Option ℕ) (place : ℕ) → known_column name o ≡ Ok place → o ≡ Some place
place_found name (Some n) place e = let same : n ≡ place = cc in ap (λ (k : ℕ). Some k) same
place_found name None place e = absurd (cc)

-- the first name and the others
items_split : (shown : List (List ℕ)) (name : List ℕ) (names : List (List ℕ)) (places : List ℕ) (r : Checked ℕ) (t : Checked (List ℕ)) → known_column name (place_of shown name) ≡ r → known_items shown names ≡ t
    → (r then λ place. t then λ others. Ok (place ∷ others)) ≡ Ok places
    → (place : ℕ) × (others : List ℕ) × (place_of shown name ≡ Some place) × (known_items shown names ≡ Ok others) × (place ∷ others ≡ places)
items_split shown name names places (Ok place) (Ok others) is are all = (place, others, place_found name (place_of shown name) place is, are, ok_same (place ∷ others) places all)
items_split shown name names places (Ok place) (Err refusal) is are all = absurd (cc)
items_split shown name names places (Err refusal) t is are all = absurd (cc)

-- one place for each name, each a place of what is shown
record AreListed (shown names : List (List ℕ)) (places : List ℕ) : Type 0 where
  pub within : All (λ place. place < length shown) places
  pub many : length places ≡ length names

items_listed : (shown names : List (List ℕ)) (places : List ℕ) → known_items shown names ≡ Ok places → AreListed shown names places
unfolding known_items
items_listed shown [] places known =
    subst (λ (l : List ℕ). AreListed shown [] l) (ok_same [] places known) (record { within = λ k d within. absurd (omega (arith, within)); many = refl })
items_listed shown (name ∷ names) places known =
    let parts = items_split shown name names places (known_column name (place_of shown name)) (known_items shown names) refl refl known in
    let rest = items_listed shown names parts.1 parts.3 in
    let one : AreListed shown (name ∷ names) (parts.0 ∷ parts.1) = record {
      within = all_cons (λ place. place < length shown) parts.0 parts.1 (place_within shown name parts.0 parts.2) rest.within;
      many = ap (λ (n : ℕ). suc n) rest.many;
    } in
    subst (λ (l : List ℕ). AreListed shown (name ∷ names) l) parts.4 one

-- ---- both

-- each listed place is shown
pub places_within : (columns : List (List ℕ)) (items : Option (List (List ℕ))) (places : List ℕ) → listed_places columns items ≡ Ok places → All (λ place. place ≤ length columns) places
places_within columns None places known =
    subst (λ (l : List ℕ). All (λ place. place ≤ length columns) l) (ok_same (places_from 0 (shown_names columns)) places known) (all_from (shown_names columns) 0 (length columns) (omega arith))
places_within columns (Some names) places known = λ k d within.
    let listed = items_listed (shown_names columns) names places known in
    omega (arith, listed.within k d within)

-- the header has a name for each
pub header_many : (columns : List (List ℕ)) (items : Option (List (List ℕ))) (places : List ℕ) → listed_places columns items ≡ Ok places → length places ≡ length (listed_names columns items)
header_many columns None places known = ap length (sym (ok_same (places_from 0 (shown_names columns)) places known)) ∙ length-places_from 0 (shown_names columns)
header_many columns (Some names) places known = (items_listed (shown_names columns) names places known).many
