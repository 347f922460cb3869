-- Numbers and names that stand in no list.
use Rattle.std.specs.Str.{bytes_eq}
use Rattle.std.proofs.Common.{◌≡◌, inl, inr, ℕ, suc, ◌+◌, ◌<◌, List, [], ◌∷◌, ◌++◌, Bool, false, cond, length, length-append, map, Option, Some, None, refl, ap, ◌∙◌, arith}
use Rattle.version_graph.specs.Sets.{In}
use Rattle.version_model.specs.Kept.{numbers_in, value_of}
use Rattle.version_model.specs.declared.numbered.Numbered.{Numbered}
use Rattle.tx_history.specs.History.{dropped_in, number_in}
use Rattle.tx_history.specs.declared.history.NameDrop.{NameDrop}
use Rattle.tx_history.proofs.NumberLaws.{value_in}
use Rattle.tx_history.proofs.TestLaws.{is_false}
use Rattle.std.specs.List.{find}
use Rattle.std.specs.Option.{option_map_or}
use Rattle.std.proofs.lemmas.Slice.Eq.{bytes_eq-Decides}

-- a number above all of these
abbrev pub above : List ℕ → ℕ
above [] = 0
above (x ∷ xs) = suc (x + above xs)

pub above_all : (xs : List ℕ) (x : ℕ) → In x xs → x < above xs
above_all [] x i = absurd i
above_all (y ∷ ys) x (inl e) = let d : above (y ∷ ys) ≡ suc (y + above ys) = refl in omega (arith, e, d)
above_all (y ∷ ys) x (inr i) = let d : above (y ∷ ys) ≡ suc (y + above ys) = refl in let h = above_all ys x i in omega (arith, h, d)

pub not_above : (xs : List ℕ) → In (above xs) xs → ⊥
not_above xs i = let h = above_all xs (above xs) i in absurd (omega (arith, h))

-- a name that is longer than all of these
abbrev pub longer : List (List ℕ) → List ℕ
longer [] = 0 ∷ []
longer (x ∷ xs) = 0 ∷ x ++ longer xs

pub longer_all : (xs : List (List ℕ)) (x : List ℕ) → In x xs → length x < length (longer xs)
longer_all [] x i = absurd i
longer_all (y ∷ ys) x (inl e) =
    let h = length-append y (longer ys) in
    let d : length (longer (y ∷ ys)) ≡ suc (length (y ++ longer ys)) = refl in
    let f = ap (λ (l : List ℕ). length l) e in
    omega (arith, h, f, d)
longer_all (y ∷ ys) x (inr i) =
    let h = length-append y (longer ys) in
    let d : length (longer (y ∷ ys)) ≡ suc (length (y ++ longer ys)) = refl in
    let f = longer_all ys x i in
    omega (arith, h, f, d)

pub not_longer : (xs : List (List ℕ)) (x : List ℕ) → In x xs → bytes_eq (longer xs) x ≡ false
not_longer xs x i =
    is_false (bytes_eq (longer xs) x)
    (λ e. let same : longer xs ≡ x = (bytes_eq-Decides (longer xs) x).0 e in let h = longer_all xs x i in let f = ap (λ (l : List ℕ). length l) same in absurd (omega (arith, h, f)))

-- ---- numbers of changes

-- a table without a number has 0
number_if : (items : List (Numbered ℕ)) (t : ℕ) (o : Option ℕ) → value_of items t ≡ o → (In t (numbers_in items) → ⊥) → option_map_or (λ (n : ℕ). n) o 0 ≡ 0
number_if items t None is out = refl
number_if items t (Some v) is out = absurd (out (value_in items t v is))

pub number_out : (items : List (Numbered ℕ)) (t : ℕ) → (In t (numbers_in items) → ⊥) → number_in items t ≡ 0
number_out items t out = number_if items t (value_of items t) refl out

-- the names under which numbers stand
abbrev pub names_in : List NameDrop → List (List ℕ)
names_in drops = map (λ (d : NameDrop). d.name) drops

-- a name without a number has 0
pub dropped_out : (drops : List NameDrop) (name : List ℕ) → ((x : List ℕ) → In x (names_in drops) → bytes_eq name x ≡ false) → dropped_in drops name ≡ 0
dropped_out [] name out = refl
dropped_out (d ∷ ds) name out =
    ap (λ (b : Bool). option_map_or (λ (one : NameDrop). one.at) (cond b (Some d) (find (λ (one : NameDrop). bytes_eq name one.name) ds)) 0) (out d.name (inl refl))
    ∙ dropped_out ds name (λ x i. out x (inr i))
