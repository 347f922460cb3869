-- Values under numbers, one of which is replaced, or put behind the others.
use Rattle.std.specs.Prelude.{nat_lt}
use Rattle.std.specs.List.{find, position, position_or_len}
use Rattle.std.proofs.Common.{◌≡◌, if◌then◌else◌, ℕ, zero, suc, ◌+◌, ◌==◌, List, [], ◌∷◌, ◌++◌, Bool, true, false, not, cond, length, map, Option, Some, None, option_map, slice_index_or, slice_set, refl, ap, sym, ◌∙◌, arith}
use Rattle.std.proofs.lemmas.Bool.Decides.{nat_tests}
use Rattle.std.proofs.lemmas.Bool.{eqb-true, eqb-false, false≢true, eq-eqb}
use Rattle.version_model.specs.Kept.{value_of, latest_of, renewed}
use mathlib.Core.List.{reverse}
use Rattle.std.proofs.lemmas.List.{reverse-append, set-get_or}
use Rattle.version_model.specs.declared.numbered.Numbered.{Numbered}

less : (a b : ℕ) → nat_lt (suc a) (suc b) ≡ true → nat_lt a b ≡ true
less a b h = grind (arith, nat_tests)

not_less : (a b : ℕ) → nat_lt (suc a) (suc b) ≡ false → nat_lt a b ≡ false
not_less a b h = grind (arith, nat_tests)

none_less : (a : ℕ) → nat_lt zero (suc a) ≡ true
none_less a = grind (arith, nat_tests)

-- the first of two values that is there
abbrev pub either : {T : Type 0} → Option T → Option T → Option T
either None o = o
either (Some x) o = Some x

module _ {T : Type 0} where
  -- the place of a number
  abbrev place : ℕ → List (Numbered T) → ℕ
  place k [] = zero
  place k (x ∷ xs) = cond (k == x.number) zero (suc (place k xs))

  place_is : (k : ℕ) (items : List (Numbered T)) → position_or_len (λ (i : Numbered T). k == i.number) items ≡ place k items
  place_is k [] = refl
  place_is k (x ∷ xs) =
      let one : 1 + position_or_len (λ (i : Numbered T). k == i.number) xs ≡ suc (place k xs) = omega (arith, place_is k xs) in
      let M : Bool → Type 0 = λ b. cond (not b) (1 + position_or_len (λ (i : Numbered T). k == i.number) xs) 0 ≡ cond b zero (suc (place k xs)) in
      elim (k == x.number) as (λ b. M b) [ true ↦ refl | false ↦ one ]

  position_is : (k : ℕ) (items : List (Numbered T)) → position (λ (i : Numbered T). k == i.number) items ≡ cond (nat_lt (place k items) (length items)) (Some (place k items)) None
  position_is k items = ap (λ (n : ℕ). cond (nat_lt n (length items)) (Some n) None) (place_is k items)

  number_one : (x : Numbered T) (xs : List (Numbered T)) (k : ℕ) (d : Numbered T) (b : Bool) → (k == x.number) ≡ b → nat_lt (cond b zero (suc (place k xs))) (suc (length xs)) ≡ true
      → (nat_lt (place k xs) (length xs) ≡ true → (slice_index_or xs (place k xs) d).number ≡ k) → (slice_index_or (x ∷ xs) (cond b zero (suc (place k xs))) d).number ≡ k
  number_one x xs k d true is within rest = sym (eqb-true k x.number is)
  number_one x xs k d false is within rest = rest (less (place k xs) (length xs) within)

  pub number_there : (items : List (Numbered T)) (k : ℕ) (d : Numbered T) → nat_lt (place k items) (length items) ≡ true → (slice_index_or items (place k items) d).number ≡ k
  number_there [] k d within = absurd (false≢true within)
  number_there (x ∷ xs) k d within = number_one x xs k d (k == x.number) refl within (number_there xs k d)

  abbrev pub looked : Bool → Numbered T → Option T → Option T
  looked true x rest = Some x.value
  looked false x rest = rest

  pub value_of_first : (x : Numbered T) (xs : List (Numbered T)) (n : ℕ) → value_of (x ∷ xs) n ≡ looked (n == x.number) x (value_of xs n)
  value_of_first x xs n =
      let M : Bool → Type 0 = λ b. option_map (λ (i : Numbered T). i.value) (cond b (Some x) (find (λ (i : Numbered T). n == i.number) xs)) ≡ looked b x (value_of xs n) in
      elim (n == x.number) as (λ b. M b) [ true ↦ refl | false ↦ refl ]

  placed_if : (items : List (Numbered T)) (k at : ℕ) (b : Bool) → nat_lt (place k items) (length items) ≡ b → cond b (Some (place k items)) None ≡ Some at → (nat_lt (place k items) (length items) ≡ true) × (at ≡ place k items)
  placed_if items k at true is found = (is, cc)
  placed_if items k at false is found = absurd (cc)

  pub placed : (items : List (Numbered T)) (k at : ℕ) → position (λ (i : Numbered T). k == i.number) items ≡ Some at → (nat_lt (place k items) (length items) ≡ true) × (at ≡ place k items)
  placed items k at found = placed_if items k at (nat_lt (place k items) (length items)) refl (sym (position_is k items) ∙ found)

  -- the value that is put under a number is the one that is read there, and no other one changes
  set_one : (x new : Numbered T) (xs : List (Numbered T)) (k n : ℕ) (b : Bool) → (k == x.number) ≡ b → new.number ≡ k → nat_lt (cond b zero (suc (place k xs))) (suc (length xs)) ≡ true
      → (nat_lt (place k xs) (length xs) ≡ true → value_of (slice_set xs (place k xs) new) n ≡ (if n == k then Some new.value else value_of xs n))
      → value_of (slice_set (x ∷ xs) (cond b zero (suc (place k xs))) new) n ≡ (if n == k then Some new.value else value_of (x ∷ xs) n)
  set_one x new xs k n true is own within rest =
      let a : value_of (new ∷ xs) n ≡ looked (n == k) new (value_of xs n) = value_of_first new xs n ∙ ap (λ (m : ℕ). looked (n == m) new (value_of xs n)) own in
      let c : value_of (x ∷ xs) n ≡ looked (n == k) x (value_of xs n) = value_of_first x xs n ∙ ap (λ (m : ℕ). looked (n == m) x (value_of xs n)) (sym (eqb-true k x.number is)) in
      let M : Bool → Type 0 = λ b. looked b new (value_of xs n) ≡ (if b then Some new.value else looked b x (value_of xs n)) in
      let both : M (n == k) = elim (n == k) as (λ b. M b) [ true ↦ refl | false ↦ refl ] in
      a ∙ both ∙ sym (ap (λ (o : Option T). if n == k then Some new.value else o) c)
  set_one x new xs k n false is own within rest =
      let ih = rest (less (place k xs) (length xs) within) in
      let a = value_of_first x (slice_set xs (place k xs) new) n in
      let c = value_of_first x xs n in
      let M : Bool → Type 0 = λ b. (n == x.number) ≡ b → looked b x (value_of (slice_set xs (place k xs) new) n) ≡ (if n == k then Some new.value else looked b x (value_of xs n)) in
      let N : Bool → Type 0 = λ b. (n == k) ≡ b → (n == x.number) ≡ true → Some x.value ≡ (if b then Some new.value else Some x.value) in
      let here : N (n == k) = elim (n == k) as (λ b. N b) [
        | true ↦ λ e f. absurd (eqb-false k x.number is (sym (eqb-true n k e) ∙ eqb-true n x.number f))
        | false ↦ λ e f. refl
      ] in
      let both : M (n == x.number) = elim (n == x.number) as (λ b. M b) [ true ↦ λ e. here refl e | false ↦ λ e. ih ] in
      a ∙ both refl ∙ sym (ap (λ (o : Option T). if n == k then Some new.value else o) c)

  pub set_value : (items : List (Numbered T)) (k : ℕ) (new : Numbered T) → new.number ≡ k → nat_lt (place k items) (length items) ≡ true → (n : ℕ) → value_of (slice_set items (place k items) new) n ≡ (if n == k then Some new.value else value_of items n)
  set_value [] k new own within n = absurd (false≢true within)
  set_value (x ∷ xs) k new own within n = set_one x new xs k n (k == x.number) refl own within (λ inside. set_value xs k new own inside n)

  -- what has no place has no value
  none_one : (x : Numbered T) (xs : List (Numbered T)) (k : ℕ) (b : Bool) → (k == x.number) ≡ b → nat_lt (cond b zero (suc (place k xs))) (suc (length xs)) ≡ false → (nat_lt (place k xs) (length xs) ≡ false → value_of xs k ≡ None) → looked b x (value_of xs k) ≡ None
  none_one x xs k true is out rest = absurd (false≢true (sym out ∙ none_less (length xs)))
  none_one x xs k false is out rest = rest (not_less (place k xs) (length xs) out)

  none_there : (items : List (Numbered T)) (k : ℕ) → nat_lt (place k items) (length items) ≡ false → value_of items k ≡ None
  none_there [] k out = refl
  none_there (x ∷ xs) k out = value_of_first x xs k ∙ none_one x xs k (k == x.number) refl out (none_there xs k)

  unplaced_if : (items : List (Numbered T)) (k : ℕ) (b : Bool) → nat_lt (place k items) (length items) ≡ b → cond b (Some (place k items)) None ≡ None → value_of items k ≡ None
  unplaced_if items k true is found = absurd (cc)
  unplaced_if items k false is found = none_there items k is

  pub unplaced : (items : List (Numbered T)) (k : ℕ) → position (λ (i : Numbered T). k == i.number) items ≡ None → value_of items k ≡ None
  unplaced items k found = unplaced_if items k (nat_lt (place k items) (length items)) refl (sym (position_is k items) ∙ found)

  -- the replaced item keeps its number
  pub replaced : (items : List (Numbered T)) (k at : ℕ) (v : T) (d : Numbered T) → position (λ (i : Numbered T). k == i.number) items ≡ Some at → (n : ℕ) → value_of (slice_set items at (record { number = (slice_index_or items at d).number; value = v })) n ≡ (if n == k then Some v else value_of items n)
  replaced items k at v d found n =
      let p = placed items k at found in
      let new : Numbered T = record { number = (slice_index_or items (place k items) d).number; value = v } in
      let own : (slice_index_or items (place k items) d).number ≡ k = number_there items k d p.0 in
      ap (λ (i : ℕ). value_of (slice_set items i (record { number = (slice_index_or items i d).number; value = v })) n) p.1 ∙ set_value items k new own p.0 n

  -- what replacing gives at each number

  some_one : (x : Numbered T) (xs : List (Numbered T)) (k : ℕ) (b : Bool) → (k == x.number) ≡ b → nat_lt (cond b zero (suc (place k xs))) (suc (length xs)) ≡ true → (nat_lt (place k xs) (length xs) ≡ true → (y : T) × (value_of xs k ≡ Some y)) → (y : T) × (value_of (x ∷ xs) k ≡ Some y)
  some_one x xs k true is within rest = (x.value, value_of_first x xs k ∙ ap (λ (b : Bool). looked b x (value_of xs k)) is)
  some_one x xs k false is within rest = let more = rest (less (place k xs) (length xs) within) in (more.0, value_of_first x xs k ∙ ap (λ (b : Bool). looked b x (value_of xs k)) is ∙ more.1)

  some_at : (items : List (Numbered T)) (k : ℕ) → nat_lt (place k items) (length items) ≡ true → (x : T) × (value_of items k ≡ Some x)
  some_at [] k within = absurd (false≢true within)
  some_at (x ∷ xs) k within = some_one x xs k (k == x.number) refl within (some_at xs k)

  renew_here : (o : Option T) (x v : T) (b : Bool) → (b ≡ true → o ≡ Some x) → (if b then Some v else o) ≡ renewed o (if b then Some v else None)
  renew_here o x v true is = ap (λ (p : Option T). renewed p (Some v)) (sym (is refl))
  renew_here None x v false is = refl
  renew_here (Some y) x v false is = refl

  renew_none : (o : Option T) (v : T) (b : Bool) → (b ≡ true → o ≡ None) → o ≡ renewed o (if b then Some v else None)
  renew_none o v true is = is refl ∙ ap (λ (p : Option T). renewed p (Some v)) (sym (is refl))
  renew_none None v false is = refl
  renew_none (Some y) v false is = refl

  pub renewed_there : (items : List (Numbered T)) (k at : ℕ) (v : T) (d : Numbered T) → position (λ (i : Numbered T). k == i.number) items ≡ Some at → (n : ℕ) → value_of (slice_set items at (record { number = (slice_index_or items at d).number; value = v })) n ≡ renewed (value_of items n) (if n == k then Some v else None)
  renewed_there items k at v d found n =
      let is = some_at items k (placed items k at found).0 in
      replaced items k at v d found n ∙ renew_here (value_of items n) is.0 v (n == k) (λ same. ap (λ (m : ℕ). value_of items m) (eqb-true n k same) ∙ is.1)

  pub renewed_nowhere : (items : List (Numbered T)) (k : ℕ) (v : T) → position (λ (i : Numbered T). k == i.number) items ≡ None → (n : ℕ) → value_of items n ≡ renewed (value_of items n) (if n == k then Some v else None)
  renewed_nowhere items k v found n = renew_none (value_of items n) v (n == k) (λ same. ap (λ (m : ℕ). value_of items m) (eqb-true n k same) ∙ unplaced items k found)

  -- one newer value, and then the others
  value_append : (xs : List (Numbered T)) (c : Numbered T) (n : ℕ) → value_of (xs ++ c ∷ []) n ≡ either (value_of xs n) (if n == c.number then Some c.value else None)
  value_append [] c n = value_of_first c [] n ∙ plain (n == c.number)
    where
      plain : (b : Bool) → looked b c None ≡ either None (if b then Some c.value else None)
      plain true = refl
      plain false = refl
  value_append (x ∷ xs) c n =
      value_of_first x (xs ++ c ∷ []) n ∙ ap (λ (o : Option T). looked (n == x.number) x o) (value_append xs c n)
      ∙ swap (n == x.number) (value_of xs n) (if n == c.number then Some c.value else None) ∙ ap (λ (o : Option T). either o (if n == c.number then Some c.value else None)) (sym (value_of_first x xs n))
    where
      swap : (b : Bool) (o p : Option T) → looked b x (either o p) ≡ either (looked b x o) p
      swap true o p = refl
      swap false o p = refl

  renew_twice : (o first rest : Option T) → renewed (renewed o first) rest ≡ renewed o (either rest first)
  renew_twice None first rest = refl
  renew_twice (Some x) None None = refl
  renew_twice (Some x) None (Some z) = refl
  renew_twice (Some x) (Some y) None = refl
  renew_twice (Some x) (Some y) (Some z) = refl

  pub renewed_more : (o : Option T) (c : Numbered T) (rest : List (Numbered T)) (n : ℕ) → renewed (renewed o (if n == c.number then Some c.value else None)) (latest_of rest n) ≡ renewed o (latest_of (c ∷ rest) n)
  renewed_more o c rest n =
      renew_twice o (if n == c.number then Some c.value else None) (latest_of rest n)
      ∙ ap (λ (p : Option T). renewed o p) (sym (value_append (reverse rest) c n))
      ∙ ap (λ (l : List (Numbered T)). renewed o (value_of l n)) (sym (reverse-append (c ∷ []) rest))

-- another value under a number leaves the numbers
pub numbers_set : {T : Type 0} (items : List (Numbered T)) (at : ℕ) (value : T) (d : Numbered T) → map (λ (i : Numbered T). i.number) (slice_set items at (record { number = (slice_index_or items at d).number; value = value })) ≡ map (λ (i : Numbered T). i.number) items
numbers_set [] at value d = refl
numbers_set (x ∷ xs) zero value d = refl
numbers_set {T} (x ∷ xs) (suc at) value d = ap (λ (l : List ℕ). x.number ∷ l) (numbers_set xs at value d)

module _ {T : Type 0} where
  -- what stands at a place is the value under its number
  pub value_here : (items : List (Numbered T)) (k at : ℕ) (d : Numbered T) → position (λ (i : Numbered T). k == i.number) items ≡ Some at → value_of items k ≡ Some (slice_index_or items at d).value
  value_here items k at d found =
      let x : Numbered T = slice_index_or items at d in
      let same : slice_set items at x ≡ items = set-get_or items at d in
      ap (λ (l : List (Numbered T)). value_of l k) (sym same)
      ∙ replaced items k at x.value d found k
      ∙ ap (λ (b : Bool). if b then Some x.value else value_of items k) (eq-eqb k k refl)
