-- What an own half is, and where a row that is found or drawn stands.
use Rattle.std.specs.Option.{option_map}
use Rattle.std.proofs.Common.{◌≡◌, ℕ, ◌<◌, ◌≤◌, ◌==◌, List, [], ◌∷◌, ◌++◌, length, count_by, Bool, true, false, not, ◌||◌, Option, Some, None, is_some, refl, ap, sym, ◌∙◌, subst, arith}
use Rattle.std.proofs.lemmas.Bool.{and_parts, false≢true, eqb-true}
use Rattle.par_base.specs.declared.value.Value.{Value}
use Rattle.par_base.specs.declared.value.Value.TheVariants.{Null, Int, Text, Reference}
use Rattle.par_base.specs.SameRows.{same_row}
use Rattle.par_base.specs.inner.SameLaws.{row_equal}
use Rattle.row_store.specs.Rows.{Rows, row_of}
use Rattle.id_memory.specs.Pairs.{Pairs, IsOneToOne, pair_of, has_pair}
use Rattle.op_law.specs.Sound.{PairsSound}
use Rattle.row_parts.specs.Places.{pick as part, nulls}
use Rattle.row_parts.specs.RowCells.{Cell, by_test}
use Rattle.row_parts.specs.inner.PlaceLemmas.{length-pick}
use Rattle.pair_rows.specs.Given.{got, own, or_id}
use Rattle.outer_law.specs.Entries.{with_absent, with_half}
use Rattle.outer_law.specs.Placed.{is_null, half_there, is_present, own_alone}
use Rattle.outer_law.proofs.StillLaws.{above_zero}
use Rattle.outer_law.proofs.HalfLaws.{count_more, count_same}

-- a null row has nothing but nulls
null_nulls : (row : List Value) → is_null row ≡ true → row ≡ nulls (length row)
null_nulls [] h = refl
null_nulls (Null ∷ vs) h = ap (λ (rest : List Value). Null ∷ rest) (null_nulls vs h)
null_nulls (Int number ∷ vs) h = absurd (false≢true h)
null_nulls (Text text ∷ vs) h = absurd (false≢true h)
null_nulls (Reference id ∷ vs) h = absurd (false≢true h)

-- a half that isn't present has a null part
absent_null : (a b : Bool) → (not a || b) ≡ false → a ≡ true
absent_null true b h = refl
absent_null false b h = absurd (false≢true (sym h))

pub absent_part : (places : List ℕ) (own : Option ℕ) (row : List Value) (rows : Rows) → is_present (record { own = own; values = part places row }) ≡ false → row_of (with_absent places rows) 0 ≡ Some (part places row)
absent_part places own row rows h =
    let null = absent_null (is_null (part places row)) (is_some own) h in
    ap (λ (v : List Value). Some v) (sym (null_nulls (part places row) null ∙ ap nulls (length-pick places row)))

-- rows that stay, with the absent one in front
pub absent_keeps : (places : List ℕ) (old rows : Rows) (id : ℕ) (row : List Value) → ((id : ℕ) (row : List Value) → row_of old id ≡ Some row → row_of rows id ≡ Some row) → row_of (with_absent places old) id ≡ Some row → row_of (with_absent places rows) id ≡ Some row
absent_keeps places old rows id row keeps at =
    by_test (0 == id)
    (λ q. let here : Some (nulls (length places)) ≡ Some row = rw q at at in rw q here)
    (λ q. let later : row_of old id ≡ Some row = rw q at at in rw q (keeps id row later))

-- one entry more stands once
pub one_more : (taken : Pairs) (e : ℕ × ℕ × ℕ) → IsOneToOne taken → count_by (has_pair e.1 e.2) taken ≡ 0 → IsOneToOne (taken ++ e ∷ [])
one_more taken e one none a b =
    let before = one a b in
    by_test (has_pair a b e)
    (λ q.
    let both = and_parts (e.1 == a) (e.2 == b) q in
    let zero_count : count_by (has_pair a b) taken ≡ 0 =
    sym (ap (λ (i : ℕ). count_by (has_pair i e.2) taken) (eqb-true e.1 a both.0) ∙ ap (λ (i : ℕ). count_by (has_pair a i) taken) (eqb-true e.2 b both.1)) ∙ none in
    let c = count_more (has_pair a b) taken e q in
    omega (arith, c, zero_count))
    (λ q. let c = count_same (has_pair a b) taken e q in omega (arith, c, before))

-- an own half
pub own_gives : (places : List ℕ) (old : Cell) (id : Option ℕ) (row : List Value) (k : ℕ) (X : Type 0) → own places old id row ≡ Some k → ((o : List Value) → old ≡ Some o → id ≡ Some k → part places o ≡ part places row → X) → X
own_gives places None id row k X e f = absurd (cc)
own_gives places (Some o) id row k X e f =
    by_test (same_row (part places o) (part places row))
    (λ q. let is : id ≡ Some k = rw q at e in f o refl is (row_equal (part places o) (part places row) q))
    (λ q. let none : ◌≡◌ {A = Option ℕ} None (Some k) = rw q at e in absurd (cc))

pub there_gives : (f : ℕ × ℕ → ℕ) (pair : Option (ℕ × ℕ)) (k : ℕ) (X : Type 0) → half_there (option_map f pair) ≡ Some k → ((both : ℕ × ℕ) → pair ≡ Some both → f both ≡ k → 1 ≤ k → X) → X
there_gives f None k X e g = absurd (cc)
there_gives f (Some both) k X e g =
    by_test (f both == 0)
    (λ q. let none : ◌≡◌ {A = Option ℕ} None (Some k) = rw q at e in absurd (cc))
    (λ q.
    let some : ◌≡◌ {A = Option ℕ} (Some (f both)) (Some k) = rw q at e in
    let is : f both ≡ k = cc in
    let low = above_zero (f both) q in
    g both refl is (omega (arith, low, is)))

-- the own half where no other entry had it
pub alone_gives : (pick : ℕ × ℕ × ℕ → ℕ) (m : Pairs) (own : Option ℕ) (k : ℕ) → own_alone pick m own ≡ Some k → (own ≡ Some k) × (with_half pick k m ≡ 1)
alone_gives pick m None k e = absurd (cc)
alone_gives pick m (Some id) k e =
    by_test (with_half pick id m == 1)
    (λ q.
    let some : ◌≡◌ {A = Option ℕ} (Some id) (Some k) = rw q at e in
    let is : id ≡ k = cc in
    (some, subst (λ (i : ℕ). with_half pick i m ≡ 1) is (eqb-true (with_half pick id m) 1 q)))
    (λ q. let none : ◌≡◌ {A = Option ℕ} None (Some k) = rw q at e in absurd (cc))

-- a half that is found or drawn alone is in no entry
pub unused_by : (pick : ℕ × ℕ × ℕ → ℕ) (choice : Option ℕ) (rows : Rows) (x : List Value) (taken : Pairs) (next : ℕ) → with_half pick next taken ≡ 0 → ((id : ℕ) → choice ≡ Some id → with_half pick id taken ≡ 0) → with_half pick (got choice rows x next).id taken ≡ 0
unused_by pick (Some id) rows x taken next none h = h id refl
unused_by pick None rows x taken next none h = none

-- halves of the old memory are below
pub entry_sound : (n : ℕ) (es : Pairs) (p a b : ℕ) → PairsSound n es → pair_of es p ≡ Some (a, b) → (a < n) × (b < n)
entry_sound n [] p a b sound at = absurd (cc)
entry_sound n (e ∷ es) p a b sound at =
    by_test (e.0 == p)
    (λ q.
    let pairs : ◌≡◌ {A = Option (ℕ × ℕ)} (Some (e.1, e.2)) (Some (a, b)) = rw q at at in
    let pair : ◌≡◌ {A = ℕ × ℕ} (e.1, e.2) (a, b) = cc in
    let first : e.1 ≡ a = ap (λ (k : ℕ × ℕ). k.0) pair in
    let second : e.2 ≡ b = ap (λ (k : ℕ × ℕ). k.1) pair in
    let low = sound.0.1 in
    let high = sound.0.2 in
    (omega (arith, first, low), omega (arith, second, high)))
    (λ q. let later : pair_of es p ≡ Some (a, b) = rw q at at in entry_sound n es p a b sound.1 later)

-- the choices for an entry with both halves
pub or_gives : (a b : Option ℕ) (id : ℕ) (X : Type 0) → or_id a b ≡ Some id → (a ≡ Some id → X) → (b ≡ Some id → X) → X
or_gives (Some k) b id X e f g = f e
or_gives None b id X e f g = g e
