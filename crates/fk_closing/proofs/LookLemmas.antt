-- Look-ups by value: what their answers say of the rows of S and T.
use Rattle.std.proofs.Common.{◌≡◌, ℕ, ◌+◌, ◌<◌, ◌≤◌, ◌==◌, List, [], ◌∷◌, length, Bool, true, false, not, ◌&&◌, Option, is_some, Some, None, refl, ap, sym, ◌∙◌, subst, arith}
use Rattle.std.proofs.lemmas.Bool.{cases_lt, false≢true, eqb-true}
use mathlib.Core.Logic.{inl, inr}
use Rattle.par_base.specs.declared.value.Value.{Value}
use Rattle.par_base.specs.declared.value.Value.TheVariants.{Null, Int, Text, Reference}
use Rattle.par_base.specs.SameRows.{same_row}
use Rattle.par_base.specs.inner.SameLaws.{row_equal, row_same}
use Rattle.row_store.specs.Rows.{Rows, RiseFrom, row_of}
use Rattle.row_store.specs.inner.FoundRows.{own_row, later, from_at}
use Rattle.op_law.specs.Tables.{RowsWide}
use Rattle.op_law.specs.Local.{rows_only}
use Rattle.op_law.proofs.OnlyLaws.{by_test, row_in, row_out}
use Rattle.op_law.proofs.SoundLaws.{wide_at}
use Rattle.foreign_keys.specs.References.{goal_of, referred}
use Rattle.foreign_keys.specs.inner.ReferenceLemmas.{referred_by, referrer}
use Rattle.foreign_keys.specs.Least.{least_with}
use Rattle.op_fk_join.specs.Join.{first_with}
use Rattle.key_index.specs.Found.{IsLeastFrom}
use Rattle.fk_closing.specs.Keys.{key_parts}
use Rattle.fk_closing.specs.Looking.{goal_at, IsNextRef}

-- a value that leads to q is the reference to q
reference_of : (v : Value) (q : ℕ) → goal_of v ≡ Some q → v ≡ Reference q
reference_of (Reference p) q e = let same : p ≡ q = cc in ap Reference same
reference_of Null q e = absurd (cc)
reference_of (Int i) q e = absurd (cc)
reference_of (Text t) q e = absurd (cc)

module _ (keys : Rows) (one : RowsWide 1 keys) (q : ℕ) where
  -- a key that leads to q is the reference to q alone
  single : (w : List Value) → length w ≡ 1 → goal_at 0 w ≡ Some q → w ≡ Reference q ∷ []
  single [] long goal = absurd (omega arith)
  single (x ∷ []) long goal = ap (λ (v : Value). v ∷ []) (reference_of x q goal)
  single (x ∷ y ∷ ys) long goal = absurd (omega arith)

  to_key : (p : ℕ) (w : List Value) → row_of keys p ≡ Some w → goal_at 0 w ≡ Some q → row_of keys p ≡ Some (Reference q ∷ [])
  to_key p w at goal = at ∙ ap Some (single w (wide_at 1 keys p w one at) goal)

  -- THE LEAST ROW THAT REFERS, from the least one with the key
  pub next_is : (from : ℕ) (found : Option ℕ) → IsLeastFrom keys (Reference q ∷ []) from found → IsNextRef 0 keys q from found
  next_is from None none = λ p v low at goal. none p low (to_key p v at goal)
  next_is from (Some w) is = record {
    refers = record { row = Reference q ∷ []; at = is.1; goal = refl };
    behind = is.0;
    least = λ p v low at goal. is.2 p low (to_key p v at goal);
  }

-- WHETHER A ROW REFERS, from the least one that does
pub refers_is : (keys : Rows) (q : ℕ) (found : Option ℕ) → RiseFrom 0 keys → IsNextRef 0 keys q 0 found → is_some found ≡ referred key_parts keys q
refers_is keys q None rise none =
    by_test (referred key_parts keys q)
    (λ yes. let f = referrer key_parts 0 keys q rise yes in absurd (none f.id f.row (omega arith) f.at f.goal))
    (λ no. sym no)
refers_is keys q (Some w) rise is = sym (referred_by key_parts keys w q is.refers.row is.refers.at is.refers.goal)

-- there is one least identifier
pub least_one : (rows : Rows) (key : List Value) (from : ℕ) (o : Option ℕ) (g : ℕ) → IsLeastFrom rows key from o → IsLeastFrom rows key from (Some g) → o ≡ Some g
least_one rows key from None g none is = absurd (none g is.0 is.1)
least_one rows key from (Some w) g one is = let same : w ≡ g = omega (arith, one.2 g is.0 is.1, is.2 w one.0 one.1) in ap Some same

-- both of two tests
both : (a b : Bool) → (a && b) ≡ true → (a ≡ true) × (b ≡ true)
both true b h = (refl, h)
both false b h = absurd (false≢true h)

-- the least row with a value, of those that are meant, is the least of the meant rows with this key
module _ (P Q : ℕ → Bool) (same : (q : ℕ) → Q q ≡ P q) where
  least_there : (m : ℕ) (rows : Rows) (b : List Value) (g : ℕ) → RiseFrom m rows → least_with (λ q row. Q q) rows b ≡ Some g → (row_of rows g ≡ Some b) × (P g ≡ true)
  least_there m [] b g rise e = absurd (cc)
  least_there m (r ∷ rs) b g rise e =
      by_test (same_row r.1 b && Q r.0)
      (λ yes.
      let some : Some r.0 ≡ Some g = rw yes at e in
      let i : r.0 ≡ g = cc in
      let parts = both (same_row r.1 b) (Q r.0) yes in
      subst (λ (x : ℕ). (row_of (r ∷ rs) x ≡ Some b) × (P x ≡ true)) i (own_row r rs ∙ ap Some (row_equal r.1 b parts.0), sym (same r.0) ∙ parts.1))
      (λ no.
      let rest : least_with (λ q row. Q q) rs b ≡ Some g = rw no at e in
      let f = least_there (r.0 + 1) rs b g rise.1 rest in
      (later r rs g b rise.1 f.0, f.1))

  least_low : (m : ℕ) (rows : Rows) (b : List Value) (g : ℕ) → RiseFrom m rows → least_with (λ q row. Q q) rows b ≡ Some g → (id : ℕ) → P id ≡ true → row_of rows id ≡ Some b → g ≤ id
  least_low m [] b g rise e id pass at = absurd (cc)
  least_low m (r ∷ rs) b g rise e id pass at =
      by_test (same_row r.1 b && Q r.0)
      (λ yes.
      let some : Some r.0 ≡ Some g = rw yes at e in
      let i : r.0 ≡ g = cc in
      subst (λ (x : ℕ). x ≤ id) i (from_at r.0 (r ∷ rs) id b (omega arith, rise.1) at))
      (λ no.
      by_test (r.0 == id)
      (λ own.
      let here : Some r.1 ≡ Some b = rw own at at in
      let value : r.1 ≡ b = cc in
      let one : same_row r.1 b ≡ true = subst (λ (x : List Value). same_row r.1 x ≡ true) value (row_same r.1) in
      let two : Q r.0 ≡ true = same r.0 ∙ ap P (eqb-true r.0 id own) ∙ pass in
      let bad : (same_row r.1 b && Q r.0) ≡ true = rw (one, two) refl in
      absurd (false≢true (sym no ∙ bad)))
      (λ other.
      let rest : least_with (λ q row. Q q) rs b ≡ Some g = rw no at e in
      let there : row_of rs id ≡ Some b = rw other at at in
      least_low (r.0 + 1) rs b g rise.1 rest id pass there))

  pub least_is : (rows : Rows) (b : List Value) (g : ℕ) → RiseFrom 0 rows → least_with (λ q row. Q q) rows b ≡ Some g → IsLeastFrom (rows_only P rows) b 0 (Some g)
  least_is rows b g rise e =
      let f = least_there 0 rows b g rise e in (
        omega arith,
        row_in P rows g f.1 ∙ f.0,
        λ id low at.
            by_test (P id)
            (λ pass. least_low 0 rows b g rise e id pass (sym (row_in P rows id pass) ∙ at))
            (λ fail. let none = row_out P rows id fail in absurd (cc)),
      )

-- all rows are meant
all_meant : (rows : Rows) → rows_only (λ q. true) rows ≡ rows
all_meant [] = refl
all_meant (r ∷ rs) = ap (λ (xs : Rows). r ∷ xs) (all_meant rs)

and_true : (a : Bool) → (a && true) ≡ a
and_true true = refl
and_true false = refl

first_least : (rows : Rows) (b : List Value) → first_with rows b ≡ least_with (λ q row. true) rows b
first_least [] b = refl
first_least (r ∷ rs) b = rw (and_true (same_row r.1 b), first_least rs b) refl

-- THE LEAST ROW WITH A VALUE is the least one with this key
pub first_is : (rows : Rows) (b : List Value) (g : ℕ) → RiseFrom 0 rows → first_with rows b ≡ Some g → IsLeastFrom rows b 0 (Some g)
first_is rows b g rise e =
    subst (λ (xs : Rows). IsLeastFrom xs b 0 (Some g)) (all_meant rows)
    (least_is (λ q. true) (λ q. true) (λ q. refl) rows b g rise (sym (first_least rows b) ∙ e))

-- what is none of those that are there is none
pub none_of : (o : Option ℕ) → ((x : ℕ) → o ≡ Some x → ⊥) → o ≡ None
none_of None other = refl
none_of (Some x) other = absurd (other x refl)

-- the least row that isn't alone, where those before it are
module _ (is_alone : ℕ → Bool) (rows : Rows) (key : List Value) (from : ℕ) (passed : (p : ℕ) → p < from → row_of rows p ≡ Some key → is_alone p ≡ true) where
  -- a row that is meant isn't before
  behind_all : (p : ℕ) → not (is_alone p) ≡ true → row_of rows p ≡ Some key → from ≤ p
  behind_all p meant at =
      elim (cases_lt p from) [
        | inl low ↦ let bad : not (is_alone p) ≡ false = ap not (passed p low at) in absurd (false≢true (sym bad ∙ meant))
        | inr high ↦ high
      ]

  pub shared_found : (id : ℕ) → IsLeastFrom rows key from (Some id) → is_alone id ≡ false → IsLeastFrom (rows_only (λ q. not (is_alone q)) rows) key 0 (Some id)
  shared_found id is alone_not = (
    omega arith,
    row_in (λ q. not (is_alone q)) rows id (ap not alone_not) ∙ is.1,
    λ p low at.
        by_test (not (is_alone p))
        (λ meant. let there = sym (row_in (λ q. not (is_alone q)) rows p meant) ∙ at in is.2 p (behind_all p meant there) there)
        (λ other. let none = row_out (λ q. not (is_alone q)) rows p other in absurd (cc)),
  )

  pub shared_none : IsLeastFrom rows key from None → IsLeastFrom (rows_only (λ q. not (is_alone q)) rows) key 0 None
  shared_none none = λ p low at.
      by_test (not (is_alone p))
      (λ meant. let there = sym (row_in (λ q. not (is_alone q)) rows p meant) ∙ at in none p (behind_all p meant there) there)
      (λ other. let gone = row_out (λ q. not (is_alone q)) rows p other in absurd (cc))

  pub passed_more : (id : ℕ) → IsLeastFrom rows key from (Some id) → is_alone id ≡ true → (p : ℕ) → p < id + 1 → row_of rows p ≡ Some key → is_alone p ≡ true
  passed_more id is alone_is p low at =
      elim (cases_lt p from) [
        | inl before ↦ passed p before at
        | inr high ↦ let up = is.2 p high at in let same : id ≡ p = omega (arith, up, low) in subst (λ (x : ℕ). is_alone x ≡ true) same alone_is
      ]
