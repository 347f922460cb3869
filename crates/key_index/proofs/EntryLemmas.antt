-- Entries in the order of keys, by their identifiers.
use Rattle.std.specs.Ordering.{is_eq}
use Rattle.std.proofs.Common.{◌≡◌, ℕ, ◌+◌, ◌≤◌, ◌==◌, ◌⊎◌, nat_lt, Bool, true, false, List, [], ◌∷◌, Option, Some, None, if◌then◌else◌, Ordering, inl, inr, true≢false, refl, sym, ap, ◌∙◌, subst, arith}
use Rattle.std.proofs.lemmas.Bool.Decides.{nat_tests}
use Rattle.std.proofs.lemmas.Bool.{cases_order, eqb-true}
use Rattle.par_base.proofs.TestLaws.{swap_tests, twice}
use Rattle.par_base.specs.declared.value.Value.{Value}
use Rattle.row_store.specs.Rows.{Rows, RiseFrom, row_of}
use Rattle.ordered_pages.specs.Orders.{IsTotal}
use Rattle.ordered_pages.specs.Entries.{Rise, entry_of, PutsAt}
use Rattle.ordered_pages.proofs.OrderLaws.{behind_entry, entry_here, entry_key, same_key, equal_is}
use Rattle.key_index.specs.declared.keyed.Keyed.{Keyed}
use Rattle.key_index.specs.inner.OrderLemmas.{keyed_total, keyed_same}
use Rattle.key_index.specs.inner.Entries.{keyed_order, HaveOneEach, with_row, keys_by_id, PutsRow}

-- the key of an identifier
abbrev pub key_of : List Keyed → ℕ → Option (List Value)
key_of [] id = None
key_of (e ∷ es) id = if e.id == id then Some e.key else key_of es id

-- the entries with this key at the identifier, or with none there
abbrev pub PutsKey : ℕ → Option (List Value) → List Keyed → List Keyed → Type 0
PutsKey id slot before now = (q : ℕ) → key_of now q ≡ (if id == q then slot else key_of before q)

pub laws : IsTotal keyed_order
laws = record { total = keyed_total; same = keyed_same }

pick_key : (b : Bool) (key : List Value) (rest : Option (List Value)) (other : List Value) → rest ≡ Some other → (found : List Value) × ((if b then Some key else rest) ≡ Some found)
pick_key true key rest other is = (key, refl)
pick_key false key rest other is = (other, is)

if_cases : {A : Type 0} (b : Bool) (x y z : A) → (if b then x else y) ≡ z → ((b ≡ true) × (x ≡ z)) ⊎ ((b ≡ false) × (y ≡ z))
if_cases true x y z h = inl (refl, h)
if_cases false x y z h = inr (refl, h)

unless : {A : Type 0} (b : Bool) (x y z : A) → (b ≡ true → y ≡ z → (if b then x else y) ≡ z) → y ≡ z → (if b then x else y) ≡ z
unless true x y z h is = h refl is
unless false x y z h is = is

-- two that answer the same
same_option : {A : Type 0} (a b : Option A) → ((x : A) → a ≡ Some x → b ≡ Some x) → ((x : A) → b ≡ Some x → a ≡ Some x) → a ≡ b
same_option None None f g = refl
same_option None (Some y) f g = g y refl
same_option (Some x) b f g = sym (f x refl)

-- a row that is put among ascending ones
row_of_with : (id : ℕ) (key : List Value) (rows : Rows) (q : ℕ) → row_of (with_row id key rows) q ≡ (if id == q then Some key else row_of rows q)
row_of_with id key [] q = refl
row_of_with id key (r ∷ rs) q =
    elim (cases_order id r.0) [
      | inl e ↦
          let no : nat_lt id r.0 ≡ false = grind (arith, nat_tests) in
          let own : (r.0 == id) ≡ true = grind (arith, nat_tests) in
          let same : (r.0 == q) ≡ (id == q) = ap (λ (n : ℕ). n == q) (sym e) in
          rw (no, own, same) (twice (id == q) (Some key) (Some r.1) (row_of rs q))
      | inr (inl h) ↦ let less : nat_lt id r.0 ≡ true = grind (arith, nat_tests) in rw less refl
      | inr (inr h) ↦
          let no : nat_lt id r.0 ≡ false = grind (arith, nat_tests) in
          let other : (r.0 == id) ≡ false = grind (arith, nat_tests) in
          rw (no, other) (ap (λ (rest : Option (List Value)). if r.0 == q then Some r.1 else rest) (row_of_with id key rs q)
          ∙ swap_tests (r.0 == q) (id == q) (Some r.1) (Some key) (row_of rs q) (λ e. grind (arith, nat_tests)))
    ]

rises_with : (n id : ℕ) (key : List Value) (rows : Rows) → n ≤ id → RiseFrom n rows → RiseFrom n (with_row id key rows)
rises_with n id key [] low rise = (low, tt)
rises_with n id key (r ∷ rs) low rise =
    elim (cases_order id r.0) [
      | inl e ↦
          let no : nat_lt id r.0 ≡ false = grind (arith, nat_tests) in
          let own : (r.0 == id) ≡ true = grind (arith, nat_tests) in
          rw (no, own) (low, subst (λ (m : ℕ). RiseFrom (m + 1) rs) (sym e) rise.1)
      | inr (inl h) ↦ let less : nat_lt id r.0 ≡ true = grind (arith, nat_tests) in rw less (low, (omega arith, rise.1))
      | inr (inr h) ↦
          let no : nat_lt id r.0 ≡ false = grind (arith, nat_tests) in
          let other : (r.0 == id) ≡ false = grind (arith, nat_tests) in
          rw (no, other) (rise.0, rises_with (r.0 + 1) id key rs (omega arith) rise.1)
    ]

-- the keys by identifier rise, and are those of the entries
pub keys_rise : (es : List Keyed) → RiseFrom 0 (keys_by_id es)
keys_rise [] = tt
keys_rise (e ∷ es) = rises_with 0 e.id e.key (keys_by_id es) (omega arith) (keys_rise es)

pub keys_are : (es : List Keyed) (q : ℕ) → row_of (keys_by_id es) q ≡ key_of es q
keys_are [] q = refl
keys_are (e ∷ es) q = row_of_with e.id e.key (keys_by_id es) q ∙ ap (λ (rest : Option (List Value)). if e.id == q then Some e.key else rest) (keys_are es q)

-- what has a key stands in the order, and the other way round
pub stands : (es : List Keyed) (q : ℕ) (key : List Value) → Rise keyed_order es → key_of es q ≡ Some key → (e : Keyed) × (entry_of keyed_order es (key, q) ≡ Some e)
stands [] q key rise is = cc
stands (e ∷ es) q key rise is =
    elim (if_cases (e.id == q) (Some e.key) (key_of es q) (Some key) is) [
      | inl h ↦
          let own : e.key ≡ key = cc in
          let same : ◌≡◌ {A = List Value × ℕ} (e.key, e.id) (key, q) = ap (λ (k : List Value). (k, e.id)) own ∙ ap (λ (n : ℕ). (key, n)) (eqb-true e.id q h.0) in
          (e, entry_here keyed_order laws es e (key, q) same)
      | inr h ↦
          let rest = stands es q key rise.1 h.1 in
          let after = behind_entry keyed_order laws es (e.key, e.id) (key, q) rest.0 rise.0 rest.1 in
          (rest.0, rw after rest.1)
    ]

some_key : (es : List Keyed) (q : ℕ) (key : List Value) (y : Keyed) → entry_of keyed_order es (key, q) ≡ Some y → (other : List Value) × (key_of es q ≡ Some other)
some_key [] q key y is = cc
some_key (e ∷ es) q key y is =
    elim (if_cases (is_eq (keyed_order.cmp (e.key, e.id) (key, q))) (Some e) (entry_of keyed_order es (key, q)) (Some y) is) [
      | inl h ↦
          let same : e.id ≡ q = ap (λ (p : List Value × ℕ). p.1) (same_key keyed_order laws (e.key, e.id) (key, q) h.0) in
          let own : (e.id == q) ≡ true = grind (arith, nat_tests) in
          (e.key, rw own refl)
      | inr h ↦
          let rest = some_key es q key y h.1 in
          pick_key (e.id == q) e.key (key_of es q) rest.0 rest.1
    ]

pub is_key : (es : List Keyed) (q : ℕ) (key : List Value) (y : Keyed) → Rise keyed_order es → HaveOneEach es → entry_of keyed_order es (key, q) ≡ Some y → key_of es q ≡ Some key
is_key es q key y rise each is =
    let some = some_key es q key y is in
    let there = stands es q some.0 rise some.1 in
    some.1 ∙ ap (λ (k : List Value). Some k) (each some.0 key q there.0 y there.1 is)

-- a key that is put at an identifier without one
module _ (before now : List Keyed) (id : ℕ) (key : List Value) (new : Keyed) (rise : Rise keyed_order before) (rise_now : Rise keyed_order now) (each : HaveOneEach before) (none : key_of before id ≡ None)
    (puts : PutsAt keyed_order (key, id) (Some new) before now) where
  own_or_old : (other : List Value) (q : ℕ) (y : Keyed) → entry_of keyed_order now (other, q) ≡ Some y → ((key ≡ other) × (id ≡ q)) ⊎ (entry_of keyed_order before (other, q) ≡ Some y)
  own_or_old other q y is =
      elim (if_cases (is_eq (keyed_order.cmp (key, id) (other, q))) (Some new) (entry_of keyed_order before (other, q)) (Some y) (sym (puts (other, q)) ∙ is)) [
        | inl h ↦
            let same = same_key keyed_order laws (key, id) (other, q) h.0 in
            inl (ap (λ (p : List Value × ℕ). p.0) same, ap (λ (p : List Value × ℕ). p.1) same)
        | inr h ↦ inr h.1
      ]

  apart : (other : List Value) (q : ℕ) (y : Keyed) → id ≡ q → entry_of keyed_order before (other, q) ≡ Some y → ⊥
  apart other q y same is =
      let there : key_of before id ≡ Some other = subst (λ (n : ℕ). key_of before n ≡ Some other) (sym same) (is_key before q other y rise each is) in
      let no : None ≡ Some other = sym none ∙ there in
      cc

  pub put_each : HaveOneEach now
  put_each some other q a b is_some is_other =
      elim (own_or_old some q a is_some) [
        | inl h ↦
            elim (own_or_old other q b is_other) [
              | inl i ↦ sym h.0 ∙ i.0
              | inr i ↦ absurd (apart other q b h.1 i)
            ]
        | inr h ↦
            elim (own_or_old other q b is_other) [
              | inl i ↦ absurd (apart some q a i.1 h)
              | inr i ↦ each some other q a b h i
            ]
      ]

  own : entry_of keyed_order now (key, id) ≡ Some new
  own =
      let same = equal_is keyed_order laws (key, id) (key, id) refl in
      puts (key, id) ∙ ap (λ (r : Ordering). if is_eq r then Some new else entry_of keyed_order before (key, id)) same

  put_at : (q : ℕ) (b : Bool) → (id == q) ≡ b → key_of now q ≡ (if b then Some key else key_of before q)
  put_at q true e = ap (key_of now) (sym (eqb-true id q e)) ∙ is_key now id key new rise_now put_each own
  put_at q false e =
      let other : id ≡ q → ⊥ = λ same. let yes : (id == q) ≡ true = grind (arith, nat_tests) in true≢false (sym yes ∙ e) in
      same_option (key_of now q) (key_of before q)
      (λ x is. let there = stands now q x rise_now is in
      elim (own_or_old x q there.0 there.1) [
        | inl h ↦ absurd (other h.1)
        | inr h ↦ is_key before q x there.0 rise each h
      ])
      (λ x is. let there = stands before q x rise is in
      let kept : entry_of keyed_order now (x, q) ≡ Some there.0 =
      puts (x, q) ∙ unless (is_eq (keyed_order.cmp (key, id) (x, q))) (Some new) (entry_of keyed_order before (x, q)) (Some there.0) (λ h i. absurd (other (ap (λ (p : List Value × ℕ). p.1) (same_key keyed_order laws (key, id) (x, q) h)))) there.1 in
      is_key now q x there.0 rise_now put_each kept)

  pub put_keys : PutsKey id (Some key) before now
  put_keys q = put_at q (id == q) refl

-- the key of an identifier that is taken out
module _ (before now : List Keyed) (id : ℕ) (key : List Value) (rise : Rise keyed_order before) (rise_now : Rise keyed_order now) (each : HaveOneEach before) (was : key_of before id ≡ Some key)
    (puts : PutsAt keyed_order (key, id) None before now) where
  still : (other : List Value) (q : ℕ) (y : Keyed) → entry_of keyed_order now (other, q) ≡ Some y → (is_eq (keyed_order.cmp (key, id) (other, q)) ≡ false) × (entry_of keyed_order before (other, q) ≡ Some y)
  still other q y is =
      elim (if_cases (is_eq (keyed_order.cmp (key, id) (other, q))) None (entry_of keyed_order before (other, q)) (Some y) (sym (puts (other, q)) ∙ is)) [
        | inl h ↦ let no : None ≡ Some y = h.1 in cc
        | inr h ↦ h
      ]

  pub take_each : HaveOneEach now
  take_each some other q a b is_some is_other = each some other q a b (still some q a is_some).1 (still other q b is_other).1

  take_at : (q : ℕ) (b : Bool) → (id == q) ≡ b → key_of now q ≡ (if b then None else key_of before q)
  take_at q true e =
      same_option (key_of now q) None
      (λ x is. let there = stands now q x rise_now is in
      let kept = still x q there.0 there.1 in
      let same : id ≡ q = eqb-true id q e in
      let old : key_of before id ≡ Some x = subst (λ (n : ℕ). key_of before n ≡ Some x) (sym same) (is_key before q x there.0 rise each kept.1) in
      let both : Some key ≡ Some x = sym was ∙ old in
      let key_is : key ≡ x = cc in
      let pair : ◌≡◌ {A = List Value × ℕ} (key, id) (x, q) = ap (λ (k : List Value). (k, id)) key_is ∙ ap (λ (n : ℕ). (x, n)) same in
      absurd (true≢false (sym (ap is_eq (equal_is keyed_order laws (key, id) (x, q) pair)) ∙ kept.0)))
      (λ x is. let no : None ≡ Some x = is in cc)
  take_at q false e =
      let other : id ≡ q → ⊥ = λ same. let yes : (id == q) ≡ true = grind (arith, nat_tests) in true≢false (sym yes ∙ e) in
      same_option (key_of now q) (key_of before q)
      (λ x is. let there = stands now q x rise_now is in is_key before q x there.0 rise each (still x q there.0 there.1).1)
      (λ x is. let there = stands before q x rise is in
      let kept : entry_of keyed_order now (x, q) ≡ Some there.0 =
      puts (x, q) ∙ unless (is_eq (keyed_order.cmp (key, id) (x, q))) None (entry_of keyed_order before (x, q)) (Some there.0) (λ h i. absurd (other (ap (λ (p : List Value × ℕ). p.1) (same_key keyed_order laws (key, id) (x, q) h)))) there.1 in
      is_key now q x there.0 rise_now take_each kept)

  pub take_keys : PutsKey id None before now
  take_keys q = take_at q (id == q) refl

  -- what is taken out is the key
  pub taken : (result : Option Keyed) → result ≡ entry_of keyed_order before (key, id) → (e : Keyed) × (result ≡ Some e) × (e.key ≡ key)
  taken result is =
      let there = stands before id key rise was in
      let own = entry_key keyed_order laws before (key, id) there.0 there.1 in
      (there.0, is ∙ there.1, ap (λ (p : List Value × ℕ). p.0) own)

-- the same of the keys by identifier
pub rows_put : (before now : List Keyed) (id : ℕ) (slot : Option (List Value)) → PutsKey id slot before now → PutsRow id slot (keys_by_id before) (keys_by_id now)
rows_put before now id slot puts q = keys_are now q ∙ puts q ∙ ap (λ (rest : Option (List Value)). if id == q then slot else rest) (sym (keys_are before q))

no_entry_by : (es : List Keyed) (id : ℕ) (key : List Value) (r : Option Keyed) → Rise keyed_order es → HaveOneEach es → key_of es id ≡ None → entry_of keyed_order es (key, id) ≡ r → r ≡ None
no_entry_by es id key None rise each none is = refl
no_entry_by es id key (Some y) rise each none is =
    let no : None ≡ Some key = sym none ∙ is_key es id key y rise each is in
    cc

pub no_entry : (es : List Keyed) (id : ℕ) (key : List Value) → Rise keyed_order es → HaveOneEach es → key_of es id ≡ None → entry_of keyed_order es (key, id) ≡ None
no_entry es id key rise each none = no_entry_by es id key (entry_of keyed_order es (key, id)) rise each none refl
