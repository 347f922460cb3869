-- How many keys refer to a row, in whatever order they are counted.
use Rattle.std.specs.Ordering.{is_lt, nat_cmp, ordering_then}
use Rattle.std.proofs.Common.{◌≡◌, ℕ, suc, ◌≤◌, ◌==◌, nat_lt, Bool, true, false, List, [], ◌∷◌, length, Option, Some, None, if◌then◌else◌, Ordering, Less, Equal, Greater, inl, inr, true≢false, refl, sym, ap, ◌∙◌, subst, arith}
use Rattle.std.proofs.lemmas.Bool.Decides.{nat_tests}
use Rattle.std.proofs.lemmas.Bool.{cases_order, eqb-true}
use Rattle.std.proofs.lemmas.Cmp.{nat_cmp_total, ranked, tied_itself}
use Rattle.par_base.specs.declared.value.Value.{Value}
use Rattle.par_base.specs.declared.value.Value.TheVariants.{Null, Int, Text, Reference}
use Rattle.row_store.specs.Rows.{Rows, row_of}
use Rattle.ordered_pages.specs.Entries.{AreBehind, Rise, entry_of, entries_from}
use Rattle.ordered_pages.proofs.OrderLaws.{behind_entry, entry_here, itself}
use Rattle.key_index.specs.declared.keyed.Keyed.{Keyed}
use Rattle.par_base.specs.RowOrder.{row_cmp}
use Rattle.key_index.specs.Keys.{keyed_cmp}
use Rattle.key_index.specs.inner.OrderLemmas.{keyed_total}
use Rattle.key_index.specs.Tables.{refers_to, refs_to}
use Rattle.key_index.specs.inner.Entries.{keyed_order, HaveOneEach, with_row, keys_by_id}
use Rattle.key_index.proofs.EntryLemmas.{key_of, laws, keys_are, stands}

-- the entries that refer to the identifier
abbrev pub count_refs : List Keyed → ℕ → ℕ
count_refs [] id = 0
count_refs (e ∷ es) id = if refers_to e.key id then suc (count_refs es id) else count_refs es id

swap : (a b : Bool) (n : ℕ) → (if a then suc (if b then suc n else n) else (if b then suc n else n)) ≡ (if b then suc (if a then suc n else n) else (if a then suc n else n))
swap true true n = refl
swap true false n = refl
swap false true n = refl
swap false false n = refl

-- a new row among ascending ones
refs_with : (id to : ℕ) (key : List Value) (rows : Rows) → row_of rows id ≡ None → refs_to (with_row id key rows) to ≡ (if refers_to key to then suc (refs_to rows to) else refs_to rows to)
refs_with id to key [] none = refl
refs_with id to key (r ∷ rs) none =
    elim (cases_order id r.0) [
      | inl e ↦
          let own : (r.0 == id) ≡ true = grind (arith, nat_tests) in
          let some : Some r.1 ≡ None = rw own at none in
          cc
      | inr (inl h) ↦ let less : nat_lt id r.0 ≡ true = grind (arith, nat_tests) in rw less refl
      | inr (inr h) ↦
          let no : nat_lt id r.0 ≡ false = grind (arith, nat_tests) in
          let other : (r.0 == id) ≡ false = grind (arith, nat_tests) in
          let rest = refs_with id to key rs (rw other at none) in
          rw (no, other) (ap (λ (n : ℕ). if refers_to r.1 to then suc n else n) rest ∙ swap (refers_to r.1 to) (refers_to key to) (refs_to rs to))
    ]

-- the entry is the only one of its identifier
alone_by : (e : Keyed) (es : List Keyed) (r : Option (List Value)) → Rise keyed_order (e ∷ es) → HaveOneEach (e ∷ es) → key_of es e.id ≡ r → r ≡ None
alone_by e es None rise each is = refl
alone_by e es (Some key) rise each is =
    let there = stands es e.id key rise.1 is in
    let after = behind_entry keyed_order laws es (e.key, e.id) (key, e.id) there.0 rise.0 there.1 in
    let both : entry_of keyed_order (e ∷ es) (key, e.id) ≡ Some there.0 = rw after there.1 in
    let same : key ≡ e.key = each key e.key e.id there.0 e both (entry_here keyed_order laws es e (e.key, e.id) refl) in
    let before : keyed_order.cmp (e.key, e.id) (e.key, e.id) ≡ Less = subst (λ (k : List Value). keyed_order.cmp (e.key, e.id) (k, e.id) ≡ Less) same after in
    let no : Less ≡ Equal = sym before ∙ itself keyed_order laws (e.key, e.id) in
    cc

fewer : (e : Keyed) (es : List Keyed) → Rise keyed_order (e ∷ es) → HaveOneEach (e ∷ es) → HaveOneEach es
fewer e es rise each some other id a b is_some is_other =
    let first = behind_entry keyed_order laws es (e.key, e.id) (some, id) a rise.0 is_some in
    let second = behind_entry keyed_order laws es (e.key, e.id) (other, id) b rise.0 is_other in
    each some other id a b (rw first is_some) (rw second is_other)

pub refs_are : (es : List Keyed) (to : ℕ) → Rise keyed_order es → HaveOneEach es → count_refs es to ≡ refs_to (keys_by_id es) to
refs_are [] to rise each = refl
refs_are (e ∷ es) to rise each =
    let none : row_of (keys_by_id es) e.id ≡ None = keys_are es e.id ∙ alone_by e es (key_of es e.id) rise each refl in
    ap (λ (n : ℕ). if refers_to e.key to then suc n else n) (refs_are es to rise.1 (fewer e es rise each))
    ∙ sym (refs_with e.id to e.key (keys_by_id es) none)

-- how many of the first entries refer to the identifier
abbrev pub run_of : List Keyed → ℕ → ℕ
run_of [] id = 0
run_of (e ∷ es) id = if refers_to e.key id then suc (run_of es id) else 0

-- where those that refer begin
abbrev pub reference_key : ℕ → List Value × ℕ
reference_key id = (Reference id ∷ [], 0)

-- the entry doesn't come before those that refer
abbrev IsFrom : ℕ → Keyed → Type 0
IsFrom id e = is_lt (keyed_cmp (e.key, e.id) (reference_key id)) ≡ false

own_number : (n : ℕ) → nat_cmp n n ≡ Equal
own_number n = tied_itself nat_cmp_total n

not_before_zero : (n : ℕ) (r : Ordering) → r ≡ nat_cmp n 0 → is_lt r ≡ false
not_before_zero n Less is = absurd (omega (arith, ranked n 0 Less is))
not_before_zero n Equal is = refl
not_before_zero n Greater is = refl

not_before : (vs : List Value) (n : ℕ) → is_lt (ordering_then (row_cmp vs []) (nat_cmp n 0)) ≡ false
not_before [] n = not_before_zero n (nat_cmp n 0) refl
not_before (v ∷ vs) n = refl

-- an entry that refers doesn't come before them
refers_from : (key : List Value) (n id : ℕ) → refers_to key id ≡ true → is_lt (keyed_cmp (key, n) (reference_key id)) ≡ false
refers_from [] n id is = absurd (true≢false (sym is))
refers_from (Null ∷ vs) n id is = absurd (true≢false (sym is))
refers_from (Int number ∷ vs) n id is = absurd (true≢false (sym is))
refers_from (Text bytes ∷ vs) n id is = absurd (true≢false (sym is))
refers_from (Reference m ∷ vs) n id is =
    let same : nat_cmp m id ≡ Equal = subst (λ (k : ℕ). nat_cmp m k ≡ Equal) (eqb-true m id is) (own_number m) in
    ap (λ (r : Ordering). is_lt (ordering_then (ordering_then r (row_cmp vs [])) (nat_cmp n 0))) same ∙ not_before vs n

-- what is greater than those that refer comes before none of them
above_by : (n i j id : ℕ) (ws ys : List Value) (r : Ordering) → nat_cmp n id ≡ r → is_lt (keyed_cmp (Reference n ∷ ws, i) (reference_key id)) ≡ false → (n == id) ≡ false
    → keyed_cmp (Reference n ∷ ws, i) (Reference id ∷ ys, j) ≡ Less → ⊥
above_by n i j id ws ys Less is low other before =
    true≢false (sym (ap (λ (r : Ordering). is_lt (ordering_then (ordering_then r (row_cmp ws [])) (nat_cmp i 0))) is) ∙ low)
above_by n i j id ws ys Equal is low other before =
    let same : n ≡ id = ranked n id Equal (sym is) in
    let own : (n == id) ≡ true = grind (arith, nat_tests) in
    true≢false (sym own ∙ other)
above_by n i j id ws ys Greater is low other before =
    let no : Greater ≡ Less = sym (ap (λ (r : Ordering). ordering_then (ordering_then r (row_cmp ws ys)) (nat_cmp i j)) is) ∙ before in
    cc

above : (key : List Value) (i j id : ℕ) (ys : List Value) → is_lt (keyed_cmp (key, i) (reference_key id)) ≡ false → refers_to key id ≡ false → keyed_cmp (key, i) (Reference id ∷ ys, j) ≡ Less → ⊥
above [] i j id ys low other before = true≢false low
above (Null ∷ ws) i j id ys low other before = true≢false low
above (Int number ∷ ws) i j id ys low other before = true≢false low
above (Text bytes ∷ ws) i j id ys low other before = true≢false low
above (Reference n ∷ ws) i j id ys low other before = above_by n i j id ws ys (nat_cmp n id) refl low other before

apart : (key other : List Value) (i j id : ℕ) → is_lt (keyed_cmp (key, i) (reference_key id)) ≡ false → refers_to key id ≡ false → keyed_cmp (key, i) (other, j) ≡ Less → refers_to other id ≡ true → ⊥
apart key [] i j id low none before is = true≢false (sym is)
apart key (Null ∷ ys) i j id low none before is = true≢false (sym is)
apart key (Int number ∷ ys) i j id low none before is = true≢false (sym is)
apart key (Text bytes ∷ ys) i j id low none before is = true≢false (sym is)
apart key (Reference m ∷ ys) i j id low none before is =
    above key i j id ys low none (subst (λ (k : ℕ). keyed_cmp (key, i) (Reference k ∷ ys, j) ≡ Less) (eqb-true m id is) before)

none_by : (e x : Keyed) (es : List Keyed) (id : ℕ) (b : Bool) → refers_to x.key id ≡ b → IsFrom id e → refers_to e.key id ≡ false → keyed_cmp (e.key, e.id) (x.key, x.id) ≡ Less → count_refs es id ≡ 0 → (if b then suc (count_refs es id) else count_refs es id) ≡ 0
none_by e x es id true is low none before rest = absurd (apart e.key x.key e.id x.id id low none before is)
none_by e x es id false is low none before rest = rest

-- behind one that is greater than those that refer there are none
none_behind : (e : Keyed) (es : List Keyed) (id : ℕ) → AreBehind keyed_order (e.key, e.id) es → IsFrom id e → refers_to e.key id ≡ false → count_refs es id ≡ 0
none_behind e [] id behind low none = refl
none_behind e (x ∷ es) id behind low none = none_by e x es id (refers_to x.key id) refl low none behind.0 (none_behind e es id behind.1 low none)

from_by : (id : ℕ) (e x : Keyed) (r : Ordering) → keyed_cmp (x.key, x.id) (reference_key id) ≡ r → IsFrom id e → keyed_cmp (e.key, e.id) (x.key, x.id) ≡ Less → is_lt r ≡ false
from_by id e x Less is low before =
    absurd (true≢false (sym (ap is_lt (keyed_total.trans (e.key, e.id) (x.key, x.id) (reference_key id) before is)) ∙ low))
from_by id e x Equal is low before = refl
from_by id e x Greater is low before = refl

first_from_next : (id : ℕ) (e : Keyed) (es : List Keyed) → AreBehind keyed_order (e.key, e.id) es → IsFrom id e → (b : Bool) → (refers_to e.key id ≡ b) → (Rise keyed_order es) → (if b then suc (run_of es id) else 0) ≡ (if b then suc (count_refs es id) else count_refs es id)
first_from_next id e [] behind low true is rise = refl
first_from_next id e [] behind low false is rise = refl
first_from_next id e (x ∷ es) behind low true is rise =
    ap suc (first_from_next id x es rise.0 (from_by id e x (keyed_cmp (x.key, x.id) (reference_key id)) refl low behind.0) (refers_to x.key id) refl rise.1)
first_from_next id e (x ∷ es) behind low false is rise = sym (none_behind e (x ∷ es) id behind low is)

under : (e : Keyed) (es : List Keyed) (id : ℕ) (b : Bool) → refers_to e.key id ≡ b → is_lt (keyed_cmp (e.key, e.id) (reference_key id)) ≡ true → (if b then suc (count_refs es id) else count_refs es id) ≡ count_refs es id
under e es id true is low = absurd (true≢false (sym low ∙ refers_from e.key e.id id is))
under e es id false is low = refl

length_by : (b : Bool) (xs es : List Keyed) (e : Keyed) → length xs ≤ length es → length (if b then xs else e ∷ es) ≤ suc (length es)
length_by true xs es e h = omega (arith, h)
length_by false xs es e h = omega arith

run_by : (e : Keyed) (es : List Keyed) (id : ℕ) (b : Bool) → is_lt (keyed_cmp (e.key, e.id) (reference_key id)) ≡ b → Rise keyed_order (e ∷ es)
    → run_of (entries_from keyed_order es (reference_key id)) id ≡ count_refs es id
    → run_of (if b then entries_from keyed_order es (reference_key id) else e ∷ es) id ≡ count_refs (e ∷ es) id
run_by e es id true is rise rest = rest ∙ sym (under e es id (refers_to e.key id) refl is)
run_by e es id false is rise rest = first_from_next id e es rise.0 is (refers_to e.key id) refl rise.1

-- those that refer are the first from where they begin
pub run_is : (es : List Keyed) (id : ℕ) → Rise keyed_order es → run_of (entries_from keyed_order es (reference_key id)) id ≡ count_refs es id
run_is [] id rise = refl
run_is (e ∷ es) id rise = run_by e es id (is_lt (keyed_cmp (e.key, e.id) (reference_key id))) refl rise (run_is es id rise.1)

pub from_length : (es : List Keyed) (id : ℕ) → length (entries_from keyed_order es (reference_key id)) ≤ length es
from_length [] id = omega arith
from_length (e ∷ es) id = length_by (is_lt (keyed_cmp (e.key, e.id) (reference_key id))) (entries_from keyed_order es (reference_key id)) es e (from_length es id)

pub run_none : (e : Keyed) (es : List Keyed) (id : ℕ) → refers_to e.key id ≡ false → run_of (e ∷ es) id ≡ 0
run_none e es id none = rw none refl
