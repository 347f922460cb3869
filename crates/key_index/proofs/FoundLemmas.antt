-- The first entry from a key on is the least row with the key, where it has the key.
use Rattle.std.specs.Ordering.{is_lt, nat_cmp, ordering_then, ordering_reverse}
use Rattle.std.proofs.Common.{◌≡◌, ℕ, ◌≤◌, false, List, [], ◌∷◌, Some, Ordering, Less, Equal, Greater, true≢false, refl, sym, ap, ◌∙◌, subst, arith}
use Rattle.std.proofs.lemmas.Cmp.{tied_itself, ranked}
use Rattle.par_base.specs.declared.value.Value.{Value}
use Rattle.row_store.specs.Rows.{row_of}
use Rattle.ordered_pages.specs.Entries.{Rise, entry_of, entries_from}
use Rattle.ordered_pages.proofs.OrderLaws.{first_from, first_least, first_there, none_from}
use Rattle.key_index.specs.declared.keyed.Keyed.{Keyed}
use Rattle.par_base.specs.RowOrder.{row_cmp}
use Rattle.par_base.specs.inner.OrderLaws.{row_total, equal_rows}
use Rattle.key_index.specs.Keys.{keyed_cmp}
use Rattle.key_index.specs.inner.Entries.{keyed_order, HaveOneEach, keys_by_id}
use Rattle.key_index.proofs.EntryLemmas.{laws, keys_are, stands, is_key}

own_row : (key : List Value) → row_cmp key key ≡ Equal
own_row key = tied_itself row_total key

reached : (r : Ordering) (q n : ℕ) → r ≡ nat_cmp q n → is_lt r ≡ false → n ≤ q
reached Less q n is h = absurd (true≢false h)
reached Equal q n is h = omega (arith, ranked q n Equal is)
reached Greater q n is h = omega (arith, ranked q n Greater is)

not_under : (r : Ordering) (q n : ℕ) → r ≡ nat_cmp q n → n ≤ q → is_lt r ≡ false
not_under Less q n is h = absurd (omega (arith, ranked q n Less is))
not_under Equal q n is h = refl
not_under Greater q n is h = refl

-- at one key the identifiers decide
at_key : (key : List Value) (q n : ℕ) → keyed_cmp (key, q) (key, n) ≡ nat_cmp q n
at_key key q n = ap (λ (r : Ordering). ordering_then r (nat_cmp q n)) (own_row key)

from_on : (key : List Value) (q n : ℕ) → n ≤ q → is_lt (keyed_cmp (key, q) (key, n)) ≡ false
from_on key q n h = ap is_lt (at_key key q n) ∙ not_under (nat_cmp q n) q n refl h

least_on : (key : List Value) (q n : ℕ) → is_lt (keyed_cmp (key, q) (key, n)) ≡ false → n ≤ q
least_on key q n h = reached (nat_cmp q n) q n refl (sym (ap is_lt (at_key key q n)) ∙ h)

-- what lies between rows of one key has that key
between_by : (key other : List Value) (n i q : ℕ) (r : Ordering) → row_cmp other key ≡ r → is_lt (keyed_cmp (other, i) (key, n)) ≡ false → is_lt (keyed_cmp (key, q) (other, i)) ≡ false → other ≡ key
between_by key other n i q Less is low high =
    absurd (true≢false (sym (ap (λ (r : Ordering). is_lt (ordering_then r (nat_cmp i n))) is) ∙ low))
between_by key other n i q Equal is low high = equal_rows other key is
between_by key other n i q Greater is low high =
    let turned : row_cmp key other ≡ Less = row_total.antisymm key other ∙ ap ordering_reverse is in
    absurd (true≢false (sym (ap (λ (r : Ordering). is_lt (ordering_then r (nat_cmp q i))) turned) ∙ high))

module _ (es : List Keyed) (key : List Value) (n : ℕ) (rise : Rise keyed_order es) (each : HaveOneEach es) where
  there : (q : ℕ) → row_of (keys_by_id es) q ≡ Some key → (y : Keyed) × (entry_of keyed_order es (key, q) ≡ Some y)
  there q is = stands es q key rise (sym (keys_are es q) ∙ is)

  pub first_is : (e : Keyed) (rest : List Keyed) → entries_from keyed_order es (key, n) ≡ e ∷ rest → e.key ≡ key
      → (n ≤ e.id) × (row_of (keys_by_id es) e.id ≡ Some key) × ((q : ℕ) → n ≤ q → row_of (keys_by_id es) q ≡ Some key → e.id ≤ q)
  first_is e rest from same =
      let low : is_lt (keyed_cmp (key, e.id) (key, n)) ≡ false = subst (λ (k : List Value). is_lt (keyed_cmp (k, e.id) (key, n)) ≡ false) same (first_from keyed_order laws es (key, n) e rest from) in
      let own = is_key es e.id e.key e rise each (first_there keyed_order laws es (key, n) e rest rise from) in (
        least_on key e.id n low,
        keys_are es e.id ∙ own ∙ ap (λ (k : List Value). Some k) same,
        λ q h is.
            let y = there q is in
            let up = first_least keyed_order laws es (key, n) (key, q) e rest y.0 rise from y.1 (from_on key q n h) in
            least_on key q e.id (subst (λ (k : List Value). is_lt (keyed_cmp (key, q) (k, e.id)) ≡ false) same up),
      )

  pub first_other : (e : Keyed) (rest : List Keyed) → entries_from keyed_order es (key, n) ≡ e ∷ rest → (e.key ≡ key → ⊥) → (q : ℕ) → n ≤ q → row_of (keys_by_id es) q ≡ Some key → ⊥
  first_other e rest from other q h is =
      let y = there q is in
      let low = first_from keyed_order laws es (key, n) e rest from in
      let up = first_least keyed_order laws es (key, n) (key, q) e rest y.0 rise from y.1 (from_on key q n h) in
      other (between_by key e.key n e.id q (row_cmp e.key key) refl low up)

  pub none_is : entries_from keyed_order es (key, n) ≡ [] → (q : ℕ) → n ≤ q → row_of (keys_by_id es) q ≡ Some key → ⊥
  none_is from q h is =
      let y = there q is in
      let under = none_from keyed_order laws es (key, n) (key, q) y.0 from y.1 in
      true≢false (sym (ap is_lt under) ∙ from_on key q n h)
