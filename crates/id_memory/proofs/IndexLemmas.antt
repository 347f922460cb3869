-- The entries of a memory by identifier, and by pair, both ways round.
use Rattle.std.specs.Prelude.{◌&&◌, ◌↔◌, count_by}
use Rattle.std.specs.Option.{option_map}
use Rattle.std.specs.Ordering.{is_eq, nat_cmp}
use Rattle.std.proofs.Common.{◌≡◌, ℕ, ◌+◌, ◌<◌, ◌≤◌, ◌==◌, List, [], ◌∷◌, Bool, true, false, Option, Some, None, if◌then◌else◌, refl, sym, ap, ◌∙◌, subst, arith}
use Rattle.std.proofs.lemmas.Bool.{and_parts, eq-eqb, eqb-true}
use Rattle.ordered_pages.specs.Entries.{Rise, entry_of}
use Rattle.ordered_pages.proofs.OrderLaws.{entry_key}
use Rattle.id_memory.specs.Pairs.{Pairs, RiseFrom, IsOneToOne, pair_of, id_of, has_pair}
use Rattle.id_memory.specs.Found.{IsLeastFrom}
use Rattle.id_memory.specs.inner.Orders.{Triple, id_order, id_total, pair_order, pair_total}
use Rattle.id_memory.specs.inner.Indexed.{IsIndexed, Lists, by_pair, by_turned_pair}
use Rattle.id_memory.proofs.CountLemmas.{count_cons, count_no, count_some, count_yes, most_one, some_count}
use Rattle.id_memory.proofs.IdLemmas.{pair_in, pair_is, rises, some_entry, they_rise}

-- whether an entry is this one
abbrev is_entry : Triple → Triple → Bool
is_entry x y = y.0 == x.0 && (y.1 == x.1 && y.2 == x.2)

is_same : (x y : Triple) → is_entry x y ≡ true → y ≡ x
is_same x y e =
    let parts = and_parts (y.0 == x.0) (y.1 == x.1 && y.2 == x.2) e in
    let rest = and_parts (y.1 == x.1) (y.2 == x.2) parts.1 in
    ap (λ (k : ℕ). (k, y.1, y.2)) (eqb-true y.0 x.0 parts.0) ∙ ap (λ (k : ℕ). (x.0, k, y.2)) (eqb-true y.1 x.1 rest.0) ∙ ap (λ (k : ℕ). (x.0, x.1, k)) (eqb-true y.2 x.2 rest.1)

is_own : (x : Triple) → is_entry x x ≡ true
is_own x = rw (eq-eqb x.0 x.0 refl, eq-eqb x.1 x.1 refl, eq-eqb x.2 x.2 refl) refl

-- whether it has this pair in front
abbrev has_key : ℕ → ℕ → Triple → Bool
has_key a b x = x.0 == a && x.1 == b

key_is : (a b : ℕ) (x : Triple) → has_key a b x ≡ true → ◌≡◌ {A = ℕ × ℕ} (x.0, x.1) (a, b)
key_is a b x e =
    let parts = and_parts (x.0 == a) (x.1 == b) e in
    ap (λ (k : ℕ). (k, x.1)) (eqb-true x.0 a parts.0) ∙ ap (λ (k : ℕ). (a, k)) (eqb-true x.1 b parts.1)

own_pair : (s t : ℕ) → (s == s && t == t) ≡ true
own_pair s t = rw (eq-eqb s s refl, eq-eqb t t refl) refl

-- an entry is in a list by pairs, and the other way round
module _ (turn : Triple → Triple) (back : (d e : Triple) → turn d ≡ turn e → d ≡ e) (m : Pairs) (items : List Triple) (rise : Rise id_order m) (rise_items : Rise pair_order items) (lists : Lists turn m items) where
  listed : (e : Triple) → pair_of m e.0 ≡ Some (e.1, e.2) → entry_of pair_order items ((turn e).0, (turn e).1) ≡ Some (turn e)
  listed e is =
      let some = some_count id_order id_total (λ d. is_entry (turn e) (turn d)) e.0 e m (some_entry m e.0 e.1 e.2 is) (is_own (turn e)) in
      count_some pair_order pair_total (is_entry (turn e)) (turn e) items (is_same (turn e)) rise_items (subst (λ (n : ℕ). 0 < n) (sym (lists (is_entry (turn e)))) some)

  unlisted : (e : Triple) → entry_of pair_order items ((turn e).0, (turn e).1) ≡ Some (turn e) → pair_of m e.0 ≡ Some (e.1, e.2)
  unlisted e is =
      let some = some_count pair_order pair_total (is_entry (turn e)) ((turn e).0, (turn e).1) (turn e) items is (is_own (turn e)) in
      let there = count_some id_order id_total (λ d. is_entry (turn e) (turn d)) e m (λ d q. back d e (is_same (turn e) (turn d) q)) rise (subst (λ (n : ℕ). 0 < n) (lists (is_entry (turn e))) some) in
      sym (pair_is m e.0) ∙ ap pair_in there

back_pair : (d e : Triple) → by_pair d ≡ by_pair e → d ≡ e
back_pair d e same = ap (λ (x : Triple). (x.2, x.0, x.1)) same

back_turned : (d e : Triple) → by_turned_pair d ≡ by_turned_pair e → d ≡ e
back_turned d e same = ap (λ (x : Triple). (x.2, x.1, x.0)) same

found_by : (e : Triple) (es : Pairs) (p s t : ℕ) (b c : Bool) → has_pair s t e ≡ c → (if b then Some e else entry_of id_order es p) ≡ Some (p, s, t) → count_by (has_pair s t) (e ∷ es) ≤ 1
    → (count_by (has_pair s t) es ≤ 1 → entry_of id_order es p ≡ Some (p, s, t) → id_of es s t ≡ Some p) → (if c then Some e.0 else id_of es s t) ≡ Some p
found_by e es p s t true true has is one rest = let same : ◌≡◌ {A = Triple} e (p, s, t) = cc in ap (λ (x : Triple). Some x.0) same
found_by e es p s t true false has is one rest =
    let same : ◌≡◌ {A = Triple} e (p, s, t) = cc in
    let no : true ≡ false = sym (own_pair s t) ∙ sym (ap (has_pair s t) same) ∙ has in
    cc
found_by e es p s t false true has is one rest =
    let some = some_count id_order id_total (has_pair s t) p (p, s, t) es is (own_pair s t) in
    absurd (omega (arith, some, one, count_yes (has_pair s t) e es has))
found_by e es p s t false false has is one rest = rest (omega (arith, one, count_no (has_pair s t) e es has)) is

id_found : (es : Pairs) (p s t : ℕ) → count_by (has_pair s t) es ≤ 1 → entry_of id_order es p ≡ Some (p, s, t) → id_of es s t ≡ Some p
id_found [] p s t one is = cc
id_found (e ∷ es) p s t one is = found_by e es p s t (is_eq (nat_cmp e.0 p)) (has_pair s t e) refl is one (id_found es p s t)

counted_by : (e : Triple) (es : Pairs) (p s t : ℕ) (b : Bool) → has_pair s t e ≡ b → (if b then Some e.0 else id_of es s t) ≡ Some p → (id_of es s t ≡ Some p → 0 < count_by (is_entry (p, s, t)) es) → 0 < count_by (is_entry (p, s, t)) (e ∷ es)
counted_by e es p s t true has is rest =
    let same : e.0 ≡ p = cc in
    let here : is_entry (p, s, t) e ≡ true = rw (eq-eqb e.0 p same) has in
    omega (arith, count_yes (is_entry (p, s, t)) e es here)
counted_by e es p s t false has is rest = omega (arith, rest is, count_cons (is_entry (p, s, t)) e es)

id_counted : (es : Pairs) (p s t : ℕ) → id_of es s t ≡ Some p → 0 < count_by (is_entry (p, s, t)) es
id_counted [] p s t is = cc
id_counted (e ∷ es) p s t is = counted_by e es p s t (has_pair s t e) refl is (id_counted es p s t)

-- a pair has an identifier exactly where the identifier has the pair
pub other_way : (es : Pairs) → RiseFrom 0 es → IsOneToOne es → (p s t : ℕ) → (id_of es s t ≡ Some p) ↔ (pair_of es p ≡ Some (s, t))
other_way es rise one p s t = (
  λ is. sym (pair_is es p) ∙ ap pair_in (count_some id_order id_total (is_entry (p, s, t)) (p, s, t) es (is_same (p, s, t)) (they_rise 0 es rise) (id_counted es p s t is)),
  λ has. id_found es p s t (one s t) (some_entry es p s t has),
)

least_by : (has own : ℕ → ℕ → Type 0) (from : ℕ) (found : Option (ℕ × ℕ)) → ((n p : ℕ) → has n p → own n p) → ((n p : ℕ) → own n p → has n p) → IsLeastFrom has from found → IsLeastFrom own from found
least_by has own from None f g none = λ n p h is. none n p h (g n p is)
least_by has own from (Some e) f g is = (is.0, f e.0 e.1 is.1, λ n p h there. is.2 n p h (g n p there))

module _ (m : Pairs) (first second : List Triple) (it : IsIndexed m first second) where
  pub one_to_one : IsOneToOne m
  one_to_one s t = subst (λ (n : ℕ). n ≤ 1) (it.first_lists (has_key s t)) (most_one pair_order pair_total (has_key s t) (s, t) first (key_is s t) it.first_rises)

  -- a pair with its identifier, in either list
  pub in_first : (p s t : ℕ) → pair_of m p ≡ Some (s, t) → entry_of pair_order first (s, t) ≡ Some (s, t, p)
  in_first p s t is = listed by_pair back_pair m first it.rises it.first_rises it.first_lists (p, s, t) is

  pub in_second : (p s t : ℕ) → pair_of m p ≡ Some (s, t) → entry_of pair_order second (t, s) ≡ Some (t, s, p)
  in_second p s t is = listed by_turned_pair back_turned m second it.rises it.second_rises it.second_lists (p, s, t) is

  of_first : (p s t : ℕ) → entry_of pair_order first (s, t) ≡ Some (s, t, p) → pair_of m p ≡ Some (s, t)
  of_first p s t is = unlisted by_pair back_pair m first it.rises it.first_rises it.first_lists (p, s, t) is

  of_second : (p s t : ℕ) → entry_of pair_order second (t, s) ≡ Some (t, s, p) → pair_of m p ≡ Some (s, t)
  of_second p s t is = unlisted by_turned_pair back_turned m second it.rises it.second_rises it.second_lists (p, s, t) is

  -- what either list finds
  pub least_first : (s from : ℕ) (found : Option (ℕ × ℕ)) → IsLeastFrom (λ b c. entry_of pair_order first (s, b) ≡ Some (s, b, c)) from found → IsLeastFrom (λ t p. pair_of m p ≡ Some (s, t)) from found
  least_first s from found = least_by (λ b c. entry_of pair_order first (s, b) ≡ Some (s, b, c)) (λ t p. pair_of m p ≡ Some (s, t)) from found (λ t p. of_first p s t) (λ t p. in_first p s t)

  pub least_second : (t from : ℕ) (found : Option (ℕ × ℕ)) → IsLeastFrom (λ b c. entry_of pair_order second (t, b) ≡ Some (t, b, c)) from found → IsLeastFrom (λ s p. pair_of m p ≡ Some (s, t)) from found
  least_second t from found = least_by (λ b c. entry_of pair_order second (t, b) ≡ Some (t, b, c)) (λ s p. pair_of m p ≡ Some (s, t)) from found (λ s p. of_second p s t) (λ s p. in_second p s t)

  whole : (a b : ℕ) (items : List Triple) (x : Triple) → entry_of pair_order items (a, b) ≡ Some x → entry_of pair_order items (a, b) ≡ Some (a, b, x.2)
  whole a b items x is =
      let own = entry_key pair_order pair_total items (a, b) x is in
      is ∙ ap (λ (k : ℕ × ℕ). Some (k.0, k.1, x.2)) own

  looked_by : (s t : ℕ) (own : Option Triple) (id : Option ℕ) → entry_of pair_order first (s, t) ≡ own → id_of m s t ≡ id → option_map (λ x. x.2) own ≡ id
  looked_by s t None None is id_is = refl
  looked_by s t None (Some p) is id_is =
      let there = in_first p s t ((other_way m (rises m it.rises) one_to_one p s t).0 id_is) in
      let no : ◌≡◌ {A = Option Triple} None (Some (s, t, p)) = sym is ∙ there in
      cc
  looked_by s t (Some x) id is id_is =
      sym ((other_way m (rises m it.rises) one_to_one x.2 s t).1 (of_first x.2 s t (whole s t first x is))) ∙ id_is

  -- what the first list finds is the identifier
  pub looked_up : (s t : ℕ) → option_map (λ x. x.2) (entry_of pair_order first (s, t)) ≡ id_of m s t
  looked_up s t = looked_by s t (entry_of pair_order first (s, t)) (id_of m s t) refl refl

  absent_by : (s t p : ℕ) → id_of m s t ≡ None → pair_of m p ≡ Some (s, t) → ⊥
  absent_by s t p none is =
      let some = (other_way m (rises m it.rises) one_to_one p s t).1 is in
      let no : None ≡ Some p = sym none ∙ some in
      cc

  absent : (a b : ℕ) (items : List Triple) (own : Option Triple) → entry_of pair_order items (a, b) ≡ own → ((p : ℕ) → entry_of pair_order items (a, b) ≡ Some (a, b, p) → ⊥) → own ≡ None
  absent a b items None is none = refl
  absent a b items (Some x) is none = absurd (none x.2 (whole a b items x is))

  -- a new pair is in neither list
  pub absent_first : (s t : ℕ) → id_of m s t ≡ None → entry_of pair_order first (s, t) ≡ None
  absent_first s t none = absent s t first (entry_of pair_order first (s, t)) refl (λ p is. absent_by s t p none (of_first p s t is))

  pub absent_second : (s t : ℕ) → id_of m s t ≡ None → entry_of pair_order second (t, s) ≡ None
  absent_second s t none = absent t s second (entry_of pair_order second (t, s)) refl (λ p is. absent_by s t p none (of_second p s t is))

fewer : (a b c d x : ℕ) → b ≡ a + x → d ≡ c + x → b ≡ d → a ≡ c
fewer a b c d x e f g = omega (arith, e, f, g)
