-- What pages say of entries by identifier, said of pairs.
use Rattle.std.specs.Ordering.{is_eq, nat_cmp}
use Rattle.std.specs.Cmp.{nat_cmp_is}
use Rattle.std.proofs.Common.{◌≡◌, ℕ, ◌+◌, ◌≤◌, ◌==◌, [], ◌∷◌, Bool, true, false, Option, Some, None, if◌then◌else◌, Ordering, Less, Equal, Greater, refl, sym, ap, ◌∙◌, arith}
use Rattle.std.proofs.lemmas.Bool.Decides.{nat_tests}
use Rattle.std.proofs.lemmas.Cmp.{ranked}
use Rattle.par_base.proofs.TestLaws.{apart_below, apart_above}
use Rattle.ordered_pages.specs.Entries.{AreBehind, Rise, entry_of, PutsAt}
use Rattle.ordered_pages.proofs.OrderLaws.{entry_key, one_list, puts_nothing}
use Rattle.id_memory.specs.Pairs.{Pairs, RiseFrom, pair_of, IsWith}
use Rattle.id_memory.specs.inner.Orders.{Triple, id_order, id_total}

-- entries whose keys rise are entries whose identifiers rise, and the other way round
behind_rises : (p : ℕ) (es : Pairs) → AreBehind id_order p es → Rise id_order es → RiseFrom (p + 1) es
behind_rises p [] behind rise = tt
behind_rises p (e ∷ es) behind rise = (omega (arith, ranked p e.0 Less (sym behind.0)), behind_rises e.0 es rise.0 rise.1)

pub rises : (es : Pairs) → Rise id_order es → RiseFrom 0 es
rises [] rise = tt
rises (e ∷ es) rise = (omega arith, behind_rises e.0 es rise.0 rise.1)

are_behind : (p n : ℕ) (es : Pairs) → p + 1 ≤ n → RiseFrom n es → AreBehind id_order p es
are_behind p n [] h rise = tt
are_behind p n (e ∷ es) h rise = (sym (nat_cmp_is p e.0 Less (omega (arith, h, rise.0))), are_behind p (e.0 + 1) es (omega (arith, h, rise.0)) rise.1)

pub they_rise : (n : ℕ) (es : Pairs) → RiseFrom n es → Rise id_order es
they_rise n [] rise = tt
they_rise n (e ∷ es) rise = (are_behind e.0 (e.0 + 1) es (omega arith) rise.1, they_rise (e.0 + 1) es rise.1)

-- keys are equal where the identifiers are
same_by : (r : Ordering) (a b : ℕ) → r ≡ nat_cmp a b → is_eq r ≡ (a == b)
same_by Less a b is = sym (apart_below a b (omega (arith, ranked a b Less is)))
same_by Equal a b is = let same : a ≡ b = ranked a b Equal is in let yes : (a == b) ≡ true = grind (arith, nat_tests) in sym yes
same_by Greater a b is = sym (apart_above a b (omega (arith, ranked a b Greater is)))

same_ids : (a b : ℕ) → is_eq (nat_cmp a b) ≡ (a == b)
same_ids a b = same_by (nat_cmp a b) a b refl

-- the pair of an entry, and the entry of an identifier with a pair
abbrev pub pair_in : Option Triple → Option (ℕ × ℕ)
pair_in None = None
pair_in (Some e) = Some (e.1, e.2)

abbrev entry_with : ℕ → Option (ℕ × ℕ) → Option Triple
entry_with p None = None
entry_with p (Some pair) = Some (p, pair.0, pair.1)

pair_if : (t : Bool) (some other : Option Triple) → pair_in (if t then some else other) ≡ (if t then pair_in some else pair_in other)
pair_if true some other = refl
pair_if false some other = refl

pub pair_is : (es : Pairs) (p : ℕ) → pair_in (entry_of id_order es p) ≡ pair_of es p
pair_is [] p = refl
pair_is (e ∷ es) p =
    pair_if (is_eq (nat_cmp e.0 p)) (Some e) (entry_of id_order es p)
    ∙ ap (λ (t : Bool). if t then Some (e.1, e.2) else pair_in (entry_of id_order es p)) (same_ids e.0 p)
    ∙ ap (λ (rest : Option (ℕ × ℕ)). if e.0 == p then Some (e.1, e.2) else rest) (pair_is es p)

entry_by : (es : Pairs) (p : ℕ) (own : Option Triple) → entry_of id_order es p ≡ own → own ≡ entry_with p (pair_in own)
entry_by es p None is = refl
entry_by es p (Some e) is = ap (λ (n : ℕ). Some (n, e.1, e.2)) (entry_key id_order id_total es p e is)

entry_is : (es : Pairs) (p : ℕ) → entry_of id_order es p ≡ entry_with p (pair_of es p)
entry_is es p = entry_by es p (entry_of id_order es p) refl ∙ ap (entry_with p) (pair_is es p)

pub some_entry : (es : Pairs) (p s t : ℕ) → pair_of es p ≡ Some (s, t) → entry_of id_order es p ≡ Some (p, s, t)
some_entry es p s t is = entry_is es p ∙ ap (entry_with p) is

pub no_entry : (es : Pairs) (p : ℕ) → pair_of es p ≡ None → entry_of id_order es p ≡ None
no_entry es p none = entry_is es p ∙ ap (entry_with p) none

-- two memories that ascend and have the same pairs are equal
pub one_memory : (es fs : Pairs) → RiseFrom 0 es → RiseFrom 0 fs → ((p : ℕ) → pair_of es p ≡ pair_of fs p) → es ≡ fs
one_memory es fs rise_es rise_fs same =
    one_list id_order id_total es fs (they_rise 0 es rise_es) (they_rise 0 fs rise_fs)
    (λ p. entry_is es p ∙ ap (entry_with p) (same p) ∙ sym (entry_is fs p))

-- an entry that is put is a pair that is put
pub is_with : (before now : Pairs) (p : ℕ) (slot : Option Triple) → Rise id_order now → PutsAt id_order p slot before now → IsWith before p (pair_in slot) now
is_with before now p slot rise puts =
    record {
      rises = rises now rise;
      pairs = λ q.
          sym (pair_is now q)
          ∙ ap pair_in (puts q)
          ∙ pair_if (is_eq (nat_cmp p q)) slot (entry_of id_order before q)
          ∙ ap (λ (t : Bool). if t then pair_in slot else pair_in (entry_of id_order before q)) (same_ids p q)
          ∙ ap (λ (rest : Option (ℕ × ℕ)). if p == q then pair_in slot else rest) (pair_is before q);
    }

-- where there is no pair, none is taken out
pub none_taken : (es : Pairs) (p : ℕ) → Rise id_order es → pair_of es p ≡ None → IsWith es p None es
none_taken es p rise none = is_with es es p None rise (puts_nothing id_order id_total es p (no_entry es p none))
