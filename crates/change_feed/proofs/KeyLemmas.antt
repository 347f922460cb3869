-- Values under keys.
use Rattle.std.proofs.Common.{◌≡◌, ℕ, zero, suc, ◌<◌, List, [], ◌∷◌, ◌++◌, length, Option, Some, None, IsSome, refl, sym, ◌∙◌, ap, subst, arith, slice_set, slice_get, slice_index_or, Result, Ok, Err, OnErr}
use Rattle.std.specs.Prelude.{◌≢◌}
use Rattle.std.specs.List.{remove}
use Rattle.slab.specs.Slab.{Slab, Updates, get, with_value}
use Rattle.slab.proofs.SlabLemmas.{Updates-with_value}
use Rattle.change_feed.specs.inner.Keys.{with_found, values_at, IsApart, AreKeys, PutsAtKey}
use Rattle.change_feed.specs.Places.{PutsAt}

not_at : (key : ℕ) (ks : List ℕ) (i k : ℕ) → IsApart k ks → slice_get ks i ≡ Some key → k ≢ key
not_at key [] i k apart e = cc
not_at key (q ∷ ks) zero k apart e = let same : q ≡ key = cc in λ d. apart.0 (same ∙ sym d)
not_at key (q ∷ ks) (suc i) k apart e = not_at key ks i k apart.1 e

apart_push : (k key : ℕ) (ks : List ℕ) → IsApart k ks → (key ≡ k → ⊥) → IsApart k (ks ++ key ∷ [])
apart_push k key [] apart other = (other, tt)
apart_push k key (q ∷ ks) apart other = (apart.0, apart_push k key ks apart.1 other)

apart_remove : (k : ℕ) (ks : List ℕ) (i : ℕ) → IsApart k ks → IsApart k (remove ks i)
apart_remove k [] zero apart = tt
apart_remove k [] (suc i) apart = tt
apart_remove k (q ∷ ks) zero apart = apart.1
apart_remove k (q ∷ ks) (suc i) apart = (apart.0, apart_remove k ks i apart.1)

pub on_err : {B E : Type 0} (r : Result B E) (P : Type 0) → P → OnErr r P
on_err (Ok b) P h = tt
on_err (Err e) P h = h

module _ {A : Type 0} where
  -- what a value in front does, where there is one

  found_len : (o : Option A) (xs : List A) → IsSome o → length (with_found o xs) ≡ suc (length xs)
  found_len None xs h = cc
  found_len (Some x) xs h = refl

  get_front : (o : Option A) (xs : List A) → IsSome o → slice_get (with_found o xs) zero ≡ o
  get_front None xs h = cc
  get_front (Some x) xs h = refl

  get_behind : (o : Option A) (xs : List A) (i : ℕ) → IsSome o → slice_get (with_found o xs) (suc i) ≡ slice_get xs i
  get_behind None xs i h = cc
  get_behind (Some x) xs i h = refl

  set_front : (o : Option A) (xs : List A) (v : A) → IsSome o → slice_set (with_found o xs) zero v ≡ v ∷ xs
  set_front None xs v h = cc
  set_front (Some x) xs v h = refl

  set_behind : (o : Option A) (xs : List A) (i : ℕ) (v : A) → IsSome o → slice_set (with_found o xs) (suc i) v ≡ with_found o (slice_set xs i v)
  set_behind None xs i v h = cc
  set_behind (Some x) xs i v h = refl

  remove_front : (o : Option A) (xs : List A) → IsSome o → remove (with_found o xs) zero ≡ xs
  remove_front None xs h = cc
  remove_front (Some x) xs h = refl

  remove_behind : (o : Option A) (xs : List A) (i : ℕ) → IsSome o → remove (with_found o xs) (suc i) ≡ with_found o (remove xs i)
  remove_behind None xs i h = cc
  remove_behind (Some x) xs i h = refl

  push_behind : (o : Option A) (xs ys : List A) → with_found o xs ++ ys ≡ with_found o (xs ++ ys)
  push_behind None xs ys = refl
  push_behind (Some x) xs ys = refl

  some_is : (o : Option A) (v : A) → o ≡ Some v → IsSome o
  some_is o v e = rw e refl

  -- there is one value for each key
  pub values_len : (f : ℕ → Option A) (ks : List ℕ) → AreKeys f ks → length (values_at f ks) ≡ length ks
  values_len f [] h = refl
  values_len f (k ∷ ks) h = found_len (f k) (values_at f ks) h.0 ∙ ap suc (values_len f ks h.2)

  pub key_within : (f : ℕ → Option A) (ks : List ℕ) (xs : List A) (i : ℕ) → AreKeys f ks → values_at f ks ≡ xs → i < length xs → i < length ks
  key_within f ks xs i h e less = omega (arith, values_len f ks h, ap length e)

  -- each key has a value
  pub key_found : (f : ℕ → Option A) (ks : List ℕ) (i key : ℕ) → AreKeys f ks → slice_get ks i ≡ Some key → IsSome (f key)
  key_found f [] i key h e = cc
  key_found f (k ∷ ks) zero key h e = let same : k ≡ key = cc in subst (λ q. IsSome (f q)) same h.0
  key_found f (k ∷ ks) (suc i) key h e = key_found f ks i key h.2 e

  -- what stands at a place is the value of the key there
  pub value_at : (f : ℕ → Option A) (ks : List ℕ) (i key : ℕ) → AreKeys f ks → slice_get ks i ≡ Some key → slice_get (values_at f ks) i ≡ f key
  value_at f [] i key h e = cc
  value_at f (k ∷ ks) zero key h e = let same : k ≡ key = cc in get_front (f k) (values_at f ks) h.0 ∙ ap f same
  value_at f (k ∷ ks) (suc i) key h e = get_behind (f k) (values_at f ks) i h.0 ∙ value_at f ks i key h.2 e

  pub key_value : (f : ℕ → Option A) (ks : List ℕ) (xs : List A) (i key : ℕ) (x : A) → AreKeys f ks → values_at f ks ≡ xs → slice_get ks i ≡ Some key → slice_get xs i ≡ Some x → f key ≡ Some x
  key_value f ks xs i key x h e at is = sym (value_at f ks i key h at) ∙ ap (λ ys. slice_get ys i) e ∙ is

  -- other keys keep their values
  same_values : (f g : ℕ → Option A) (key : ℕ) (ks : List ℕ) → IsApart key ks → ((k : ℕ) → k ≢ key → g k ≡ f k) → values_at g ks ≡ values_at f ks
  same_values f g key [] apart same = refl
  same_values f g key (k ∷ ks) apart same = ap (λ o. with_found o (values_at g ks)) (same k apart.0) ∙ ap (with_found (f k)) (same_values f g key ks apart.1 same)

  same_keys : (f g : ℕ → Option A) (key : ℕ) (ks : List ℕ) → IsApart key ks → ((k : ℕ) → k ≢ key → g k ≡ f k) → AreKeys f ks → AreKeys g ks
  same_keys f g key [] apart same h = tt
  same_keys f g key (k ∷ ks) apart same h = (subst (λ o. IsSome o) (sym (same k apart.0)) h.0, h.1, same_keys f g key ks apart.1 same h.2)

  -- one key gets another value

  pub put_values : (f g : ℕ → Option A) (ks : List ℕ) (i key : ℕ) (v : A) → AreKeys f ks → slice_get ks i ≡ Some key → g key ≡ Some v → ((k : ℕ) → k ≢ key → g k ≡ f k) → values_at g ks ≡ slice_set (values_at f ks) i v
  put_values f g [] i key v h e has same = cc
  put_values f g (k ∷ ks) zero key v h e has same =
      let is : k ≡ key = cc in
      let rest : values_at g ks ≡ values_at f ks = same_values f g key ks (subst (λ q. IsApart q ks) is h.1) same in
      ap (λ o. with_found o (values_at g ks)) (ap g is ∙ has) ∙ ap (λ xs. v ∷ xs) rest ∙ sym (set_front (f k) (values_at f ks) v h.0)
  put_values f g (k ∷ ks) (suc i) key v h e has same =
      ap (λ o. with_found o (values_at g ks)) (same k (not_at key ks i k h.1 e)) ∙ ap (with_found (f k)) (put_values f g ks i key v h.2 e has same) ∙ sym (set_behind (f k) (values_at f ks) i v h.0)

  pub put_keys : (f g : ℕ → Option A) (ks : List ℕ) (i key : ℕ) (v : A) → AreKeys f ks → slice_get ks i ≡ Some key → g key ≡ Some v → ((k : ℕ) → k ≢ key → g k ≡ f k) → AreKeys g ks
  put_keys f g [] i key v h e has same = cc
  put_keys f g (k ∷ ks) zero key v h e has same =
      let is : k ≡ key = cc in
      (some_is (g k) v (ap g is ∙ has), h.1, same_keys f g key ks (subst (λ q. IsApart q ks) is h.1) same h.2)
  put_keys f g (k ∷ ks) (suc i) key v h e has same =
      (subst (λ o. IsSome o) (sym (same k (not_at key ks i k h.1 e))) h.0, h.1, put_keys f g ks i key v h.2 e has same)

  -- a new key behind the others

  apart_new : (f : ℕ → Option A) (key : ℕ) (ks : List ℕ) → AreKeys f ks → f key ≡ None → IsApart key ks
  apart_new f key [] h none = tt
  apart_new f key (k ∷ ks) h none = (λ is. let was : IsSome (f key) = subst (λ q. IsSome (f q)) is h.0 in cc, apart_new f key ks h.2 none)

  pub push_values : (f g : ℕ → Option A) (ks : List ℕ) (key : ℕ) (v : A) → AreKeys f ks → f key ≡ None → g key ≡ Some v → ((k : ℕ) → k ≢ key → g k ≡ f k) → values_at g (ks ++ key ∷ []) ≡ values_at f ks ++ v ∷ []
  push_values f g [] key v h none has same = ap (λ o. with_found o []) has
  push_values f g (k ∷ ks) key v h none has same =
      let apart = apart_new f key (k ∷ ks) h none in
      ap (λ o. with_found o (values_at g (ks ++ key ∷ []))) (same k apart.0) ∙ ap (with_found (f k)) (push_values f g ks key v h.2 none has same) ∙ sym (push_behind (f k) (values_at f ks) (v ∷ []))

  pub push_keys : (f g : ℕ → Option A) (ks : List ℕ) (key : ℕ) (v : A) → AreKeys f ks → f key ≡ None → g key ≡ Some v → ((k : ℕ) → k ≢ key → g k ≡ f k) → AreKeys g (ks ++ key ∷ [])
  push_keys f g [] key v h none has same = (some_is (g key) v has, tt, tt)
  push_keys f g (k ∷ ks) key v h none has same =
      let apart = apart_new f key (k ∷ ks) h none in
      (subst (λ o. IsSome o) (sym (same k apart.0)) h.0, apart_push k key ks h.1 (λ is. apart.0 (sym is)), push_keys f g ks key v h.2 none has same)

  -- a key that goes

  pub remove_values : (f g : ℕ → Option A) (ks : List ℕ) (i key : ℕ) → AreKeys f ks → slice_get ks i ≡ Some key → ((k : ℕ) → k ≢ key → g k ≡ f k) → values_at g (remove ks i) ≡ remove (values_at f ks) i
  remove_values f g [] i key h e same = cc
  remove_values f g (k ∷ ks) zero key h e same =
      let is : k ≡ key = cc in
      same_values f g key ks (subst (λ q. IsApart q ks) is h.1) same ∙ sym (remove_front (f k) (values_at f ks) h.0)
  remove_values f g (k ∷ ks) (suc i) key h e same =
      ap (λ o. with_found o (values_at g (remove ks i))) (same k (not_at key ks i k h.1 e)) ∙ ap (with_found (f k)) (remove_values f g ks i key h.2 e same) ∙ sym (remove_behind (f k) (values_at f ks) i h.0)

  pub remove_keys : (f g : ℕ → Option A) (ks : List ℕ) (i key : ℕ) → AreKeys f ks → slice_get ks i ≡ Some key → ((k : ℕ) → k ≢ key → g k ≡ f k) → AreKeys g (remove ks i)
  remove_keys f g [] i key h e same = cc
  remove_keys f g (k ∷ ks) zero key h e same =
      let is : k ≡ key = cc in same_keys f g key ks (subst (λ q. IsApart q ks) is h.1) same h.2
  remove_keys f g (k ∷ ks) (suc i) key h e same =
      (subst (λ o. IsSome o) (sym (same k (not_at key ks i k h.1 e))) h.0, apart_remove k ks i h.1, remove_keys f g ks i key h.2 e same)

  -- an item that is put where it stands
  pub set_same : (xs : List A) (i : ℕ) (x : A) → slice_get xs i ≡ Some x → slice_set xs i x ≡ xs
  set_same [] i x e = cc
  set_same (y ∷ ys) zero x e = let same : y ≡ x = cc in ap (λ z. z ∷ ys) (sym same)
  set_same (y ∷ ys) (suc i) x e = ap (λ zs. y ∷ zs) (set_same ys i x e)

  -- a slab whose slots stay
  pub same_slots : (s now : Slab A) (ks : List ℕ) → now.slots ≡ s.slots → AreKeys (get s) ks → AreKeys (get now) ks
  same_slots s now ks e h = subst (λ slots. AreKeys (λ k. slice_index_or slots k None) ks) (sym e) h

  pub same_slot_values : (s now : Slab A) (ks : List ℕ) → now.slots ≡ s.slots → values_at (get now) ks ≡ values_at (get s) ks
  same_slot_values s now ks e = ap (λ slots. values_at (λ k. slice_index_or slots k None) ks) e

  -- a change of one key's value is one of its place

  pub key_put_keys : (s now : Slab A) (ks : List ℕ) (xs : List A) (i key : ℕ) (p : A → A) → AreKeys (get s) ks → values_at (get s) ks ≡ xs → slice_get ks i ≡ Some key → PutsAtKey s key p now → (x : A) → slice_get xs i ≡ Some x → AreKeys (get now) ks
  key_put_keys s now ks xs i key p h e at puts x is =
      let has : get s key ≡ Some x = key_value (get s) ks xs i key x h e at is in
      let u : Updates s (with_value s key (p x)) key (Some (p x)) = Updates-with_value s key (p x) (some_is (get s key) x has) in
      subst (λ t. AreKeys (get t) ks) (sym (puts x has)) (put_keys (get s) (get (with_value s key (p x))) ks i key (p x) h at u.changed u.others)

  pub key_put_values : (s now : Slab A) (ks : List ℕ) (xs : List A) (i key : ℕ) (p : A → A) → AreKeys (get s) ks → values_at (get s) ks ≡ xs → slice_get ks i ≡ Some key → PutsAtKey s key p now → PutsAt xs i p (values_at (get now) ks)
  key_put_values s now ks xs i key p h e at puts x is =
      let has : get s key ≡ Some x = key_value (get s) ks xs i key x h e at is in
      let u : Updates s (with_value s key (p x)) key (Some (p x)) = Updates-with_value s key (p x) (some_is (get s key) x has) in
      let t : values_at (get (with_value s key (p x))) ks ≡ slice_set (values_at (get s) ks) i (p x) = put_values (get s) (get (with_value s key (p x))) ks i key (p x) h at u.changed u.others in
      ap (λ r. values_at (get r) ks) (puts x has) ∙ t ∙ ap (λ ys. slice_set ys i (p x)) e
