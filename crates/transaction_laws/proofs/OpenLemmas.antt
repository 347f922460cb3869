-- The open transactions of sessions, and the SELECTs noted for them: each session has its own.
use Rattle.std.specs.Prelude.{Option, Some, None}
use Rattle.std.specs.List.{find}
use Rattle.std.proofs.Common.{◌≡◌, ◌==◌, ℕ, Bool, true, false, not, cond, filter, flat_map, List, [], ◌∷◌, ◌++◌, refl, sym, ap, ◌∙◌}
use Rattle.std.proofs.lemmas.Bool.{cond-false, eq-eqb, eqb-true}
use Rattle.std.proofs.lemmas.List.{append-nil}
use Rattle.engine_transactions.specs.Serial.{OpenReads, Told, reads_of, with_told, without_reads}
use Rattle.tx_history.specs.Views.{OpenView, TransactionView, open_of, with_open, without_open}

-- ---- items that pass a test, without those that pass another one

module _ {X : Type 0} (p : X → Bool) where
  abbrev others : List X → List X
  others xs = filter (λ x. not (p x)) xs

  find_own : (xs ys : List X) → find p (others xs ++ ys) ≡ find p ys
  find_own [] ys = refl
  find_own (x ∷ xs) ys = go (find_own xs ys) (p x) refl
    where
      go : find p (others xs ++ ys) ≡ find p ys → (b : Bool) → p x ≡ b → find p (cond (not b) (x ∷ others xs) (others xs) ++ ys) ≡ find p ys
      go rest true is = rest
      go rest false is = cond-false (p x) (Some x) (find p (others xs ++ ys)) is ∙ rest

  filter_own : (xs ys : List X) → filter p (others xs ++ ys) ≡ filter p ys
  filter_own [] ys = refl
  filter_own (x ∷ xs) ys = go (filter_own xs ys) (p x) refl
    where
      go : filter p (others xs ++ ys) ≡ filter p ys → (b : Bool) → p x ≡ b → filter p (cond (not b) (x ∷ others xs) (others xs) ++ ys) ≡ filter p ys
      go rest true is = rest
      go rest false is = cond-false (p x) (x ∷ filter p (others xs ++ ys)) (filter p (others xs ++ ys)) is ∙ rest

  module _ (q : X → Bool) (apart : (x : X) → p x ≡ true → q x ≡ false) where
    find_other : (xs ys : List X) → find q ys ≡ None → find q (others xs ++ ys) ≡ find q xs
    find_other [] ys none = none
    find_other (x ∷ xs) ys none = go (find_other xs ys none) (p x) refl
      where
        go : find q (others xs ++ ys) ≡ find q xs → (b : Bool) → p x ≡ b → find q (cond (not b) (x ∷ others xs) (others xs) ++ ys) ≡ find q (x ∷ xs)
        go rest true is = rest ∙ sym (cond-false (q x) (Some x) (find q xs) (apart x is))
        go rest false is = ap (λ (o : Option X). cond (q x) (Some x) o) rest

    filter_other : (xs ys : List X) → filter q ys ≡ [] → filter q (others xs ++ ys) ≡ filter q xs
    filter_other [] ys none = none
    filter_other (x ∷ xs) ys none = go (filter_other xs ys none) (p x) refl
      where
        go : filter q (others xs ++ ys) ≡ filter q xs → (b : Bool) → p x ≡ b → filter q (cond (not b) (x ∷ others xs) (others xs) ++ ys) ≡ filter q (x ∷ xs)
        go rest true is = rest ∙ sym (cond-false (q x) (x ∷ filter q xs) (filter q xs) (apart x is))
        go rest false is = ap (λ (l : List X). cond (q x) (x ∷ l) l) rest

-- ---- transactions

same_session : (n : ℕ) → (n == n) ≡ true
same_session n = eq-eqb n n refl

abbrev is_of : ℕ → OpenView → Bool
is_of n o = o.session == n

abbrev reads_are_of : ℕ → OpenReads → Bool
reads_are_of n o = o.session == n

apart_open : (n m : ℕ) → (n == m) ≡ false → (o : OpenView) → is_of n o ≡ true → is_of m o ≡ false
apart_open n m off o is = ap (λ (k : ℕ). k == m) (eqb-true o.session n is) ∙ off

apart_reads : (n m : ℕ) → (n == m) ≡ false → (o : OpenReads) → reads_are_of n o ≡ true → reads_are_of m o ≡ false
apart_reads n m off o is = ap (λ (k : ℕ). k == m) (eqb-true o.session n is) ∙ off

module _ (n : ℕ) (t : TransactionView) where
  abbrev open_now : OpenView
  open_now = record { session = n; transaction = t }

  pub open_own : (opens : List OpenView) → open_of (with_open opens n t) n ≡ Some open_now
  open_own [] = ap (λ (b : Bool). cond b (Some open_now) None) (same_session n)
  open_own (o ∷ os) = go (open_own os) (o.session == n) refl
    where
      go : open_of (with_open os n t) n ≡ Some open_now → (b : Bool) → (o.session == n) ≡ b → open_of (cond b (open_now ∷ os) (o ∷ with_open os n t)) n ≡ Some open_now
      go rest true is = ap (λ (b : Bool). cond b (Some open_now) (open_of os n)) (same_session n)
      go rest false is = cond-false (o.session == n) (Some o) (open_of (with_open os n t) n) is ∙ rest

  pub open_other : (opens : List OpenView) (m : ℕ) → (n == m) ≡ false → open_of (with_open opens n t) m ≡ open_of opens m
  open_other [] m off = ap (λ (b : Bool). cond b (Some open_now) None) off
  open_other (o ∷ os) m off = go (open_other os m off) (o.session == n) refl
    where
      go : open_of (with_open os n t) m ≡ open_of os m → (b : Bool) → (o.session == n) ≡ b → open_of (cond b (open_now ∷ os) (o ∷ with_open os n t)) m ≡ open_of (o ∷ os) m
      go rest true is = cond-false (n == m) (Some open_now) (open_of os m) off ∙ sym (cond-false (o.session == m) (Some o) (open_of os m) (apart_open n m off o is))
      go rest false is = ap (λ (x : Option OpenView). cond (o.session == m) (Some o) x) rest

module _ (opens : List OpenView) (n : ℕ) where
  pub ended_own : open_of (without_open opens n) n ≡ None
  ended_own = ap (find (is_of n)) (sym (append-nil (without_open opens n))) ∙ find_own (is_of n) opens []

  pub ended_other : (m : ℕ) → (n == m) ≡ false → open_of (without_open opens n) m ≡ open_of opens m
  ended_other m off = ap (find (is_of m)) (sym (append-nil (without_open opens n))) ∙ find_other (is_of n) (is_of m) (apart_open n m off) opens [] refl

-- ---- the SELECTs noted

abbrev told_in : List OpenReads → List Told
told_in opens = flat_map (λ (o : OpenReads). o.reads) opens

module _ (opens : List OpenReads) (n : ℕ) where
  pub reads_none : reads_of (without_reads opens n) n ≡ []
  reads_none = ap told_in (ap (filter (reads_are_of n)) (sym (append-nil (without_reads opens n))) ∙ filter_own (reads_are_of n) opens [])

  pub reads_else : (m : ℕ) → (n == m) ≡ false → reads_of (without_reads opens n) m ≡ reads_of opens m
  reads_else m off = ap told_in (ap (filter (reads_are_of m)) (sym (append-nil (without_reads opens n))) ∙ filter_other (reads_are_of n) (reads_are_of m) (apart_reads n m off) opens [] refl)

  module _ (told : Told) where
    abbrev now : OpenReads
    now = record { session = n; reads = reads_of opens n ++ told ∷ [] }

    pub reads_own : reads_of (with_told opens n told) n ≡ reads_of opens n ++ told ∷ []
    reads_own =
        ap told_in (filter_own (reads_are_of n) opens (now ∷ []) ∙ ap (λ (b : Bool). cond b (now ∷ []) []) (same_session n))
        ∙ append-nil (reads_of opens n ++ told ∷ [])

    pub reads_other : (m : ℕ) → (n == m) ≡ false → reads_of (with_told opens n told) m ≡ reads_of opens m
    reads_other m off = ap told_in (filter_other (reads_are_of n) (reads_are_of m) (apart_reads n m off) opens (now ∷ []) (ap (λ (b : Bool). cond b (now ∷ []) []) off))
