-- Open transactions as they lie in memory, and as they are told.
use Rattle.std.specs.List.{cons_option, find, position}
use Rattle.std.specs.Prelude.{filter_map, OnErr, option_map}
use Rattle.std.proofs.Common.{◌≡◌, if◌then◌else◌, ℕ, zero, suc, ◌==◌, ◌-◌, take, List, [], ◌∷◌, ◌++◌, Bool, true, false, not, cond, filter, length, map, Option, Some, None, Result, Ok, Err, slice_index_or, slice_set, refl, sym, ap, ◌∙◌, arith}
use Rattle.std.proofs.lemmas.Bool.{eqb-true}
use Rattle.std.proofs.lemmas.List.{set-get_or}
use Rattle.session_tx.specs.Transactions.{TransactionState}
use Rattle.statements.specs.Views.{StatementView, statement_view}
use Rattle.statements.specs.declared.statement.Statement.{Statement}
use Rattle.tx_history.specs.Opens.{one_of, open_view, opens_view, transaction_view, with_changed, without_last}
use Rattle.tx_history.specs.Views.{OpenView, TransactionView, open_of, with_open, with_write, without_open}
use Rattle.tx_history.specs.declared.open_transaction.OpenTransaction.{OpenTransaction}
use Rattle.tx_history.specs.declared.table_read.TableRead.{TableRead}
use Rattle.tx_history.proofs.PlaceLemmas.{none_put, put, set_put}

-- ---- as they are told

some_or : (b : Bool) (o : OpenTransaction) (rest : Option OpenTransaction) → cond b (Some (open_view o)) (option_map open_view rest) ≡ option_map open_view (cond b (Some o) rest)
some_or true o rest = refl
some_or false o rest = refl

pub found_view : (opens : List OpenTransaction) (session : ℕ) → open_of (opens_view opens) session ≡ option_map open_view (find (λ (o : OpenTransaction). o.session == session) opens)
found_view [] session = refl
found_view (o ∷ os) session =
    ap (λ (rest : Option OpenView). cond (o.session == session) (Some (open_view o)) rest) (found_view os session)
    ∙ some_or (o.session == session) o (find (λ (p : OpenTransaction). p.session == session) os)

kept_or : (b : Bool) (o : OpenTransaction) (rest : List OpenTransaction) → cond b (open_view o ∷ opens_view rest) (opens_view rest) ≡ opens_view (cond b (o ∷ rest) rest)
kept_or true o rest = refl
kept_or false o rest = refl

pub without_view : (opens : List OpenTransaction) (session : ℕ) → opens_view (filter (λ (o : OpenTransaction). not (o.session == session)) opens) ≡ without_open (opens_view opens) session
without_view [] session = refl
without_view (o ∷ os) session =
    sym (kept_or (not (o.session == session)) o (filter (λ (p : OpenTransaction). not (p.session == session)) os))
    ∙ ap (λ (rest : List OpenView). cond (not (o.session == session)) (open_view o ∷ rest) rest) (without_view os session)

-- ---- a session's transaction is changed in its place

-- with another transaction
abbrev pub other_transaction : (TransactionState Statement TableRead → TransactionState Statement TableRead) → OpenTransaction → OpenTransaction
other_transaction change o = record { session = o.session; transaction = change o.transaction }

module _ (session : ℕ) (change : TransactionState Statement TableRead → TransactionState Statement TableRead) (told : TransactionView → TransactionView) (same : (t : TransactionState Statement TableRead) → transaction_view (change t) ≡ told (transaction_view t)) where
  abbrev own : OpenTransaction → Bool
  own o = o.session == session

  changed_or : (b : Bool) (o : OpenTransaction) (os others : List OpenTransaction) (rest : List OpenView) → opens_view others ≡ rest
      → opens_view (cond b (other_transaction change o ∷ os) (o ∷ others)) ≡ (if b then record { session = o.session; transaction = told (transaction_view o.transaction) } ∷ opens_view os else open_view o ∷ rest)
  changed_or true o os others rest is = ap (λ (t : TransactionView). record { session = o.session; transaction = t } ∷ opens_view os) (same o.transaction)
  changed_or false o os others rest is = ap (λ (l : List OpenView). open_view o ∷ l) is

  put_view : (opens : List OpenTransaction) → opens_view (put own (other_transaction change) opens) ≡ with_changed (opens_view opens) session told
  put_view [] = refl
  put_view (o ∷ os) = changed_or (o.session == session) o os (put own (other_transaction change) os) (with_changed (opens_view os) session told) (put_view os)

  pub set_view : (opens : List OpenTransaction) (at : ℕ) (d : OpenTransaction) → position own opens ≡ Some at → opens_view (slice_set opens at (other_transaction change (slice_index_or opens at d))) ≡ with_changed (opens_view opens) session told
  set_view opens at d found = ap opens_view (set_put own (other_transaction change) opens at d found) ∙ put_view opens

  -- written over the one at its place
  pub set_other : (opens : List OpenTransaction) (at : ℕ) (x : OpenTransaction) (t : TransactionState Statement TableRead) → x ≡ slice_index_or opens at x → t ≡ change x.transaction → position own opens ≡ Some at
      → opens_view (slice_set opens at (record { session = x.session; transaction = t })) ≡ with_changed (opens_view opens) session told
  set_other opens at x t here is found =
      ap (λ (u : TransactionState Statement TableRead). opens_view (slice_set opens at (record { session = x.session; transaction = u }))) is
      ∙ ap (λ (y : OpenTransaction). opens_view (slice_set opens at (other_transaction change y))) here
      ∙ set_view opens at x found

  pub none_view : (opens : List OpenTransaction) → position own opens ≡ None → opens_view opens ≡ with_changed (opens_view opens) session told
  none_view opens found = sym (ap opens_view (none_put own (other_transaction change) opens found)) ∙ put_view opens

-- one that isn't changed
same_if : (b : Bool) (o : OpenView) (os rest : List OpenView) → rest ≡ os → (if b then o ∷ os else o ∷ rest) ≡ o ∷ os
same_if true o os rest is = refl
same_if false o os rest is = ap (λ (l : List OpenView). o ∷ l) is

pub same_changed : (os : List OpenView) (session : ℕ) → with_changed os session (λ t. t) ≡ os
same_changed [] session = refl
same_changed (o ∷ os) session = same_if (o.session == session) o os (with_changed os session (λ t. t)) (same_changed os session)

-- the same written over the one at its place
pub set_same : (opens : List OpenTransaction) (at : ℕ) (x : OpenTransaction) (t : TransactionState Statement TableRead) → x ≡ slice_index_or opens at x → t ≡ x.transaction → slice_set opens at (record { session = x.session; transaction = t }) ≡ opens
set_same opens at x t here is =
    ap (λ (u : TransactionState Statement TableRead). slice_set opens at (record { session = x.session; transaction = u })) is
    ∙ ap (λ (y : OpenTransaction). slice_set opens at y) here
    ∙ set-get_or opens at x

-- ---- what is told of it

ok_some : (p o : OpenView) → Some p ≡ Some o → p ≡ o
ok_some p o h = cc

-- one that stands is another one
changed_if : (session : ℕ) (change : TransactionView → TransactionView) (o p : OpenView) (os : List OpenView) (b : Bool) → (p.session == session) ≡ b → cond b (Some p) (open_of os session) ≡ Some o
    → (open_of os session ≡ Some o → with_changed os session change ≡ with_open os session (change o.transaction))
    → (if b then record p { transaction = change p.transaction } ∷ os else p ∷ with_changed os session change) ≡ (if b then record { session = session; transaction = change o.transaction } ∷ os else p ∷ with_open os session (change o.transaction))
changed_if session change o p os true is found rest =
    let own : p ≡ o = ok_some p o found in
    λ i. record { session = eqb-true p.session session is i; transaction = change (own i).transaction } ∷ os
changed_if session change o p os false is found rest = ap (λ (l : List OpenView). p ∷ l) (rest found)

pub changed_open : (session : ℕ) (change : TransactionView → TransactionView) (o : OpenView) (os : List OpenView) → open_of os session ≡ Some o → with_changed os session change ≡ with_open os session (change o.transaction)
changed_open session change o [] found = absurd (cc)
changed_open session change o (p ∷ os) found = changed_if session change o p os (p.session == session) refl found (λ f. changed_open session change o os f)

-- one that doesn't stands behind the others
opened_if : (session : ℕ) (t : TransactionView) (p : OpenView) (os : List OpenView) (b : Bool) → cond b (Some p) (open_of os session) ≡ None → (open_of os session ≡ None → os ++ record { session = session; transaction = t } ∷ [] ≡ with_open os session t)
    → p ∷ (os ++ record { session = session; transaction = t } ∷ []) ≡ (if b then record { session = session; transaction = t } ∷ os else p ∷ with_open os session t)
opened_if session t p os true none rest = absurd (cc)
opened_if session t p os false none rest = ap (λ (l : List OpenView). p ∷ l) (rest none)

pub opened : (session : ℕ) (t : TransactionView) (os : List OpenView) → open_of os session ≡ None → os ++ record { session = session; transaction = t } ∷ [] ≡ with_open os session t
opened session t [] none = refl
opened session t (p ∷ os) none = opened_if session t p os (p.session == session) none (λ n. opened session t os n)

-- one more behind the others
pub view_more : (opens : List OpenTransaction) (o : OpenTransaction) → opens_view (opens ++ o ∷ []) ≡ opens_view opens ++ open_view o ∷ []
view_more [] o = refl
view_more (p ∷ os) o = ap (λ (l : List OpenView). open_view p ∷ l) (view_more os o)

-- ---- writes of a transaction

-- one more write is told behind the others
pub write_more : (writes : List Statement) (x : Statement) → map statement_view (writes ++ x ∷ []) ≡ map statement_view writes ++ statement_view x ∷ []
write_more [] x = refl
write_more (y ∷ ys) x = ap (λ (l : List StatementView). statement_view y ∷ l) (write_more ys x)

pub as_many : (writes : List Statement) → length (map statement_view writes) ≡ length writes
as_many [] = refl
as_many (x ∷ xs) = ap suc (as_many xs)

-- the first so many are told
take_told : (n : ℕ) (writes : List Statement) → map statement_view (take n writes) ≡ take n (map statement_view writes)
take_told zero writes = refl
take_told (suc n) [] = refl
take_told (suc n) (x ∷ xs) = ap (λ (l : List StatementView). statement_view x ∷ l) (take_told n xs)

-- without the last write
abbrev pub less : TransactionState Statement TableRead → TransactionState Statement TableRead
less t = record { reads = t.reads; writes = take (length t.writes - 1) t.writes }

pub less_told : (t : TransactionState Statement TableRead) → transaction_view (less t) ≡ without_last (transaction_view t)
less_told t =
    let many : length t.writes - 1 ≡ length (map statement_view t.writes) - 1 = ap (λ (n : ℕ). n - 1) (sym (as_many t.writes)) in
    ap (λ (l : List StatementView). record { reads = t.reads; writes = l }) (take_told (length t.writes - 1) t.writes ∙ ap (λ (n : ℕ). take n (map statement_view t.writes)) many)

-- ---- a write that is kept and forgotten

forgotten_if : (b : Bool) (o : OpenView) (os rest : List OpenView) (session : ℕ) (f g : TransactionView → TransactionView) → (o.session == session) ≡ b → g (f o.transaction) ≡ o.transaction → with_changed rest session g ≡ os
    → with_changed (if b then record o { transaction = f o.transaction } ∷ os else o ∷ rest) session g ≡ o ∷ os
forgotten_if true o os rest session f g is back more =
    ap (λ (c : Bool). if c then record o { transaction = g (f o.transaction) } ∷ os else record o { transaction = f o.transaction } ∷ with_changed os session g) is
    ∙ ap (λ (t : TransactionView). record o { transaction = t } ∷ os) back
forgotten_if false o os rest session f g is back more =
    ap (λ (c : Bool). if c then record o { transaction = g o.transaction } ∷ rest else o ∷ with_changed rest session g) is
    ∙ ap (λ (l : List OpenView). o ∷ l) more

pub forgotten : (os : List OpenView) (session : ℕ) (f g : TransactionView → TransactionView) → ((t : TransactionView) → g (f t) ≡ t) → with_changed (with_changed os session f) session g ≡ os
forgotten [] session f g back = refl
forgotten (o ∷ os) session f g back = forgotten_if (o.session == session) o os (with_changed os session f) session f g refl (back o.transaction) (forgotten os session f g back)

taken_last : (ws : List StatementView) (x : StatementView) → take (length (ws ++ x ∷ []) - 1) (ws ++ x ∷ []) ≡ ws
taken_last ws x =
    let longer = length_more ws x in
    let many : length (ws ++ x ∷ []) - 1 ≡ length ws = omega (arith, longer) in
    ap (λ (n : ℕ). take n (ws ++ x ∷ [])) many ∙ taken_all ws x
  where
    length_more : (xs : List StatementView) (y : StatementView) → length (xs ++ y ∷ []) ≡ suc (length xs)
    length_more [] y = refl
    length_more (z ∷ zs) y = ap suc (length_more zs y)

    taken_all : (xs : List StatementView) (y : StatementView) → take (length xs) (xs ++ y ∷ []) ≡ xs
    taken_all [] y = refl
    taken_all (z ∷ zs) y = ap (λ (l : List StatementView). z ∷ l) (taken_all zs y)

pub last_forgotten : (x : StatementView) (t : TransactionView) → without_last (with_write t x) ≡ t
last_forgotten x t = ap (λ (ws : List StatementView). record { reads = t.reads; writes = ws }) (taken_last t.writes x)

-- ---- what writes say

module _ (h : StatementView → Option ℕ) where
  one_more : (o : Option ℕ) → cons_option o [] ≡ one_of o
  one_more None = refl
  one_more (Some t) = refl

  cons_more : (o : Option ℕ) (ts us : List ℕ) → cons_option o (ts ++ us) ≡ cons_option o ts ++ us
  cons_more None ts us = refl
  cons_more (Some t) ts us = refl

  pub accessed_more : (ws : List Statement) (w : Statement) → filter_map h (map statement_view (ws ++ w ∷ [])) ≡ filter_map h (map statement_view ws) ++ one_of (h (statement_view w))
  accessed_more [] w = one_more (h (statement_view w))
  accessed_more (v ∷ vs) w =
      ap (λ (l : List ℕ). cons_option (h (statement_view v)) l) (accessed_more vs w)
      ∙ cons_more (h (statement_view v)) (filter_map h (map statement_view vs)) (one_of (h (statement_view w)))

-- ---- whether a transaction is open

pub open_some : {X : Type 0} (f : OpenView → X) (o : Option OpenView) (x : X) → Some x ≡ option_map f o → (v : OpenView) × ((o ≡ Some v) × (x ≡ f v))
open_some f (Some v) x h = (v, (refl, cc))
open_some f None x h = absurd (cc)

pub open_none : {X : Type 0} (f : OpenView → X) (o : Option OpenView) → None ≡ option_map f o → o ≡ None
open_none f (Some v) h = absurd (cc)
open_none f None h = refl

-- ---- after an error

pub err_keep : {X E P A : Type 0} (r : Result X E) → OnErr r A → (A → P) → OnErr r P
err_keep (Ok x) a f = tt
err_keep (Err e) a f = f a
