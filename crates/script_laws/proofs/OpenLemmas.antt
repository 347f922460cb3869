-- What holds of all open transactions.
use Rattle.std.specs.Prelude.{not, ◌==◌, filter, if◌then◌else◌, Some}
use Rattle.std.specs.List.{find}
use Rattle.std.proofs.Common.{◌≡◌, ℕ, List, [], ◌∷◌, Bool, true, false, cond, subst}
use Rattle.expr_lang.specs.Operations.{text_limit}
use Rattle.statements.specs.Views.{StatementView}
use Rattle.statements.specs.Texts.{TextsWithin}
use Rattle.version_graph.specs.Sets.{Each}
use Rattle.version_graph.proofs.SetLaws.{each_append}
use Rattle.tx_history.specs.Views.{OpenView, TransactionView, open_of, with_open, with_write, without_open}
use Rattle.script_laws.specs.Kept.{KeptWritesFit}

module _ {X : Type 0} (P : X → Type 0) (test : X → Bool) where
  pub each_filtered : (xs : List X) → Each P xs → Each P (filter test xs)
  each_filtered [] all = tt
  each_filtered (x ∷ xs) all =
      elim (test x) as (λ b. Each P (cond b (x ∷ filter test xs) (filter test xs))) [ true ↦ (all.0, each_filtered xs all.1) | false ↦ each_filtered xs all.1 ]

  found_by : (y : X) (ys : List X) (x : X) → P y → (find test ys ≡ Some x → P x) → (b : Bool) → cond b (Some y) (find test ys) ≡ Some x → P x
  found_by y ys x first others true same = let one : y ≡ x = cc in subst P one first
  found_by y ys x first others false more = others more

  pub each_found : (xs : List X) (x : X) → find test xs ≡ Some x → Each P xs → P x
  each_found [] x is all = absurd (let no : ⊥ = cc in no)
  each_found (y ∷ ys) x is all = found_by y ys x all.0 (λ more. each_found ys x more all.1) (test y) is

-- no text of a statement is too long
abbrev pub Fits : StatementView → Type 0
Fits statement = TextsWithin text_limit statement

-- the writes of a transaction
abbrev pub AreFit : OpenView → Type 0
AreFit o = Each Fits o.transaction.writes

pub fit_without : (opens : List OpenView) (session : ℕ) → KeptWritesFit opens → KeptWritesFit (without_open opens session)
fit_without opens session fit = each_filtered AreFit (λ (o : OpenView). not (o.session == session)) opens fit

pub fit_with : (opens : List OpenView) (session : ℕ) (t : TransactionView) → KeptWritesFit opens → Each Fits t.writes → KeptWritesFit (with_open opens session t)
fit_with [] session t fit writes = (writes, tt)
fit_with (o ∷ os) session t fit writes =
    elim (o.session == session) as (λ b. KeptWritesFit (if b then record { session = session; transaction = t } ∷ os else o ∷ with_open os session t)) [
      | true ↦ (writes, fit.1)
      | false ↦ (fit.0, fit_with os session t fit.1 writes)
    ]

pub fit_at : (opens : List OpenView) (session : ℕ) (o : OpenView) → open_of opens session ≡ Some o → KeptWritesFit opens → Each Fits o.transaction.writes
fit_at opens session o is fit = each_found AreFit (λ (o : OpenView). o.session == session) opens o is fit

pub fit_more : (t : TransactionView) (write : StatementView) → Each Fits t.writes → Fits write → Each Fits (with_write t write).writes
fit_more t write fit one = each_append Fits t.writes (write ∷ []) fit (one, tt)
