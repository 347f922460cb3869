-- What an identifier has after changes, from what they tell.
use Rattle.std.proofs.Common.{◌≡◌, ℕ, zero, suc, ◌+◌, ◌<◌, ◌≤◌, ◌==◌, ◌⊎◌, List, [], ◌∷◌, ◌++◌, Bool, true, false, cond, take, get_or, slice_get, Option, Some, None, length, refl, sym, subst}
use Rattle.std.proofs.lemmas.Bool.{eqb-true, false≢true}
use Rattle.std.proofs.lemmas.List.{take_more}
use mathlib.Core.Logic.{inl, inr}
use Rattle.par_base.specs.declared.value.Value.{Value}
use Rattle.row_store.specs.declared.change.Change.{Change}
use Rattle.row_store.specs.Changes.{after}
use Rattle.op_law.proofs.OnlyLaws.{by_test}
use Rattle.row_changes.specs.Changed.{TableChanges}
use Rattle.row_changes.specs.Touched.{AllPass, EachPass}
use Rattle.id_closing.specs.Told.{AllOf, is_changed, changes_at, OfNew}

-- one change more
pub all_more : (P : Change → Type 0) (cs : List Change) (c : Change) → AllOf P cs → P c → AllOf P (cs ++ c ∷ [])
all_more P [] c all one = (one, tt)
all_more P (d ∷ cs) c all one = (all.0, all_more P cs c all.1 one)

-- what follows for each
pub all_then : (P Q : Change → Type 0) (cs : List Change) → ((c : Change) → P c → Q c) → AllOf P cs → AllOf Q cs
all_then P Q [] then all = tt
all_then P Q (c ∷ cs) then all = (then c all.0, all_then P Q cs then all.1)

-- a row after changes is a new one, or one that they leave
pub new_or_old : (P : List Value → Type 0) (cs : List Change) (q : ℕ) (o : Option (List Value)) (row : List Value) → AllOf (OfNew P) cs → after cs q o ≡ Some row
    → P row ⊎ ((is_changed cs q ≡ false) × (o ≡ Some row))
new_or_old P [] q o row all e = inr (refl, e)
new_or_old P (c ∷ cs) q o row all e =
    by_test (c.id == q)
    (λ own. let here : c.new ≡ Some row = rw own at e in inl (all.0 row here))
    (λ other. let rest : after cs q o ≡ Some row = rw other at e in rw other (new_or_old P cs q o row all.1 rest))

-- what isn't named stays
pub unchanged : (cs : List Change) (q : ℕ) (o : Option (List Value)) → is_changed cs q ≡ false → after cs q o ≡ o
unchanged [] q o h = refl
unchanged (c ∷ cs) q o h =
    by_test (c.id == q)
    (λ own. let no : true ≡ false = rw own at h in absurd (false≢true (sym no)))
    (λ other. let rest : is_changed cs q ≡ false = rw other at h in rw other (unchanged cs q o rest))

-- what holds of each identifier that is named holds of this one
pub named : (P : ℕ → Type 0) (cs : List Change) (q : ℕ) → AllOf (λ c. P c.id) cs → is_changed cs q ≡ true → P q
named P [] q all h = absurd (false≢true h)
named P (c ∷ cs) q all h =
    by_test (c.id == q)
    (λ own. subst P (eqb-true c.id q own) all.0)
    (λ other. let rest : is_changed cs q ≡ true = rw other at h in named P cs q all.1 rest)

-- where all changes pass a test, what is named passes
pub named_passes : (P : ℕ → Bool) (cs : List Change) (q : ℕ) → AllPass P cs → is_changed cs q ≡ true → P q ≡ true
named_passes P [] q all h = absurd (false≢true h)
named_passes P (c ∷ cs) q all h =
    by_test (c.id == q)
    (λ own. subst (λ (x : ℕ). P x ≡ true) (eqb-true c.id q own) all.0)
    (λ other. let rest : is_changed cs q ≡ true = rw other at h in named_passes P cs q all.1 rest)

-- so it is in each table
pub pass_at : (P : ℕ → Bool) (near : TableChanges) (which : ℕ) → EachPass P near → AllPass P (changes_at near which)
pass_at P [] which all = tt
pass_at P (c ∷ cs) zero all = all.0
pass_at P (c ∷ cs) (suc which) all = pass_at P cs which all.1

-- whether one of the changes and one more names it
pub named_more : (cs : List Change) (c : Change) (q : ℕ) → is_changed (cs ++ c ∷ []) q ≡ cond (c.id == q) true (is_changed cs q)
named_more [] c q = refl
named_more (d ∷ cs) c q = by_test (d.id == q) (λ e. rw e (sym (either_true (c.id == q)))) (λ e. rw e (named_more cs c q))
  where
    either_true : (b : Bool) → cond b true true ≡ true
    either_true true = refl
    either_true false = refl

-- the changes of a table by its place
pub changes_some : (near : TableChanges) (which : ℕ) (c : List Change) → slice_get near which ≡ Some c → changes_at near which ≡ c
changes_some [] which c e = absurd (cc)
changes_some (d ∷ ds) zero c e = cc
changes_some (d ∷ ds) (suc which) c e = changes_some ds which c e

pub changes_none : (near : TableChanges) (which : ℕ) → slice_get near which ≡ None → changes_at near which ≡ []
changes_none [] which e = refl
changes_none (d ∷ ds) zero e = absurd (cc)
changes_none (d ∷ ds) (suc which) e = changes_none ds which e

-- one change more is one that is taken
pub all_next : (P : Change → Type 0) (cs : List Change) (i : ℕ) (d : Change) → i < length cs → AllOf P (take i cs) → P (get_or cs i d) → AllOf P (take (i + 1) cs)
all_next P cs i d h all one = rw (take_more cs i d h) (all_more P (take i cs) (get_or cs i d) all one)
