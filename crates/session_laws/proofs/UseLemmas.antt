-- A USE sets the version in use of its own session.
use Rattle.std.specs.Prelude.{Option, Some, None}
use Rattle.std.specs.List.{find}
use Rattle.std.specs.Option.{option_map}
use Rattle.std.proofs.Common.{◌≡◌, ◌==◌, ℕ, List, [], ◌∷◌, ◌++◌, Bool, true, false, not, cond, filter, refl, sym, ap, ◌∙◌}
use Rattle.std.proofs.lemmas.Bool.{eq-eqb, eqb-true, false_from_ne_true}
use Rattle.engine_sessions.specs.declared.uses.VersionInUse.{VersionInUse}
use Rattle.session_laws.specs.Sessions.{UsesAreOwn}

module _ (p : VersionInUse → Bool) (new : VersionInUse) where
  -- without those that meet p
  abbrev others : List VersionInUse → List VersionInUse
  others uses = filter (λ u. not (p u)) uses

  -- the new one is found behind them, where it meets p
  new_step : (u : VersionInUse) (uses : List VersionInUse) (b : Bool) → p u ≡ b → find p (others uses ++ new ∷ []) ≡ Some new
      → find p (cond (not b) (u ∷ others uses) (others uses) ++ new ∷ []) ≡ Some new
  new_step u uses true same found = found
  new_step u uses false same found = ap (λ (b : Bool). cond b (Some u) (find p (others uses ++ new ∷ []))) same ∙ found

  new_found : p new ≡ true → (uses : List VersionInUse) → find p (others uses ++ new ∷ []) ≡ Some new
  new_found is [] = ap (λ (b : Bool). cond b (Some new) None) is
  new_found is (u ∷ uses) = new_step u uses (p u) refl (new_found is uses)

  -- what meets q is found as before, where the new one doesn't and those that went don't
  module _ (q : VersionInUse → Bool) (isnt : q new ≡ false) (apart : (u : VersionInUse) → p u ≡ true → q u ≡ false) where
    other_step : (u : VersionInUse) (uses : List VersionInUse) (b : Bool) → p u ≡ b → find q (others uses ++ new ∷ []) ≡ find q uses
        → find q (cond (not b) (u ∷ others uses) (others uses) ++ new ∷ []) ≡ find q (u ∷ uses)
    other_step u uses true same found = found ∙ sym (ap (λ (b : Bool). cond b (Some u) (find q uses)) (apart u same))
    other_step u uses false same found = ap (λ (m : Option VersionInUse). cond (q u) (Some u) m) found

    other_found : (uses : List VersionInUse) → find q (others uses ++ new ∷ []) ≡ find q uses
    other_found [] = ap (λ (b : Bool). cond b (Some new) None) isnt
    other_found (u ∷ uses) = other_step u uses (p u) refl (other_found uses)

-- a version in use
abbrev use_of : ℕ → List ℕ → VersionInUse
use_of session version = record { session = session; version = version }

abbrev is_of : ℕ → VersionInUse → Bool
is_of session u = u.session == session

abbrev version_in : Option VersionInUse → Option (List ℕ)
version_in found = option_map (λ (u : VersionInUse). u.version) found

apart : (session other : ℕ) → (other ≡ session → ⊥) → (session == other) ≡ false
apart session other differs = false_from_ne_true (session == other) (λ same. differs (sym (eqb-true session other same)))

pub uses_are_own : UsesAreOwn
uses_are_own = record {
  own = λ uses session version. ap version_in (new_found (is_of session) (use_of session version) (eq-eqb session session refl) uses);
  others = λ uses session other version differs.
      ap version_in (other_found (is_of session) (use_of session version) (is_of other) (apart session other differs)
      (λ u same. ap (λ (n : ℕ). n == other) (eqb-true u.session session same) ∙ apart session other differs) uses);
}
