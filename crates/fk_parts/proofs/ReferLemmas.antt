-- To which rows a part of S refers.
use Rattle.std.proofs.Common.{◌≡◌, ℕ, List, Bool, true, false, Some, refl, sym, ◌∙◌}
use Rattle.par_base.specs.declared.value.Value.{Value}
use Rattle.row_store.specs.Rows.{Rows, RiseFrom, row_of}
use Rattle.op_law.specs.Local.{rows_only}
use Rattle.op_law.proofs.OnlyLaws.{row_in, row_out, rise_only}
use Rattle.row_parts.specs.RowCells.{by_test}
use Rattle.foreign_keys.specs.KeyParts.{FkParts}
use Rattle.foreign_keys.specs.References.{goal_of, referred}
use Rattle.foreign_keys.specs.inner.ReferenceLemmas.{referred_by, referrer}
use Rattle.fk_footprints.specs.Closed.{Witness}

-- each follows from the other
both_ways : (a b : Bool) → (a ≡ true → b ≡ true) → (b ≡ true → a ≡ true) → a ≡ b
both_ways true b f g = sym (f refl)
both_ways false true f g = g refl
both_ways false false f g = refl

-- where each row that refers to q makes one of another table do so, q is referred to there
refers_there : (k : FkParts) (s now : Rows) (q : ℕ) → RiseFrom 0 s → ((x : ℕ) (v : List Value) → row_of s x ≡ Some v → goal_of (k.key v) ≡ Some q → referred k now q ≡ true) → referred k s q ≡ true → referred k now q ≡ true
refers_there k s now q rise h here = let f = referrer k 0 s q rise here in h f.id f.row f.at f.goal

-- two tables refer to q alike where no row that passes does, and all others are the same
pub same_referred : (k : FkParts) (P : ℕ → Bool) (s now : Rows) (q : ℕ) → RiseFrom 0 s → RiseFrom 0 now → ((x : ℕ) → P x ≡ false → row_of now x ≡ row_of s x)
    → ((x : ℕ) (v : List Value) → P x ≡ true → row_of s x ≡ Some v → goal_of (k.key v) ≡ Some q → ⊥)
    → ((x : ℕ) (v : List Value) → P x ≡ true → row_of now x ≡ Some v → goal_of (k.key v) ≡ Some q → ⊥)
    → referred k now q ≡ referred k s q
same_referred k P s now q rise rise_now same none none_now =
    both_ways (referred k now q) (referred k s q)
    (refers_there k now s q rise_now (λ x v at goal. by_test (P x) (λ e. absurd (none_now x v e at goal)) (λ e. referred_by k s x q v (sym (same x e) ∙ at) goal)))
    (refers_there k s now q rise (λ x v at goal. by_test (P x) (λ e. absurd (none x v e at goal)) (λ e. referred_by k now x q v (same x e ∙ at) goal)))

-- the part of a table refers to q as the table, where a row outside that refers to it brings one that passes
pub part_referred : (k : FkParts) (P : ℕ → Bool) (s : Rows) (q : ℕ) → RiseFrom 0 s
    → ((x : ℕ) (v : List Value) → P x ≡ false → row_of s x ≡ Some v → goal_of (k.key v) ≡ Some q → Witness k P s s s q)
    → referred k (rows_only P s) q ≡ referred k s q
part_referred k P s q rise witness =
    both_ways (referred k (rows_only P s) q) (referred k s q)
    (refers_there k (rows_only P s) s q (rise_only P 0 s rise) (λ x v at goal.
    by_test (P x)
    (λ e. referred_by k s x q v (sym (row_in P s x e) ∙ at) goal)
    (λ e. let none = row_out P s x e in absurd (cc))))
    (refers_there k s (rows_only P s) q rise (λ x v at goal.
    by_test (P x)
    (λ e. referred_by k (rows_only P s) x q v (row_in P s x e ∙ at) goal)
    (λ e. let w = witness x v e at goal in referred_by k (rows_only P s) w.id q w.row (row_in P s w.id w.passed ∙ w.at) w.goal)))
