-- What is kept beside R of what doesn't pass is as it was, where identifiers are closed before and after.
use Rattle.std.proofs.Common.{◌≡◌, ℕ, List, [], ◌∷◌, Bool, false, not, Some, ap, sym, ◌∙◌}
use Rattle.std.proofs.lemmas.Bool.{false≢true}
use mathlib.Core.Logic.{inl, inr}
use Rattle.par_base.specs.declared.value.Value.{Value}
use Rattle.row_store.specs.Rows.{Rows, RiseFrom, row_of}
use Rattle.op_law.specs.Local.{only}
use Rattle.row_parts.specs.RowCells.{map_cell}
use Rattle.foreign_keys.specs.KeyParts.{FkParts}
use Rattle.foreign_keys.specs.References.{goal_of, referred}
use Rattle.op_fk_decompose.specs.Decompose.{ref_at, dangling_at, kept_at, aux_from}
use Rattle.op_fk_join.specs.Join.{key_here, unjoined_here, unreferred_here}
use Rattle.op_fk_join.specs.Join.{aux_from as join_aux_from}
use Rattle.fk_footprints.specs.Closed.{SeesNoChange}
use Rattle.fk_parts.specs.Closed.{IsClosed}
use Rattle.fk_parts.proofs.DecomposeLemmas.{dangling_same, kept_at_same, no_dangling, no_kept, no_ref}
use Rattle.fk_parts.proofs.GoalLemmas.{dangles_same}
use Rattle.fk_parts.proofs.JoinLemmas.{key_same, no_key, no_unjoined, no_unreferred, unjoined_same, unreferred_same}
use Rattle.fk_parts.proofs.PartLemmas.{made_rest, three_same}
use Rattle.fk_parts.proofs.ReferLemmas.{same_referred}

-- S and T before and after, where they are the same at what doesn't pass
module _ (k : FkParts) (P : ℕ → Bool) (s t new_s new_t : Rows) (s_rise : RiseFrom 0 s) (new_rise : RiseFrom 0 new_s)
    (same_s : (q : ℕ) → P q ≡ false → row_of new_s q ≡ row_of s q) (same_t : (q : ℕ) → P q ≡ false → row_of new_t q ≡ row_of t q)
    (before : IsClosed k P s t) (after : IsClosed k P new_s new_t) where
  -- a row of T that doesn't pass is referred to as before
  rest_refs : (q : ℕ) (u : List Value) → P q ≡ false → row_of t q ≡ Some u → referred k new_s q ≡ referred k s q
  rest_refs q u e at =
      same_referred k P s new_s q s_rise new_rise same_s
      (λ x v pass is goal. elim (before.goals x v q pass is goal) [
        | inl hit ↦ false≢true (sym e ∙ hit)
        | inr none ↦ let bad = sym at ∙ none in absurd (cc)
      ])
      (λ x v pass is goal. elim (after.goals x v q pass is goal) [
        | inl hit ↦ false≢true (sym e ∙ hit)
        | inr none ↦ let bad = sym at ∙ sym (same_t q e) ∙ none in absurd (cc)
      ])

  -- what DECOMPOSE keeps beside R
  pub decompose_rest : RiseFrom 0 t → RiseFrom 0 new_t → SeesNoChange k P s t new_t → only (λ q. not (P q)) (aux_from k new_s new_t) ≡ only (λ q. not (P q)) (aux_from k s t)
  decompose_rest t_rise new_t_rise others =
      three_same
      (made_rest P s new_s (ref_at k s) (ref_at k new_s) s_rise new_rise (no_ref k s) (no_ref k new_s) (λ q e. ap (map_cell (λ v. k.key v ∷ [])) (same_s q e)))
      (made_rest P s new_s (dangling_at k s t) (dangling_at k new_s new_t) s_rise new_rise (no_dangling k s t) (no_dangling k new_s new_t)
      (λ q e. dangling_same k s t new_s new_t q (same_s q e) (λ v at. dangles_same (goal_of (k.key v)) new_t t (λ g goal. others q v g e at goal))))
      (made_rest P t new_t (kept_at k s t) (kept_at k new_s new_t) t_rise new_t_rise (no_kept k s t) (no_kept k new_s new_t)
      (λ q e. kept_at_same k s t new_s new_t q (same_s q e) (same_t q e) (λ u at. rest_refs q u e at)))

  -- what JOIN keeps beside R
  pub join_rest : (r new_r : Rows) → RiseFrom 0 t → RiseFrom 0 new_t → RiseFrom 0 r → RiseFrom 0 new_r → ((q : ℕ) → P q ≡ false → row_of new_r q ≡ row_of r q)
      → only (λ q. not (P q)) (join_aux_from k new_s new_t new_r) ≡ only (λ q. not (P q)) (join_aux_from k s t r)
  join_rest r new_r t_rise new_t_rise r_rise new_r_rise same_r =
      three_same
      (made_rest P r new_r (key_here k s r) (key_here k new_s new_r) r_rise new_r_rise (no_key k s r) (no_key k new_s new_r)
      (λ q e. key_same k s r new_s new_r q (same_s q e) (same_r q e)))
      (made_rest P s new_s (unjoined_here s r) (unjoined_here new_s new_r) s_rise new_rise (no_unjoined s r) (no_unjoined new_s new_r)
      (λ q e. unjoined_same s r new_s new_r q (same_s q e) (same_r q e)))
      (made_rest P t new_t (unreferred_here k s t) (unreferred_here k new_s new_t) t_rise new_t_rise (no_unreferred k s t) (no_unreferred k new_s new_t)
      (λ q e. unreferred_same k s t new_s new_t q (same_t q e) (λ u at. rest_refs q u e at)))
