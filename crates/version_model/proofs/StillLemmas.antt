-- A write of what stands there changes nothing.
use Rattle.std.proofs.Common.{◌≡◌, ℕ, List, [], ◌∷◌, true, false, cond, refl, sym, ap, ◌∙◌, map, arith}
use Rattle.std.specs.Prelude.{◌==◌}
use Rattle.std.proofs.lemmas.Bool.{eqb-true}
use Rattle.version_graph.specs.Sets.{Each}
use Rattle.version_graph.specs.Forest.{Crossing, forest, walk}
use Rattle.version_graph.specs.declared.parts.Placed.{Placed}
use Rattle.op_law.specs.Meaning.{Meaning, Mapped}
use Rattle.op_law.specs.Laws.{Laws}
use Rattle.version_model.specs.Put.{put}
use Rattle.version_model.specs.States.{State, headings}
use Rattle.version_model.specs.Sound.{IsSound}
use Rattle.version_model.specs.Steps.{after, mapped, pair_in, run}
use Rattle.version_model.specs.Writes.{write, written}
use Rattle.version_model.proofs.ProgressLaws.{state_is}
use Rattle.version_model.proofs.RunLaws.{IsReady, may_cross, way_laws}
use Rattle.version_model.proofs.WriteLaws.{walk_is_ready}

-- own values put at their numbers change no value
put_own_at : {A : Type 0} (f : ℕ → A) (ks : List ℕ) (n : ℕ) → put f ks (map f ks) n ≡ f n
put_own_at f [] n = refl
put_own_at f (k ∷ ks) n =
    (elim (n == k) as (λ b. (n == k) ≡ b → cond b (f k) (put f ks (map f ks) n) ≡ f n) [
      | true ↦ λ is. ap f (sym (eqb-true n k is))
      | false ↦ λ is. put_own_at f ks n
    ]) refl

put_own : {A : Type 0} (f : ℕ → A) (ks : List ℕ) → put f ks (map f ks) ≡ f
put_own f ks = λ j n. put_own_at f ks n j

module _ {O : Type 0} (meaning : O → Meaning) (laws : (o : O) → Laws (meaning o)) (es : List (Placed O)) (s : State) (sound : IsSound meaning es s) where
  -- what a crossing maps to is what stands there
  mapped_still : (p : Crossing O) → IsReady meaning (headings es) s p → mapped meaning s s p ≡ record { far = map s.tables p.far; memory = s.memory p.number; next = s.next }
  mapped_still p ready =
      (way_laws p.backward (meaning p.operator) (laws p.operator)).still (map (headings es) p.near) (map (headings es) p.far) (pair_in s p) s.next
      (may_cross meaning laws (headings es) s sound.well s p sound.well (omega arith) ready)

  after_still : (p : Crossing O) → IsReady meaning (headings es) s p → after meaning s s p ≡ s
  after_still p ready =
      ap (λ (to : Mapped). record { tables = put s.tables p.far to.far; memory = put s.memory (p.number ∷ []) (to.memory ∷ []); next = to.next }) (mapped_still p ready)
      ∙ state_is (put s.tables p.far (map s.tables p.far)) s.tables (put s.memory (p.number ∷ []) (s.memory p.number ∷ [])) s.memory s.next s.next (put_own s.tables p.far) (put_own s.memory (p.number ∷ [])) refl

  run_still : (ps : List (Crossing O)) → Each (IsReady meaning (headings es) s) ps → run meaning s s ps ≡ s
  run_still [] ready = refl
  run_still (p ∷ ps) ready = ap (λ (now : State). run meaning s now ps) (after_still p ready.0) ∙ run_still ps ready.1

  -- A WRITE OF WHAT STANDS THERE IS STILL
  pub write_still : (w t : ℕ) → write meaning es s w t (s.tables t) s.next ≡ s
  write_still w t =
      let same : written s t (s.tables t) s.next ≡ s = state_is (put s.tables (t ∷ []) (s.tables t ∷ [])) s.tables s.memory s.memory s.next s.next (put_own s.tables (t ∷ [])) refl refl in
      ap (λ (now : State). run meaning s now (walk (forest es) w)) same ∙ run_still (walk (forest es) w) (walk_is_ready meaning es s sound w)
