-- Identifiers that are found in a list, and changes that name none but some.
use Rattle.std.specs.Prelude.{◌==◌, if◌then◌else◌}
use Rattle.std.specs.Option.{option_map_or}
use Rattle.std.proofs.Common.{◌≡◌, ℕ, ◌+◌, ◌<◌, zero, suc, List, [], ◌∷◌, ◌++◌, Bool, true, false, length, take, get_or, Option, refl, sym, ◌∙◌, subst, arith}
use Rattle.std.proofs.lemmas.Bool.{eq-eqb, false≢true}
use Rattle.std.proofs.lemmas.List.{take_more}
use Rattle.row_store.specs.declared.change.Change.{Change}
use Rattle.op_law.specs.Identifiers.{has_id}
use Rattle.row_changes.specs.Touched.{AllPass}
use Rattle.changes_walk.specs.Changing.{latest_changes}
use Rattle.version_model.specs.declared.numbered.Numbered.{Numbered}
use Rattle.version_model.specs.Kept.{latest_of}
use Rattle.version_model.proofs.NowLaws.{latest_push}
use Rattle.version_model.proofs.NumberedLaws.{looked}

-- one change more
pass_push : (P : ℕ → Bool) (cs : List Change) (c : Change) → AllPass P cs → P c.id ≡ true → AllPass P (cs ++ c ∷ [])
pass_push P [] c pass own = (own, tt)
pass_push P (d ∷ cs) c pass own = (pass.0, pass_push P cs c pass.1 own)

pub pass_more : (P : ℕ → Bool) (cs : List Change) (i : ℕ) (d : Change) → i < length cs → AllPass P (take i cs) → P (get_or cs i d).id ≡ true → AllPass P (take (i + 1) cs)
pass_more P cs i d within pass own = subst (λ (l : List Change). AllPass P l) (sym (take_more cs i d within)) (pass_push P (take i cs) (get_or cs i d) pass own)

-- the changes of one table more
pub all_more : (P : ℕ → Bool) (made : List (Numbered (List Change))) (i : ℕ) (d : Numbered (List Change)) → i < length made → ((t : ℕ) → AllPass P (latest_changes (take i made) t)) → AllPass P (get_or made i d).value
    → (t : ℕ) → AllPass P (latest_changes (take (i + 1) made) t)
all_more P made i d within pass own t =
    let c = get_or made i d in
    let M : Bool → Type 0 = λ b. AllPass P (option_map_or (λ (cs : List Change). cs) (looked b c (latest_of (take i made) t)) []) in
    subst (λ (l : List (Numbered (List Change))). AllPass P (latest_changes l t)) (sym (take_more made i d within))
    (subst (λ (o : Option (List Change)). AllPass P (option_map_or (λ (cs : List Change). cs) o [])) (sym (latest_push (take i made) c t))
    (elim (t == c.number) as M [ true ↦ own | false ↦ pass t ]))

-- what stands at a place of a list is one of it
pub found_has : (ids : List ℕ) (at d q : ℕ) → at < length ids → get_or ids at d ≡ q → has_id ids q ≡ true
found_has [] at d q within is = absurd (omega (arith, within))
found_has (x ∷ xs) zero d q within is = elim (x == q) as (λ b. (x == q) ≡ b → (if b then true else has_id xs q) ≡ true) [ true ↦ λ e. refl | false ↦ λ e. absurd (false≢true (sym e ∙ eq-eqb x q is)) ] refl
found_has (x ∷ xs) (suc at) d q within is = elim (x == q) as (λ b. (if b then true else has_id xs q) ≡ true) [ true ↦ refl | false ↦ found_has xs at d q (omega (arith, within)) is ]
