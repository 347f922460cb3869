-- A check and then another give something where both do.
use Rattle.std.proofs.Common.{◌≡◌, Ok, Err, refl, ap}
use Rattle.par_base.specs.declared.refusal.Refusal.{Refusal}
use Rattle.par_base.specs.Checked.{Checked, ◌then◌}

pub both_give : {A B : Type 0} (c : Checked A) (f : A → Checked B) (y : B) → (c then f) ≡ Ok y → (x : A) × (c ≡ Ok x) × (f x ≡ Ok y)
both_give (Ok x) f y e = (x, refl, e)
both_give (Err r) f y e = absurd (cc)

pub then_is : {A B : Type 0} (c : Checked A) (f : A → Checked B) (x : A) → c ≡ Ok x → (c then f) ≡ f x
then_is c f x e = ap (λ r. r then f) e

pub then_fails : {A B : Type 0} (c : Checked A) (f : A → Checked B) (r : Refusal) → c ≡ Err r → (c then f) ≡ Err r
then_fails c f r e = ap (λ k. k then f) e

abbrev given : {A : Type 0} → A → Checked A
given x = Ok x

pub ok_is : {A : Type 0} (x y : A) → given x ≡ given y → x ≡ y
ok_is x y e = cc
