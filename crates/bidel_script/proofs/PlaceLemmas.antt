-- Lines and columns.
use Rattle.std.proofs.Common.{◌≡◌, ◌+◌, ◌<◌, ◌≤◌, ◌≢◌, ℕ, suc, List, Bool, inl, inr, sym, ap, ◌∙◌, length, drop, get_or, arith}
use Rattle.std.specs.Prelude.{if◌then◌else◌}
use Rattle.std.proofs.lemmas.Bool.Decides.{eqb_tells}
use Rattle.std.proofs.Math.ListN.{drop_of_length-le}
use Rattle.std.proofs.Math.Seq.{drop-cons}
use Rattle.bidel_script.specs.Places.{Place, behind, behind_all}

-- the place behind the bytes from one on is that behind the bytes after it, from the place behind that byte
pub behind_all-drop : (place : Place) (bytes : List ℕ) (at : ℕ) → at < length bytes
    → behind_all place (drop at bytes) ≡ behind_all (behind place (get_or bytes at 0)) (drop (at + 1) bytes)
unfolding behind_all
behind_all-drop place bytes at h =
    let one : suc at ≡ at + 1 = omega arith in
    ap (behind_all place) (drop-cons bytes at 0 h) ∙ ap (λ (n : ℕ). behind_all (behind place (get_or bytes at 0)) (drop n bytes)) one

-- a step over a byte
step : (place next : Place) (bytes : List ℕ) (at : ℕ) (whole : Place) → at < length bytes → behind place (get_or bytes at 0) ≡ next
    → behind_all place (drop at bytes) ≡ whole → behind_all next (drop (at + 1) bytes) ≡ whole
step place next bytes at whole h e w =
    ap (λ (p : Place). behind_all p (drop (at + 1) bytes)) (sym e) ∙ sym (behind_all-drop place bytes at h) ∙ w

-- over a line feed
pub step_feed : (line column : ℕ) (bytes : List ℕ) (at : ℕ) (whole : Place) → at < length bytes → get_or bytes at 0 ≡ 10
    → behind_all (record { line = line; column = column }) (drop at bytes) ≡ whole
    → behind_all (record { line = line + 1; column = 1 }) (drop (at + 1) bytes) ≡ whole
step_feed line column bytes at whole h e w =
    step (record { line = line; column = column }) (record { line = line + 1; column = 1 }) bytes at whole h
    (ap (behind (record { line = line; column = column })) e) w

-- over another byte
pub step_on : (line column : ℕ) (bytes : List ℕ) (at : ℕ) (whole : Place) → at < length bytes → get_or bytes at 0 ≢ 10
    → behind_all (record { line = line; column = column }) (drop at bytes) ≡ whole
    → behind_all (record { line = line; column = column + 1 }) (drop (at + 1) bytes) ≡ whole
step_on line column bytes at whole h e w =
    step (record { line = line; column = column }) (record { line = line; column = column + 1 }) bytes at whole h
    (other (get_or bytes at 0) e) w
  where
    other : (b : ℕ) → b ≢ 10 → behind (record { line = line; column = column }) b ≡ record { line = line; column = column + 1 }
    other b ne = elim (eqb_tells b 10) [
      | inl k ↦ absurd (ne k.1)
      | inr k ↦ ap (λ (t : Bool). if t then record { line = line + 1; column = 1 } else record { line = line; column = column + 1 }) k.0
    ]

-- at the end of the bytes
pub at_end : (line column : ℕ) (bytes : List ℕ) (at : ℕ) (whole : Place) → length bytes ≤ at
    → behind_all (record { line = line; column = column }) (drop at bytes) ≡ whole → (line ≡ whole.line) × (column ≡ whole.column)
unfolding behind_all
at_end line column bytes at whole h e =
    let all : record { line = line; column = column } ≡ whole =
    sym (ap (behind_all (record { line = line; column = column })) (drop_of_length-le bytes h)) ∙ e in
    (ap (λ (p : Place). p.line) all, ap (λ (p : Place). p.column) all)
