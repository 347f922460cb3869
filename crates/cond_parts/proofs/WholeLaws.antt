-- All identifiers together are closed.
use Rattle.std.proofs.Common.{◌≡◌, ℕ, [], ◌∷◌, List, Bool, true, not, refl, ap, ◌∙◌}
use Rattle.std.proofs.lemmas.Bool.{cases_lt, false≢true}
use mathlib.Core.Logic.{inl, inr}
use Rattle.id_memory.specs.Pairs.{Pairs}
use Rattle.pair_rows.specs.Halves.{first_of, second_of}
use Rattle.pair_rows.specs.Stays.{stands}
use Rattle.operator_changes.proofs.DrawnLemmas.{over_passes}
use Rattle.operator_changes.specs.Footprint.{passes}
use Rattle.row_changes.specs.Changed.{TableChanges}
use Rattle.pair_parts.specs.Parts.{memory_only}
use Rattle.cond_parts.specs.Whole.{AllAreClosed, AreAll}

-- each passes
pub all_pass : (near : TableChanges) (n : ℕ) (ids : List ℕ) → AreAll near n ids → (q : ℕ) → passes ids n q ≡ true
all_pass near n ids are q = elim (cases_lt q n) [ inl low ↦ let own = are.all q low in rw own refl | inr high ↦ over_passes ids n q high ]

-- so none doesn't
pub none_out : (P : ℕ → Bool) (pick : ℕ × ℕ × ℕ → ℕ) (m : Pairs) (q : ℕ) → ((i : ℕ) → P i ≡ true) → stands pick (memory_only (λ i. not (P i)) m) q ≡ true → ⊥
none_out P pick [] q all e = false≢true e
none_out P pick (x ∷ xs) q all e = let pass = all x.0 in let rest : stands pick (memory_only (λ i. not (P i)) xs) q ≡ true = rw pass at e in none_out P pick xs q all rest

-- and the part is the whole
pub memory_all : (P : ℕ → Bool) (m : Pairs) → ((i : ℕ) → P i ≡ true) → memory_only P m ≡ m
memory_all P [] all = refl
memory_all P (x ∷ xs) all = let pass = all x.0 in rw pass (ap (λ (es : Pairs). x ∷ es) (memory_all P xs all))

-- THE WHOLE IS CLOSED
pub all_are_closed : AllAreClosed
all_are_closed j near p n ids are =
    let all = all_pass near n ids are in
    let same = memory_all (passes ids n) p.memory all in
    record {
      pair = record { rows = λ id a b at pass. (all a, all b); first = λ q pass e. ap (λ (es : Pairs). stands first_of es q) same ∙ e; second = λ q pass e. ap (λ (es : Pairs). stands second_of es q) same ∙ e };
      forward = record {
        rise = are.rise;
        touches = are.touches;
        brings = record { rows = λ id a b at pass. (all a, all b); entries = λ id a b at pass. all id; first = λ a b u match. all b; second = λ a b u match. all a };
      };
      first = λ q pass e. absurd (none_out (passes ids n) first_of p.memory q all e);
      second = λ q pass e. absurd (none_out (passes ids n) second_of p.memory q all e);
      backward = record {
        rise = are.rise;
        touches = are.touches;
        brings = record {
          rows = λ id a b at pass. (all a, all b);
          first_still = λ q pass e. absurd (none_out (passes ids n) first_of p.memory q all e);
          second_still = λ q pass e. absurd (none_out (passes ids n) second_of p.memory q all e);
          first = λ id row a u at is. all a;
          second = λ id row b u at is. all b;
          pairs = λ id row a b entry u at one two is. all entry;
        };
      };
    }
