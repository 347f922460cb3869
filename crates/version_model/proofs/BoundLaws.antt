-- Steps of crossings over operators that treat each identifier by itself, where some identifiers alone have rows.
use Rattle.std.proofs.Common.{◌≡◌, ℕ, ◌+◌, ◌*◌, ◌≤◌, List, [], ◌∷◌, Bool, true, false, map, refl, arith}
use Rattle.std.proofs.lemmas.Nat.{mul-le}
use Rattle.row_store.specs.Rows.{Rows}
use Rattle.op_law.specs.Identifiers.{has_id}
use Rattle.op_law.specs.Local.{rows_only}
use Rattle.op_law.specs.Meaning.{Meaning}
use Rattle.version_model.specs.Bounds.{AreAmong}
use Rattle.version_model.specs.Steps.{directed}

-- a crossing either way over an operator that treats each identifier by itself
pub way_local : (backward : Bool) (m : Meaning) → m.is_local ≡ true → (directed backward m).is_local ≡ true
way_local false m h = h
way_local true m h = h

module _ (ids : List ℕ) where
  abbrev P : ℕ → Bool
  P = has_id ids

  -- the tables under some numbers
  pub side_among : (f : ℕ → Rows) (ns : List ℕ) → ((t : ℕ) → rows_only P (f t) ≡ f t) → AreAmong ids (map f ns)
  side_among f [] h = refl
  side_among f (n ∷ ns) h =
      let one = h n in
      let rest = side_among f ns h in
      cc

-- so many steps for one crossing more
pub one_step_more : (a n i s e : ℕ) → e ≤ s + 6 * n → s ≤ a + 6 * (n * i) → e ≤ a + 6 * (n * (i + 1))
one_step_more a n i s e h k = grind (arith, h, k)

-- and for some of all crossings
pub some_steps : (a n i l s : ℕ) → s ≤ a + 6 * (n * i) → i ≤ l → s ≤ a + 6 * (n * l)
some_steps a n i l s h k =
    let most = mul-le n i n l (omega arith) k in
    omega (arith, h, most)
