-- Look-ups: tables are what they have at each identifier.
use Rattle.std.specs.Prelude.{nat_lt}
use Rattle.std.proofs.Common.{◌≡◌, ℕ, zero, suc, ◌+◌, ◌==◌, List, [], ◌∷◌, Bool, true, false, cond, length, Option, None, refl, ap, sym, ◌∙◌, arith}
use Rattle.std.proofs.lemmas.Bool.Decides.{nat_tests}
use Rattle.std.proofs.lemmas.Bool.{cases_order}
use mathlib.Core.Logic.{inl, inr}
use Rattle.par_base.specs.declared.value.Value.{Value}
use Rattle.row_store.specs.Rows.{Rows, RiseFrom, row_of}
use Rattle.row_store.proofs.UndoLaws.{ext}
use Rattle.op_law.specs.Tables.{Tables}
pub use Rattle.op_law.specs.Tables.{AllRise}
use Rattle.op_law.specs.Sound.{IsBelow, RowsSound, TablesSound}
use Rattle.op_law.specs.Identifiers.{put_id, ids_in, ids_over}
pub use Rattle.op_law.specs.Identifiers.{has_id, IdsRise}
pub use Rattle.op_law.proofs.IdentifierLaws.{has_put, rise_put}
use Rattle.op_rows.specs.Cells.{Cells, cells_at, nones, nth_cell, first_cell, other_cells, CellSound, CellsSound}

abbrev pub IdsBelow : ℕ → List ℕ → Type 0
IdsBelow n [] = Unit {0}
IdsBelow n (x ∷ xs) = IsBelow n x × IdsBelow n xs

-- the same of sides
pub ext_all : (s t : Tables) → AllRise s → AllRise t → ((id : ℕ) → cells_at s id ≡ cells_at t id) → s ≡ t
ext_all [] [] rise_s rise_t same = refl
ext_all [] (t ∷ ts) rise_s rise_t same = let e = same 0 in absurd (cc)
ext_all (s ∷ ss) [] rise_s rise_t same = let e = same 0 in absurd (cc)
ext_all (s ∷ ss) (t ∷ ts) rise_s rise_t same =
    let head : s ≡ t = ext 0 s t rise_s.0 rise_t.0 (λ id. ap first_cell (same id)) in
    let tail : ss ≡ ts = ext_all ss ts rise_s.1 rise_t.1 (λ id. ap other_cells (same id)) in
    cc

-- a sound side has sound cells
pub nth_sound : (n at : ℕ) (cs : Cells) → CellsSound n cs → CellSound n (nth_cell at cs)
nth_sound n at [] sound = tt
nth_sound n zero (c ∷ cs) sound = sound.0
nth_sound n (suc at) (c ∷ cs) sound = nth_sound n at cs sound.1

pub below_put : (n i : ℕ) (xs : List ℕ) → IsBelow n i → IdsBelow n xs → IdsBelow n (put_id i xs)
below_put n i [] h all = (h, tt)
below_put n i (x ∷ xs) h all =
    elim (cases_order i x) [
      | inl e ↦
          let no : nat_lt i x ≡ false = grind (arith, nat_tests) in
          let yes : (i == x) ≡ true = grind (arith, nat_tests) in
          rw (no, yes) all
      | inr (inl k) ↦
          let yes : nat_lt i x ≡ true = grind (arith, nat_tests) in
          rw yes (h, all)
      | inr (inr k) ↦
          let no : nat_lt i x ≡ false = grind (arith, nat_tests) in
          let other : (i == x) ≡ false = grind (arith, nat_tests) in
          rw (no, other) (all.0, below_put n i xs h all.1)
    ]

pub rise_in : (n : ℕ) (rows : Rows) (ids : List ℕ) → RiseFrom n rows → IdsRise 0 ids → IdsRise 0 (ids_in rows ids)
rise_in n [] ids rise h = h
rise_in n (r ∷ rs) ids rise h = rise_put 0 r.0 (ids_in rs ids) (omega arith) (rise_in (r.0 + 1) rs ids rise.1 h)

pub rise_ids : (ts : Tables) (ids : List ℕ) → AllRise ts → IdsRise 0 ids → IdsRise 0 (ids_over ts ids)
rise_ids [] ids rise h = h
rise_ids (t ∷ ts) ids rise h = rise_ids ts (ids_in t ids) rise.1 (rise_in 0 t ids rise.0 h)

below_in : (n : ℕ) (rows : Rows) (ids : List ℕ) → RowsSound n rows → IdsBelow n ids → IdsBelow n (ids_in rows ids)
below_in n [] ids b h = h
below_in n (r ∷ rs) ids b h = below_put n r.0 (ids_in rs ids) b.0.0 (below_in n rs ids b.1 h)

pub below_ids : (n : ℕ) (ts : Tables) (ids : List ℕ) → TablesSound n ts → IdsBelow n ids → IdsBelow n (ids_over ts ids)
below_ids n [] ids b h = h
below_ids n (t ∷ ts) ids b h = below_ids n ts (ids_in t ids) b.1 (below_in n t ids b.0 h)

or_parts_of : (a b : Bool) → cond a true b ≡ false → (a ≡ false) × (b ≡ false)
or_parts_of true b e = absurd (cc)
or_parts_of false b e = (refl, e)

none_in : (rows : Rows) (ids : List ℕ) (id : ℕ) → has_id (ids_in rows ids) id ≡ false → (row_of rows id ≡ None) × (has_id ids id ≡ false)
none_in [] ids id h = (refl, h)
none_in (r ∷ rs) ids id h =
    let parts = or_parts_of (r.0 == id) (has_id (ids_in rs ids) id) (sym (has_put r.0 (ids_in rs ids) id) ∙ h) in
    let rest = none_in rs ids id parts.1 in
    let other = parts.0 in
    (rw other rest.0, rest.1)

-- an identifier that isn't listed has nothing
pub none_at : (ts : Tables) (ids : List ℕ) (id : ℕ) → has_id (ids_over ts ids) id ≡ false → (cells_at ts id ≡ nones (length ts)) × (has_id ids id ≡ false)
none_at [] ids id h = (refl, h)
none_at (t ∷ ts) ids id h =
    let rest = none_at ts (ids_in t ids) id h in
    let first = none_in t ids id rest.1 in
    (ap (λ (c : Option (List Value)). c ∷ cells_at ts id) first.0 ∙ ap (λ (cs : Cells). None ∷ cs) rest.0, first.1)
