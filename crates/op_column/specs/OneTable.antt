-- Sides with one table, at one identifier.
use Rattle.std.specs.Prelude.{◌≡◌, ℕ, List, [], ◌∷◌, length, refl}
use Rattle.std.proofs.Common.{subst}
use Rattle.op_law.specs.Tables.{Heading, widths}
use Rattle.op_rows.specs.Cells.{Cells, first_cell, CellWide, AreCellsOf, CellSound, CellsSound}

-- what a side with one table has: one cell, and a row in it has so many values
pub record OneCell (width : ℕ) (cs : Cells) : Type 0 where
  pub is : first_cell cs ∷ [] ≡ cs
  pub wide : CellWide width (first_cell cs)

-- the cells of such a side
pub one_cell : (width : ℕ) (hs : List Heading) (cs : Cells) → widths hs ≡ width ∷ [] → AreCellsOf hs cs → OneCell width cs
one_cell width [] cs e h = absurd (cc)
one_cell width (k ∷ []) [] e h = absurd h
one_cell width (k ∷ []) (c ∷ []) e h =
    let same : length k.columns ≡ width = cc in
    record { is = refl; wide = subst (λ (w : ℕ). CellWide w c) same h.0 }
one_cell width (k ∷ []) (c ∷ (d ∷ ds)) e h = absurd h.1
one_cell width (k ∷ (l ∷ ls)) cs e h = absurd (cc)

-- and such cells are of that side
pub one_wide : (width : ℕ) (hs : List Heading) (cs : Cells) → widths hs ≡ width ∷ [] → OneCell width cs → AreCellsOf hs cs
one_wide width [] cs e one = absurd (cc)
one_wide width (k ∷ []) [] e one = absurd (cc)
one_wide width (k ∷ []) (c ∷ []) e one =
    let same : width ≡ length k.columns = cc in
    (subst (λ (w : ℕ). CellWide w c) same one.wide, tt)
one_wide width (k ∷ []) (c ∷ (d ∷ ds)) e one = let is = one.is in absurd (cc)
one_wide width (k ∷ (l ∷ ls)) cs e one = absurd (cc)

-- there is one table
pub one_long : (width : ℕ) (hs : List Heading) → widths hs ≡ width ∷ [] → length hs ≡ 1
one_long width [] e = absurd (cc)
one_long width (k ∷ []) e = refl
one_long width (k ∷ (l ∷ ls)) e = absurd (cc)

-- a sound side has a sound first cell
pub first_sound : (n : ℕ) (cs : Cells) → CellsSound n cs → CellSound n (first_cell cs)
first_sound n [] sound = tt
first_sound n (c ∷ cs) sound = sound.0

-- a side without tables has no cell
pub no_cell : (hs : List Heading) (cs : Cells) → hs ≡ [] → AreCellsOf hs cs → cs ≡ []
no_cell [] [] e h = refl
no_cell [] (c ∷ cs) e h = absurd h
no_cell (k ∷ ks) cs e h = absurd (cc)

-- and none is what it may have
pub no_cell_wide : (hs : List Heading) → hs ≡ [] → AreCellsOf hs []
no_cell_wide [] e = tt
no_cell_wide (k ∷ ks) e = absurd (cc)
