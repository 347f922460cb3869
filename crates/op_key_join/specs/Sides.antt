-- Sides of one table and of two, at one identifier.
use Rattle.std.specs.Prelude.{◌≡◌, ℕ, List, [], ◌∷◌, length, refl}
use Rattle.std.proofs.Common.{sym, subst}
use Rattle.op_law.specs.Tables.{Heading}
use Rattle.op_rows.specs.Cells.{Cells, nth_cell, CellWide, AreCellsOf}
use Rattle.row_parts.specs.RowCells.{Cell}

-- what a side with one table has: one cell, and a row in it has so many values
pub record OneCell (width : ℕ) (cs : Cells) : Type 0 where
  pub is : nth_cell 0 cs ∷ [] ≡ cs
  pub wide : CellWide width (nth_cell 0 cs)

-- what a side with two tables has
pub record TwoCells (first second : ℕ) (cs : Cells) : Type 0 where
  pub is : nth_cell 0 cs ∷ nth_cell 1 cs ∷ [] ≡ cs
  pub first_wide : CellWide first (nth_cell 0 cs)
  pub second_wide : CellWide second (nth_cell 1 cs)

-- the cells of a table, and of two
cells_one : (h : Heading) (cs : Cells) → AreCellsOf (h ∷ []) cs → OneCell (length h.columns) cs
cells_one h [] of = absurd of
cells_one h (c ∷ []) of = record { is = refl; wide = of.0 }
cells_one h (c ∷ (d ∷ ds)) of = absurd of.1

cells_two : (h k : Heading) (cs : Cells) → AreCellsOf (h ∷ k ∷ []) cs → TwoCells (length h.columns) (length k.columns) cs
cells_two h k [] of = absurd of
cells_two h k (c ∷ []) of = absurd of.1
cells_two h k (c ∷ (d ∷ [])) of = record { is = refl; first_wide = of.0; second_wide = of.1.0 }
cells_two h k (c ∷ (d ∷ (e ∷ es))) of = absurd of.1.1

-- the cells of a side with one table of so many columns
pub one_cell : (width : ℕ) (h : Heading) (hs : List Heading) (cs : Cells) → hs ≡ h ∷ [] → length h.columns ≡ width → AreCellsOf hs cs → OneCell width cs
one_cell width h hs cs is wide of =
    subst (λ (w : ℕ). OneCell w cs) wide (cells_one h cs (subst (λ (k : List Heading). AreCellsOf k cs) is of))

pub two_cells : (first second : ℕ) (h k : Heading) (hs : List Heading) (cs : Cells) → hs ≡ h ∷ k ∷ [] → length h.columns ≡ first → length k.columns ≡ second → AreCellsOf hs cs → TwoCells first second cs
two_cells first second h k hs cs is wide other of =
    subst (λ (w : ℕ). TwoCells first w cs) other
    (subst (λ (w : ℕ). TwoCells w (length k.columns) cs) wide (cells_two h k cs (subst (λ (l : List Heading). AreCellsOf l cs) is of)))

-- and such cells are of that side
pub one_wide : (width : ℕ) (h : Heading) (hs : List Heading) (c : Cell) → hs ≡ h ∷ [] → length h.columns ≡ width → CellWide width c → AreCellsOf hs (c ∷ [])
one_wide width h hs c is wide of =
    subst (λ (k : List Heading). AreCellsOf k (c ∷ [])) (sym is) (subst (λ (w : ℕ). CellWide w c) (sym wide) of, tt)

pub two_wide : (first second : ℕ) (h k : Heading) (hs : List Heading) (c d : Cell) → hs ≡ h ∷ k ∷ [] → length h.columns ≡ first → length k.columns ≡ second → CellWide first c → CellWide second d → AreCellsOf hs (c ∷ d ∷ [])
two_wide first second h k hs c d is wide other of rest =
    subst (λ (l : List Heading). AreCellsOf l (c ∷ d ∷ [])) (sym is)
    (subst (λ (w : ℕ). CellWide w c) (sym wide) of, (subst (λ (w : ℕ). CellWide w d) (sym other) rest, tt))

-- equal cells of both tables
pub both_cells : (a b c d : Cell) → a ≡ c → b ≡ d → a ∷ b ∷ [] ≡ c ∷ d ∷ []
both_cells a b c d is other = rw (is, other) refl
