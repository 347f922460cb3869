-- The sides of SPLIT at one identifier: one source, and one target or two.
use Rattle.std.specs.Prelude.{◌≡◌, ℕ, List, [], ◌∷◌, length, Option, Some, None, refl}
use Rattle.std.proofs.Common.{subst}
use Rattle.expr_lang.specs.Terms.{Term}
use Rattle.op_law.specs.Tables.{Heading, widths}
use Rattle.op_rows.specs.Cells.{Cells, nth_cell, CellWide, AreCellsOf, CellSound, CellsSound}
use Rattle.row_parts.specs.RowCells.{Cell}

-- one for each target: without a second condition there is no second target
abbrev pub targets_of : {A : Type 0} → Option (Term ℕ) → A → A → List A
targets_of None a b = a ∷ []
targets_of (Some condition) a b = a ∷ b ∷ []

-- what the source has: one cell, and a row in it has so many values
pub record SourceCells (width : ℕ) (cs : Cells) : Type 0 where
  pub is : nth_cell 0 cs ∷ [] ≡ cs
  pub wide : CellWide width (nth_cell 0 cs)

-- what the targets have
pub record TargetCells (second : Option (Term ℕ)) (width : ℕ) (cs : Cells) : Type 0 where
  pub is : targets_of second (nth_cell 0 cs) (nth_cell 1 cs) ≡ cs
  pub first_wide : CellWide width (nth_cell 0 cs)
  pub second_wide : CellWide width (nth_cell 1 cs)
  pub none_second : second ≡ None → nth_cell 1 cs ≡ None

-- the cells of such sides
pub source_cells : (width : ℕ) (hs : List Heading) (cs : Cells) → widths hs ≡ width ∷ [] → AreCellsOf hs cs → SourceCells width cs
source_cells width [] cs e h = absurd (cc)
source_cells width (k ∷ []) [] e h = absurd h
source_cells width (k ∷ []) (c ∷ []) e h =
    let same : length k.columns ≡ width = cc in
    record { is = refl; wide = subst (λ (w : ℕ). CellWide w c) same h.0 }
source_cells width (k ∷ []) (c ∷ (d ∷ ds)) e h = absurd h.1
source_cells width (k ∷ (l ∷ ls)) cs e h = absurd (cc)

pub target_cells : (second : Option (Term ℕ)) (width : ℕ) (ht : List Heading) (cs : Cells) → widths ht ≡ targets_of second width width → AreCellsOf ht cs → TargetCells second width cs
target_cells None width [] cs e h = absurd (cc)
target_cells None width (k ∷ []) [] e h = absurd h
target_cells None width (k ∷ []) (c ∷ []) e h =
    let same : length k.columns ≡ width = cc in
    record { is = refl; first_wide = subst (λ (w : ℕ). CellWide w c) same h.0; second_wide = tt; none_second = λ none. refl }
target_cells None width (k ∷ []) (c ∷ (d ∷ ds)) e h = absurd h.1
target_cells None width (k ∷ (l ∷ ls)) cs e h = absurd (cc)
target_cells (Some q) width [] cs e h = absurd (cc)
target_cells (Some q) width (k ∷ []) cs e h = absurd (cc)
target_cells (Some q) width (k ∷ (l ∷ [])) [] e h = absurd h
target_cells (Some q) width (k ∷ (l ∷ [])) (c ∷ []) e h = absurd h.1
target_cells (Some q) width (k ∷ (l ∷ [])) (c ∷ (d ∷ [])) e h =
    let same : length k.columns ≡ width = cc in
    let other : length l.columns ≡ width = cc in
    record { is = refl; first_wide = subst (λ (w : ℕ). CellWide w c) same h.0; second_wide = subst (λ (w : ℕ). CellWide w d) other h.1.0; none_second = λ none. absurd (cc) }
target_cells (Some q) width (k ∷ (l ∷ [])) (c ∷ (d ∷ (x ∷ xs))) e h = absurd h.1.1
target_cells (Some q) width (k ∷ (l ∷ (m ∷ ms))) cs e h = absurd (cc)

-- and such cells are of these sides
pub source_wide : (width : ℕ) (hs : List Heading) (c : Cell) → widths hs ≡ width ∷ [] → CellWide width c → AreCellsOf hs (c ∷ [])
source_wide width [] c e wide = absurd (cc)
source_wide width (k ∷ []) c e wide =
    let same : width ≡ length k.columns = cc in
    (subst (λ (w : ℕ). CellWide w c) same wide, tt)
source_wide width (k ∷ (l ∷ ls)) c e wide = absurd (cc)

pub target_wide : (second : Option (Term ℕ)) (width : ℕ) (ht : List Heading) (r s : Cell) → widths ht ≡ targets_of second width width → CellWide width r → CellWide width s → AreCellsOf ht (targets_of second r s)
target_wide None width [] r s e wide other_wide = absurd (cc)
target_wide None width (k ∷ []) r s e wide other_wide =
    let same : width ≡ length k.columns = cc in
    (subst (λ (w : ℕ). CellWide w r) same wide, tt)
target_wide None width (k ∷ (l ∷ ls)) r s e wide other_wide = absurd (cc)
target_wide (Some q) width [] r s e wide other_wide = absurd (cc)
target_wide (Some q) width (k ∷ []) r s e wide other_wide = absurd (cc)
target_wide (Some q) width (k ∷ (l ∷ [])) r s e wide other_wide =
    let same : width ≡ length k.columns = cc in
    let other : width ≡ length l.columns = cc in
    (subst (λ (w : ℕ). CellWide w r) same wide, (subst (λ (w : ℕ). CellWide w s) other other_wide, tt))
target_wide (Some q) width (k ∷ (l ∷ (m ∷ ms))) r s e wide other_wide = absurd (cc)

-- sound cells are a sound side
pub targets_sound : (second : Option (Term ℕ)) (n : ℕ) (r s : Cell) → CellSound n r → CellSound n s → CellsSound n (targets_of second r s)
targets_sound None n r s sound other = (sound, tt)
targets_sound (Some q) n r s sound other = (sound, (other, tt))

-- how many tables there are
pub source_long : (width : ℕ) (hs : List Heading) → widths hs ≡ width ∷ [] → length hs ≡ 1
source_long width [] e = absurd (cc)
source_long width (k ∷ []) e = refl
source_long width (k ∷ (l ∷ ls)) e = absurd (cc)

pub target_long : (second : Option (Term ℕ)) (width : ℕ) (ht : List Heading) → widths ht ≡ targets_of second width width → length ht ≡ length (targets_of second width width)
target_long None width [] e = absurd (cc)
target_long None width (k ∷ []) e = refl
target_long None width (k ∷ (l ∷ ls)) e = absurd (cc)
target_long (Some q) width [] e = absurd (cc)
target_long (Some q) width (k ∷ []) e = absurd (cc)
target_long (Some q) width (k ∷ (l ∷ [])) e = refl
target_long (Some q) width (k ∷ (l ∷ (m ∷ ms))) e = absurd (cc)
