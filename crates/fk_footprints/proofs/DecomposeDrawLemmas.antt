-- DECOMPOSE ON FK, from R: the mapping of a part is the part of the mapping.
use Rattle.std.proofs.Common.{◌≡◌, ℕ, ◌+◌, List, [], ◌∷◌, Bool, true, false, not, ◌&&◌, ◌||◌, cond, Option, Some, None, refl, ap, sym, ◌∙◌}
use Rattle.par_base.specs.declared.value.Value.{Value}
use Rattle.par_base.specs.declared.value.Value.TheVariants.{Null, Reference}
use Rattle.par_base.specs.SameRows.{same_row}
use Rattle.row_store.specs.Rows.{Rows, RiseFrom, row_of}
use Rattle.op_law.specs.Identifiers.{has_id, ids_over}
use Rattle.op_law.specs.Local.{rows_only}
use Rattle.op_law.proofs.OnlyLaws.{row_in, row_out, rise_only}
use Rattle.op_rows.specs.Cells.{first_cell, other_cells, table_from}
use Rattle.op_rows.specs.inner.CellLemmas.{none_at}
use Rattle.op_rows.specs.inner.Tabulated.{row_from}
use Rattle.row_parts.specs.RowCells.{Cell, is_there, or_else, kept_if, map_cell, in_cell, id_or, by_test}
use Rattle.op_tables.specs.Lookups.{one_at, one_rise, three_rise}
use Rattle.foreign_keys.specs.KeyParts.{FkParts}
use Rattle.foreign_keys.specs.References.{referred, far_part}
use Rattle.foreign_keys.specs.DrawnIds.{place}
use Rattle.foreign_keys.specs.Least.{least_with}
use Rattle.op_fk_decompose.specs.Decompose.{alone, may_share, least_in, how_in, how, draws_for, needs, ref, near_row, made_row, new_first, second_from, new_s, t_from}
use Rattle.op_fk_decompose.specs.inner.DecomposeKept.{alone_none, pick_new}
use Rattle.fk_footprints.specs.Closed.{BringsGoals}
use Rattle.fk_footprints.specs.DecomposeForward.{BringsShared}
use Rattle.fk_footprints.proofs.PartLemmas.{part_is}
use Rattle.fk_footprints.proofs.DecomposePartLemmas.{far_in, alone_in}

-- a table over the identifiers of three others
three_at : (a b c : Rows) (f : ℕ → Cell) (q : ℕ) → (row_of a q ≡ None → row_of b q ≡ None → row_of c q ≡ None → f q ≡ None) → row_of (table_from (ids_over (a ∷ b ∷ c ∷ []) []) f) q ≡ f q
three_at a b c f q h = row_from (ids_over (a ∷ b ∷ c ∷ []) []) f q ∙ by_test (has_id (ids_over (a ∷ b ∷ c ∷ []) []) q) (λ e. rw e refl)
    (λ e.
    let n = (none_at (a ∷ b ∷ c ∷ []) [] q e).0 in
    rw e (sym (h (ap first_cell n) (ap (λ (cs : List Cell). first_cell (other_cells cs)) n) (ap (λ (cs : List Cell). first_cell (other_cells (other_cells cs))) n))))

-- a part that has the least row of a value, of those that are meant, has it as the least
least_part : (P : ℕ → Bool) (meant part : ℕ → List Value → Bool) (rows : Rows) (b : List Value) → ((q : ℕ) (row : List Value) → P q ≡ true → part q row ≡ meant q row)
    → ((q : ℕ) → least_with meant rows b ≡ Some q → P q ≡ true) → least_with part (rows_only P rows) b ≡ least_with meant rows b
least_part P meant part [] b same brings = refl
least_part P meant part (r ∷ rs) b same brings =
    by_test (same_row r.1 b && meant r.0 r.1)
    (λ found.
    let here : P r.0 ≡ true = brings r.0 (rw found refl) in
    let also : (same_row r.1 b && part r.0 r.1) ≡ true = ap (λ (x : Bool). same_row r.1 b && x) (same r.0 r.1 here) ∙ found in
    rw here (rw found (rw also refl)))
    (λ other.
    let rest = least_part P meant part rs b same (λ q e. brings q (rw other e)) in
    by_test (P r.0)
    (λ here.
    let also : (same_row r.1 b && part r.0 r.1) ≡ false = ap (λ (x : Bool). same_row r.1 b && x) (same r.0 r.1 here) ∙ other in
    rw here (rw other (rw also rest)))
    (λ out. rw out (rw other rest)))

-- what isn't there isn't kept
kept_none : (b : Bool) → kept_if b None ≡ None
kept_none true = refl
kept_none false = refl

-- what is there is kept alike under tests that are the same then
kept_same : (a b : Bool) (c : Cell) → ((u : List Value) → c ≡ Some u → a ≡ b) → kept_if a c ≡ kept_if b c
kept_same a b None same = kept_none a ∙ sym (kept_none b)
kept_same a b (Some u) same = ap (λ (x : Bool). kept_if x (Some u)) (same u refl)

module _ (k : FkParts) where
  -- what new S and new T have
  pub first_at : (s t : Rows) (n : ℕ) (d : List (List Value)) (near : Rows) (p : ℕ) → row_of (new_s k s t n d near) p ≡ new_first k s t n d near p
  first_at s t n d near p = one_at near (new_first k s t n d near) p (λ e. ap (λ (c : Cell). in_cell c (made_row k s t n d p)) e)

  second_none : (s t made near ns : Rows) (q : ℕ) → row_of t q ≡ None → row_of made q ≡ None → second_from k s t made near ns q ≡ None
  second_none s t made near ns q e f = pick_new (alone k s t q) (referred k ns q || is_there (row_of ns q)) (map_cell k.second (row_of near q)) (row_of t q) (row_of made q) (alone_none k s t q e) e ∙ f

  pub second_at : (s t made near ns : Rows) (q : ℕ) → row_of (t_from k s t made near ns) q ≡ second_from k s t made near ns q
  second_at s t made near ns q = three_at near t made (second_from k s t made near ns) q (λ e f g. second_none s t made near ns q f g)

  -- a row has the same key where the old row of S has the same T part
  how_same : (c : Cell) (al : Bool) (p : ℕ) (t u : Rows) (x y : List Value) → ((v : List Value) → c ≡ Some v → far_part k t (k.key v) ≡ far_part k u (k.key v)) → how_in k c al p t x y ≡ how_in k c al p u x y
  how_same (Some v) al p t u x y same = ap (λ (z : List Value). Some (cond (same_row y z) (Some (k.key v)) None)) (same v refl)
  how_same None true p t u x y same = refl
  how_same None false p t u x y same = refl

  -- for nulls nothing is drawn
  draws_null : (h : Option (Option Value)) (l : Option ℕ) (null : Bool) → null ≡ true → draws_for k h l null ≡ false
  draws_null None l null e = refl
  draws_null (Some (Some f)) l null e = refl
  draws_null (Some None) (Some q) null e = refl
  draws_null (Some None) None null e = ap not e

module _ (k : FkParts) (P : ℕ → Bool) (s t near : Rows) (n : ℕ) (goals : BringsGoals k P s t) (least : BringsShared k P near s t)
    (refs : (q : ℕ) (u : List Value) → P q ≡ true → row_of t q ≡ Some u → referred k (rows_only P s) q ≡ referred k s q) where
  -- the key of a row that passes
  how_part : (p : ℕ) (row : List Value) → P p ≡ true → how k (rows_only P s) (rows_only P t) p row ≡ how k s t p row
  how_part p row e =
      ap (λ (c : Cell). how_in k c (alone k (rows_only P s) (rows_only P t) p) p (rows_only P t) (k.first row) (k.second row)) (row_in P s p e)
      ∙ ap (λ (b : Bool). how_in k (row_of s p) b p (rows_only P t) (k.first row) (k.second row)) (alone_in k P s t goals refs p e)
      ∙ how_same k (row_of s p) (alone k s t p) p (rows_only P t) t (k.first row) (k.second row) (λ v at. far_in k P s t goals refs p v e at)

  -- the least row that its T part may share
  shared_part : (p : ℕ) (row : List Value) → P p ≡ true → row_of near p ≡ Some row → how k s t p row ≡ Some None → same_row (k.second row) k.null_second ≡ false
      → least_in k (rows_only P s) (rows_only P t) (rows_only P t) (k.second row) ≡ least_in k s t t (k.second row)
  shared_part p row e at key some =
      least_part P (may_share k s t) (may_share k (rows_only P s) (rows_only P t)) t (k.second row)
      (λ q v pass. ap not (alone_in k P s t goals refs q pass)) (λ q is. least p row q e at key some is)

  -- it draws the same, whatever its key is to be
  draws_part : (p : ℕ) (row : List Value) → P p ≡ true → row_of near p ≡ Some row → (h : Option (Option Value)) → how k s t p row ≡ h
      → draws_for k h (least_in k (rows_only P s) (rows_only P t) (rows_only P t) (k.second row)) (same_row (k.second row) k.null_second) ≡ draws_for k h (least_in k s t t (k.second row)) (same_row (k.second row) k.null_second)
  draws_part p row e at None key = refl
  draws_part p row e at (Some (Some f)) key = refl
  draws_part p row e at (Some None) key =
      by_test (same_row (k.second row) k.null_second)
      (λ null. draws_null k (Some None) (least_in k (rows_only P s) (rows_only P t) (rows_only P t) (k.second row)) (same_row (k.second row) k.null_second) null
      ∙ sym (draws_null k (Some None) (least_in k s t t (k.second row)) (same_row (k.second row) k.null_second) null))
      (λ some. ap (λ (o : Option ℕ). draws_for k (Some None) o (same_row (k.second row) k.null_second)) (shared_part p row e at key some))

  -- it needs the same
  pub part_needs : (p : ℕ) (row : List Value) → row_of near p ≡ Some row → P p ≡ true → needs k (rows_only P s) (rows_only P t) p row ≡ needs k s t p row
  part_needs p row at e =
      ap (λ (h : Option (Option Value)). draws_for k h (least_in k (rows_only P s) (rows_only P t) (rows_only P t) (k.second row)) (same_row (k.second row) k.null_second)) (how_part p row e)
      ∙ draws_part p row e at (how k s t p row) refl

  -- and refers to the same
  ref_part : (d : List (List Value)) (p : ℕ) (row : List Value) → P p ≡ true → row_of near p ≡ Some row → how k s t p row ≡ Some None → ref k (rows_only P s) (rows_only P t) n d (k.second row) ≡ ref k s t n d (k.second row)
  ref_part d p row e at key = by_test (same_row (k.second row) k.null_second)
      (λ null. rw null refl)
      (λ some. ap (λ (o : Option ℕ). cond (same_row (k.second row) k.null_second) Null (Reference (id_or (n + place d (k.second row)) o))) (shared_part p row e at key some))

  -- so does the row of new S that it makes, whatever its key is to be
  near_part : (d : List (List Value)) (p : ℕ) (row : List Value) → P p ≡ true → row_of near p ≡ Some row → (h : Option (Option Value)) → how k s t p row ≡ h
      → near_row k h (ref k (rows_only P s) (rows_only P t) n d (k.second row)) (k.first row) ≡ near_row k h (ref k s t n d (k.second row)) (k.first row)
  near_part d p row e at None key = refl
  near_part d p row e at (Some (Some f)) key = refl
  near_part d p row e at (Some None) key = ap (λ (f : Value). near_row k (Some None) f (k.first row)) (ref_part d p row e at key)

  -- so new S has the same there
  part_row : (d : List (List Value)) (p : ℕ) (o : Cell) → P p ≡ true → row_of near p ≡ o → in_cell o (made_row k (rows_only P s) (rows_only P t) n d p) ≡ in_cell o (made_row k s t n d p)
  part_row d p None e at = refl
  part_row d p (Some row) e at =
      ap (λ (h : Option (Option Value)). near_row k h (ref k (rows_only P s) (rows_only P t) n d (k.second row)) (k.first row)) (how_part p row e)
      ∙ near_part d p row e at (how k s t p row) refl

  -- the part of new S
  pub part_first : (d : List (List Value)) → RiseFrom 0 near → new_s k (rows_only P s) (rows_only P t) n d (rows_only P near) ≡ rows_only P (new_s k s t n d near)
  part_first d near_rise =
      part_is P (new_s k (rows_only P s) (rows_only P t) n d (rows_only P near)) (new_s k s t n d near)
      (one_rise (rows_only P near) (new_first k (rows_only P s) (rows_only P t) n d (rows_only P near)) (rise_only P 0 near near_rise))
      (one_rise near (new_first k s t n d near) near_rise)
      (λ p e. first_at k (rows_only P s) (rows_only P t) n d (rows_only P near) p
      ∙ ap (λ (c : Cell). in_cell c (made_row k (rows_only P s) (rows_only P t) n d p)) (row_in P near p e)
      ∙ part_row d p (row_of near p) e refl ∙ sym (first_at k s t n d near p))
      (λ p e. first_at k (rows_only P s) (rows_only P t) n d (rows_only P near) p ∙ ap (λ (c : Cell). in_cell c (made_row k (rows_only P s) (rows_only P t) n d p)) (row_out P near p e))

  module _ (made ns : Rows) (ns_refs : (q : ℕ) (u : List Value) → P q ≡ true → row_of t q ≡ Some u → referred k (rows_only P ns) q ≡ referred k ns q) where
    -- new T has the same of what passes
    second_part : (q : ℕ) → P q ≡ true → second_from k (rows_only P s) (rows_only P t) made (rows_only P near) (rows_only P ns) q ≡ second_from k s t made near ns q
    second_part q e =
        ap (λ (b : Bool). or_else (kept_if b (map_cell k.second (row_of (rows_only P near) q))) (or_else (kept_if (referred k (rows_only P ns) q || is_there (row_of (rows_only P ns) q)) (row_of (rows_only P t) q)) (row_of made q))) (alone_in k P s t goals refs q e)
        ∙ ap (λ (c : Cell). or_else (kept_if (alone k s t q) (map_cell k.second c)) (or_else (kept_if (referred k (rows_only P ns) q || is_there (row_of (rows_only P ns) q)) (row_of (rows_only P t) q)) (row_of made q))) (row_in P near q e)
        ∙ ap (λ (c : Cell). or_else (kept_if (alone k s t q) (map_cell k.second (row_of near q))) (or_else (kept_if (referred k (rows_only P ns) q || is_there c) (row_of (rows_only P t) q)) (row_of made q))) (row_in P ns q e)
        ∙ ap (λ (c : Cell). or_else (kept_if (alone k s t q) (map_cell k.second (row_of near q))) (or_else (kept_if (referred k (rows_only P ns) q || is_there (row_of ns q)) c) (row_of made q))) (row_in P t q e)
        ∙ ap (λ (c : Cell). or_else (kept_if (alone k s t q) (map_cell k.second (row_of near q))) (or_else c (row_of made q)))
        (kept_same (referred k (rows_only P ns) q || is_there (row_of ns q)) (referred k ns q || is_there (row_of ns q)) (row_of t q) (λ u at. ap (λ (b : Bool). b || is_there (row_of ns q)) (ns_refs q u e at)))

    -- the part of new T
    pub part_second : RiseFrom 0 near → RiseFrom 0 t → RiseFrom 0 made → ((q : ℕ) → P q ≡ false → row_of made q ≡ None)
        → t_from k (rows_only P s) (rows_only P t) made (rows_only P near) (rows_only P ns) ≡ rows_only P (t_from k s t made near ns)
    part_second near_rise t_rise made_rise out =
        part_is P (t_from k (rows_only P s) (rows_only P t) made (rows_only P near) (rows_only P ns)) (t_from k s t made near ns)
        (three_rise (rows_only P near) (rows_only P t) made (second_from k (rows_only P s) (rows_only P t) made (rows_only P near) (rows_only P ns)) (rise_only P 0 near near_rise) (rise_only P 0 t t_rise) made_rise)
        (three_rise near t made (second_from k s t made near ns) near_rise t_rise made_rise)
        (λ q e. second_at k (rows_only P s) (rows_only P t) made (rows_only P near) (rows_only P ns) q ∙ second_part q e ∙ sym (second_at k s t made near ns q))
        (λ q e. second_at k (rows_only P s) (rows_only P t) made (rows_only P near) (rows_only P ns) q ∙ second_none k (rows_only P s) (rows_only P t) made (rows_only P near) (rows_only P ns) q (row_out P t q e) (out q e))
