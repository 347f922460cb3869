-- DECOMPOSE ON FK: closed identifiers split a pair.
use Rattle.std.proofs.Common.{◌≡◌, ℕ, List, [], ◌∷◌, Bool, true, false, not, ◌&&◌, Some, None, refl, ap, sym, ◌∙◌}
use Rattle.par_base.specs.declared.value.Value.{Value}
use Rattle.row_store.specs.Rows.{Rows, RiseFrom, row_of}
use Rattle.op_law.specs.Tables.{Heading, AllRise}
use Rattle.op_law.specs.Local.{rows_only, only}
use Rattle.op_law.specs.Meaning.{PairState}
use Rattle.op_law.specs.Premises.{IsPair}
use Rattle.op_law.proofs.OnlyLaws.{row_in, row_out}
use Rattle.op_rows.specs.inner.RowwiseLocal.{well_only}
use Rattle.op_rows.specs.inner.Tabulated.{all_rise}
use Rattle.op_tables.specs.SideTables.{first_table, second_table}
use Rattle.row_parts.specs.RowCells.{Cell, is_there, row_or, kept_if, map_cell, in_cell, by_test, by_option}
use Rattle.foreign_keys.specs.KeyParts.{FkParts}
use Rattle.foreign_keys.specs.References.{goal_of, dangles, referred, far_part}
use Rattle.op_fk_decompose.specs.Decompose.{alone, joined_in, joined, refs, ref_at, dangling, dangling_at, kept_rows, kept_at, aux_from, decompose_fk}
use Rattle.op_fk_decompose.specs.inner.DecomposeKept.{none_joined}
use Rattle.pair_parts.specs.Parts.{memory_only}
use Rattle.pair_parts.specs.Splits.{Splits}
use Rattle.fk_parts.specs.Closed.{IsClosed}
use Rattle.fk_parts.proofs.GoalLemmas.{goal_in, dangles_in, refs_in, alone_in}
use Rattle.fk_parts.proofs.PartLemmas.{first_only, second_only, first_rise, second_rise, kept_none, kept_same, made_part, three_same}

-- R has the same where T has the same for each row of S
joined_same : (k : FkParts) (c there : Cell) (al : Bool) (t u : Rows) → ((v : List Value) → c ≡ Some v → far_part k t (k.key v) ≡ far_part k u (k.key v)) → joined_in k c there al t ≡ joined_in k c there al u
joined_same k (Some v) there al t u same = ap (λ (x : List Value). Some (k.join (k.part v) x)) (same v refl)
joined_same k None there true t u same = refl
joined_same k None there false t u same = refl

-- none is kept of what isn't there
pub no_ref : (k : FkParts) (s : Rows) (q : ℕ) → row_of s q ≡ None → ref_at k s q ≡ None
no_ref k s q none = ap (map_cell (λ v. k.key v ∷ [])) none

pub no_dangling : (k : FkParts) (s t : Rows) (q : ℕ) → row_of s q ≡ None → dangling_at k s t q ≡ None
no_dangling k s t q none = ap (λ (c : Cell). in_cell c (λ v. kept_if (dangles t (goal_of (k.key v))) (Some []))) none

pub no_kept : (k : FkParts) (s t : Rows) (q : ℕ) → row_of t q ≡ None → kept_at k s t q ≡ None
no_kept k s t q none = ap (kept_if (is_there (row_of s q) && not (referred k s q))) none ∙ kept_none _

-- what dangles is the same where S is, and T where S refers
pub dangling_same : (k : FkParts) (s t s2 t2 : Rows) (q : ℕ) → row_of s2 q ≡ row_of s q → ((v : List Value) → row_of s q ≡ Some v → dangles t2 (goal_of (k.key v)) ≡ dangles t (goal_of (k.key v))) → dangling_at k s2 t2 q ≡ dangling_at k s t q
dangling_same k s t s2 t2 q same there =
    ap (λ (c : Cell). in_cell c (λ v. kept_if (dangles t2 (goal_of (k.key v))) (Some []))) same
    ∙ by_option (row_of s q)
    (λ none. no_dangling k s t2 q none ∙ sym (no_dangling k s t q none))
    (λ v at.
    ap (λ (c : Cell). in_cell c (λ v. kept_if (dangles t2 (goal_of (k.key v))) (Some []))) at
    ∙ ap (λ (b : Bool). kept_if b (Some [])) (there v at)
    ∙ sym (ap (λ (c : Cell). in_cell c (λ v. kept_if (dangles t (goal_of (k.key v))) (Some []))) at))

-- a kept row is the same where both are, and S refers to it alike
pub kept_at_same : (k : FkParts) (s t s2 t2 : Rows) (q : ℕ) → row_of s2 q ≡ row_of s q → row_of t2 q ≡ row_of t q → ((u : List Value) → row_of t q ≡ Some u → referred k s2 q ≡ referred k s q) → kept_at k s2 t2 q ≡ kept_at k s t q
kept_at_same k s t s2 t2 q one two refs =
    ap (λ (c : Cell). kept_if (is_there c && not (referred k s2 q)) (row_of t2 q)) one
    ∙ kept_same (is_there (row_of s q) && not (referred k s2 q)) (is_there (row_of s q) && not (referred k s q)) (row_of t2 q) (row_of t q) two
    (λ u at. ap (λ (b : Bool). is_there (row_of s q) && not b) (refs u at))

module _ (k : FkParts) (P : ℕ → Bool) (s t : Rows) (s_rise : RiseFrom 0 s) (t_rise : RiseFrom 0 t) (closed : IsClosed k P s t) where
  -- what passes is joined as in the whole
  joined_at_part : (q : ℕ) → P q ≡ true → joined k (rows_only P s) (rows_only P t) q ≡ joined k s t q
  joined_at_part q e =
      ap (λ (c : Cell). joined_in k c (row_of (rows_only P t) q) (alone k (rows_only P s) (rows_only P t) q) (rows_only P t)) (row_in P s q e)
      ∙ ap (λ (c : Cell). joined_in k (row_of s q) c (alone k (rows_only P s) (rows_only P t) q) (rows_only P t)) (row_in P t q e)
      ∙ ap (λ (b : Bool). joined_in k (row_of s q) (row_of t q) b (rows_only P t)) (alone_in k P s t s_rise closed q e)
      ∙ joined_same k (row_of s q) (row_of t q) (alone k s t q) (rows_only P t) t (λ v at. ap (row_or k.null_second) (goal_in k P s t closed.goals q v e at))

  -- elsewhere the part joins nothing
  joined_out : (q : ℕ) → P q ≡ false → joined k (rows_only P s) (rows_only P t) q ≡ None
  joined_out q e =
      ap (λ (c : Cell). joined_in k c (row_of (rows_only P t) q) (alone k (rows_only P s) (rows_only P t) q) (rows_only P t)) (row_out P s q e)
      ∙ ap (λ (c : Cell). joined_in k None c (alone k (rows_only P s) (rows_only P t) q) (rows_only P t)) (row_out P t q e)
      ∙ none_joined k (alone k (rows_only P s) (rows_only P t) q) (rows_only P t)

  -- the keys of the part, what dangles in it, and its kept rows
  refs_part : refs k (rows_only P s) ≡ rows_only P (refs k s)
  refs_part = made_part P s (ref_at k s) (ref_at k (rows_only P s)) s_rise (no_ref k s) (no_ref k (rows_only P s)) (λ q e. ap (map_cell (λ v. k.key v ∷ [])) (row_in P s q e))

  dangling_part : dangling k (rows_only P s) (rows_only P t) ≡ rows_only P (dangling k s t)
  dangling_part =
      made_part P s (dangling_at k s t) (dangling_at k (rows_only P s) (rows_only P t)) s_rise (no_dangling k s t) (no_dangling k (rows_only P s) (rows_only P t))
      (λ q e. dangling_same k s t (rows_only P s) (rows_only P t) q (row_in P s q e) (λ v at. dangles_in k P s t closed.goals q v e at))

  kept_part : kept_rows k (rows_only P s) (rows_only P t) ≡ rows_only P (kept_rows k s t)
  kept_part =
      made_part P t (kept_at k s t) (kept_at k (rows_only P s) (rows_only P t)) t_rise (no_kept k s t) (no_kept k (rows_only P s) (rows_only P t))
      (λ q e. kept_at_same k s t (rows_only P s) (rows_only P t) q (row_in P s q e) (row_in P t q e) (λ u at. refs_in k P s t s_rise closed q u e at))

  -- so what is kept beside the part is the part
  pub aux_part : aux_from k (rows_only P s) (rows_only P t) ≡ only P (aux_from k s t)
  aux_part = three_same refs_part dangling_part kept_part

  -- a part of related tables is related
  pub related_part : (r : Rows) → ((q : ℕ) → row_of r q ≡ joined k s t q) → (q : ℕ) → row_of (rows_only P r) q ≡ joined k (rows_only P s) (rows_only P t) q
  related_part r related q =
      by_test (P q)
      (λ e. row_in P r q e ∙ related q ∙ sym (joined_at_part q e))
      (λ e. row_out P r q e ∙ sym (joined_out q e))

-- CLOSED IDENTIFIERS SPLIT A PAIR
pub splits_decompose : (Fits : List Heading → List Heading → Type 0) (k : FkParts) (P : ℕ → Bool) (hs ht : List Heading) (p : PairState) → IsPair (decompose_fk Fits k) hs ht p
    → IsClosed k P (first_table p.target) (second_table p.target) → Splits (decompose_fk Fits k) p P
splits_decompose Fits k P hs ht p pair closed =
    let rise : AllRise p.target = all_rise ht p.target pair.target_of in
    let s_rise = first_rise p.target rise in
    let t_rise = second_rise p.target rise in
    let one = first_only P p.target in
    let two = second_only P p.target in
    record {
      related = λ xs ys it. record {
        fits = it.fits;
        related = (
          ap (memory_only P) it.related.0,
          λ q.
              ap (λ (x : Rows). row_of x q) (first_only P p.source)
              ∙ related_part k P (first_table p.target) (second_table p.target) s_rise t_rise closed (first_table p.source) it.related.1 q
              ∙ ap (λ (x : Rows). joined k x (rows_only P (second_table p.target)) q) (sym one)
              ∙ ap (λ (x : Rows). joined k (first_table (only P p.target)) x q) (sym two),
        );
        source_of = well_only P xs p.source it.source_of;
        target_of = well_only P ys p.target it.target_of;
      };
      at_source = ap (λ (x : Rows). aux_from k x (second_table (only P p.target))) one ∙ ap (aux_from k (rows_only P (first_table p.target))) two
          ∙ aux_part k P (first_table p.target) (second_table p.target) s_rise t_rise closed;
      at_target = refl;
    }
