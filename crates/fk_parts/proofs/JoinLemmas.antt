-- JOIN ON FK: closed identifiers split a pair.
use Rattle.std.proofs.Common.{◌≡◌, ℕ, List, [], ◌∷◌, Bool, true, not, Some, None, refl, ap, sym, ◌∙◌}
use Rattle.par_base.specs.declared.value.Value.{Value}
use Rattle.row_store.specs.Rows.{Rows, RiseFrom, row_of}
use Rattle.op_law.specs.Tables.{Heading, AllRise}
use Rattle.op_law.specs.Local.{rows_only, only}
use Rattle.op_law.specs.Meaning.{PairState}
use Rattle.op_law.specs.Premises.{IsPair}
use Rattle.op_law.proofs.OnlyLaws.{row_in, row_out}
use Rattle.op_rows.specs.inner.RowwiseLocal.{well_only}
use Rattle.op_rows.specs.inner.Tabulated.{all_rise}
use Rattle.op_tables.specs.SideTables.{first_table, second_table}
use Rattle.row_parts.specs.RowCells.{Cell, is_there, kept_if, map_cell, in_cell, by_test}
use Rattle.foreign_keys.specs.KeyParts.{FkParts}
use Rattle.foreign_keys.specs.References.{referred}
use Rattle.op_fk_join.specs.Join.{joined_row, joined_here, key_here, join_refs, unjoined_here, unjoined, unreferred_here, unreferred, aux_from, join_fk}
use Rattle.pair_parts.specs.Parts.{memory_only}
use Rattle.pair_parts.specs.Splits.{Splits}
use Rattle.fk_parts.specs.Closed.{IsClosed}
use Rattle.fk_parts.proofs.GoalLemmas.{goal_in, refs_in}
use Rattle.fk_parts.proofs.PartLemmas.{first_only, second_only, first_rise, second_rise, kept_none, kept_same, made_part, three_same}

-- none is kept of what isn't there
pub no_key : (k : FkParts) (s r : Rows) (q : ℕ) → row_of r q ≡ None → key_here k s r q ≡ None
no_key k s r q none = ap (λ (c : Cell). in_cell c (λ row. map_cell (λ v. k.key v ∷ []) (row_of s q))) none

pub no_unjoined : (s r : Rows) (q : ℕ) → row_of s q ≡ None → unjoined_here s r q ≡ None
no_unjoined s r q none = ap (kept_if (not (is_there (row_of r q)))) none ∙ kept_none _

pub no_unreferred : (k : FkParts) (s t : Rows) (q : ℕ) → row_of t q ≡ None → unreferred_here k s t q ≡ None
no_unreferred k s t q none = ap (kept_if (not (referred k s q))) none ∙ kept_none _

-- the key and the row that R lacks are the same where S and R are
pub key_same : (k : FkParts) (s r s2 r2 : Rows) (q : ℕ) → row_of s2 q ≡ row_of s q → row_of r2 q ≡ row_of r q → key_here k s2 r2 q ≡ key_here k s r q
key_same k s r s2 r2 q one two =
    ap (λ (c : Cell). in_cell c (λ row. map_cell (λ v. k.key v ∷ []) (row_of s2 q))) two ∙ ap (λ (c : Cell). in_cell (row_of r q) (λ row. map_cell (λ v. k.key v ∷ []) c)) one

pub unjoined_same : (s r s2 r2 : Rows) (q : ℕ) → row_of s2 q ≡ row_of s q → row_of r2 q ≡ row_of r q → unjoined_here s2 r2 q ≡ unjoined_here s r q
unjoined_same s r s2 r2 q one two = ap (λ (c : Cell). kept_if (not (is_there c)) (row_of s2 q)) two ∙ ap (kept_if (not (is_there (row_of r q)))) one

-- a row of T to which none refers, where S refers to it alike
pub unreferred_same : (k : FkParts) (s t s2 t2 : Rows) (q : ℕ) → row_of t2 q ≡ row_of t q → ((u : List Value) → row_of t q ≡ Some u → referred k s2 q ≡ referred k s q) → unreferred_here k s2 t2 q ≡ unreferred_here k s t q
unreferred_same k s t s2 t2 q two refs = kept_same (not (referred k s2 q)) (not (referred k s q)) (row_of t2 q) (row_of t q) two (λ u at. ap not (refs u at))

module _ (k : FkParts) (P : ℕ → Bool) (s t r : Rows) (s_rise : RiseFrom 0 s) (t_rise : RiseFrom 0 t) (r_rise : RiseFrom 0 r) (closed : IsClosed k P s t) where
  -- a row that passes joins as in the whole
  join_in : (p : ℕ) (c : Cell) → P p ≡ true → row_of s p ≡ c → joined_row k c (rows_only P t) ≡ joined_row k c t
  join_in p None e at = refl
  join_in p (Some v) e at = ap (map_cell (k.join (k.part v))) (goal_in k P s t closed.goals p v e at)

  -- a part of related tables is related
  pub related_part : ((q : ℕ) → row_of r q ≡ joined_here k s t q) → (q : ℕ) → row_of (rows_only P r) q ≡ joined_here k (rows_only P s) (rows_only P t) q
  related_part related q =
      by_test (P q)
      (λ e. row_in P r q e ∙ related q ∙ sym (join_in q (row_of s q) e refl) ∙ ap (λ (c : Cell). joined_row k c (rows_only P t)) (sym (row_in P s q e)))
      (λ e. row_out P r q e ∙ ap (λ (c : Cell). joined_row k c (rows_only P t)) (sym (row_out P s q e)))

  -- the keys of the part, the rows of S that its R lacks, and those of T to which none refers
  keys_part : join_refs k (rows_only P s) (rows_only P r) ≡ rows_only P (join_refs k s r)
  keys_part =
      made_part P r (key_here k s r) (key_here k (rows_only P s) (rows_only P r)) r_rise (no_key k s r) (no_key k (rows_only P s) (rows_only P r))
      (λ q e. key_same k s r (rows_only P s) (rows_only P r) q (row_in P s q e) (row_in P r q e))

  unjoined_part : unjoined (rows_only P s) (rows_only P r) ≡ rows_only P (unjoined s r)
  unjoined_part =
      made_part P s (unjoined_here s r) (unjoined_here (rows_only P s) (rows_only P r)) s_rise (no_unjoined s r) (no_unjoined (rows_only P s) (rows_only P r))
      (λ q e. unjoined_same s r (rows_only P s) (rows_only P r) q (row_in P s q e) (row_in P r q e))

  unreferred_part : unreferred k (rows_only P s) (rows_only P t) ≡ rows_only P (unreferred k s t)
  unreferred_part =
      made_part P t (unreferred_here k s t) (unreferred_here k (rows_only P s) (rows_only P t)) t_rise (no_unreferred k s t) (no_unreferred k (rows_only P s) (rows_only P t))
      (λ q e. unreferred_same k s t (rows_only P s) (rows_only P t) q (row_in P t q e) (λ u at. refs_in k P s t s_rise closed q u e at))

  -- so what is kept beside the part is the part
  pub aux_part : aux_from k (rows_only P s) (rows_only P t) (rows_only P r) ≡ only P (aux_from k s t r)
  aux_part = three_same keys_part unjoined_part unreferred_part

-- CLOSED IDENTIFIERS SPLIT A PAIR
pub splits_join : (Fits : List Heading → List Heading → Type 0) (k : FkParts) (P : ℕ → Bool) (hs ht : List Heading) (p : PairState) → IsPair (join_fk Fits k) hs ht p
    → IsClosed k P (first_table p.source) (second_table p.source) → Splits (join_fk Fits k) p P
splits_join Fits k P hs ht p pair closed =
    let rise : AllRise p.source = all_rise hs p.source pair.source_of in
    let s = first_table p.source in
    let t = second_table p.source in
    let r = first_table p.target in
    let s_rise = first_rise p.source rise in
    let t_rise = second_rise p.source rise in
    let r_rise = first_rise p.target (all_rise ht p.target pair.target_of) in
    let one = first_only P p.source in
    let two = second_only P p.source in
    let far = first_only P p.target in
    record {
      related = λ xs ys it. record {
        fits = it.fits;
        related = (
          ap (memory_only P) it.related.0,
          λ q.
              ap (λ (x : Rows). row_of x q) far ∙ related_part k P s t r s_rise t_rise r_rise closed it.related.1 q
              ∙ ap (λ (x : Rows). joined_here k x (rows_only P t) q) (sym one)
              ∙ ap (λ (x : Rows). joined_here k (first_table (only P p.source)) x q) (sym two),
        );
        source_of = well_only P xs p.source it.source_of;
        target_of = well_only P ys p.target it.target_of;
      };
      at_source = refl;
      at_target = ap (λ (x : Rows). aux_from k x (second_table (only P p.source)) (first_table (only P p.target))) one
          ∙ ap (λ (x : Rows). aux_from k (rows_only P s) x (first_table (only P p.target))) two
          ∙ ap (aux_from k (rows_only P s) (rows_only P t)) far
          ∙ aux_part k P s t r s_rise t_rise r_rise closed;
    }
