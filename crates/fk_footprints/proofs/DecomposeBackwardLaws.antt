-- DECOMPOSE ON FK, from S and T: closed identifiers are a footprint.
use Rattle.std.proofs.Common.{◌≡◌, ℕ, ◌+◌, List, [], ◌∷◌, Bool, true, false, not, length, Some, refl, ap, sym, ◌∙◌}
use Rattle.std.proofs.lemmas.Bool.{false≢true}
use mathlib.Core.Logic.{inl, inr}
use Rattle.par_base.specs.declared.value.Value.{Value}
use Rattle.row_store.specs.Rows.{Rows, RiseFrom, row_of}
use Rattle.op_law.specs.Tables.{Tables, Heading, AllRise}
use Rattle.op_law.specs.Local.{rows_only, only}
use Rattle.pair_parts.specs.Parts.{memory_only}
use Rattle.op_law.specs.Meaning.{Meaning, PairState, flip}
use Rattle.op_law.proofs.OnlyLaws.{rise_only}
use Rattle.op_rows.specs.inner.Tabulated.{all_rise}
use Rattle.row_parts.specs.RowCells.{Cell}
use Rattle.op_tables.specs.Lookups.{One, Two, two_rise}
use Rattle.op_tables.specs.SideTables.{first_table, second_table}
use Rattle.row_changes.specs.Changed.{TableChanges, changed_tables}
use Rattle.operator_changes.specs.Calls.{MayChange}
use Rattle.operator_changes.specs.Footprint.{IsFootprint, passes}
use Rattle.foreign_keys.specs.KeyParts.{FkParts}
use Rattle.foreign_keys.specs.References.{goal_of, referred}
use Rattle.foreign_keys.specs.Shared.{FkFits}
use Rattle.op_fk_decompose.specs.Columns.{column_parts, DecomposeFits}
use Rattle.op_fk_decompose.specs.Decompose.{alone, joined_in, joined, joined_table, decompose_fk}
use Rattle.op_fk_decompose.specs.inner.ColumnLemmas.{fits}
use Rattle.op_fk_decompose.specs.inner.DecomposeBackward.{joined_at}
use Rattle.op_fk_decompose.specs.inner.DecomposeLaws.{source_of, target_of}
use Rattle.fk_footprints.specs.Closed.{BringsGoals, Witness}
use Rattle.fk_footprints.specs.DecomposeBackward.{IsClosedDecomposeBack, ClosedIsDecomposeBackFootprint}
use Rattle.fk_footprints.proofs.PartLemmas.{part_may, first_only, second_only, first_same, second_same, part_is, rest_is}
use Rattle.fk_footprints.proofs.ReferPartLemmas.{same_referred, part_referred}
use Rattle.fk_footprints.proofs.DecomposePartLemmas.{far_same, joined_same, alone_same, joined_at_part, joined_out, decompose_part}

-- the part of R is R of the parts
part_table : (k : FkParts) (P : ℕ → Bool) (s t : Rows) → RiseFrom 0 s → RiseFrom 0 t → BringsGoals k P s t
    → ((q : ℕ) (u : List Value) → P q ≡ true → row_of t q ≡ Some u → referred k (rows_only P s) q ≡ referred k s q)
    → joined_table k (rows_only P s) (rows_only P t) ≡ rows_only P (joined_table k s t)
part_table k P s t s_rise t_rise goals refs =
    part_is P (joined_table k (rows_only P s) (rows_only P t)) (joined_table k s t)
    (two_rise (rows_only P s) (rows_only P t) (joined k (rows_only P s) (rows_only P t)) (rise_only P 0 s s_rise) (rise_only P 0 t t_rise))
    (two_rise s t (joined k s t) s_rise t_rise)
    (λ q e. joined_at k (rows_only P s) (rows_only P t) q ∙ joined_at_part k P s t goals refs q e ∙ sym (joined_at k s t q))
    (λ q e. joined_at k (rows_only P s) (rows_only P t) q ∙ joined_out k P s t goals refs q e)

module _ (Fits : List Heading → List Heading → Type 0) (k : FkParts) (w a b z : ℕ) (fit : (hs ht : List Heading) → Fits hs ht → FkFits k w a b z hs ht)
    (near : TableChanges) (p : PairState) (n : ℕ) (ids : List ℕ) (may : MayChange (flip (decompose_fk Fits k)) near p n) (c : IsClosedDecomposeBack k near p n ids) where
  -- the operator, as it is crossed
  abbrev m : Meaning
  m = flip (decompose_fk Fits k)

  -- what passes
  abbrev P : ℕ → Bool
  P = passes ids n

  -- the new sides
  abbrev whole : Tables
  whole = changed_tables p.source near

  -- old S, old T, old R, new S and new T
  abbrev s : Rows
  s = first_table p.source

  abbrev t : Rows
  t = second_table p.source

  abbrev r : Rows
  r = first_table p.target

  abbrev new_s : Rows
  new_s = first_table (changed_tables p.source near)

  abbrev new_t : Rows
  new_t = second_table (changed_tables p.source near)

  -- what is known of old and new S and T, and of old R
  old_two : Two z b p.source
  old_two = target_of Fits k w a b z fit may.ht may.hs p.source may.may.sound.pair.fits may.may.sound.pair.source_of

  new_two : Two z b whole
  new_two = target_of Fits k w a b z fit may.ht may.hs whole may.may.sound.pair.fits may.may.near_of

  old_one : One w p.target
  old_one = source_of Fits k w a b z fit may.ht may.hs p.target may.may.sound.pair.fits may.may.sound.pair.target_of

  source_rise : AllRise p.source
  source_rise = all_rise may.hs p.source may.may.sound.pair.source_of

  -- S and T are as they were where nothing passes
  same_s : (q : ℕ) → P q ≡ false → row_of new_s q ≡ row_of s q
  same_s = first_same ids n p.source near source_rise c.touches

  same_t : (q : ℕ) → P q ≡ false → row_of new_t q ≡ row_of t q
  same_t = second_same ids n p.source near source_rise c.touches

  -- the part of old S refers to what passes as old S does
  old_refs : (q : ℕ) (u : List Value) → P q ≡ true → row_of t q ≡ Some u → referred k (rows_only P s) q ≡ referred k s q
  old_refs q u e at = part_referred k P s s new_s q old_two.rise0 (λ x v out is goal. c.witness q u x v e at out is goal)

  -- so does that of new S: the witness stays
  new_witness : (q : ℕ) (u : List Value) → P q ≡ true → row_of new_t q ≡ Some u → (x : ℕ) (v : List Value) → P x ≡ false → row_of new_s x ≡ Some v → goal_of (k.key v) ≡ Some q → Witness k P new_s s new_s q
  new_witness q u e at x v out is goal =
      let old : row_of s x ≡ Some v = sym (same_s x out) ∙ is in
      let f = c.witness q u x v e (sym (c.others x v q out old goal) ∙ at) out old goal in
      record { id = f.id; row = f.row; passed = f.passed; at = f.still ∙ f.at; goal = f.goal; still = f.still }

  new_refs : (q : ℕ) (u : List Value) → P q ≡ true → row_of new_t q ≡ Some u → referred k (rows_only P new_s) q ≡ referred k new_s q
  new_refs q u e at = part_referred k P new_s s new_s q new_two.rise0 (λ x v out is goal. new_witness q u e at x v out is goal)

  -- what doesn't pass is referred to as before
  rest_refs : (q : ℕ) (u : List Value) → P q ≡ false → row_of t q ≡ Some u → referred k new_s q ≡ referred k s q
  rest_refs q u e at =
      same_referred k P s new_s q old_two.rise0 new_two.rise0 same_s
      (λ x v pass is goal. elim (c.old_goals x v q pass is goal) [
        | inl hit ↦ false≢true (sym e ∙ hit)
        | inr none ↦ let bad = sym at ∙ none in absurd (cc)
      ])
      (λ x v pass is goal. elim (c.new_goals x v q pass is goal) [
        | inl hit ↦ false≢true (sym e ∙ hit)
        | inr none ↦ let bad = sym at ∙ sym (same_t q e) ∙ none in absurd (cc)
      ])

  part_far : joined_table k (first_table (only P whole)) (second_table (only P whole)) ∷ [] ≡ only P (joined_table k new_s new_t ∷ [])
  part_far =
      ap (λ (x : Rows). joined_table k x (second_table (only P whole)) ∷ []) (first_only P whole) ∙ ap (λ (x : Rows). joined_table k (rows_only P new_s) x ∷ []) (second_only P whole)
      ∙ ap (λ (x : Rows). x ∷ []) (part_table k P new_s new_t new_two.rise0 new_two.rise1 c.new_goals new_refs)

  -- elsewhere R is as it was
  rest_row : (q : ℕ) → P q ≡ false → row_of (joined_table k new_s new_t) q ≡ row_of r q
  rest_row q e =
      joined_at k new_s new_t q
      ∙ ap (λ (x : Cell). joined_in k x (row_of new_t q) (alone k new_s new_t q) new_t) (same_s q e)
      ∙ ap (λ (x : Cell). joined_in k (row_of s q) x (alone k new_s new_t q) new_t) (same_t q e)
      ∙ ap (λ (x : Bool). joined_in k (row_of s q) (row_of t q) x new_t) (alone_same k s t new_s new_t q (same_s q e) (same_t q e) (λ u at. rest_refs q u e at))
      ∙ joined_same k (row_of s q) (row_of t q) (alone k s t q) new_t t (λ v is. far_same k v new_t t (λ f goal. c.others q v f e is goal))
      ∙ sym (may.may.sound.pair.related.1 q)

  rest : only (λ q. not (P q)) (joined_table k new_s new_t ∷ []) ≡ only (λ q. not (P q)) p.target
  rest =
      ap (λ (x : Rows). x ∷ []) (rest_is P (joined_table k new_s new_t) r (two_rise new_s new_t (joined k new_s new_t) new_two.rise0 new_two.rise1) old_one.rise rest_row)
      ∙ ap (only (λ q. not (P q))) old_one.is

  -- THE FOOTPRINT
  pub decompose_back_footprint : IsFootprint (flip (decompose_fk Fits k)) near p n ids
  decompose_back_footprint = record {
    rise = c.rise;
    touches = c.touches;
    may = part_may m P may.hs may.ht whole p n may.may may.may.sound.pair.related.0 (may.may.sound.pair.related.0, decompose_part k P p.source p.target c.old_goals old_refs may.may.sound.pair.related.1);
    far = part_far;
    memory = refl;
    next = refl;
    rest = rest;
    memory_rest = sym (ap (memory_only (λ q. not (P q))) may.may.sound.pair.related.0);
  }

-- CLOSED IDENTIFIERS ARE A FOOTPRINT
pub closed_decompose_back : ClosedIsDecomposeBackFootprint
closed_decompose_back first second place near p n ids may c =
    decompose_back_footprint (DecomposeFits first second place) (column_parts first second place) (length first + length second) (length first) (length second) (length first + 1) (fits first second place) near p n ids may c
