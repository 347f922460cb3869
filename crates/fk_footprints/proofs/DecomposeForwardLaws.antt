-- DECOMPOSE ON FK, from R: closed identifiers are a footprint.
use Rattle.std.proofs.Common.{◌≡◌, ◌⊎◌, ℕ, ◌+◌, List, [], ◌∷◌, Bool, true, false, not, length, Some, None, refl, ap, sym, ◌∙◌, arith}
use Rattle.std.proofs.lemmas.Bool.{false≢true}
use mathlib.Core.Logic.{inl, inr}
use Rattle.par_base.specs.declared.value.Value.{Value}
use Rattle.row_store.specs.Rows.{Rows, RiseFrom, row_of}
use Rattle.op_law.specs.Tables.{Tables, Heading}
use Rattle.op_law.specs.Local.{rows_only, only}
use Rattle.pair_parts.specs.Parts.{memory_only, part_of_pair}
use Rattle.op_law.specs.Meaning.{Mapped, Meaning, PairState}
use Rattle.op_rows.specs.inner.Tabulated.{all_rise}
use Rattle.op_tables.specs.Lookups.{One, Two, one_rise, three_rise}
use Rattle.op_tables.specs.SideTables.{first_table, second_table}
use Rattle.row_changes.specs.Changed.{TableChanges, changed_tables}
use Rattle.operator_changes.specs.Calls.{MayChange}
use Rattle.operator_changes.specs.Footprint.{IsFootprint, passes}
use Rattle.foreign_keys.specs.KeyParts.{FkParts, FkWell}
use Rattle.foreign_keys.specs.References.{goal_of, referred}
use Rattle.foreign_keys.specs.DrawnIds.{numbered}
use Rattle.foreign_keys.specs.Shared.{FkFits}
use Rattle.foreign_keys.specs.inner.DrawnLemmas.{numbered_rise}
use Rattle.op_fk_decompose.specs.Columns.{column_parts, DecomposeFits}
use Rattle.op_fk_decompose.specs.Decompose.{joined, needs, values_drawn, new_first, second_from, new_s, t_from, target_from, decompose_fk}
use Rattle.op_fk_decompose.specs.inner.ColumnLemmas.{fits}
use Rattle.op_fk_decompose.specs.inner.DecomposeLaws.{source_of, target_of}
use Rattle.fk_footprints.specs.Closed.{Witness}
use Rattle.fk_footprints.specs.DecomposeForward.{IsClosedDecompose, ClosedIsDecomposeFootprint}
use Rattle.fk_footprints.proofs.PartLemmas.{part_may, first_only, second_only, low, high, first_same, rest_is}
use Rattle.fk_footprints.proofs.ReferPartLemmas.{same_referred, part_referred}
use Rattle.fk_footprints.proofs.DecomposePartLemmas.{decompose_part}
use Rattle.fk_footprints.proofs.DrawPartLemmas.{drawn_same, numbered_low}
use Rattle.fk_footprints.proofs.DecomposeDrawLemmas.{first_at, second_at, part_needs, part_first, part_second}
use Rattle.fk_footprints.proofs.DecomposeRowLemmas.{still_needs, still_first, still_second, made_goal}

-- both new tables, from the values that are drawn for and new S
abbrev sides : FkParts → ℕ → Rows → Rows → Rows → List (List Value) → Rows → Tables
sides k n s t near d ns = ns ∷ t_from k s t (numbered n d) near ns ∷ []

module _ (Fits : List Heading → List Heading → Type 0) (k : FkParts) (w a b z : ℕ) (fit : (hs ht : List Heading) → Fits hs ht → FkFits k w a b z hs ht)
    (near : TableChanges) (p : PairState) (n : ℕ) (ids : List ℕ) (may : MayChange (decompose_fk Fits k) near p n) (c : IsClosedDecompose k near p n ids) where
  -- the operator
  abbrev m : Meaning
  m = decompose_fk Fits k

  -- what passes
  abbrev P : ℕ → Bool
  P = passes ids n

  -- new R as a side
  abbrev whole : Tables
  whole = changed_tables p.source near

  -- old R, S and T, and new R
  abbrev r : Rows
  r = first_table p.source

  abbrev s : Rows
  s = first_table p.target

  abbrev t : Rows
  t = second_table p.target

  abbrev new : Rows
  new = first_table (changed_tables p.source near)

  -- the values that rows are drawn for
  abbrev d : List (List Value)
  d = values_drawn k (first_table p.target) (second_table p.target) (first_table (changed_tables p.source near))

  -- new S and new T
  abbrev ns : Rows
  ns = new_s k s t n d new

  abbrev nt : Rows
  nt = t_from k s t (numbered n d) new ns

  -- what is known of new R and of the old targets
  one : One w whole
  one = source_of Fits k w a b z fit may.hs may.ht whole may.may.sound.pair.fits may.may.near_of

  two : Two z b p.target
  two = target_of Fits k w a b z fit may.hs may.ht p.target may.may.sound.pair.fits may.may.sound.pair.target_of

  well : FkWell k w a b z
  well = (fit may.hs may.ht may.may.sound.pair.fits).well

  -- the new tables rise
  ns_rise : RiseFrom 0 ns
  ns_rise = one_rise new (new_first k s t n d new) one.rise

  made_rise : RiseFrom 0 (numbered n d)
  made_rise = numbered_rise 0 n d (omega arith)

  nt_rise : RiseFrom 0 nt
  nt_rise = three_rise new t (numbered n d) (second_from k s t (numbered n d) new ns) one.rise two.rise1 made_rise

  -- R is as it was where nothing passes, and joined there
  still : (q : ℕ) → P q ≡ false → row_of new q ≡ joined k s t q
  still q e = first_same ids n p.source near (all_rise may.hs p.source may.may.sound.pair.source_of) c.touches q e ∙ may.may.sound.pair.related.1 q

  -- so is S where R has what it had
  same_at : (q : ℕ) → row_of new q ≡ joined k s t q → row_of ns q ≡ row_of s q
  same_at q e = first_at k s t n d new q ∙ still_first k w a b z well s t two.wide0 two.wide1 n d q (row_of new q) (sym e)

  same_s : (q : ℕ) → P q ≡ false → row_of ns q ≡ row_of s q
  same_s q e = same_at q (still q e)

  -- the part of old S refers to what passes as old S does
  old_refs : (q : ℕ) (u : List Value) → P q ≡ true → row_of t q ≡ Some u → referred k (rows_only P s) q ≡ referred k s q
  old_refs q u e at = part_referred k P s r new q two.rise0 (λ x v out is goal. c.witness q u x v e at out is goal)

  -- so does that of new S: the witness stays
  new_witness : (q : ℕ) (u : List Value) → P q ≡ true → row_of t q ≡ Some u → (x : ℕ) (v : List Value) → P x ≡ false → row_of ns x ≡ Some v → goal_of (k.key v) ≡ Some q → Witness k P ns r new q
  new_witness q u e at x v out is goal =
      let f = c.witness q u x v e at out (sym (same_s x out) ∙ is) goal in
      record { id = f.id; row = f.row; passed = f.passed; at = same_at f.id (f.still ∙ may.may.sound.pair.related.1 f.id) ∙ f.at; goal = f.goal; still = f.still }

  new_refs : (q : ℕ) (u : List Value) → P q ≡ true → row_of t q ≡ Some u → referred k (rows_only P ns) q ≡ referred k ns q
  new_refs q u e at = part_referred k P ns r new q ns_rise (λ x v out is goal. new_witness q u e at x v out is goal)

  -- to what new rows of S that pass refer
  new_goals : (x : ℕ) (v : List Value) (q : ℕ) → P x ≡ true → row_of ns x ≡ Some v → goal_of (k.key v) ≡ Some q → (P q ≡ true) ⊎ (row_of t q ≡ None)
  new_goals x v q pass is goal = made_goal k w a b z well P s t new n one.wide c.goals c.least (high ids n) d x v q pass (sym (first_at k s t n d new x) ∙ is) goal

  -- what doesn't pass is referred to as before
  rest_refs : (q : ℕ) (u : List Value) → P q ≡ false → row_of t q ≡ Some u → referred k ns q ≡ referred k s q
  rest_refs q u e at =
      same_referred k P s ns q two.rise0 ns_rise same_s
      (λ x v pass is goal. elim (c.goals x v q pass is goal) [
        | inl hit ↦ false≢true (sym e ∙ hit)
        | inr none ↦ let bad = sym at ∙ none in absurd (cc)
      ])
      (λ x v pass is goal. elim (new_goals x v q pass is goal) [
        | inl hit ↦ false≢true (sym e ∙ hit)
        | inr none ↦ let bad = sym at ∙ none in absurd (cc)
      ])

  -- the part draws for the same values
  part_drawn : values_drawn k (rows_only P s) (rows_only P t) (rows_only P new) ≡ d
  part_drawn =
      drawn_same k P (needs k s t) (needs k (rows_only P s) (rows_only P t)) [] 0 new one.rise (part_needs k P s t new n c.goals c.least old_refs)
      (λ x row at e. still_needs k w a b z well s t two.wide0 two.wide1 x row (sym (still x e) ∙ at))

  -- the mapping of the part, by its tables
  part_mapped : m.forward (only P whole) (part_of_pair P p) n ≡ target_from k (rows_only P s) (rows_only P t) (rows_only P new) n
  part_mapped =
      ap (λ (x : Rows). target_from k x (second_table (only P p.target)) (first_table (only P whole)) n) (first_only P p.target)
      ∙ ap (λ (x : Rows). target_from k (rows_only P s) x (first_table (only P whole)) n) (second_only P p.target)
      ∙ ap (λ (x : Rows). target_from k (rows_only P s) (rows_only P t) x n) (first_only P whole)

  part_far : (m.forward (only P whole) (part_of_pair P p) n).far ≡ only P (m.forward whole p n).far
  part_far =
      ap (λ (x : Mapped). x.far) part_mapped
      ∙ ap (λ (l : List (List Value)). sides k n (rows_only P s) (rows_only P t) (rows_only P new) l (new_s k (rows_only P s) (rows_only P t) n l (rows_only P new))) part_drawn
      ∙ ap (sides k n (rows_only P s) (rows_only P t) (rows_only P new) d) (part_first k P s t new n c.goals c.least old_refs d one.rise)
      ∙ ap (λ (x : Rows). rows_only P ns ∷ x ∷ []) (part_second k P s t new n c.goals c.least old_refs (numbered n d) ns new_refs one.rise two.rise1 made_rise (λ q e. numbered_low n d q (low ids n q e)))

  part_next : (m.forward (only P whole) (part_of_pair P p) n).next ≡ (m.forward whole p n).next
  part_next = ap (λ (x : Mapped). x.next) part_mapped ∙ ap (λ (l : List (List Value)). n + length l) part_drawn

  -- T elsewhere
  rest_second : (q : ℕ) → P q ≡ false → row_of nt q ≡ row_of t q
  rest_second q e =
      second_at k s t (numbered n d) new ns q
      ∙ still_second k w a b z well s t two.wide0 two.wide1 (numbered n d) new ns q (still q e) (same_s q e) (numbered_low n d q (low ids n q e)) (λ u at. rest_refs q u e at)

  rest : only (λ q. not (P q)) (m.forward whole p n).far ≡ only (λ q. not (P q)) p.target
  rest =
      let Q : ℕ → Bool = λ q. not (P q) in
      ap (λ (x : Rows). x ∷ rows_only Q nt ∷ []) (rest_is P ns s ns_rise two.rise0 same_s)
      ∙ ap (λ (x : Rows). rows_only Q s ∷ x ∷ []) (rest_is P nt t nt_rise two.rise1 rest_second)
      ∙ ap (only Q) two.is

  -- THE FOOTPRINT
  pub decompose_footprint : IsFootprint (decompose_fk Fits k) near p n ids
  decompose_footprint = record {
    rise = c.rise;
    touches = c.touches;
    may = part_may m P may.hs may.ht whole p n may.may may.may.sound.pair.related.0 (may.may.sound.pair.related.0, decompose_part k P p.target p.source c.goals old_refs may.may.sound.pair.related.1);
    far = part_far;
    memory = refl;
    next = part_next;
    rest = rest;
    memory_rest = sym (ap (memory_only (λ q. not (P q))) may.may.sound.pair.related.0);
  }

-- CLOSED IDENTIFIERS ARE A FOOTPRINT
pub closed_decompose : ClosedIsDecomposeFootprint
closed_decompose first second place near p n ids may c =
    decompose_footprint (DecomposeFits first second place) (column_parts first second place) (length first + length second) (length first) (length second) (length first + 1) (fits first second place) near p n ids may c
