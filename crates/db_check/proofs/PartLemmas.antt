-- A part of the fields, and the part of a database.
use Rattle.std.specs.Prelude.{◌↔◌}
use Rattle.std.specs.Option.{option_map_or}
use Rattle.std.proofs.Common.{◌≡◌, ℕ, ◌==◌, List, [], ◌∷◌, Bool, true, false, map, length, Option, Some, None, refl, sym, ap, ◌∙◌, subst}
use Rattle.row_store.specs.Rows.{RiseFrom, Rows}
use Rattle.row_store.specs.States.{TableState}
use Rattle.version_graph.specs.Sets.{In}
use Rattle.version_graph.specs.Edges.{Rises, is_in}
use Rattle.version_graph.specs.Forest.{Crossing, Link, crossing, forest}
use Rattle.version_graph.proofs.SetLaws.{each_at, each_of}
use Rattle.op_law.specs.Calls.{tables_of}
use Rattle.op_law.specs.Laws.{Laws}
use Rattle.op_law.specs.Local.{HalfLocal, only, pair_only, rows_only}
use Rattle.op_law.specs.Meaning.{Meaning, PairState}
use Rattle.op_law.specs.Premises.{IsPair}
use Rattle.op_law.specs.Sound.{RowsSound}
use Rattle.op_law.specs.Tables.{RowsWide}
use Rattle.op_law.specs.declared.side.Aux.{Aux}
use Rattle.op_law.proofs.OnlyLaws.{rise_only}
use Rattle.layout_rules.specs.Layouts.{IsStored}
use Rattle.version_model.specs.Kept.{auxes_at, numbers_in, rows_at, value_of}
use Rattle.version_model.specs.Sound.{IsSound}
use Rattle.version_model.specs.States.{State, headings}
use Rattle.version_model.specs.Steps.{IsRelated, directed, pair_in}
use Rattle.version_model.specs.declared.numbered.Numbered.{Numbered}
use Rattle.version_model.proofs.NumberedLaws.{looked, value_of_first}
use Rattle.version_model.proofs.RunLaws.{way_laws}
use Rattle.storage_law.specs.Storage.{StandsOver, aux_of, stored_way}
use Rattle.db_state.specs.Fields.{IsDatabase, state_for, storage_in}
use Rattle.db_state.specs.declared.parts.Parts.{Parts}
use Rattle.db_state.proofs.FieldLaws.{IsShaped, Store, is_database}
use Rattle.db_state.proofs.PartLaws.{only_map}
use Rattle.db_check.specs.Checked.{IsListed}
use Rattle.db_check.specs.inner.Calls.{AreWell, MayRead}
use Rattle.db_check.specs.inner.Spans.{AreLocal, IsPart, with_tables}
use Rattle.db_check.proofs.EndLemmas.{database_listed, entry_lives}
use Rattle.db_check.proofs.OnlyLemmas.{sound_only, wide_only}

-- ---- lists of values under the same numbers

module _ {T A : Type 0} (f g : T → A) where
  abbrev Same : List (Numbered T) → List (Numbered T) → Type 0
  Same xs ys = map {B = ℕ × A} (λ (x : Numbered T). (x.number, f x.value)) xs ≡ map {B = ℕ × A} (λ (y : Numbered T). (y.number, g y.value)) ys

  -- the numbers are the same
  pub same_numbers : (xs ys : List (Numbered T)) → Same xs ys → numbers_in xs ≡ numbers_in ys
  same_numbers [] [] same = refl
  same_numbers [] (y ∷ ys) same = cc
  same_numbers (x ∷ xs) [] same = cc
  same_numbers (x ∷ xs) (y ∷ ys) same =
      let first : ◌≡◌ {A = ℕ × A} (x.number, f x.value) (y.number, g y.value) = cc in
      let number : x.number ≡ y.number = ap (λ (q : ℕ × A). q.0) first in
      let rest = same_numbers xs ys cc in
      ap (λ (k : ℕ). k ∷ numbers_in xs) number ∙ ap (λ (l : List ℕ). y.number ∷ l) rest

  -- and what is seen of the values
  pub same_seen : (d : A) (n : ℕ) (xs ys : List (Numbered T)) → Same xs ys → option_map_or f (value_of xs n) d ≡ option_map_or g (value_of ys n) d
  same_seen d n [] [] same = refl
  same_seen d n [] (y ∷ ys) same = cc
  same_seen d n (x ∷ xs) [] same = cc
  same_seen d n (x ∷ xs) (y ∷ ys) same =
      let first : ◌≡◌ {A = ℕ × A} (x.number, f x.value) (y.number, g y.value) = cc in
      let number : x.number ≡ y.number = ap (λ (q : ℕ × A). q.0) first in
      let value : f x.value ≡ g y.value = ap (λ (q : ℕ × A). q.1) first in
      let rest = same_seen d n xs ys cc in
      let M : Bool → Type 0 = λ b. option_map_or f (looked b x (value_of xs n)) d ≡ option_map_or g (looked b y (value_of ys n)) d in
      let both : M (n == y.number) = elim (n == y.number) as (λ b. M b) [ true ↦ value | false ↦ rest ] in
      ap (λ (o : Option T). option_map_or f o d) (value_of_first x xs n ∙ ap (λ (k : ℕ). looked (n == k) x (value_of xs n)) number)
      ∙ both ∙ sym (ap (λ (o : Option T). option_map_or g o d) (value_of_first y ys n))

-- the rows that pass of a table that may be there
rows_or : (P : ℕ → Bool) (o : Option TableState) → option_map_or (λ (x : TableState). rows_only P x.rows) o [] ≡ rows_only P (option_map_or (λ (x : TableState). x.rows) o [])
rows_or P None = refl
rows_or P (Some x) = refl

tables_or : (P : ℕ → Bool) (o : Option Aux) → option_map_or (λ (x : Aux). only P (tables_of x)) o [] ≡ only P (option_map_or tables_of o [])
tables_or P None = refl
tables_or P (Some x) = refl

-- ---- a part of the fields

module _ {O : Type 0} (P : ℕ → Bool) (p : Parts O) (tables : List (Numbered TableState)) (auxes : List (Numbered Aux)) (part : IsPart P p tables auxes) where
  pub part_numbers : numbers_in tables ≡ numbers_in p.stored
  part_numbers = same_numbers (λ (x : TableState). x.rows) (λ (x : TableState). rows_only P x.rows) tables p.stored part.stored

  pub part_aux_numbers : numbers_in auxes ≡ numbers_in p.aux
  part_aux_numbers = same_numbers tables_of (λ (x : Aux). only P (tables_of x)) auxes p.aux part.aux

  -- of each table the rows that pass
  pub part_rows : (t : ℕ) → rows_at tables t ≡ rows_only P (rows_at p.stored t)
  part_rows t = same_seen (λ (x : TableState). x.rows) (λ (x : TableState). rows_only P x.rows) [] t tables p.stored part.stored ∙ rows_or P (value_of p.stored t)

  pub part_auxes : (n : ℕ) → auxes_at auxes n ≡ only P (auxes_at p.aux n)
  part_auxes n = same_seen tables_of (λ (x : Aux). only P (tables_of x)) [] n auxes p.aux part.aux ∙ tables_or P (value_of p.aux n)

  -- it has the same entries
  pub part_listed : IsListed p → IsListed (with_tables p tables auxes)
  part_listed listed = record {
    valid = listed.valid;
    ascending = listed.ascending;
    entries = record {
      tables = λ t. subst (λ (l : List ℕ). In t l ↔ IsStored (forest p.graph.edges) p.layout.operators t) (sym part_numbers) (listed.entries.tables t);
      tables_ascending = subst (λ (l : List ℕ). Rises 0 l) (sym part_numbers) listed.entries.tables_ascending;
      auxes = part_aux_numbers ∙ listed.entries.auxes;
      memories = listed.entries.memories;
    };
  }

  -- so what may be read of the fields may be read of it
  pub part_read : (meaning : O → Meaning) → MayRead meaning p → MayRead meaning (with_tables p tables auxes)
  part_read meaning may = record {
    built = record { reads = may.built.reads; graph = may.built.graph; finished = may.built.finished; sides = may.built.sides; fits = may.built.fits; closed = may.built.closed };
    listed = part_listed may.listed;
    memories = may.memories;
  }

  pub part_well : AreWell p (rows_at p.stored) → AreWell (with_tables p tables auxes) (rows_at tables)
  part_well well = record {
    tables = λ t. subst (λ (r : Rows). RiseFrom 0 r × RowsWide (length (headings p.graph.edges t).columns) r) (sym (part_rows t))
        (rise_only P 0 (rows_at p.stored t) (well.tables t).0, wide_only P (length (headings p.graph.edges t).columns) (rows_at p.stored t) (well.tables t).1);
    below = λ t. subst (λ (r : Rows). RowsSound p.ids.next r) (sym (part_rows t)) (sound_only P p.ids.next (rows_at p.stored t) (well.below t));
  }

-- ---- the part of a state

-- the rows that pass of each table
abbrev pub state_only : (ℕ → Bool) → State → State
state_only P s = record { tables = λ t. rows_only P (s.tables t); memory = s.memory; next = s.next }

pub pair_of_only : {O : Type 0} (P : ℕ → Bool) (s : State) (q : Crossing O) → pair_in (state_only P s) q ≡ pair_only P (pair_in s q)
pair_of_only P s q = let a = only_map P s.tables q.near in let b = only_map P s.tables q.far in cc

way_local : (back : Bool) (m : Meaning) → m.is_local ≡ true → (directed back m).is_local ≡ true
way_local false m e = e
way_local true m e = e

module _ {O : Type 0} (meaning : O → Meaning) (laws : (o : O) → Laws (meaning o)) (p : Parts O) (locals : AreLocal meaning p) where
  -- the law of an operator that treats each identifier by itself, from either side
  pub half_local : (e : Link O) → In e (forest p.graph.edges) → (back : Bool) → HalfLocal (directed back (meaning e.operator))
  half_local e at back = (way_laws back (meaning e.operator) (laws e.operator)).local (way_local back (meaning e.operator) (locals e at))

  module _ (P : ℕ → Bool) (s : State) (e : Link O) (at : In e (forest p.graph.edges)) (back : Bool) (related : IsRelated meaning (headings p.graph.edges) s (crossing back e)) where
    abbrev q : Crossing O
    q = crossing back e

    -- a part of what relates does
    pub related_only : IsRelated meaning (headings p.graph.edges) (state_only P s) (crossing back e)
    related_only = subst (λ (x : PairState). IsPair (directed back (meaning e.operator)) (map (headings p.graph.edges) q.near) (map (headings p.graph.edges) q.far) x) (sym (pair_of_only P s q))
        ((half_local e at back).related P (map (headings p.graph.edges) q.near) (map (headings p.graph.edges) q.far) (pair_in s q) related)

    -- with that part of the auxiliary tables
    pub aux_only : aux_of meaning (state_only P s) (crossing back e) ≡ only P (aux_of meaning s (crossing back e))
    aux_only = ap (λ (x : PairState). (directed back (meaning e.operator)).aux_at_source x) (pair_of_only P s q)
        ∙ (half_local e at back).aux P (map (headings p.graph.edges) q.near) (map (headings p.graph.edges) q.far) (pair_in s q) related

  -- A PART OF A DATABASE IS ONE
  module _ (P : ℕ → Bool) (tables : List (Numbered TableState)) (auxes : List (Numbered Aux)) (part : IsPart P p tables auxes) (is : IsDatabase meaning p) where
    abbrev s : State
    s = state_for meaning p

    abbrev mine : Parts O
    mine = with_tables p tables auxes

    listed : IsListed (with_tables p tables auxes)
    listed = part_listed P p tables auxes part (database_listed meaning p is)

    sound : IsSound meaning p.graph.edges (state_only P (state_for meaning p))
    sound = record {
      related = each_of (λ (e : Link O). IsRelated meaning (headings p.graph.edges) (state_only P s) (crossing false e)) (forest p.graph.edges)
          (λ e i. related_only P s e i false (each_at (λ (f : Link O). IsRelated meaning (headings p.graph.edges) s (crossing false f)) (forest p.graph.edges) e i is.sound.related));
      closed = is.sound.closed;
      well = record {
        tables = λ t. (rise_only P 0 (s.tables t) (is.sound.well.tables t).0, wide_only P (length (headings p.graph.edges t).columns) (s.tables t) (is.sound.well.tables t).1);
        rows = λ t. sound_only P p.ids.next (s.tables t) (is.sound.well.rows t);
        memories = is.sound.well.memories;
      };
      alone = record { tables = λ t out. ap (rows_only P) (is.sound.alone.tables t out); memories = is.sound.alone.memories };
      drawn = is.sound.drawn;
    }

    store : Store meaning (with_tables p tables auxes) (state_only P (state_for meaning p))
    store = record {
      tables = listed.entries.tables;
      rows = λ t st. part_rows P p tables auxes part t ∙ ap (rows_only P) (is.stands.stored t st);
      auxes = entry_lives p (numbers_in auxes) listed.entries.auxes;
      aux = λ e i.
          (let over = each_at (λ (f : Link O). StandsOver meaning (headings p.graph.edges) (storage_in p) s (stored_way p.layout.operators f)) (forest p.graph.edges) e i is.stands.edges in
          part_auxes P p tables auxes part e.number ∙ ap (only P) over.aux ∙ sym (aux_only P s e i (is_in e.number p.layout.operators) over.related));
      memories = entry_lives p (numbers_in p.memories) is.memories;
      memory = λ e i. refl;
      next = refl;
    }

    shape : IsShaped (with_tables p tables auxes)
    shape = record {
      graph = is.graph;
      finished = is.finished;
      sides = is.sides;
      valid = is.valid;
      ascending = is.ascending;
      tables_ascending = listed.entries.tables_ascending;
      auxes = listed.entries.auxes;
      memories = is.memories;
    }

    pub part_is_database : IsDatabase meaning (with_tables p tables auxes)
    part_is_database = (is_database meaning laws is.reads mine (state_only P s) shape sound store).0
