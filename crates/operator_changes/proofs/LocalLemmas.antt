-- The identifiers that changes name are a footprint of them for a local operator.
use Rattle.std.proofs.Common.{◌≡◌, ℕ, List, [], Bool, true, false, not, ap, sym, ◌∙◌, subst}
use Rattle.std.proofs.lemmas.Bool.{not-true}
use Rattle.op_law.specs.Tables.{Tables, Heading}
use Rattle.op_law.specs.Local.{HalfLocal, only, pair_only}
use Rattle.op_law.specs.Laws.{HalfLaws}
use Rattle.op_law.specs.Meaning.{Meaning, Mapped, PairState}
use Rattle.pair_parts.specs.Parts.{memory_only, part_of_pair}
use Rattle.pair_parts.proofs.MemoryLaws.{part_without}
use Rattle.op_law.specs.Premises.{MayMap, pair_after}
use Rattle.op_rows.specs.inner.CellLemmas.{has_id, AllRise}
use Rattle.op_rows.specs.inner.Tabulated.{all_rise}
use Rattle.op_rows.specs.inner.RowwiseLocal.{well_only}
use Rattle.operator_changes.specs.Calls.{MayChange}
use Rattle.row_changes.specs.Changed.{TableChanges, changed_tables}
use Rattle.operator_changes.specs.Footprint.{IsFootprint, passes}
use Rattle.row_changes.specs.Touched.{EachPass, touched}
use Rattle.operator_changes.proofs.FootLemmas.{each_more, has_passes}
use Rattle.operator_changes.proofs.PartLemmas.{tables_sound}
use Rattle.row_changes.proofs.ChangedLaws.{other_changes}
use Rattle.row_changes.proofs.TouchedLaws.{rise_over, touched_pass}

module _ (m : Meaning) (laws : HalfLaws m) (here : HalfLocal m) where
  -- what may be mapped may be mapped restricted
  pub may_only : (P : ℕ → Bool) (hs ht : List Heading) (near : Tables) (old : PairState) (n : ℕ) → MayMap m hs ht near old n → MayMap m hs ht (only P near) (pair_only P old) n
  may_only P hs ht near old n may = record {
    sound = record {
      pair = here.related P hs ht old may.sound.pair;
      source = tables_sound P n old.source may.sound.source;
      target = tables_sound P n old.target may.sound.target;
      memory = may.sound.memory;
    };
    closed = may.closed;
    near_of = well_only P hs near may.near_of;
    near_sound = tables_sound P n near may.near_sound;
  }

  module _ (near : TableChanges) (p : PairState) (n : ℕ) (may : MayChange m near p n) where
    abbrev P : ℕ → Bool
    P = passes (touched near) n

    abbrev Q : ℕ → Bool
    Q = λ q. not (passes (touched near) n q)

    abbrev whole : Tables
    whole = changed_tables p.source near

    near_pass : EachPass P near
    near_pass = each_more (has_id (touched near)) P near (has_passes (touched near) n) (touched_pass near)

    -- elsewhere nothing is changed
    rest_is : only Q (m.forward whole p n).far ≡ only Q p.target
    rest_is =
        let rise : AllRise p.source = all_rise may.hs p.source may.may.sound.pair.source_of in
        let apart : (q : ℕ) → Q q ≡ true → P q ≡ false = λ q e. not-true (P q) e in
        let same : only Q whole ≡ only Q p.source = other_changes P Q p.source near rise near_pass apart in
        let rest : MayMap m may.hs may.ht (only Q p.source) (pair_only Q p) n = subst (λ (ts : Tables). MayMap m may.hs may.ht ts (pair_only Q p) n) same (may_only Q may.hs may.ht whole p n may.may) in
        sym (here.forward Q may.hs may.ht whole p n may.may)
        ∙ ap (λ (ts : Tables). (m.forward ts (pair_only Q p) n).far) same
        ∙ ap (λ (x : Mapped). x.far) (laws.still may.hs may.ht (pair_only Q p) n rest)

    -- THE FOOTPRINT
    pub local_footprint : IsFootprint m near p n (touched near)
    local_footprint =
        let part = may_only P may.hs may.ht whole p n may.may in
        let none = here.no_memory may.hs may.ht p may.may.sound.pair in
        let none_new = here.no_memory may.hs may.ht (pair_after m whole p n) (laws.kept may.hs may.ht whole p n may.may) in
        let none_part = here.no_memory may.hs may.ht (pair_after m (only P whole) (pair_only P p) n) (laws.kept may.hs may.ht (only P whole) (pair_only P p) n part) in
        let same : pair_only P p ≡ part_of_pair P p = part_without P p none in
        let mapped : m.forward (only P whole) (part_of_pair P p) n ≡ m.forward (only P whole) (pair_only P p) n = ap (λ (x : PairState). m.forward (only P whole) x n) (sym same) in
        record {
          rise = rise_over near [] tt;
          touches = touched_pass near;
          may = record { hs = may.hs; ht = may.ht; may = subst (λ (x : PairState). MayMap m may.hs may.ht (only P whole) x n) same part };
          far = ap (λ (x : Mapped). x.far) mapped ∙ here.forward P may.hs may.ht whole p n may.may;
          memory = ap (λ (x : Mapped). x.memory) mapped ∙ none_part ∙ sym (ap (memory_only P) none_new);
          next = ap (λ (x : Mapped). x.next) mapped ∙ here.draws_none may.hs may.ht (only P whole) (pair_only P p) n part ∙ sym (here.draws_none may.hs may.ht whole p n may.may);
          rest = rest_is;
          memory_rest = ap (memory_only Q) (none_new ∙ sym none);
        }
