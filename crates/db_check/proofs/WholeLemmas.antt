-- Fields of which the part of every identifier is a database are one.
use Rattle.std.specs.Prelude.{◌≤◌}
use Rattle.std.specs.Option.{option_map_or}
use Rattle.std.proofs.Common.{◌≡◌, ℕ, List, [], ◌∷◌, Bool, true, false, map, length, inl, inr, refl, sym, ap, ◌∙◌, subst}
use Rattle.std.proofs.lemmas.Bool.{cases_lt, eqb-true}
use Rattle.row_store.specs.Rows.{RiseFrom, Rows}
use Rattle.version_graph.specs.Sets.{In}
use Rattle.version_graph.specs.Edges.{is_in}
use Rattle.version_graph.specs.Forest.{Crossing, Link, crossing, forest}
use Rattle.version_graph.proofs.SetLaws.{each_at, each_of}
use Rattle.op_law.specs.Calls.{tables_of}
use Rattle.op_law.specs.Laws.{Laws}
use Rattle.op_law.specs.Local.{PairAmong, only, pair_only, rows_only}
use Rattle.op_law.specs.Meaning.{Meaning, PairState}
use Rattle.op_law.specs.Premises.{IsPair}
use Rattle.op_law.specs.Sound.{RowsSound}
use Rattle.op_law.specs.Tables.{AllRise, AreTablesOf, Heading, RowsWide, Tables}
use Rattle.layout_rules.specs.Layouts.{IsStored}
use Rattle.version_model.specs.Kept.{auxes_at, numbers_in, pairs_at, rows_at}
use Rattle.version_model.specs.Sound.{IsSound}
use Rattle.version_model.specs.States.{State, headings}
use Rattle.version_model.specs.Steps.{IsRelated, directed, pair_in}
use Rattle.version_model.proofs.RunLaws.{way_laws}
use Rattle.storage_law.specs.Storage.{StandsOver, aux_of, stored_way}
use Rattle.storage_law.proofs.CanonicalLaws.{either_way}
use Rattle.db_state.specs.Fields.{IsDatabase, state_for, storage_in}
use Rattle.db_state.specs.declared.parts.Parts.{Parts}
use Rattle.db_state.proofs.FieldLaws.{Store, is_database, none_at}
use Rattle.db_state.proofs.PartLaws.{rows_within}
use Rattle.db_check.specs.inner.Calls.{AreWell, MayRead}
use Rattle.db_check.specs.inner.Spans.{AreLocal, AuxesRise, IsGoodAt, with_tables}
use Rattle.db_check.proofs.EndLemmas.{entry_lives, shaped}
use Rattle.db_check.proofs.GatherLemmas.{gather, gather_above, gather_below, gather_none, gather_rises, gather_sound, gather_wide}
use Rattle.db_check.proofs.ListLemmas.{found_has}
use Rattle.db_check.proofs.OnlyLemmas.{just, just_own, none_above, same_at_each, tables_at_each}
use Rattle.db_check.proofs.PartLemmas.{half_local, part_auxes, part_rows}

tables_fit : (heading : ℕ → Heading) (f : ℕ → Rows) → ((t : ℕ) → RiseFrom 0 (f t) × RowsWide (length (heading t).columns) (f t)) → (ks : List ℕ) → AreTablesOf (map heading ks) (map f ks)
tables_fit heading f fit [] = tt
tables_fit heading f fit (k ∷ ks) = (fit k, tables_fit heading f fit ks)

tables_within : (P Q : ℕ → Bool) → ((q : ℕ) → P q ≡ true → Q q ≡ true) → (tables : Tables) → only P (only Q tables) ≡ only P tables
tables_within P Q more [] = refl
tables_within P Q more (t ∷ ts) = let a = rows_within P Q more t in let b = tables_within P Q more ts in cc

only_same : (P : ℕ → Bool) (f g : ℕ → Rows) → ((t : ℕ) → rows_only P (f t) ≡ rows_only P (g t)) → (ks : List ℕ) → only P (map f ks) ≡ only P (map g ks)
only_same P f g same [] = refl
only_same P f g same (k ∷ ks) = let a = same k in let b = only_same P f g same ks in cc

module _ {O : Type 0} (meaning : O → Meaning) (laws : (o : O) → Laws (meaning o)) (p : Parts O) (may : MayRead meaning p) (well : AreWell p (rows_at p.stored)) (locals : AreLocal meaning p) (rise : AuxesRise p.aux) (each : (id : ℕ) → IsGoodAt meaning p id) where
  abbrev heading : ℕ → Heading
  heading = headings p.graph.edges

  -- the part among whose identifiers this one is
  abbrev mine : ℕ → Parts O
  mine id = with_tables p (each id).good.tables (each id).good.auxes

  -- and its state
  abbrev own : ℕ → State
  own id = state_for meaning (mine id)

  base : (id : ℕ) → IsDatabase meaning (mine id)
  base id = (each id).good.database

  -- the identifier passes the test of its part
  within : (id q : ℕ) → just id q ≡ true → (each id).test q ≡ true
  within id q is = subst (λ (k : ℕ). (each id).test k ≡ true) (sym (eqb-true q id is)) (each id).among

  -- all parts together: of each identifier the rows that its own part has
  abbrev joined : State
  joined = record { tables = λ t. gather (λ id. (own id).tables t) p.ids.next; memory = pairs_at p.memories; next = p.ids.next }

  joined_fits : (t : ℕ) → RiseFrom 0 (joined.tables t) × RowsWide (length (heading t).columns) (joined.tables t)
  joined_fits t = (
    (gather_rises (λ id. (own id).tables t) (λ id. ((base id).sound.well.tables t).0) p.ids.next).0,
    gather_wide (λ id. (own id).tables t) (length (heading t).columns) (λ id. ((base id).sound.well.tables t).1) p.ids.next,
  )

  joined_sound : (t : ℕ) → RowsSound p.ids.next (joined.tables t)
  joined_sound t = gather_sound (λ id. (own id).tables t) p.ids.next (λ id. (base id).sound.well.rows t) p.ids.next

  -- of one identifier the whole has what its part has
  rows_own : (id t : ℕ) → rows_only (just id) (joined.tables t) ≡ rows_only (just id) ((own id).tables t)
  rows_own id t = elim (cases_lt id p.ids.next) as (λ _. rows_only (just id) (joined.tables t) ≡ rows_only (just id) ((own id).tables t)) [
    | inl under ↦ gather_below (λ k. (own k).tables t) p.ids.next id under
    | inr above ↦ gather_above (λ k. (own k).tables t) p.ids.next id above ∙ sym (none_above p.ids.next id above ((own id).tables t) ((base id).sound.well.rows t))
  ]

  pair_own : (id : ℕ) (q : Crossing O) → pair_only (just id) (pair_in joined q) ≡ pair_only (just id) (pair_in (own id) q)
  pair_own id q =
      let a = only_same (just id) joined.tables (own id).tables (rows_own id) q.near in
      let b = only_same (just id) joined.tables (own id).tables (rows_own id) q.far in
      ap (λ (x : Tables). record { source = x; target = only (just id) (map joined.tables q.far); memory = pairs_at p.memories q.number }) a
      ∙ ap (λ (x : Tables). record { source = only (just id) (map (own id).tables q.near); target = x; memory = pairs_at p.memories q.number }) b

  -- ---- one operator

  module _ (e : Link O) (at : In e (forest p.graph.edges)) where
    abbrev back : Bool
    back = is_in e.number p.layout.operators

    abbrev way : Crossing O
    way = crossing (is_in e.number p.layout.operators) e

    abbrev m : Meaning
    m = directed (is_in e.number p.layout.operators) (meaning e.operator)

    abbrev hs : List Heading
    hs = map (headings p.graph.edges) (crossing (is_in e.number p.layout.operators) e).near

    abbrev ht : List Heading
    ht = map (headings p.graph.edges) (crossing (is_in e.number p.layout.operators) e).far

    over : (id : ℕ) → StandsOver meaning (headings p.graph.edges) (storage_in (mine id)) (own id) way
    over id = each_at (λ (f : Link O). StandsOver meaning (headings p.graph.edges) (storage_in (mine id)) (own id) (stored_way p.layout.operators f)) (forest p.graph.edges) e at (base id).stands.edges

    among : (id : ℕ) → PairAmong m hs ht (pair_in joined way) id
    among id = record {
      test = just id;
      among = just_own id;
      pair = subst (λ (x : PairState). IsPair m hs ht x) (sym (pair_own id way)) ((half_local meaning laws p locals e at back).related (just id) hs ht (pair_in (own id) way) (over id).related);
    }

    -- it relates its sides
    related : IsPair m hs ht (pair_in joined way)
    related = (half_local meaning laws p locals e at back).joined hs ht (pair_in joined way)
        ((half_local meaning laws p locals e at back).no_memory hs ht (pair_in (own 0) way) (over 0).related)
        (tables_fit heading joined.tables joined_fits way.near) (tables_fit heading joined.tables joined_fits way.far) among

    aux_rise : AllRise (auxes_at p.aux e.number)
    aux_rise = found_has tables_of [] (λ (n : ℕ) (ts : Tables). AllRise ts) (λ n. tt) p.aux rise e.number

    aux_own : (id : ℕ) → only (just id) (auxes_at p.aux e.number) ≡ only (just id) (aux_of meaning joined way)
    aux_own id =
        let part = part_auxes (each id).test p (each id).good.tables (each id).good.auxes (each id).good.part e.number in
        let half = half_local meaning laws p locals e at back in
        sym (tables_within (just id) (each id).test (within id) (auxes_at p.aux e.number))
        ∙ ap (only (just id)) (sym part ∙ (over id).aux)
        ∙ sym (half.aux (just id) hs ht (pair_in (own id) way) (over id).related)
        ∙ ap (λ (x : PairState). m.aux_at_source x) (sym (pair_own id way))
        ∙ half.aux (just id) hs ht (pair_in joined way) related

    -- and what is kept of it is its pair's
    aux_is : auxes_at p.aux e.number ≡ aux_of meaning joined way
    aux_is = tables_at_each (auxes_at p.aux e.number) (aux_of meaning joined way) aux_rise ((way_laws back (meaning e.operator) (laws e.operator)).aux_rises hs ht (pair_in joined way) related) aux_own

  -- ---- the whole

  stored_is : (t : ℕ) → IsStored (forest p.graph.edges) p.layout.operators t → rows_at p.stored t ≡ joined.tables t
  stored_is t st = same_at_each (rows_at p.stored t) (joined.tables t) (well.tables t).0 (joined_fits t).0 (λ id.
      sym (rows_within (just id) (each id).test (within id) (rows_at p.stored t))
      ∙ ap (rows_only (just id)) (sym (part_rows (each id).test p (each id).good.tables (each id).good.auxes (each id).good.part t) ∙ (base id).stands.stored t st)
      ∙ sym (rows_own id t))

  sound : {n : ℕ} → 1 ≤ n → n ≡ p.ids.next → IsSound meaning p.graph.edges joined
  sound from is = record {
    related = each_of (λ (e : Link O). IsRelated meaning (headings p.graph.edges) joined (crossing false e)) (forest p.graph.edges)
        (λ e i. either_way meaning (headings p.graph.edges) joined (is_in e.number p.layout.operators) false e (related e i));
    closed = may.built.closed;
    well = record { tables = joined_fits; rows = joined_sound; memories = may.memories };
    alone = record {
      tables = λ t out. gather_none (λ id. (own id).tables t) (λ id. (base id).sound.alone.tables t out) p.ids.next;
      memories = λ k out. ap (λ o. option_map_or (λ x. x.entries) o []) (none_at p.memories k (λ i. out (entry_lives p (numbers_in p.memories) may.listed.entries.memories k i)));
    };
    drawn = subst (λ (k : ℕ). 1 ≤ k) is from;
  }

  store : Store meaning p joined
  store = record {
    tables = may.listed.entries.tables;
    rows = stored_is;
    auxes = entry_lives p (numbers_in p.aux) may.listed.entries.auxes;
    aux = aux_is;
    memories = entry_lives p (numbers_in p.memories) may.listed.entries.memories;
    memory = λ e i. refl;
    next = refl;
  }

  -- THE WHOLE IS A DATABASE
  pub whole_is : {n : ℕ} → 1 ≤ n → n ≡ p.ids.next → IsDatabase meaning p
  whole_is from is = (is_database meaning laws may.built.reads p joined (shaped meaning p may.built may.listed) (sound from is) store).0
