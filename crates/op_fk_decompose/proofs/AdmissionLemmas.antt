-- What is told of a target or a source is what is admitted.
use Rattle.std.proofs.Common.{◌≡◌, ℕ, ◌+◌, List, [], ◌∷◌, length, Option, Some, None, refl, ap, sym, ◌∙◌, subst}
use Rattle.std.proofs.lemmas.Bool.{and_from, and_parts}
use Rattle.row_store.specs.Rows.{Rows, RiseFrom, row_of}
use Rattle.id_memory.specs.Pairs.{Pairs}
use Rattle.op_law.specs.Tables.{Tables, Heading, AreTablesOf}
use Rattle.op_law.specs.Identifiers.{ids_in, ids_over}
use Rattle.op_law.specs.Meaning.{Meaning, PairState, flip, exchanged}
use Rattle.op_law.specs.Premises.{Belongs}
use Rattle.op_law.specs.Calls.{Admits}
use Rattle.op_rows.specs.inner.Tabulated.{rise_from}
use Rattle.op_tables.specs.SideTables.{first_table, second_table, third_table}
use Rattle.foreign_keys.specs.KeyParts.{FkParts}
use Rattle.op_fk_decompose.specs.Decompose.{first_again, get_first, get_second, get_at, leads, decompose_source, decompose_read}
use Rattle.foreign_keys.specs.Seeking.{goals_in}
use Rattle.foreign_keys.specs.inner.SeekLemmas.{goals_rise}
use Rattle.op_tables.specs.Wide.{are_wide, wide_are, are_wide_all}
use Rattle.op_tables.specs.Lookups.{one_wide, two_wide, ids_rise}
use Rattle.op_fk_decompose.specs.inner.DecomposeBackward.{joined_at, back_wide, back_rise}
use Rattle.op_fk_decompose.specs.inner.DecomposeLaws.{target_of}
use Rattle.op_fk_decompose.specs.Columns.{column_parts, DecomposeFits, decompose_columns}
use Rattle.op_fk_decompose.specs.inner.ColumnLemmas.{fits, decompose_keeps}
use Rattle.op_fk_decompose.specs.inner.Admitted.{Agrees, IsTold, IsToldBack}

module _ (first second : List ℕ) (place : ℕ) where
  -- the parts
  abbrev k : FkParts
  k = column_parts first second place

  -- DECOMPOSE with these parts
  abbrev m : Meaning
  m = decompose_columns first second place

  -- how many columns S has
  abbrev z : ℕ
  z = length first + 1

  -- how many columns T has
  abbrev b : ℕ
  b = length second

  -- S that is read rises
  first_rise : (r keys : Rows) → RiseFrom 0 (get_first k r keys)
  first_rise r keys = rise_from 0 (ids_in keys []) (first_again k r keys) (ids_rise keys [] tt)

  -- T that is read rises
  second_rise : (r s dang kept : Rows) → RiseFrom 0 (get_second k r s dang kept)
  second_rise r s dang kept = rise_from 0 (ids_over (r ∷ kept ∷ []) (goals_in (leads k dang) s)) (get_at k r s dang kept)
      (ids_rise kept (ids_in r (goals_in (leads k dang) s)) (ids_rise r (goals_in (leads k dang) s) (goals_rise (leads k dang) s)))

  -- what agrees belongs together
  belongs : (hs ht : List Heading) (near aux : Tables) (memory : Pairs) → DecomposeFits first second place hs ht → AreTablesOf hs near → Agrees k z b near aux memory (decompose_read k near aux)
      → Belongs m hs ht aux (record { source = near; target = decompose_read k near aux; memory = memory })
  belongs hs ht near aux memory f of agrees =
      let fk = fits first second place hs ht f in
      let s = get_first k (first_table near) (first_table aux) in
      let t = get_second k (first_table near) s (second_table aux) (third_table aux) in
      let wide = and_parts (are_wide z s) (are_wide b t) agrees.1.0 in
      record {
        pair = record {
          fits = f;
          related = (agrees.0, λ p. sym (ap (λ (ts : Tables). row_of (first_table ts) p) agrees.1.1.0) ∙ joined_at k s t p);
          source_of = of;
          target_of = two_wide ht fk.first fk.second z b s t fk.target_is fk.first_wide fk.second_wide
              (first_rise (first_table near) (first_table aux)) (wide_are z s wide.0) (second_rise (first_table near) s (second_table aux) (third_table aux)) (wide_are b t wide.1);
        };
        aux_is = sym agrees.1.1.1;
      }

  -- what belongs together agrees
  agrees : (hs ht : List Heading) (near aux : Tables) (memory : Pairs) (far : Tables) → Belongs m hs ht aux (record { source = near; target = far; memory = memory }) → Agrees k z b near aux memory (decompose_read k near aux)
  agrees hs ht near aux memory far h =
      let p : PairState = record { source = near; target = far; memory = memory } in
      let laws = decompose_keeps first second place in
      let read : decompose_read k near aux ≡ far = ap (decompose_read k near) h.aux_is ∙ laws.0.recovered hs ht p refl h.pair in
      let two = target_of (DecomposeFits first second place) k (length first + length second) (length first) b z (fits first second place) hs ht far h.pair.fits h.pair.target_of in
      let back : decompose_source k far ≡ near = laws.1.recovered ht hs (exchanged p) refl (record { fits = h.pair.fits; related = h.pair.related; source_of = h.pair.target_of; target_of = h.pair.source_of }) in
      subst (λ (x : Tables). Agrees k z b near aux memory x) (sym read)
      (h.pair.related.0, (and_from (are_wide z (first_table far)) (are_wide b (second_table far)) (are_wide_all z (first_table far) two.wide0) (are_wide_all b (second_table far) two.wide1), (back, sym h.aux_is)))

  -- what is told of a source is admitted
  pub told : (near aux : Tables) (memory : Pairs) (far : Option Tables) → IsTold k z b near aux memory far → Admits m near aux memory far
  told near aux memory (Some far) h = λ hs ht f of.
      subst (λ (x : Tables). Belongs m hs ht aux (record { source = near; target = x; memory = memory })) (sym h.0)
      (belongs hs ht near aux memory f of (subst (λ (x : Tables). Agrees k z b near aux memory x) h.0 h.1))
  told near aux memory None h = λ hs ht far own. h (agrees hs ht near aux memory far own)

  -- what is told of a target is admitted
  pub told_back : (near aux : Tables) (memory : Pairs) (far : Option Tables) → IsToldBack k near aux memory far → Admits (flip m) near aux memory far
  told_back near aux memory (Some far) h = λ ht hs f of.
      let fk = fits first second place hs ht f in
      let two = target_of (DecomposeFits first second place) k (length first + length second) (length first) b z (fits first second place) hs ht near f of in
      let w = length first + length second in
      subst (λ (x : Tables). Belongs (flip m) ht hs aux (record { source = near; target = x; memory = memory })) (sym h.0)
      (record {
        pair = record {
          fits = f;
          related = (h.1.0, λ p. joined_at k (first_table near) (second_table near) p);
          source_of = of;
          target_of = one_wide hs fk.source w (first_table (decompose_source k near)) fk.source_is fk.source_wide
              (back_rise (DecomposeFits first second place) k w (length first) b z (fits first second place) near two) (back_wide (DecomposeFits first second place) k w (length first) b z (fits first second place) fk.well near two);
        };
        aux_is = h.1.1;
      })
  told_back near aux memory None h = λ ht hs far own. h (own.pair.related.0, own.aux_is)
