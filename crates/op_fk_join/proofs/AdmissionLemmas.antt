-- JOIN ON FK: what is told of a source or a target is what is admitted.
use Rattle.std.proofs.Common.{◌≡◌, ℕ, ◌+◌, ◌-◌, List, [], ◌∷◌, Option, Some, None, refl, ap, sym, ◌∙◌, subst}
use Rattle.std.proofs.lemmas.Bool.{and_from, and_parts}
use Rattle.row_store.specs.Rows.{Rows, RiseFrom, row_of}
use Rattle.id_memory.specs.Pairs.{Pairs}
use Rattle.op_law.specs.Tables.{Tables, Heading, AreTablesOf}
use Rattle.op_law.specs.Identifiers.{ids_in, ids_over}
use Rattle.op_law.specs.Meaning.{Meaning, PairState, flip, exchanged}
use Rattle.op_law.specs.Premises.{Belongs}
use Rattle.op_law.specs.Calls.{Admits}
use Rattle.op_rows.specs.inner.Tabulated.{rise_from}
use Rattle.op_tables.specs.SideTables.{first_table, second_table, third_table}
use Rattle.foreign_keys.specs.KeyParts.{FkParts}
use Rattle.op_fk_join.specs.Join.{key_leads, back_first_at, back_first, back_second_at, back_second, join_target, join_read}
use Rattle.foreign_keys.specs.Seeking.{goals_in}
use Rattle.foreign_keys.specs.inner.SeekLemmas.{goals_rise}
use Rattle.op_tables.specs.Wide.{are_wide, wide_are, are_wide_all}
use Rattle.op_tables.specs.Lookups.{one_wide, two_wide, ids_rise}
use Rattle.op_fk_join.specs.inner.JoinLaws.{joined_at, table_rise, table_wide, source_two}
use Rattle.op_fk_join.specs.Columns.{side_parts, JoinFits, join_columns}
use Rattle.op_fk_join.specs.inner.ColumnLemmas.{fits, join_keeps}
use Rattle.op_fk_join.specs.inner.Admitted.{JoinAgrees, IsJoinTold, IsJoinToldOn}

module _ (first second place : ℕ) where
  -- the parts
  abbrev k : FkParts
  k = side_parts (first - 1) second place

  -- the operator
  abbrev m : Meaning
  m = join_columns first second place

  -- how many values R has
  abbrev w : ℕ
  w = (first - 1) + second

  -- how many values S has
  abbrev z : ℕ
  z = (first - 1) + 1

  -- S that is read rises
  first_rise : (r keys others : Rows) → RiseFrom 0 (back_first k r keys others)
  first_rise r keys others = rise_from 0 (ids_over (r ∷ others ∷ []) []) (back_first_at k r keys others) (ids_rise others (ids_in r []) (ids_rise r [] tt))

  -- T that is read rises
  second_rise : (r keys others : Rows) → RiseFrom 0 (back_second k r keys others)
  second_rise r keys others = rise_from 0 (ids_over (others ∷ []) (goals_in key_leads keys)) (back_second_at k r keys others) (ids_rise others (goals_in key_leads keys) (goals_rise key_leads keys))

  -- the sources that are read belong to the target, where they agree
  belongs : (ht hs : List Heading) (near aux : Tables) (memory : Pairs) → JoinFits first second place hs ht → AreTablesOf ht near → JoinAgrees k z second near aux memory (join_read k near aux)
      → Belongs (flip m) ht hs aux (record { source = near; target = join_read k near aux; memory = memory })
  belongs ht hs near aux memory f of agrees =
      let fk = fits first second place hs ht f in
      let s = back_first k (first_table near) (first_table aux) (second_table aux) in
      let t = back_second k (first_table near) (first_table aux) (third_table aux) in
      let wide = and_parts (are_wide z s) (are_wide second t) agrees.1.0 in
      record {
        pair = record {
          fits = f;
          related = (agrees.0, λ p. sym (ap (λ (ts : Tables). row_of (first_table ts) p) agrees.1.1.0) ∙ joined_at k s t p);
          source_of = of;
          target_of = two_wide hs fk.first fk.second z second s t fk.target_is fk.first_wide fk.second_wide
              (first_rise (first_table near) (first_table aux) (second_table aux)) (wide_are z s wide.0) (second_rise (first_table near) (first_table aux) (third_table aux)) (wide_are second t wide.1);
        };
        aux_is = sym agrees.1.1.1;
      }

  -- sources that belong to the target are those that are read, and agree
  agrees : (ht hs : List Heading) (near aux : Tables) (memory : Pairs) (far : Tables) → Belongs (flip m) ht hs aux (record { source = near; target = far; memory = memory }) → JoinAgrees k z second near aux memory (join_read k near aux)
  agrees ht hs near aux memory far h =
      let p : PairState = record { source = near; target = far; memory = memory } in
      let laws = join_keeps first second place in
      let read : join_read k near aux ≡ far = ap (join_read k near) h.aux_is ∙ laws.1.recovered ht hs p refl h.pair in
      let two = source_two (JoinFits first second place) k w (first - 1) second z (fits first second place) hs ht far h.pair.fits h.pair.target_of in
      let on : join_target k far ≡ near = laws.0.recovered hs ht (exchanged p) refl (record { fits = h.pair.fits; related = h.pair.related; source_of = h.pair.target_of; target_of = h.pair.source_of }) in
      subst (λ (x : Tables). JoinAgrees k z second near aux memory x) (sym read)
      (h.pair.related.0, (and_from (are_wide z (first_table far)) (are_wide second (second_table far)) (are_wide_all z (first_table far) two.wide0) (are_wide_all second (second_table far) two.wide1), (on, sym h.aux_is)))

  -- what is told of a target is what is admitted
  pub join_told : (near aux : Tables) (memory : Pairs) (far : Option Tables) → IsJoinTold k z second near aux memory far → Admits (flip m) near aux memory far
  join_told near aux memory (Some far) h = λ ht hs f of.
      subst (λ (x : Tables). Belongs (flip m) ht hs aux (record { source = near; target = x; memory = memory })) (sym h.0)
      (belongs ht hs near aux memory f of (subst (λ (x : Tables). JoinAgrees k z second near aux memory x) h.0 h.1))
  join_told near aux memory None h = λ ht hs far own. h (agrees ht hs near aux memory far own)

  -- what is told of a source is what is admitted
  pub join_told_on : (near aux : Tables) (memory : Pairs) (far : Option Tables) → IsJoinToldOn k near aux memory far → Admits m near aux memory far
  join_told_on near aux memory (Some far) h = λ hs ht f of.
      let fk = fits first second place hs ht f in
      let two = source_two (JoinFits first second place) k w (first - 1) second z (fits first second place) hs ht near f of in
      subst (λ (x : Tables). Belongs m hs ht aux (record { source = near; target = x; memory = memory })) (sym h.0)
      (record {
        pair = record {
          fits = f;
          related = (h.1.0, λ p. joined_at k (first_table near) (second_table near) p);
          source_of = of;
          target_of = one_wide ht fk.source w (first_table (join_target k near)) fk.source_is fk.source_wide
              (table_rise (JoinFits first second place) k w (first - 1) second z (fits first second place) near two) (table_wide (JoinFits first second place) k w (first - 1) second z (fits first second place) fk.well near two);
        };
        aux_is = h.1.1;
      })
  join_told_on near aux memory None h = λ hs ht far own. h (own.pair.related.0, own.aux_is)
