-- One operator is crossed from its stored side.
use Rattle.std.specs.Prelude.{◌≤◌}
use Rattle.std.specs.Option.{option_map_or}
use Rattle.std.proofs.Common.{◌≡◌, ℕ, List, [], ◌∷◌, Bool, true, false, map, length, Option, Some, None, refl, sym, ap, ◌∙◌, subst}
use Rattle.std.proofs.lemmas.List.{length-map}
use mathlib.Core.List.{reverse}
use Rattle.row_store.specs.Rows.{Rows}
use Rattle.id_memory.specs.Pairs.{Pairs}
use Rattle.id_memory.specs.States.{MemoryState}
use Rattle.version_graph.specs.Sets.{In}
use Rattle.version_graph.specs.Edges.{is_in, numbers}
use Rattle.version_graph.specs.Forest.{Crossing, Link, crossing, forest}
use Rattle.version_graph.specs.declared.parts.Placed.{Placed}
use Rattle.version_graph.proofs.SetLaws.{each_at}
use Rattle.version_graph.proofs.WalkStepLaws.{in_reverse}
use Rattle.op_law.specs.Tables.{AreTablesOf, Heading, Tables}
use Rattle.op_law.specs.Sound.{TablesSound}
use Rattle.op_law.specs.Calls.{tables_of, Admits as AdmitsFar}
use Rattle.op_law.specs.Laws.{Laws}
use Rattle.op_law.specs.Meaning.{Meaning}
use Rattle.op_law.specs.Premises.{Belongs, SomeNear}
use Rattle.op_law.specs.declared.side.Aux.{Aux}
use Rattle.layout_rules.proofs.LinkLaws.{number_listed}
use Rattle.version_model.specs.Kept.{HasSides, pairs_at, value_of, auxes_at, numbers_in}
use Rattle.version_model.specs.Put.{put}
use Rattle.version_model.specs.States.{State, headings}
use Rattle.version_model.specs.Steps.{directed}
use Rattle.version_model.proofs.CrossingLaws.{numbers_linked}
use Rattle.version_model.proofs.RunLaws.{way_laws}
use Rattle.storage_law.specs.Storage.{stored_way}
use Rattle.storage_law.proofs.ReadLaws.{IsRead, read_at}
use Rattle.db_state.specs.Fields.{IsDatabase, state_for, storage_in}
use Rattle.db_state.specs.declared.parts.Parts.{Parts}
use Rattle.db_state.proofs.FoundLaws.{few_on, some_at}
use Rattle.db_check.specs.inner.Calls.{AreWell, IsNone, IsOver, MayRead}
use Rattle.db_check.proofs.ReadLemmas.{far_is, may_read}

-- each table belongs to a heading
are_long : (hs : List Heading) (ts : Tables) → AreTablesOf hs ts → length ts ≡ length hs
are_long [] [] h = refl
are_long [] (t ∷ ts) h = absurd h
are_long (x ∷ hs) [] h = absurd h
are_long (x ∷ hs) (t ∷ ts) h = ap (λ (n : ℕ). Rattle.std.specs.Prelude.suc n) (are_long hs ts h.1)

-- tables of a state that may stand
pub sound_of : (n : ℕ) (s : State) → ((t : ℕ) → Rattle.op_law.specs.Sound.RowsSound n (s.tables t)) → (ks : List ℕ) → TablesSound n (map s.tables ks)
sound_of n s all [] = tt
sound_of n s all (k ∷ ks) = (all k, sound_of n s all ks)

module _ {O : Type 0} (meaning : O → Meaning) (p : Parts O) (may : MayRead meaning p) where
  abbrev es : List (Placed O)
  es = p.graph.edges

  abbrev heading : ℕ → Heading
  heading = headings p.graph.edges

  lives : (e : Link O) → In e (forest es) → In e.number (reverse (numbers es))
  lives e at = in_reverse e.number (numbers es) (subst (λ (l : List ℕ). In e.number l) (numbers_linked es) (number_listed (forest es) e at))

  -- a live operator has auxiliary tables and a memory
  pub has_aux : (e : Link O) → In e (forest es) → (n : ℕ) → e.number ≡ n → None ≡ value_of p.aux n → ⊥
  has_aux e at n same none = some_at p.aux n (subst (λ (k : ℕ). In k (numbers_in p.aux)) same (subst (λ (l : List ℕ). In e.number l) (sym may.listed.entries.auxes) (lives e at))) (sym none)

  pub has_memory : (e : Link O) → In e (forest es) → (n : ℕ) → e.number ≡ n → None ≡ value_of p.memories n → ⊥
  has_memory e at n same none = some_at p.memories n (subst (λ (k : ℕ). In k (numbers_in p.memories)) same (subst (λ (l : List ℕ). In e.number l) (sym may.listed.entries.memories) (lives e at))) (sym none)

  -- it has at most two tables on the side from which it is crossed
  pub near_within : (back : Bool) (e : Link O) → In e (forest es) → length (crossing back e).near ≤ 2
  near_within back e at = (few_on e (each_at HasSides (forest es) e at may.built.sides) back).0

  -- it is built for the headings of its tables
  pub fits_from : (back : Bool) (e : Link O) → In e (forest es) → (directed back (meaning e.operator)).Fits (map heading (crossing back e).near) (map heading (crossing back e).far)
  fits_from true e at = each_at (λ (f : Link O). (meaning f.operator).Fits (map heading f.sources) (map heading f.targets)) (forest es) e at may.built.fits
  fits_from false e at = each_at (λ (f : Link O). (meaning f.operator).Fits (map heading f.sources) (map heading f.targets)) (forest es) e at may.built.fits

  module _ (rows : ℕ → Rows) (well : AreWell p rows) where
    tables_here : (ks : List ℕ) → AreTablesOf (map heading ks) (map rows ks)
    tables_here [] = tt
    tables_here (k ∷ ks) = (well.tables k, tables_here ks)

    module _ (e : Link O) (at : In e (forest p.graph.edges)) (q : Crossing O) (over : q ≡ stored_way p.layout.operators e) (near : Tables) (near_is : near ≡ map rows q.near) where
      abbrev m : Meaning
      m = directed q.backward (meaning q.operator)

      fits : m.Fits (map heading q.near) (map heading q.far)
      fits = subst (λ (x : Crossing O). (directed x.backward (meaning x.operator)).Fits (map heading x.near) (map heading x.far)) (sym over) (fits_from (is_in e.number p.layout.operators) e at)

      near_of : AreTablesOf (map heading q.near) near
      near_of = subst (λ (x : Tables). AreTablesOf (map heading q.near) x) (sym near_is) (tables_here q.near)

      pub some_near : SomeNear m near
      some_near = record { hs = map heading q.near; ht = map heading q.far; fits = fits; near_of = near_of }

      module _ (laws : (o : O) → Laws (meaning o)) (n : ℕ) (number : e.number ≡ n) (aux : Aux) (memory : MemoryState) (aux_is : Some aux ≡ value_of p.aux n) (memory_is : Some memory ≡ value_of p.memories n) where
        q_number : n ≡ q.number
        q_number = sym number ∙ sym (ap (λ (x : Crossing O). x.number) over)

        aux_at : tables_of aux ≡ (storage_in p).aux q.number
        aux_at = ap (λ (o : Option Aux). option_map_or tables_of o []) aux_is ∙ ap (λ (k : ℕ). auxes_at p.aux k) q_number

        memory_at : memory.entries ≡ (storage_in p).memory q.number
        memory_at = ap (λ (o : Option MemoryState). option_map_or (λ (x : MemoryState). x.entries) o []) memory_is ∙ ap (λ (k : ℕ). pairs_at p.memories k) q_number

        -- the near tables are those of the state, seen from the stored side of the operator
        turned : ((t : ℕ) → In t q.near → rows t ≡ (state_for meaning p).tables t) → (t : ℕ) → In t (stored_way p.layout.operators e).near → rows t ≡ (state_for meaning p).tables t
        turned right t i = right t (subst (λ (x : Crossing O). In t x.near) (sym over) i)

        -- nothing belongs to what is stored
        pub none_over : AdmitsFar m near (tables_of aux) memory.entries None → IsNone meaning p rows q
        none_over nothing is right =
            let st = may_read meaning laws p is e at q over rows (turned right) near n number aux memory near_is aux_is memory_is in
            nothing st.hs st.ht st.far st.belongs

        module _ (far : Tables) (got : AdmitsFar m near (tables_of aux) memory.entries (Some far)) where
          belongs : Belongs m (map heading q.near) (map heading q.far) (tables_of aux) (record { source = near; target = far; memory = memory.entries })
          belongs = got (map heading q.near) (map heading q.far) fits near_of

          -- a table for each number
          pub far_long : length far ≡ length q.far
          far_long = are_long (map heading q.far) far belongs.pair.target_of ∙ length-map q.far heading

          -- the far side was made
          pub is_over : (new : ℕ → Rows) → new ≡ put rows q.far far → TablesSound p.ids.next far → IsOver meaning p rows new q
          is_over new made below = record {
            far = far;
            made = made;
            belongs =
                subst (λ (x : Tables). Belongs m (map heading q.near) (map heading q.far) ((storage_in p).aux q.number) (record { source = x; target = far; memory = (storage_in p).memory q.number })) near_is
                (subst (λ (x : Tables). Belongs m (map heading q.near) (map heading q.far) x (record { source = near; target = far; memory = (storage_in p).memory q.number })) aux_at
                (subst (λ (x : Pairs). Belongs m (map heading q.near) (map heading q.far) (tables_of aux) (record { source = near; target = far; memory = x })) memory_at belongs));
            below = below;
          }

          -- were the fields a database, the far side would be that of its state
          far_right : (is : IsDatabase meaning p) → ((t : ℕ) → In t q.near → rows t ≡ (state_for meaning p).tables t) → far ≡ map (state_for meaning p).tables q.far
          far_right is right =
              let read : IsRead meaning heading (storage_in p) (state_for meaning p) q = subst (λ (x : Crossing O). IsRead meaning heading (storage_in p) (state_for meaning p) x) (sym over) (read_at meaning laws is.reads es (storage_in p) is.valid (state_for meaning p) is.stands e at) in
              let back : m.read_target near (m.aux_at_source (record { source = near; target = far; memory = memory.entries })) memory.entries ≡ far =
              (way_laws q.backward (meaning q.operator) (laws q.operator)).recovered (map heading q.near) (map heading q.far) (record { source = near; target = far; memory = memory.entries }) read.reads belongs.pair in
              let same : far ≡ m.read_target near (tables_of aux) memory.entries = sym back ∙ ap (λ (x : Tables). m.read_target near x memory.entries) (sym belongs.aux_is) in
              far_is meaning laws p is e at q over rows (turned right) near n number aux memory near_is aux_is memory_is far same

          -- so it would stand before the next identifier
          pub unsound : (TablesSound p.ids.next far → ⊥) → IsNone meaning p rows q
          unsound above is right = above (subst (λ (x : Tables). TablesSound p.ids.next x) (sym (far_right is right)) (sound_of p.ids.next (state_for meaning p) is.sound.well.rows q.far))
