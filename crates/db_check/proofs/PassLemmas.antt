-- What the passes keep.
use Rattle.std.specs.Prelude.{◌<◌, ◌⊎◌, slice_get, Ok, Err}
use Rattle.std.proofs.Common.{◌≡◌, ℕ, ◌+◌, List, [], ◌∷◌, Bool, true, false, map, length, Some, inl, inr, refl, sym, ap, ◌∙◌, subst, arith}
use Rattle.std.proofs.lemmas.Bool.{cases_eq}
use Rattle.row_store.specs.Rows.{RiseFrom, Rows}
use Rattle.version_graph.specs.Sets.{Apart, Distinct, In}
use Rattle.version_graph.specs.Tables.{table_numbers}
use Rattle.version_graph.specs.Edges.{AreEdges, is_in, made as made_by}
use Rattle.version_graph.specs.Forest.{Crossing, Link, crossing, forest}
use Rattle.version_graph.proofs.SetLaws.{in_of_test, is_in_true}
use Rattle.version_graph.proofs.WalkLaws.{IsForest, is_forest}
use Rattle.op_law.specs.Tables.{AreTablesOf, Heading, RowsWide, Tables}
use Rattle.op_law.specs.Sound.{RowsSound, TablesSound}
use Rattle.op_law.specs.Laws.{Laws}
use Rattle.op_law.specs.Meaning.{Meaning, PairState}
use Rattle.op_law.specs.Premises.{Belongs, IsPair}
use Rattle.layout_rules.specs.Layouts.{IsStored, IsValid}
use Rattle.layout_rules.proofs.DownLaws.{below, below_all, link_listed}
use Rattle.layout_rules.proofs.LinkLaws.{in_or_out, maker_in, number_listed, same_link, same_maker, source_made, taker_newer, target_listed}
use Rattle.version_model.specs.Kept.{pairs_at, rows_at, rows_now}
use Rattle.version_model.specs.Making.{ascending}
use Rattle.version_model.specs.Put.{put}
use Rattle.version_model.specs.States.{headings}
use Rattle.version_model.specs.Steps.{directed, pair_in}
use Rattle.version_model.proofs.CrossingLaws.{targets_linked}
use Rattle.version_model.proofs.PutLaws.{AsMany, EachAt, put_apart, put_here, put_holds, put_other}
use Rattle.version_model.proofs.RunLaws.{way_laws}
use Rattle.storage_law.specs.Storage.{StandsOver, stored_way}
use Rattle.storage_law.proofs.LinkLaws.{apart_at, not_in_of_false}
use Rattle.storage_law.proofs.ReadLaws.{IsRead, far_right, put_in, read_at, still_right}
use Rattle.storage_law.proofs.OrderLaws.{behind_older, older_behind, next, split_at}
use Rattle.db_state.specs.Covered.{CoversItself}
use Rattle.db_state.specs.Fields.{IsDatabase, state_for, storage_in}
use Rattle.db_state.specs.inner.Passes.{Settles}
use Rattle.db_state.specs.declared.parts.Parts.{Parts}
use Rattle.db_check.proofs.SplitLemmas.{down_start}
use Rattle.db_state.proofs.FieldLaws.{none_at}
use Rattle.db_state.proofs.PassLaws.{down_step, near_down, near_up, turned, up_step}
use Rattle.std.specs.Option.{option_map_or}
use Rattle.row_store.specs.States.{TableState}
use Rattle.par_base.specs.declared.fault.Fault.{Fault}
use Rattle.par_base.specs.declared.fault.Fault.TheVariants.{Refused, Memory}
use Rattle.db_check.specs.declared.checking.NotValid.{NotValid}
use Rattle.version_model.specs.declared.numbered.Numbered.{Numbered}
use Rattle.version_model.proofs.AscendingLaws.{length_ascending}
use Rattle.version_model.proofs.MakingLaws.{stands_at}
use Rattle.db_check.specs.inner.Calls.{AreOver, AreWell, Goes, GoesDown, GoesUp, IsOver, MayRead, WasDown, WasUp, all_of, state_with}

-- ---- one crossing

-- as many tables as headings
as_many : (h : ℕ → Heading) (ks : List ℕ) (ts : Tables) → AreTablesOf (map h ks) ts → AsMany ks ts
as_many h [] [] a = tt
as_many h [] (t ∷ ts) a = absurd a
as_many h (k ∷ ks) [] a = absurd a
as_many h (k ∷ ks) (t ∷ ts) a = as_many h ks ts a.1

-- each fits its number's heading
each_fits : (h : ℕ → Heading) (ks : List ℕ) (ts : Tables) → AreTablesOf (map h ks) ts → EachAt (λ t rows. RiseFrom 0 rows × RowsWide (length (h t).columns) rows) ks ts
each_fits h [] ts a = tt
each_fits h (k ∷ ks) [] a = tt
each_fits h (k ∷ ks) (t ∷ ts) a = (a.0, each_fits h ks ts a.1)

each_sound : (n : ℕ) (ks : List ℕ) (ts : Tables) → TablesSound n ts → EachAt (λ (t : ℕ) (rows : Rows). RowsSound n rows) ks ts
each_sound n [] ts a = tt
each_sound n (k ∷ ks) [] a = tt
each_sound n (k ∷ ks) (t ∷ ts) a = (a.0, each_sound n ks ts a.1)

module _ {O : Type 0} (meaning : O → Meaning) (p : Parts O) where
  abbrev heading : ℕ → Heading
  heading = headings p.graph.edges

  abbrev Over : (ℕ → Rows) → Crossing O → Type 0
  Over rows q = StandsOver meaning heading (storage_in p) (state_with p rows) q

  -- tables that stay leave a crossing as it was
  over_stays : (rows new : ℕ → Rows) (q : Crossing O) → map new q.near ≡ map rows q.near → map new q.far ≡ map rows q.far → Over rows q → Over new q
  over_stays rows new q near far over =
      let m = directed q.backward (meaning q.operator) in
      let both : pair_in (state_with p rows) q ≡ pair_in (state_with p new) q =
      ap (λ (x : Tables). record { source = x; target = map rows q.far; memory = pairs_at p.memories q.number }) (sym near)
      ∙ ap (λ (x : Tables). record { source = map new q.near; target = x; memory = pairs_at p.memories q.number }) (sym far) in
      record {
        related = subst (λ (x : PairState). IsPair m (map heading q.near) (map heading q.far) x) both over.related;
        aux = over.aux ∙ ap (λ (x : PairState). m.aux_at_source x) both;
        memory = over.memory;
      }

  module _ (rows new : ℕ → Rows) (q : Crossing O) (over : IsOver meaning p rows new q) where
    -- what was admitted relates
    crossed : Distinct q.far → Apart q.near q.far → Over new q
    crossed once apart =
        let m = directed q.backward (meaning q.operator) in
        let near : map new q.near ≡ map rows q.near = ap (λ (f : ℕ → Rows). map f q.near) over.made ∙ put_apart rows q.far over.far q.near apart in
        let far : map new q.far ≡ over.far = ap (λ (f : ℕ → Rows). map f q.far) over.made ∙ put_here rows q.far over.far once (as_many heading q.far over.far over.belongs.pair.target_of) in
        let here : Belongs m (map heading q.near) (map heading q.far) ((storage_in p).aux q.number) (pair_in (state_with p new) q) =
        subst (λ (x : Tables). Belongs m (map heading q.near) (map heading q.far) ((storage_in p).aux q.number) (record { source = x; target = map new q.far; memory = (storage_in p).memory q.number })) (sym near)
        (subst (λ (x : Tables). Belongs m (map heading q.near) (map heading q.far) ((storage_in p).aux q.number) (record { source = map rows q.near; target = x; memory = (storage_in p).memory q.number })) (sym far) over.belongs) in
        record { related = here.pair; aux = here.aux_is; memory = refl }

    -- other tables stay
    stays : (t : ℕ) → (In t q.far → ⊥) → new t ≡ rows t
    stays t out = ap (λ (f : ℕ → Rows). f t) over.made ∙ put_other rows q.far over.far t out

    other_stays : (r : Crossing O) → Apart r.near q.far → Apart r.far q.far → Over rows r → Over new r
    other_stays r near far = over_stays rows new r
        (ap (λ (f : ℕ → Rows). map f r.near) over.made ∙ put_apart rows q.far over.far r.near near)
        (ap (λ (f : ℕ → Rows). map f r.far) over.made ∙ put_apart rows q.far over.far r.far far)

    -- tables stay well
    well_after : AreWell p rows → AreWell p new
    well_after well = record {
      tables = λ t. subst (λ (f : ℕ → Rows). RiseFrom 0 (f t) × RowsWide (length (heading t).columns) (f t)) (sym over.made)
          (put_holds (λ k r. RiseFrom 0 r × RowsWide (length (heading k).columns) r) rows q.far over.far (each_fits heading q.far over.far over.belongs.pair.target_of) well.tables t);
      below = λ t. subst (λ (f : ℕ → Rows). RowsSound p.ids.next (f t)) (sym over.made)
          (put_holds (λ (k : ℕ) (r : Rows). RowsSound p.ids.next r) rows q.far over.far (each_sound p.ids.next q.far over.far over.below) well.below t);
    }

    -- were the fields a database, the far tables would be right
    settles : (laws : (o : O) → Laws (meaning o)) (is : IsDatabase meaning p) (e : Link O) → In e (forest p.graph.edges) → q ≡ stored_way p.layout.operators e → ((t : ℕ) → In t q.near → rows t ≡ (state_for meaning p).tables t) → Settles (state_for meaning p).tables q.far rows new
    settles laws is e at same right =
        let s = state_for meaning p in
        let read : IsRead meaning heading (storage_in p) s q = subst (λ (x : Crossing O). IsRead meaning heading (storage_in p) s x) (sym same) (read_at meaning laws is.reads p.graph.edges (storage_in p) is.valid s is.stands e at) in
        let m = directed q.backward (meaning q.operator) in
        let pair : PairState = record { source = map rows q.near; target = over.far; memory = (storage_in p).memory q.number } in
        let back : m.read_target pair.source (m.aux_at_source pair) pair.memory ≡ over.far = (way_laws q.backward (meaning q.operator) (laws q.operator)).recovered (map heading q.near) (map heading q.far) pair read.reads over.belongs.pair in
        let far : over.far ≡ map s.tables q.far = sym back ∙ ap (λ (x : Tables). m.read_target pair.source x pair.memory) (sym over.belongs.aux_is) ∙ far_right meaning laws heading (storage_in p) s q read rows right in
        let full : new ≡ put rows q.far (map s.tables q.far) = over.made ∙ ap (λ (l : Tables). put rows q.far l) far in
        record {
          kept = λ t h. ap (λ (f : ℕ → Rows). f t) full ∙ still_right meaning laws heading (storage_in p) s rows q.far t h;
          right = λ t i. ap (λ (f : ℕ → Rows). f t) full ∙ put_in rows s.tables q.far t i;
        }

-- ---- the tables of an operator

fits_at : {O : Type 0} (es : List (Link O)) (e : Link O) → IsForest es → In e es → Distinct e.sources × Distinct e.targets
fits_at [] e forest i = absurd i
fits_at {O} (x ∷ es) e forest (inl same) = subst (λ (y : Link O). Distinct y.sources × Distinct y.targets) (sym same) (forest.0.sources, forest.0.targets)
fits_at (x ∷ es) e forest (inr i) = fits_at es e forest.1 i

module _ {O : Type 0} (meaning : O → Meaning) (laws : (o : O) → Laws (meaning o)) (p : Parts O) (may : MayRead meaning p) where
  abbrev es : List (Link O)
  es = forest p.graph.edges

  abbrev layout : List ℕ
  layout = p.layout.operators

  edges : AreEdges p.graph.edges
  edges = may.built.graph.edges

  linked : IsForest (forest p.graph.edges)
  linked = is_forest p.graph.edges edges

  valid : IsValid (forest p.graph.edges) p.layout.operators
  valid = may.listed.valid

  -- every operator is passed
  covers : CoversItself (forest p.graph.edges) p.layout.operators (all_of p)
  covers e i mine t j f at reads = number_listed (forest p.graph.edges) f at

  both_apart : (e : Link O) → In e es → (back : Bool) → Apart (crossing back e).near (crossing back e).far
  both_apart e at true t i j = apart_at es e t linked at i j
  both_apart e at false t i j = apart_at es e t linked at j i

  far_once : (e : Link O) → In e es → (back : Bool) → Distinct (crossing back e).far
  far_once e at true = (fits_at es e linked at).0
  far_once e at false = (fits_at es e linked at).1

  -- the tables of a live operator live
  far_lives : (e : Link O) → In e es → (back : Bool) → (t : ℕ) → In t (crossing back e).far → In t (table_numbers (made_by p.graph.edges))
  far_lives e at true t i = subst (λ (l : List ℕ). In t l) (targets_linked p.graph.edges edges) (source_made es e t linked at i)
  far_lives e at false t i = subst (λ (l : List ℕ). In t l) (targets_linked p.graph.edges edges) (target_listed es e t at i)

  -- none of the far tables is stored
  far_unstored : (e : Link O) → In e es → (back : Bool) → is_in e.number layout ≡ back → (t : ℕ) → In t (crossing back e).far → IsStored es layout t → ⊥
  far_unstored e at true on t i st = st.free (e, at, in_of_test e.number layout on, i)
  far_unstored e at false on t i st = not_in_of_false e.number layout on (maker_in es layout e t linked at i st.made)

  module _ (rows new : ℕ → Rows) (e : Link O) (at : In e (forest p.graph.edges)) (back : Bool) (on : is_in e.number p.layout.operators ≡ back) (over : IsOver meaning p rows new (crossing back e)) where
    -- one operator more was crossed
    one_more : (Done More : Link O → Type 0) → AreOver meaning p Done rows
        → ((f : Link O) → In f es → More f → (f ≡ e) ⊎ Done f)
        → ((f : Link O) → In f es → Done f → (f ≡ e → ⊥) → Apart (stored_way layout f).near (crossing back e).far × Apart (stored_way layout f).far (crossing back e).far)
        → ((f : Link O) → In f es → Done f → f ≡ e → ⊥)
        → AreOver meaning p More new
    one_more Done More was more apart new_one = record {
      well = well_after meaning p rows new (crossing back e) over was.well;
      stored = λ t st. stays meaning p rows new (crossing back e) over t (λ i. far_unstored e at back on t i st) ∙ was.stored t st;
      alone = λ t out. stays meaning p rows new (crossing back e) over t (λ i. out (far_lives e at back t i)) ∙ was.alone t out;
      over = λ f i m. elim (more f i m) as (λ _. Over meaning p new (stored_way p.layout.operators f)) [
        | inl same ↦ subst (λ (y : Link O). Over meaning p new (stored_way p.layout.operators y)) (sym same)
            (subst (λ (b : Bool). Over meaning p new (crossing b e)) (sym on) (crossed meaning p rows new (crossing back e) over (far_once e at back) (both_apart e at back)))
        | inr done ↦ (let two = apart f i done (new_one f i done) in other_stays meaning p rows new (crossing back e) over (stored_way p.layout.operators f) two.0 two.1 (was.over f i done))
      ];
    }

    -- were the fields a database, its far tables would be right
    right_after : (is : IsDatabase meaning p) → ((t : ℕ) → In t (crossing back e).near → rows t ≡ (state_for meaning p).tables t) → Settles (state_for meaning p).tables (crossing back e).far rows new
    right_after is right = settles meaning p rows new (crossing back e) over laws is e at (ap (λ (b : Bool). crossing b e) (sym on)) right

  -- both sides of the stored way are its sources and its targets
  sides_apart : (f : Link O) (ks : List ℕ) → Apart f.sources ks → Apart f.targets ks → (b : Bool) → Apart (crossing b f).near ks × Apart (crossing b f).far ks
  sides_apart f ks s t true = (t, s)
  sides_apart f ks s t false = (s, t)

  -- ---- down

  module _ (i : ℕ) (e : Link O) (here : slice_get (ascending p.graph.edges) i ≡ Some e) where
    at : In e (forest p.graph.edges)
    at = link_listed p.graph.edges i e (sym here)

    next_is : below p.graph.edges (i + 1) ≡ e ∷ below p.graph.edges i
    next_is = next p.graph.edges i e here

    -- an older operator is behind
    older : (f : Link O) → In f (forest p.graph.edges) → f.number < e.number → In f (below p.graph.edges i)
    older f j less =
        let is = split_at p.graph.edges i e here in
        older_behind _ e (below p.graph.edges i) (subst (λ (l : List (Link O)). IsForest l) is linked) f (subst (λ (l : List (Link O)). In f l) is j) less

    behind : (f : Link O) → In f (below p.graph.edges i) → f.number < e.number
    behind f j =
        let is = split_at p.graph.edges i e here in
        behind_older _ e (below p.graph.edges i) (subst (λ (l : List (Link O)). IsForest l) is linked) f j

    module _ (rows new : ℕ → Rows) where
      -- the operator is of the layout, and was crossed
      pub down_on : is_in e.number layout ≡ true → IsOver meaning p rows new (crossing true e) → WasDown meaning p (below p.graph.edges (i + 1)) rows → WasDown meaning p (below p.graph.edges i) new
      down_on on over was =
          let left = subst (λ (l : List (Link O)). WasDown meaning p l rows) next_is was in
          record {
            over = one_more rows new e at true on over (λ f. In f.number layout × (In f (e ∷ below p.graph.edges i) → ⊥)) (λ f. In f.number layout × (In f (below p.graph.edges i) → ⊥)) left.over
                (λ f j m. elim (cases_eq f.number e.number) as (λ _. (f ≡ e) ⊎ (In f.number layout × (In f (e ∷ below p.graph.edges i) → ⊥))) [
                  | inl same ↦ inl (same_link es f e linked j at same)
                  | inr other ↦ inr (m.0, (λ k. elim k as (λ _. ⊥) [ inl is ↦ other (ap (λ (y : Link O). y.number) is) | inr l ↦ m.1 l ]))
                ])
                (λ f j done other. sides_apart f e.sources
                (λ t a b. done.1 (inl (same_link es f e linked j at (valid.once f e j at done.0 (in_of_test e.number layout on) (t, a, b)))))
                (λ t a b. done.1 (inr (older f j (taker_newer es f e t linked j at a b))))
                (is_in f.number layout))
                (λ f j done same. done.1 (inl same));
            right = λ is.
                let s = state_for meaning p in
                let down = left.right is in
                let mine = number_listed es e at in
                let near = near_down es linked layout (all_of p) covers s.tables _ e (below p.graph.edges i) (split_at p.graph.edges i e here) rows down at (in_of_test e.number layout on) mine in
                down_step es linked layout (all_of p) covers s.tables e (below p.graph.edges i) rows new e.sources at down (right_after rows new e at true on over is near) (λ has own. refl);
          }

      -- it isn't
      pub down_off : (is_in e.number layout ≡ true → ⊥) → new ≡ rows → WasDown meaning p (below p.graph.edges (i + 1)) rows → WasDown meaning p (below p.graph.edges i) new
      down_off off same was =
          let left = subst (λ (l : List (Link O)). WasDown meaning p l rows) next_is was in
          subst (λ (f : ℕ → Rows). WasDown meaning p (below p.graph.edges i) f) (sym same) (record {
            over = record {
              well = left.over.well;
              stored = left.over.stored;
              alone = left.over.alone;
              over = λ f j m. left.over.over f j (m.0, (λ k. elim k as (λ _. ⊥) [ inl is ↦ off (is_in_true e.number layout (subst (λ (y : Link O). In y.number layout) is m.0)) | inr l ↦ m.1 l ]));
            };
            right = λ is. down_step es linked layout (all_of p) covers (state_for meaning p).tables e (below p.graph.edges i) rows rows [] at (left.right is) (record { kept = λ t h. h; right = λ t j. absurd j }) (λ has own. absurd (off (is_in_true e.number layout has)));
          })

      -- ---- up

      pub up_on : is_in e.number layout ≡ false → IsOver meaning p rows new (crossing false e) → WasUp meaning p (below p.graph.edges i) rows → WasUp meaning p (below p.graph.edges (i + 1)) new
      up_on on over was =
          let out = not_in_of_false e.number layout on in
          subst (λ (l : List (Link O)). WasUp meaning p l new) (sym next_is) (record {
            over = one_more rows new e at false on over (λ f. In f.number layout ⊎ In f (below p.graph.edges i)) (λ f. In f.number layout ⊎ In f (e ∷ below p.graph.edges i)) was.over
                (λ f j m. elim m as (λ _. (f ≡ e) ⊎ (In f.number layout ⊎ In f (below p.graph.edges i))) [
                  | inl has ↦ inr (inl has)
                  | inr k ↦ elim k as (λ _. (f ≡ e) ⊎ (In f.number layout ⊎ In f (below p.graph.edges i))) [ inl is ↦ inl is | inr l ↦ inr (inr l) ]
                ])
                (λ f j done other. sides_apart f e.targets
                (λ t a b. elim done as (λ _. ⊥) [
                  | inl has ↦ out (maker_in es layout e t linked at b (valid.makers f j has t a))
                  | inr l ↦ (let less = taker_newer es e f t linked at j b a in let more = behind f l in omega (arith, less, more))
                ])
                (λ t a b. other (same_maker es f e t linked j at a b))
                (is_in f.number layout))
                (λ f j done same. elim done as (λ _. ⊥) [
                  | inl has ↦ out (subst (λ (y : Link O). In y.number layout) same has)
                  | inr l ↦ (let less = behind f l in let n = ap (λ (y : Link O). y.number) same in omega (arith, less, n))
                ]);
            right = λ is.
                let s = state_for meaning p in
                let mine = number_listed es e at in
                let near = near_up es linked layout (all_of p) covers s.tables _ e (below p.graph.edges i) (split_at p.graph.edges i e here) rows (was.right is) at out mine in
                up_step es linked layout (all_of p) covers s.tables e (below p.graph.edges i) rows new e.targets (was.right is) (right_after rows new e at false on over is near) (λ off own. refl);
          })

      pub up_off : (is_in e.number layout ≡ false → ⊥) → new ≡ rows → WasUp meaning p (below p.graph.edges i) rows → WasUp meaning p (below p.graph.edges (i + 1)) new
      up_off off same was =
          let has : In e.number layout = elim (in_or_out e.number layout) as (λ _. In e.number layout) [ inl h ↦ h | inr o ↦ absurd (off (Rattle.storage_law.proofs.LinkLaws.not_in_false e.number layout o)) ] in
          subst (λ (f : ℕ → Rows). WasUp meaning p (below p.graph.edges (i + 1)) f) (sym same)
          (subst (λ (l : List (Link O)). WasUp meaning p l rows) (sym next_is) (record {
            over = record {
              well = was.over.well;
              stored = was.over.stored;
              alone = was.over.alone;
              over = λ f j m. elim m as (λ _. Over meaning p rows (stored_way p.layout.operators f)) [
                | inl mine ↦ was.over.over f j (inl mine)
                | inr k ↦ elim k as (λ _. Over meaning p rows (stored_way p.layout.operators f)) [ inl is ↦ was.over.over f j (inl (subst (λ (y : Link O). In y.number layout) (sym is) has)) | inr l ↦ was.over.over f j (inr l) ]
              ];
            };
            right = λ is. up_step es linked layout (all_of p) covers (state_for meaning p).tables e (below p.graph.edges i) rows rows [] (was.right is) (record { kept = λ t h. h; right = λ t j. absurd j }) (λ out own. absurd (out has));
          }))

      -- ---- refusals

      -- were the fields a database, the near tables would be right
      pub near_when_down : is_in e.number layout ≡ true → WasDown meaning p (below p.graph.edges (i + 1)) rows → (is : IsDatabase meaning p) → (t : ℕ) → In t (crossing true e).near → rows t ≡ (state_for meaning p).tables t
      near_when_down on was is =
          let left = subst (λ (l : List (Link O)). WasDown meaning p l rows) next_is was in
          near_down es linked layout (all_of p) covers (state_for meaning p).tables _ e (below p.graph.edges i) (split_at p.graph.edges i e here) rows (left.right is) at (in_of_test e.number layout on) (number_listed es e at)

      pub near_when_up : is_in e.number layout ≡ false → WasUp meaning p (below p.graph.edges i) rows → (is : IsDatabase meaning p) → (t : ℕ) → In t (crossing false e).near → rows t ≡ (state_for meaning p).tables t
      near_when_up on was is =
          near_up es linked layout (all_of p) covers (state_for meaning p).tables _ e (below p.graph.edges i) (split_at p.graph.edges i e here) rows (was.right is) at (not_in_of_false e.number layout on) (number_listed es e at)

  -- the way turns
  pub turns : (rows : ℕ → Rows) → WasDown meaning p [] rows → WasUp meaning p [] rows
  turns rows was = record {
    over = record {
      well = was.over.well;
      stored = was.over.stored;
      alone = was.over.alone;
      over = λ f j m. was.over.over f j (elim m as (λ _. In f.number layout) [ inl has ↦ has | inr k ↦ absurd k ], (λ k. k));
    };
    right = λ is. turned es linked layout (all_of p) covers (state_for meaning p).tables rows (was.right is);
  }

  -- ---- the ends of the passes

  -- nothing was read yet
  pub begins : AreWell p (rows_at p.stored) → (left : ℕ) → left ≡ length p.graph.edges → (made : List (Numbered TableState)) → made ≡ [] → WasDown meaning p (below p.graph.edges left) (rows_now p.stored made)
  begins well left count made none =
      let start : WasDown meaning p (forest p.graph.edges) (rows_now p.stored []) = record {
        over = record {
          well = well;
          stored = λ t st. refl;
          alone = λ t out. ap (λ o. option_map_or (λ x. x.rows) o []) (none_at p.stored t (λ i. out (made_lives ((may.listed.entries.tables t).0 i))));
          over = λ f j m. absurd (m.1 j);
        };
        right = λ is. down_start meaning p is (all_of p);
      } in
      subst (λ (l : List (Link O)). WasDown meaning p l (rows_now p.stored made)) (sym (below_all p.graph.edges left count))
      (subst (λ (m : List (Numbered TableState)). WasDown meaning p (forest p.graph.edges) (rows_now p.stored m)) (sym none) start)
    where
      made_lives : {t : ℕ} → IsStored (forest p.graph.edges) p.layout.operators t → In t (table_numbers (made_by p.graph.edges))
      made_lives {t} st = subst (λ (l : List ℕ). In t l) (targets_linked p.graph.edges edges) (target_listed (forest p.graph.edges) st.made.0 t st.made.1 st.made.3)

  -- the operator at the next place down was passed
  pub passes_down : (i : ℕ) → i < length p.graph.edges → (rows new : ℕ → Rows) → Goes meaning p true i rows new (Ok tt) → WasDown meaning p (below p.graph.edges (i + 1)) rows → WasDown meaning p (below p.graph.edges i) new
  passes_down i within rows new goes was =
      let got = stands_at (ascending p.graph.edges) i (omega (arith, within, length_ascending p.graph.edges)) in
      elim (goes got.0 got.1) as (λ _. WasDown meaning p (below p.graph.edges i) new) [
        | inl on ↦ down_on i got.0 got.1 rows new on.0 on.1 was
        | inr off ↦ down_off i got.0 got.1 rows new off.0 off.1 was
      ]

  pub passes_up : (i : ℕ) → i < length p.graph.edges → (rows new : ℕ → Rows) → Goes meaning p false i rows new (Ok tt) → WasUp meaning p (below p.graph.edges i) rows → WasUp meaning p (below p.graph.edges (i + 1)) new
  passes_up i within rows new goes was =
      let got = stands_at (ascending p.graph.edges) i (omega (arith, within, length_ascending p.graph.edges)) in
      elim (goes got.0 got.1) as (λ _. WasUp meaning p (below p.graph.edges (i + 1)) new) [
        | inl on ↦ up_on i got.0 got.1 rows new on.0 on.1 was
        | inr off ↦ up_off i got.0 got.1 rows new off.0 off.1 was
      ]

  -- a refusal on the way
  pub refused_down : (i : ℕ) (rows new : ℕ → Rows) (f : Fault NotValid) → Goes meaning p true i rows new (Err f) → WasDown meaning p (below p.graph.edges (i + 1)) rows → GoesDown meaning p (Err f)
  refused_down i rows new (Refused r) goes was = λ is. goes.3 is (near_when_down i goes.0 goes.1 rows new goes.2 was is)
  refused_down i rows new (Memory memory) goes was = tt

  pub refused_up : (i : ℕ) (rows new end : ℕ → Rows) (f : Fault NotValid) → Goes meaning p false i rows new (Err f) → WasUp meaning p (below p.graph.edges i) rows → GoesUp meaning p end (Err f)
  refused_up i rows new end (Refused r) goes was = λ is. goes.3 is (near_when_up i goes.0 goes.1 rows new goes.2 was is)
  refused_up i rows new end (Memory memory) goes was = tt
