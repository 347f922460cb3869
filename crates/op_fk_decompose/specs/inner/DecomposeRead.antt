-- The target is read back from the source and its auxiliary tables; the laws together.
use Rattle.std.proofs.Common.{◌≡◌, ℕ, List, [], ◌∷◌, Bool, true, false, not, ◌&&◌, length, Option, Some, None, refl, ap, sym, ◌∙◌, subst}
use Rattle.std.proofs.lemmas.Bool.{false≢true}
use Rattle.std.proofs.Math.Bool.{and-false}
use mathlib.Core.Logic.{inr}
use Rattle.par_base.specs.declared.value.Value.{Value}
use Rattle.row_store.specs.Rows.{Rows, RiseFrom, row_of}
use Rattle.row_store.proofs.UndoLaws.{ext}
use Rattle.op_law.specs.Tables.{Heading, RowsWide, AllRise}
use Rattle.op_law.specs.Identifiers.{ids_over}
use Rattle.op_law.specs.Meaning.{Meaning, PairState}
use Rattle.op_law.specs.Premises.{IsPair}
use Rattle.op_law.specs.Laws.{HalfLaws, Laws}
use Rattle.op_law.proofs.SoundLaws.{wide_at}
use Rattle.op_rows.specs.Cells.{first_cell, other_cells}
use Rattle.op_rows.specs.inner.CellLemmas.{has_id, none_at, rise_ids}
use Rattle.op_rows.specs.inner.Tabulated.{row_from, rise_from}
use Rattle.row_parts.specs.RowCells.{Cell, is_there, or_else, kept_if, row_or, map_cell, in_cell, by_test, by_option}
use Rattle.op_tables.specs.SideTables.{first_table, second_table}
use Rattle.foreign_keys.specs.KeyParts.{FkParts, FkWell}
use Rattle.foreign_keys.specs.References.{goal_of, is_goal, at_goal, dangles, referred, far_part}
use Rattle.op_tables.specs.Lookups.{one_at, one_rise}
use Rattle.foreign_keys.specs.inner.ReferenceLemmas.{is_goal_of, goal_is, referred_by, referrer}
use Rattle.op_fk_decompose.specs.Decompose.{alone, joined_in, joined, ref_at, refs, dangling_at, dangling, kept_at, kept_rows, live, get_first, leads, get_at, get_second, decompose_fk}
use Rattle.foreign_keys.specs.Shared.{head_or_null, second_part_at, FkFits}
use Rattle.op_fk_decompose.specs.inner.DecomposeLaws.{source_of, target_of, kept, still, below}
use Rattle.foreign_keys.specs.Seeking.{seek, goals_in}
use Rattle.foreign_keys.specs.inner.SeekLemmas.{seek_none, seek_some, goals_out, goals_rise}
use Rattle.op_fk_decompose.specs.inner.DecomposeBackward.{backward}

-- a goal that is live is a row of T
live_in : (t : Rows) (o : Option ℕ) (q : ℕ) → live (kept_if (dangles t o) (Some [])) o ≡ Some q → (o ≡ Some q) × (is_there (row_of t q) ≡ true)
live_in t None q h = absurd (cc)
live_in t (Some p) q h = by_test (is_there (row_of t p))
    (λ e.
    let h2 : Some p ≡ Some q = rw e at h in
    let i : p ≡ q = cc in
    (h2, subst (λ (x : ℕ). is_there (row_of t x) ≡ true) i e))
    (λ e. let h2 : None ≡ Some q = rw e at h in absurd (cc))

-- a row of T that is a goal is live
live_is : (t : Rows) (o : Option ℕ) (q : ℕ) (v : List Value) → o ≡ Some q → row_of t q ≡ Some v → live (kept_if (dangles t o) (Some [])) o ≡ Some q
live_is t o q v e at = rw (e, at) refl

-- where no row is kept or sought, only an alone one is left
get_cases : (kc se : Cell) (there : Bool) (rc : Cell) → kc ≡ None → se ≡ None → or_else kc (or_else se (kept_if (not there) rc)) ≡ kept_if (not there) rc
get_cases kc se there rc e f = rw (e, f) refl

module _ (k : FkParts) (w a b z : ℕ) (well : FkWell k w a b z) (s t r : Rows) (s_rise : RiseFrom 0 s) (t_rise : RiseFrom 0 t) (s_wide : RowsWide z s) (t_wide : RowsWide b t) (rel : (p : ℕ) → row_of r p ≡ joined k s t p) where
  -- what dangles
  abbrev dg : Rows
  dg = dangling k s t

  -- how long the T part of a goal is
  wide_goal : (o : Option ℕ) → length (row_or k.null_second (at_goal t o)) ≡ b
  wide_goal None = well.long_null_second
  wide_goal (Some q) = by_option (row_of t q) (λ e. ap (λ (c : Cell). length (row_or k.null_second c)) e ∙ well.long_null_second) (λ v e. ap (λ (c : Cell). length (row_or k.null_second c)) e ∙ wide_at b t q v t_wide e)

  -- R has the row of S joined
  r_with : (p : ℕ) (v : List Value) → row_of s p ≡ Some v → row_of r p ≡ Some (k.join (k.part v) (far_part k t (k.key v)))
  r_with p v e = rel p ∙ ap (λ (c : Cell). joined_in k c (row_of t p) (alone k s t p) t) e

  -- the key that is kept beside
  refs_at : (p : ℕ) → row_of (refs k s) p ≡ map_cell (λ v. k.key v ∷ []) (row_of s p)
  refs_at p = one_at s _ p (λ e. ap (map_cell (λ v. k.key v ∷ [])) e)

  -- whether the key is kept as one that dangles
  dang_at : (p : ℕ) → row_of dg p ≡ in_cell (row_of s p) (λ v. kept_if (dangles t (goal_of (k.key v))) (Some []))
  dang_at p = one_at s _ p (λ e. ap (λ (c : Cell). in_cell c (λ v. kept_if (dangles t (goal_of (k.key v))) (Some []))) e)

  -- no row, none kept
  kept_none : (u : Bool) → kept_if u None ≡ None
  kept_none true = refl
  kept_none false = refl

  -- the row that is kept beside
  kept_rows_at : (q : ℕ) → row_of (kept_rows k s t) q ≡ kept_if (is_there (row_of s q) && not (referred k s q)) (row_of t q)
  kept_rows_at q = one_at t _ q (λ e. ap (kept_if (is_there (row_of s q) && not (referred k s q))) e ∙ kept_none _)

  -- where a row of S leads
  live_at : (p : ℕ) (v : List Value) → row_of s p ≡ Some v → live (row_of dg p) (goal_of (k.key v)) ≡ live (kept_if (dangles t (goal_of (k.key v))) (Some [])) (goal_of (k.key v))
  live_at p v e = ap (λ (c : Cell). live c (goal_of (k.key v))) (dang_at p ∙ ap (λ (c : Cell). in_cell c (λ v. kept_if (dangles t (goal_of (k.key v))) (Some []))) e)

  -- S is read back at each identifier
  first_back : (p : ℕ) → row_of (get_first k r (refs k s)) p ≡ row_of s p
  first_back p =
      let here = one_at (refs k s) (λ p. in_cell (row_of (refs k s) p) (λ f. map_cell (λ row. k.put (k.first row) (head_or_null f)) (row_of r p))) p
      (λ e. ap (λ (c : Cell). in_cell c (λ f. map_cell (λ row. k.put (k.first row) (head_or_null f)) (row_of r p))) e) in
      here ∙ ap (λ (c : Cell). in_cell c (λ f. map_cell (λ row. k.put (k.first row) (head_or_null f)) (row_of r p))) (refs_at p)
      ∙ by_option (row_of s p)
      (λ e. ap (λ (c : Cell). in_cell (map_cell (λ v. k.key v ∷ []) c) (λ f. map_cell (λ row. k.put (k.first row) (head_or_null f)) (row_of r p))) e ∙ sym e)
      (λ v e. ap (λ (c : Cell). in_cell (map_cell (λ v. k.key v ∷ []) c) (λ f. map_cell (λ row. k.put (k.first row) (head_or_null f)) (row_of r p))) e
      ∙ ap (map_cell (λ row. k.put (k.first row) (k.key v))) (r_with p v e)
      ∙ ap (λ (x : List Value). Some (k.put x (k.key v))) (well.first_join _ _ (well.long_part v (wide_at z s p v s_wide e)) (wide_goal (goal_of (k.key v))))
      ∙ ap Some (well.put_parts v (wide_at z s p v s_wide e)) ∙ sym e)

  -- the keys rise
  refs_rise : RiseFrom 0 (refs k s)
  refs_rise = one_rise s (λ p. map_cell (λ v. k.key v ∷ []) (row_of s p)) s_rise

  -- S is read back
  pub first_is_back : get_first k r (refs k s) ≡ s
  first_is_back = ext 0 _ s (one_rise (refs k s) (λ p. in_cell (row_of (refs k s) p) (λ f. map_cell (λ row. k.put (k.first row) (head_or_null f)) (row_of r p))) refs_rise) s_rise first_back

  -- T is read back at each identifier
  second_back : (q : ℕ) → get_at k r s dg (kept_rows k s t) q ≡ row_of t q
  second_back q = by_option (row_of t q)
      (λ none.
      let kn : row_of (kept_rows k s t) q ≡ None = kept_rows_at q ∙ ap (kept_if (is_there (row_of s q) && not (referred k s q))) none ∙ kept_none _ in
      let sn = seek_none (leads k dg) (second_part_at k r) 0 s q s_rise (λ p v e. by_test (is_goal (live (row_of dg p) (goal_of (k.key v))) q)
      (λ g. let l = (live_in t (goal_of (k.key v)) q (sym (live_at p v e) ∙ is_goal_of _ q g)).1 in let no : is_there (row_of t q) ≡ false = ap is_there none in absurd (cc))
      (λ g. g)) in
      get_cases _ _ (is_there (row_of s q)) (map_cell k.second (row_of r q)) kn sn
      ∙ by_option (row_of s q)
      (λ e. ap (λ (c : Cell). kept_if (not (is_there (row_of s q))) (map_cell k.second c)) (rel q ∙ ap (λ (c : Cell). joined_in k c (row_of t q) (alone k s t q) t) e ∙ ap (λ (c : Cell). joined_in k None (row_of t q) (is_there c && (not (is_there (row_of s q)) && not (referred k s q))) t) none) ∙ kept_none _)
      (λ v e. ap (λ (c : Cell). kept_if (not (is_there c)) (map_cell k.second (row_of r q))) e)
      ∙ sym none)
      (λ old at. by_test (referred k s q)
      (λ re.
      let f = referrer k 0 s q s_rise re in
      let kn : row_of (kept_rows k s t) q ≡ None = kept_rows_at q ∙ ap (λ (u : Bool). kept_if (is_there (row_of s q) && not u) (row_of t q)) re ∙ ap (λ (u : Bool). kept_if u (row_of t q)) (and-false (is_there (row_of s q))) in
      let ss = seek_some (leads k dg) (second_part_at k r) 0 s q (Some old) f.id f.row s_rise
      (λ p v e g.
      let gq = (live_in t (goal_of (k.key v)) q (sym (live_at p v e) ∙ is_goal_of _ q g)).0 in
      ap (map_cell k.second) (r_with p v e) ∙ ap Some (well.second_join _ _ (well.long_part v (wide_at z s p v s_wide e)) (wide_goal (goal_of (k.key v))))
      ∙ ap (λ (o : Option ℕ). Some (row_or k.null_second (at_goal t o))) gq ∙ ap (λ (c : Cell). Some (row_or k.null_second c)) at)
      f.at (goal_is _ q (live_at f.id f.row f.at ∙ live_is t (goal_of (k.key f.row)) q old f.goal at)) in
      ap (λ (c : Cell). or_else c (or_else (seek (leads k dg) (second_part_at k r) s q) (kept_if (not (is_there (row_of s q))) (map_cell k.second (row_of r q))))) kn
      ∙ ap (λ (c : Cell). or_else c (kept_if (not (is_there (row_of s q))) (map_cell k.second (row_of r q)))) ss ∙ sym at)
      (λ re. by_option (row_of s q)
      (λ e.
      let kn : row_of (kept_rows k s t) q ≡ None = kept_rows_at q ∙ ap (λ (c : Cell). kept_if (is_there c && not (referred k s q)) (row_of t q)) e in
      let sn = seek_none (leads k dg) (second_part_at k r) 0 s q s_rise (λ p v e2. by_test (is_goal (live (row_of dg p) (goal_of (k.key v))) q)
      (λ g. let gq = (live_in t (goal_of (k.key v)) q (sym (live_at p v e2) ∙ is_goal_of _ q g)).0 in let yes = referred_by k s p q v e2 gq in absurd (cc))
      (λ g. g)) in
      let al : alone k s t q ≡ true = rw (at, e, re) refl in
      get_cases _ _ (is_there (row_of s q)) (map_cell k.second (row_of r q)) kn sn
      ∙ ap (λ (c : Cell). kept_if (not (is_there c)) (map_cell k.second (row_of r q))) e
      ∙ ap (map_cell k.second) (rel q ∙ ap (λ (c : Cell). joined_in k c (row_of t q) (alone k s t q) t) e ∙ ap (λ (u : Bool). joined_in k None (row_of t q) u t) al ∙ ap (map_cell (k.join k.null_first)) at)
      ∙ ap Some (well.second_join _ _ well.long_null_first (wide_at b t q old t_wide at)) ∙ sym at)
      (λ v e.
      let kn : row_of (kept_rows k s t) q ≡ Some old = kept_rows_at q ∙ rw (e, re) at in
      ap (λ (c : Cell). or_else c (or_else (seek (leads k dg) (second_part_at k r) s q) (kept_if (not (is_there (row_of s q))) (map_cell k.second (row_of r q))))) kn ∙ sym at)))

  -- the identifiers at which T is read
  abbrev get_ids : List ℕ
  get_ids = ids_over (r ∷ kept_rows k s t ∷ []) (goals_in (leads k dg) s)

  -- the kept rows rise
  kept_rise : RiseFrom 0 (kept_rows k s t)
  kept_rise = one_rise t (λ q. kept_if (is_there (row_of s q) && not (referred k s q)) (row_of t q)) t_rise

  -- T is read back
  pub second_is_back : RiseFrom 0 r → get_second k r s dg (kept_rows k s t) ≡ t
  second_is_back r_rise =
      ext 0 _ t
      (rise_from 0 get_ids _ (rise_ids (r ∷ kept_rows k s t ∷ []) (goals_in (leads k dg) s) (r_rise, (kept_rise, tt)) (goals_rise (leads k dg) s)))
      t_rise
      (λ q. row_from get_ids (get_at k r s dg (kept_rows k s t)) q
      ∙ by_test (has_id get_ids q)
      (λ e. rw e (second_back q))
      (λ e.
      let n = none_at (r ∷ kept_rows k s t ∷ []) (goals_in (leads k dg) s) q e in
      let rn : row_of r q ≡ None = ap first_cell n.0 in
      let kn : row_of (kept_rows k s t) q ≡ None = ap (λ (cs : List Cell). first_cell (other_cells cs)) n.0 in
      let sn = goals_out (leads k dg) (second_part_at k r) s q n.1 in
      let gone : get_at k r s dg (kept_rows k s t) q ≡ None =
      get_cases _ _ (is_there (row_of s q)) (map_cell k.second (row_of r q)) kn sn ∙ ap (λ (c : Cell). kept_if (not (is_there (row_of s q))) (map_cell k.second c)) rn ∙ kept_none _ in
      rw e (sym gone ∙ second_back q)))

module _ (Fits : List Heading → List Heading → Type 0) (k : FkParts) (w a b z : ℕ) (fit : (hs ht : List Heading) → Fits hs ht → FkFits k w a b z hs ht) where
  -- DECOMPOSE with these parts
  abbrev m : Meaning
  m = decompose_fk Fits k

  -- the target is read back
  recovered : (hs ht : List Heading) (p : PairState) → m.reads_target ≡ true → IsPair m hs ht p → m.read_target p.source (m.aux_at_source p) p.memory ≡ p.target
  recovered hs ht p reads pair =
      let f = fit hs ht pair.fits in
      let one = source_of Fits k w a b z fit hs ht p.source pair.fits pair.source_of in
      let two = target_of Fits k w a b z fit hs ht p.target pair.fits pair.target_of in
      let s = first_table p.target in
      let t = second_table p.target in
      let r = first_table p.source in
      let first = first_is_back k w a b z f.well s t r two.rise0 two.rise1 two.wide0 two.wide1 pair.related.1 in
      let second = second_is_back k w a b z f.well s t r two.rise0 two.rise1 two.wide0 two.wide1 pair.related.1 one.rise in
      ap (λ (x : Rows). x ∷ get_second k r x (dangling k s t) (kept_rows k s t) ∷ []) first ∙ ap (λ (x : Rows). s ∷ x ∷ []) second ∙ two.is

  -- what is kept beside the source rises
  aux_rises : (hs ht : List Heading) (p : PairState) → IsPair m hs ht p → AllRise (m.aux_at_source p)
  aux_rises hs ht p pair =
      let two = target_of Fits k w a b z fit hs ht p.target pair.fits pair.target_of in
      let s = first_table p.target in
      let t = second_table p.target in
      (one_rise s (ref_at k s) two.rise0, (one_rise s (dangling_at k s t) two.rise0, (one_rise t (kept_at k s t) two.rise1, tt)))

  -- the laws of the mapping forward
  forward : HalfLaws m
  forward = record {
    kept = kept Fits k w a b z fit;
    still = still Fits k w a b z fit;
    below = below Fits k w a b z fit;
    recovered = recovered;
    readable = λ hs ht fits. inr refl;
    empty = λ hs ht fits. let f = fit hs ht fits in (refl, λ p. rw (f.source_is, f.target_is) refl);
    closed_more = λ n k h c. tt;
    aux_rises = aux_rises;
    aux_many = λ hs ht p q one two. refl;
    local = λ local. absurd (false≢true local);
  }

  -- the laws both ways
  pub decompose_laws : Laws m
  decompose_laws = (forward, backward Fits k w a b z fit)
