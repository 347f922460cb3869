-- The sources are read back from the target and its auxiliary tables; the laws together.
use Rattle.std.proofs.Common.{◌≡◌, ℕ, List, [], ◌∷◌, Bool, true, false, not, Option, Some, None, refl, ap, sym, ◌∙◌, subst}
use Rattle.std.proofs.lemmas.Bool.{false≢true, not_from_true}
use mathlib.Core.Logic.{inr}
use Rattle.par_base.specs.declared.value.Value.{Value}
use Rattle.row_store.specs.Rows.{Rows, RiseFrom, row_of}
use Rattle.row_store.proofs.UndoLaws.{ext}
use Rattle.op_law.specs.Tables.{Heading, RowsWide, AllRise}
use Rattle.op_law.specs.Identifiers.{ids_over}
use Rattle.op_law.specs.Meaning.{Meaning, PairState, flip}
use Rattle.op_law.specs.Premises.{IsPair}
use Rattle.op_law.specs.Laws.{HalfLaws, Laws}
use Rattle.op_law.proofs.SoundLaws.{wide_at}
use Rattle.op_rows.specs.Cells.{first_cell}
use Rattle.op_rows.specs.inner.CellLemmas.{has_id, none_at, rise_ids}
use Rattle.op_rows.specs.inner.Tabulated.{row_from, rise_from}
use Rattle.row_parts.specs.RowCells.{Cell, is_there, or_else, kept_if, map_cell, in_cell, by_test, by_option}
use Rattle.op_tables.specs.SideTables.{first_table, second_table}
use Rattle.foreign_keys.specs.KeyParts.{FkParts, FkWell}
use Rattle.foreign_keys.specs.References.{goal_of, is_goal, at_goal, referred}
use Rattle.op_tables.specs.Lookups.{one_at, two_at, one_rise, two_rise}
use Rattle.foreign_keys.specs.inner.ReferenceLemmas.{is_goal_of, goal_is, referrer}
use Rattle.op_fk_join.specs.Join.{joined_row, key_here, join_refs, unjoined_here, unjoined, unreferred_here, unreferred, back_first_at, back_first, back_second_at, back_second, join_fk}
use Rattle.foreign_keys.specs.Shared.{FkFits, head_or_null}
use Rattle.foreign_keys.specs.Seeking.{seek, goals_in}
use Rattle.foreign_keys.specs.inner.SeekLemmas.{seek_none, seek_some, goals_out, goals_rise}
use Rattle.op_fk_join.specs.inner.JoinLaws.{none_join, at_goal_is, target_one, source_two, forward, kept, below, still}

-- none in place of what is missing changes nothing
or_none : (c : Cell) → or_else c None ≡ c
or_none None = refl
or_none (Some v) = refl

module _ (k : FkParts) (w a b z : ℕ) (well : FkWell k w a b z) (s t r : Rows) (s_rise : RiseFrom 0 s) (t_rise : RiseFrom 0 t) (r_rise : RiseFrom 0 r) (s_wide : RowsWide z s) (t_wide : RowsWide b t) (rel : (p : ℕ) → row_of r p ≡ joined_row k (row_of s p) t) where
  -- the foreign keys that are kept beside
  abbrev keys : Rows
  keys = join_refs k s r

  -- the rows of S that R lacks
  abbrev others : Rows
  others = unjoined s r

  -- the rows of T to which no row of S refers
  abbrev free : Rows
  free = unreferred k s t

  -- where a foreign key leads that is kept beside
  abbrev goal : ℕ → List Value → Option ℕ
  goal = λ p f. goal_of (head_or_null f)

  -- the T part of what R has
  abbrev part_of : ℕ → Cell
  part_of = λ p. map_cell k.second (row_of r p)

  -- the foreign key at p
  keys_at : (p : ℕ) → row_of keys p ≡ in_cell (row_of r p) (λ row. map_cell (λ v. k.key v ∷ []) (row_of s p))
  keys_at p = one_at r _ p (λ e. ap (λ (c : Cell). in_cell c (λ row. map_cell (λ v. k.key v ∷ []) (row_of s p))) e)

  -- no row is kept where there is none
  kept_none : (u : Bool) → kept_if u None ≡ None
  kept_none true = refl
  kept_none false = refl

  -- the row of S at p, where R lacks it
  others_at : (p : ℕ) → row_of others p ≡ kept_if (not (is_there (row_of r p))) (row_of s p)
  others_at p = one_at s _ p (λ e. ap (kept_if (not (is_there (row_of r p)))) e ∙ kept_none _)

  -- the row of T at q, where no row of S refers to it
  free_at : (q : ℕ) → row_of free q ≡ kept_if (not (referred k s q)) (row_of t q)
  free_at q = one_at t _ q (λ e. ap (kept_if (not (referred k s q))) e ∙ kept_none _)

  -- a row of R is the row of both, of a row of S and the row to which it refers
  from_r : {X : Type 0} (p : ℕ) (row : List Value) → row_of r p ≡ Some row → ((v u : List Value) (q : ℕ) → row_of s p ≡ Some v → goal_of (k.key v) ≡ Some q → row_of t q ≡ Some u → k.first row ≡ k.part v → k.second row ≡ u → X) → X
  from_r p row e f = by_option (row_of s p)
      (λ none. let bad : Some row ≡ None = sym e ∙ rel p ∙ none_join k t (row_of s p) none in absurd (cc))
      (λ v es. by_option (at_goal t (goal_of (k.key v)))
      (λ none. let bad : Some row ≡ None = sym e ∙ rel p ∙ ap (λ (c : Cell). joined_row k c t) es ∙ ap (map_cell (k.join (k.part v))) none in absurd (cc))
      (λ u at. at_goal_is t (goal_of (k.key v)) u at (λ q g tq.
      let some : Some row ≡ Some (k.join (k.part v) u) = sym e ∙ rel p ∙ ap (λ (c : Cell). joined_row k c t) es ∙ ap (map_cell (k.join (k.part v))) at in
      let is : row ≡ k.join (k.part v) u = cc in
      let lp = well.long_part v (wide_at z s p v s_wide es) in
      let lu = wide_at b t q u t_wide tq in
      f v u q es g tq (ap k.first is ∙ well.first_join _ _ lp lu) (ap k.second is ∙ well.second_join _ _ lp lu))))

  -- the row of S that a row of R and a foreign key make
  abbrev again : Cell → ℕ → Cell
  again = λ c p. in_cell c (λ row. map_cell (λ f. k.put (k.first row) (head_or_null f)) (row_of keys p))

  -- S is read back at p
  first_back : (p : ℕ) → row_of (back_first k r keys others) p ≡ row_of s p
  first_back p =
      two_at r others (back_first_at k r keys others) p (λ e f. ap (λ (c : Cell). or_else c (again (row_of r p) p)) f ∙ ap (λ (c : Cell). again c p) e)
      ∙ by_option (row_of r p)
      (λ none.
      let o : row_of others p ≡ row_of s p = others_at p ∙ ap (λ (c : Cell). kept_if (not (is_there c)) (row_of s p)) none in
      ap (λ (c : Cell). or_else (row_of others p) (again c p)) none ∙ or_none (row_of others p) ∙ o)
      (λ row e.
      let o : row_of others p ≡ None = others_at p ∙ ap (λ (c : Cell). kept_if (not (is_there c)) (row_of s p)) e in
      ap (λ (c : Cell). or_else c (again (row_of r p) p)) o ∙ ap (λ (c : Cell). again c p) e
      ∙ from_r p row e (λ v u q es g tq first second.
      ap (map_cell (λ f. k.put (k.first row) (head_or_null f))) (keys_at p ∙ ap (λ (c : Cell). in_cell c (λ row. map_cell (λ v. k.key v ∷ []) (row_of s p))) e ∙ ap (map_cell (λ v. k.key v ∷ [])) es)
      ∙ ap (λ (x : List Value). Some (k.put x (k.key v))) first ∙ ap Some (well.put_parts v (wide_at z s p v s_wide es)) ∙ sym es))

  -- the foreign keys rise
  keys_rise : RiseFrom 0 keys
  keys_rise = one_rise r (λ p. in_cell (row_of r p) (λ row. map_cell (λ v. k.key v ∷ []) (row_of s p))) r_rise

  -- the rows of S that R lacks rise
  others_rise : RiseFrom 0 others
  others_rise = one_rise s (λ p. kept_if (not (is_there (row_of r p))) (row_of s p)) s_rise

  -- the rows of T to which none refers rise
  free_rise : RiseFrom 0 free
  free_rise = one_rise t (λ q. kept_if (not (referred k s q)) (row_of t q)) t_rise

  -- S is read back
  pub first_is_back : back_first k r keys others ≡ s
  first_is_back = ext 0 _ s (two_rise r others (back_first_at k r keys others) r_rise others_rise) s_rise first_back

  -- a foreign key that is kept beside is that of a row of S which refers to a row of T
  from_key : {X : Type 0} (p : ℕ) (f : List Value) → row_of keys p ≡ Some f → ((row v u : List Value) (q : ℕ) → row_of r p ≡ Some row → row_of s p ≡ Some v → goal p f ≡ Some q → goal_of (k.key v) ≡ Some q → row_of t q ≡ Some u → k.second row ≡ u → X) → X
  from_key p f e h = by_option (row_of r p)
      (λ none. let bad : None ≡ Some f = sym (keys_at p ∙ ap (λ (c : Cell). in_cell c (λ row. map_cell (λ v. k.key v ∷ []) (row_of s p))) none) ∙ e in absurd (cc))
      (λ row er. from_r p row er (λ v u q es g tq first second.
      let some : Some (k.key v ∷ []) ≡ Some f = sym (keys_at p ∙ ap (λ (c : Cell). in_cell c (λ row. map_cell (λ v. k.key v ∷ []) (row_of s p))) er ∙ ap (map_cell (λ v. k.key v ∷ [])) es) ∙ e in
      let is : k.key v ∷ [] ≡ f = cc in
      h row v u q er es (ap (λ (x : List Value). goal_of (head_or_null x)) (sym is) ∙ g) g tq second))

  -- T is read back at q
  second_back : (q : ℕ) → back_second_at k r keys free q ≡ row_of t q
  second_back q = by_option (row_of t q)
      (λ none.
      let fn : row_of free q ≡ None = free_at q ∙ ap (kept_if (not (referred k s q))) none ∙ kept_none _ in
      let sn : seek goal part_of keys q ≡ None = seek_none goal part_of 0 keys q keys_rise (λ p f e. by_test (is_goal (goal p f) q)
      (λ g. from_key p f e (λ row v u q2 er es g2 g3 tq second.
      let same : Some q2 ≡ Some q = sym g2 ∙ is_goal_of _ q g in
      let i : q2 ≡ q = cc in
      let there : row_of t q ≡ Some u = subst (λ (x : ℕ). row_of t x ≡ Some u) i tq in
      absurd (cc)))
      (λ g. g)) in
      ap (λ (c : Cell). or_else c (seek goal part_of keys q)) fn ∙ sn ∙ sym none)
      (λ old at. by_test (referred k s q)
      (λ re.
      let fn : row_of free q ≡ None = free_at q ∙ ap (λ (u : Bool). kept_if u (row_of t q)) (not_from_true (referred k s q) re) in
      let f = referrer k 0 s q s_rise re in
      let rr : row_of r f.id ≡ Some (k.join (k.part f.row) old) = rel f.id ∙ ap (λ (c : Cell). joined_row k c t) f.at ∙ ap (λ (o : Option ℕ). map_cell (k.join (k.part f.row)) (at_goal t o)) f.goal ∙ ap (map_cell (k.join (k.part f.row))) at in
      let kk : row_of keys f.id ≡ Some (k.key f.row ∷ []) = keys_at f.id ∙ ap (λ (c : Cell). in_cell c (λ row. map_cell (λ v. k.key v ∷ []) (row_of s f.id))) rr ∙ ap (map_cell (λ v. k.key v ∷ [])) f.at in
      let ss : seek goal part_of keys q ≡ Some old = seek_some goal part_of 0 keys q (Some old) f.id (k.key f.row ∷ []) keys_rise
      (λ p g e is. from_key p g e (λ row v u q2 er es g2 g3 tq second.
      let same : Some q2 ≡ Some q = sym g2 ∙ is_goal_of _ q is in
      let i : q2 ≡ q = cc in
      let there : row_of t q ≡ Some u = subst (λ (x : ℕ). row_of t x ≡ Some u) i tq in
      ap (map_cell k.second) er ∙ ap Some second ∙ sym there ∙ at))
      kk (goal_is (goal_of (k.key f.row)) q f.goal) in
      ap (λ (c : Cell). or_else c (seek goal part_of keys q)) fn ∙ ss ∙ sym at)
      (λ re.
      let fs : row_of free q ≡ Some old = free_at q ∙ ap (λ (u : Bool). kept_if (not u) (row_of t q)) re ∙ at in
      ap (λ (c : Cell). or_else c (seek goal part_of keys q)) fs ∙ sym at))

  -- the identifiers at which T is read
  abbrev back_ids : List ℕ
  back_ids = ids_over (free ∷ []) (goals_in goal keys)

  -- T is read back
  pub second_is_back : back_second k r keys free ≡ t
  second_is_back =
      ext 0 _ t
      (rise_from 0 back_ids _ (rise_ids (free ∷ []) (goals_in goal keys) (free_rise, tt) (goals_rise goal keys)))
      t_rise
      (λ q. row_from back_ids (back_second_at k r keys free) q
      ∙ by_test (has_id back_ids q)
      (λ e. rw e (second_back q))
      (λ e.
      let n = none_at (free ∷ []) (goals_in goal keys) q e in
      let fn : row_of free q ≡ None = ap first_cell n.0 in
      let sn = goals_out goal part_of keys q n.1 in
      let gone : back_second_at k r keys free q ≡ None = ap (λ (c : Cell). or_else c (seek goal part_of keys q)) fn ∙ sn in
      rw e (sym gone ∙ second_back q)))

module _ (Fits : List Heading → List Heading → Type 0) (k : FkParts) (w a b z : ℕ) (fit : (hs ht : List Heading) → Fits hs ht → FkFits k w a b z ht hs) where
  -- the operator
  abbrev m : Meaning
  m = join_fk Fits k

  -- the sources are read back from R and what it keeps beside
  recovered : (ht hs : List Heading) (p : PairState) → m.reads_source ≡ true → IsPair (flip m) ht hs p → (flip m).read_target p.source ((flip m).aux_at_source p) p.memory ≡ p.target
  recovered ht hs p reads pair =
      let f = fit hs ht pair.fits in
      let one = target_one Fits k w a b z fit hs ht p.source pair.fits pair.source_of in
      let two = source_two Fits k w a b z fit hs ht p.target pair.fits pair.target_of in
      let s = first_table p.target in
      let t = second_table p.target in
      let r = first_table p.source in
      let first = first_is_back k w a b z f.well s t r two.rise0 two.rise1 one.rise two.wide0 two.wide1 pair.related.1 in
      let second = second_is_back k w a b z f.well s t r two.rise0 two.rise1 one.rise two.wide0 two.wide1 pair.related.1 in
      ap (λ (x : Rows). x ∷ back_second k r (join_refs k s r) (unreferred k s t) ∷ []) first ∙ ap (λ (x : Rows). s ∷ x ∷ []) second ∙ two.is

  -- what is kept beside R rises
  aux_rises : (ht hs : List Heading) (p : PairState) → IsPair (flip m) ht hs p → AllRise ((flip m).aux_at_source p)
  aux_rises ht hs p pair =
      let f = fit hs ht pair.fits in
      let one = target_one Fits k w a b z fit hs ht p.source pair.fits pair.source_of in
      let two = source_two Fits k w a b z fit hs ht p.target pair.fits pair.target_of in
      let s = first_table p.target in
      let t = second_table p.target in
      let r = first_table p.source in
      (one_rise r (key_here k s r) one.rise, (one_rise s (unjoined_here s r) two.rise0, (one_rise t (unreferred_here k s t) two.rise1, tt)))

  -- the laws of the mapping from R to S and T
  backward : HalfLaws (flip m)
  backward = record {
    kept = kept Fits k w a b z fit;
    still = still Fits k w a b z fit;
    below = below Fits k w a b z fit;
    recovered = recovered;
    readable = λ ht hs fits. inr refl;
    empty = λ ht hs fits. let f = fit hs ht fits in (refl, λ p. rw (f.source_is, f.target_is) refl);
    closed_more = λ n k h c. tt;
    aux_rises = aux_rises;
    aux_many = λ hs ht p q one two. refl;
    local = λ local. absurd (false≢true local);
  }

  -- the laws both ways
  pub join_laws : Laws m
  join_laws = (forward Fits k w a b z fit, backward)
