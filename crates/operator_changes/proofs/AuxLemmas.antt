-- A local operator's auxiliary tables change by what stands at the touched identifiers alone.
use Rattle.std.proofs.Common.{◌≡◌, ℕ, ◌+◌, ◌*◌, ◌≤◌, List, [], ◌∷◌, Bool, true, false, not, length, suc, refl, ap, sym, ◌∙◌, subst, arith}
use Rattle.std.proofs.lemmas.Bool.{false≢true, not-true}
use mathlib.Core.Logic.{inl, inr}
use Rattle.row_store.specs.Rows.{row_of}
use Rattle.op_law.specs.Tables.{Tables}
use Rattle.op_law.specs.Identifiers.{ids_over}
use Rattle.op_law.specs.Local.{HalfLocal, only, pair_only, rows_only}
use Rattle.pair_parts.specs.Parts.{memory_only}
use Rattle.op_law.specs.Laws.{HalfLaws}
use Rattle.op_law.specs.Meaning.{Meaning, PairState}
use Rattle.op_law.specs.Premises.{SomePair}
use Rattle.op_law.specs.Calls.{StepsWithin}
use Rattle.op_law.proofs.IdentifierLaws.{has_over}
use Rattle.op_rows.specs.inner.CellLemmas.{has_id, rise_ids, IdsRise, AllRise}
use Rattle.op_rows.specs.inner.Tabulated.{all_rise}
use Rattle.op_law.proofs.OnlyLaws.{first_table, other_tables, row_in, same_rows}
use Rattle.operator_changes.specs.AuxCalls.{AuxWithin, MayChangePair, changed_pair, touched_both}
use Rattle.row_changes.specs.Changed.{TableChanges, AreChangesOf, changed_tables}
use Rattle.row_changes.specs.Differences.{AreDifferences}
use Rattle.operator_changes.specs.Parts.{part_of, pair_part}
use Rattle.row_changes.specs.Picked.{PicksEach}
use Rattle.row_changes.specs.Touched.{touched, EachPass}
use Rattle.operator_changes.proofs.FootLemmas.{has_passed}
use Rattle.operator_changes.proofs.PartLemmas.{parts_are}
use Rattle.row_changes.proofs.ChangedLaws.{only_changes, other_changes, only_fit}
use Rattle.row_changes.proofs.PickLaws.{picks_difference}
use Rattle.op_law.proofs.IdentifierLaws.{no_more}
use Rattle.row_changes.proofs.TouchedLaws.{each_pass, rise_over, stays_over}

-- the changes that are picked of whole tables and of parts of new ones
pub differences_whole : (ids : List ℕ) (ts us : Tables) (cs : TableChanges) → IdsRise 0 ids → AllRise ts → AllRise us → only (λ q. not (has_id ids q)) us ≡ only (λ q. not (has_id ids q)) ts
    → PicksEach ids ts (only (has_id ids) us) cs → AreDifferences ts us cs
differences_whole ids [] [] [] rise rt ru same p = tt
differences_whole ids [] [] (c ∷ cs) rise rt ru same p = absurd p
differences_whole ids [] (u ∷ us) cs rise rt ru same p = absurd p
differences_whole ids (t ∷ ts) [] cs rise rt ru same p = absurd p
differences_whole ids (t ∷ ts) (u ∷ us) [] rise rt ru same p = absurd p
differences_whole ids (t ∷ ts) (u ∷ us) (c ∷ cs) rise rt ru same p =
    let P = has_id ids in
    let Q : ℕ → Bool = λ q. not (has_id ids q) in
    let head : rows_only Q u ≡ rows_only Q t = ap first_table same in
    let tail : only Q us ≡ only Q ts = ap other_tables same in (
      picks_difference (row_of t) (row_of (rows_only P u)) t u ids c rt.0 ru.0 rise (λ id e. refl) (λ id e. row_in P u id e)
          (λ id e. same_rows Q u t id (ap not e) head) p.0,
      differences_whole ids ts us cs rise rt.1 ru.1 tail p.1,
    )

only_long : (P : ℕ → Bool) (ts : Tables) → length (only P ts) ≡ length ts
only_long P [] = refl
only_long P (t ∷ ts) = ap suc (only_long P ts)

module _ (m : Meaning) (laws : HalfLaws m) (here : HalfLocal m) (near far : TableChanges) (p : PairState) (may : MayChangePair m near far p) (ids : List ℕ) (listed : ids ≡ touched_both near far) where
  abbrev P : ℕ → Bool
  P = has_id ids

  abbrev Q : ℕ → Bool
  Q = λ q. not (has_id ids q)

  abbrev new : PairState
  new = changed_pair p near far

  ids_rise : IdsRise 0 ids
  ids_rise = subst (IdsRise 0) (sym listed) (rise_over far (touched near) (rise_over near [] tt))

  near_pass : EachPass P near
  near_pass = subst (λ (l : List ℕ). EachPass (has_id l) near) (sym listed) (each_pass near [] (has_id (touched_both near far)) (λ id e. stays_over far (touched near) id e))

  far_pass : EachPass P far
  far_pass = subst (λ (l : List ℕ). EachPass (has_id l) far) (sym listed) (each_pass far (touched near) (has_id (touched_both near far)) (λ id e. e))

  source_rise : AllRise p.source
  source_rise = all_rise may.hs p.source may.old.source_of

  target_rise : AllRise p.target
  target_rise = all_rise may.ht p.target may.old.target_of

  source_is : part_of ids p.source ≡ only P p.source
  source_is = parts_are ids p.source ids_rise source_rise

  target_is : part_of ids p.target ≡ only P p.target
  target_is = parts_are ids p.target ids_rise target_rise

  pub near_fits : AreChangesOf (part_of ids p.source) near
  near_fits = subst (λ (ts : Tables). AreChangesOf ts near) (sym source_is) (only_fit P p.source near near_pass may.near_fit)

  pub far_fits : AreChangesOf (part_of ids p.target) far
  far_fits = subst (λ (ts : Tables). AreChangesOf ts far) (sym target_is) (only_fit P p.target far far_pass may.far_fit)

  -- the part with its changes is the changed pair's
  abbrev pub new_part : PairState
  new_part = changed_pair (pair_part ids p) near far

  part_is : new_part ≡ pair_only P new
  part_is =
      let a : changed_tables (part_of ids p.source) near ≡ only P new.source = ap (λ (ts : Tables). changed_tables ts near) source_is ∙ sym (only_changes P p.source near source_rise near_pass) in
      let b : changed_tables (part_of ids p.target) far ≡ only P new.target = ap (λ (ts : Tables). changed_tables ts far) target_is ∙ sym (only_changes P p.target far target_rise far_pass) in
      let none = here.no_memory may.hs may.ht p may.old in
      let c : memory_only P p.memory ≡ p.memory = ap (memory_only P) none ∙ sym none in
      cc

  pub part_pair : SomePair m new_part
  part_pair = subst (λ (x : PairState). SomePair m x) (sym part_is) (record { hs = may.hs; ht = may.ht; pair = here.related P may.hs may.ht new may.new })

  made_is : m.aux_at_source new_part ≡ only P (m.aux_at_source new)
  made_is = ap (λ (x : PairState). m.aux_at_source x) part_is ∙ here.aux P may.hs may.ht new may.new

  -- elsewhere nothing is changed
  rest_is : only Q (m.aux_at_source new) ≡ only Q (m.aux_at_source p)
  rest_is =
      let apart : (q : ℕ) → Q q ≡ true → P q ≡ false = λ q e. not-true (P q) e in
      let a : only Q new.source ≡ only Q p.source = other_changes P Q p.source near source_rise near_pass apart in
      let b : only Q new.target ≡ only Q p.target = other_changes P Q p.target far target_rise far_pass apart in
      let same : pair_only Q new ≡ pair_only Q p = cc in
      sym (here.aux Q may.hs may.ht new may.new) ∙ ap (λ (x : PairState). m.aux_at_source x) same ∙ here.aux Q may.hs may.ht p may.old

  -- THE CHANGES OF THE AUXILIARY TABLES
  pub aux_is : (made : Tables) (cs : TableChanges) → made ≡ m.aux_at_source new_part → PicksEach ids (m.aux_at_source p) made cs → AreDifferences (m.aux_at_source p) (m.aux_at_source new) cs
  aux_is made cs is picks =
      differences_whole ids (m.aux_at_source p) (m.aux_at_source new) cs ids_rise (laws.aux_rises may.hs may.ht p may.old) (laws.aux_rises may.hs may.ht new may.new) rest_is
      (subst (λ (ts : Tables). PicksEach ids (m.aux_at_source p) ts cs) (is ∙ made_is) picks)

  -- THE STEPS
  pub few : length (ids_over new_part.source (ids_over new_part.target [])) ≤ length ids
  few =
      let pair = here.related P may.hs may.ht new may.new in
      let list : List ℕ = ids_over (only P new.source) (ids_over (only P new.target) []) in
      let same : ids_over new_part.source (ids_over new_part.target []) ≡ list = ap (λ (x : PairState). ids_over x.source (ids_over x.target [])) part_is in
      let rise : IdsRise 0 list = rise_ids (only P new.source) _ (all_rise may.hs (only P new.source) pair.source_of) (rise_ids (only P new.target) [] (all_rise may.ht (only P new.target) pair.target_of) tt) in
      let within : (id : ℕ) → has_id list id ≡ true → has_id ids id ≡ true =
      λ id has. elim (has_over (only P new.source) (ids_over (only P new.target) []) id has) [
        | inl own ↦ has_passed P new.source id own
        | inr rest ↦ elim (has_over (only P new.target) [] id rest) [ inl own ↦ has_passed P new.target id own | inr none ↦ absurd (false≢true none) ]
      ] in
      rw same (no_more 0 0 list ids rise ids_rise within)

  pub part_steps : (x : PairState) → x ≡ new_part → m.is_local ≡ true → (before after : ℕ) → StepsWithin m 8 x.source x.target before after → AuxWithin near far before after
  part_steps x is local before after within =
      let own = subst (λ (y : PairState). after ≤ before + 8 * length (ids_over y.source (ids_over y.target []))) is (within local) in
      let many = ap (λ (l : List ℕ). length l) listed in
      omega (arith, few, own, many)

  -- both have as many auxiliary tables
  pub aux_many : (made : Tables) → made ≡ m.aux_at_source new_part → length (m.aux_at_source p) ≡ length made
  aux_many made is =
      sym (only_long Q (m.aux_at_source p)) ∙ ap (λ (ts : Tables). length ts) (sym rest_is) ∙ only_long Q (m.aux_at_source new)
      ∙ sym (only_long P (m.aux_at_source new)) ∙ ap (λ (ts : Tables). length ts) (sym (is ∙ made_is))
