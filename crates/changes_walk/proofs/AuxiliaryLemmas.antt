-- The changes of the auxiliary tables of one operator, once a write was carried.
use Rattle.std.proofs.Common.{◌≡◌, ℕ, ◌≤◌, Bool, true, List, [], ◌∷◌, ◌++◌, length, refl, ap, sym, ◌∙◌, subst, arith}
use Rattle.id_memory.specs.Pairs.{Pairs}
use Rattle.op_law.specs.Tables.{Tables}
use Rattle.op_law.specs.Identifiers.{IdsRise, has_id}
use Rattle.op_law.specs.Local.{HalfLocal}
use Rattle.op_law.specs.Laws.{Laws}
use Rattle.op_law.specs.Meaning.{Meaning, PairState}
use Rattle.op_law.specs.Premises.{IsPair, SomePair}
use Rattle.row_changes.specs.Changed.{TableChanges, AreChangesOf, changed_tables}
use Rattle.row_changes.specs.Differences.{AreDifferences}
use Rattle.row_changes.specs.Touched.{EachPass, touched_in, touched_over}
use Rattle.operator_changes.specs.AuxCalls.{AuxWithin, MayChangePair, changed_pair, touched_both}
use Rattle.version_graph.specs.Forest.{Crossing}
use Rattle.version_model.specs.States.{State}
use Rattle.version_model.specs.Steps.{directed, pair_in}
use Rattle.version_model.proofs.RunLaws.{way_laws}
use Rattle.changes_walk.specs.Auxiliary.{aux_beside, changes_at, pair_made, AreAuxChanges, AuxTakes, FitPair, MayChangeAux}
use Rattle.changes_walk.specs.Changing.{changing_state, latest_changes}
use Rattle.changes_walk.specs.declared.progress.Changing.{Changing}
use Rattle.changes_walk.proofs.NamedLemmas.{few_touched, side_names}
use Rattle.changes_walk.proofs.SideLemmas.{changed_map, fits_map}
use Rattle.changes_walk.proofs.StepLemmas.{way_half}

-- no tables
no_tables : (ts : Tables) → length ts ≡ 0 → ts ≡ []
no_tables [] many = refl
no_tables (t ∷ ts) many = absurd (let none : ⊥ = cc in none)

module _ {O : Type 0} (meaning : O → Meaning) (old : State) (made : Changing) (p : Crossing O) (may : MayChangeAux meaning old made p) where
  abbrev over : Meaning
  over = directed p.backward (meaning p.operator)

  abbrev near : TableChanges
  near = changes_at made p.near

  abbrev far : TableChanges
  far = changes_at made p.far

  abbrev pair : PairState
  pair = pair_in old p

  abbrev now : PairState
  now = pair_in (changing_state old made) p

  -- the old rows are there
  near_fits : AreChangesOf pair.source near
  near_fits = fits_map old made.tables p.near may.fit

  far_fits : AreChangesOf pair.target far
  far_fits = fits_map old made.tables p.far may.fit

  -- each side with its changes is the new one
  near_is : changed_tables pair.source near ≡ now.source
  near_is = changed_map old.tables (latest_changes made.tables) p.near

  far_is : changed_tables pair.target far ≡ now.target
  far_is = changed_map old.tables (latest_changes made.tables) p.far

  -- and so is the pair, with the new memory
  sides_are : (memory : Pairs) → memory ≡ now.memory → record { source = changed_tables pair.source near; target = changed_tables pair.target far; memory = memory } ≡ now
  sides_are memory is =
      ap (λ (ts : Tables). record { source = ts; target = changed_tables pair.target far; memory = memory }) near_is
      ∙ ap (λ (ts : Tables). record { source = now.source; target = ts; memory = memory }) far_is
      ∙ ap (λ (m : Pairs). record { source = now.source; target = now.target; memory = m }) is

  -- ---- over any operator

  -- the pair that was read has the old rows
  pub fit_read : (q : PairState) → q ≡ pair → FitPair made p.near p.far q
  fit_read q is = subst (λ (x : PairState). FitPair made p.near p.far x) (sym is) (record { source_fit = near_fits; target_fit = far_fits })

  -- what the changes make of the pair that was read is the new one
  pub made_read : (q x : PairState) → q ≡ pair → x ≡ pair_made made p.near p.far p.number q → x ≡ now
  made_read q x is has = has ∙ ap (λ (y : PairState). pair_made made p.near p.far p.number y) is ∙ sides_are now.memory refl

  -- and the operator relates its sides
  pub some_read : (q x : PairState) → q ≡ pair → x ≡ pair_made made p.near p.far p.number q → SomePair over x
  some_read q x is has = subst (λ (y : PairState). SomePair over y) (sym (made_read q x is has)) (record { hs = may.hs; ht = may.ht; pair = may.after })

  -- as many are kept beside both
  pub as_many : Laws (meaning p.operator) → length (aux_beside meaning old p) ≡ length (aux_beside meaning (changing_state old made) p)
  as_many laws = (way_laws p.backward (meaning p.operator) laws).aux_many may.hs may.ht pair now may.before may.after

  -- where none are kept beside the one none are beside the other, and nothing changes
  pub none_change : Laws (meaning p.operator) → (aux : Tables) → aux ≡ aux_beside meaning old p → aux ≡ [] → AreAuxChanges meaning old made p aux []
  none_change laws aux is none =
      let many : length (aux_beside meaning (changing_state old made) p) ≡ 0 = sym (as_many laws) ∙ ap (λ (ts : Tables). length ts) (sym is ∙ none) in
      subst (λ (ts : Tables). AreDifferences ts (aux_beside meaning (changing_state old made) p) []) (sym none)
      (subst (λ (ts : Tables). AreDifferences [] ts []) (sym (no_tables (aux_beside meaning (changing_state old made) p) many)) tt)

  -- ---- over an operator that treats each identifier by itself

  module _ (laws : Laws (meaning p.operator)) (local : (meaning p.operator).is_local ≡ true) where
    here : HalfLocal over
    here = way_half p.backward (meaning p.operator) laws local

    -- it has no memory before and none after, so the sides alone are changed
    changed_is : changed_pair pair near far ≡ now
    changed_is = sides_are pair.memory (here.no_memory may.hs may.ht pair may.before ∙ sym (here.no_memory may.hs may.ht now may.after))

    -- THE CHANGES MAY BE HANDED ON
    may_aux : MayChangePair over near far pair
    may_aux = record {
      hs = may.hs;
      ht = may.ht;
      old = may.before;
      new = subst (λ (x : PairState). IsPair over may.hs may.ht x) (sym changed_is) may.after;
      near_fit = near_fits;
      far_fit = far_fits;
    }

    -- what was read and copied is the crossing's
    module _ (m : Meaning) (ns fs : TableChanges) (q : PairState) (a : m ≡ over) (b : ns ≡ near) (c : fs ≡ far) (d : q ≡ pair) where
      pub may_read : MayChangePair m ns fs q
      may_read =
          subst (λ (x : Meaning). MayChangePair x ns fs q) (sym a)
          (subst (λ (x : TableChanges). MayChangePair over x fs q) (sym b)
          (subst (λ (x : TableChanges). MayChangePair over near x q) (sym c)
          (subst (λ (x : PairState). MayChangePair over near far x) (sym d) may_aux)))

      -- the auxiliary tables are those of the pair that was read
      pub aux_given : (aux : Tables) → aux ≡ aux_beside meaning old p → aux ≡ m.aux_at_source q
      aux_given aux is = is ∙ sym (ap (λ (x : PairState). over.aux_at_source x) d) ∙ sym (ap (λ (x : Meaning). x.aux_at_source q) a)

      made_is : m.aux_at_source (changed_pair q ns fs) ≡ over.aux_at_source now
      made_is =
          ap (λ (x : Meaning). x.aux_at_source (changed_pair q ns fs)) a
          ∙ ap (λ (x : TableChanges). over.aux_at_source (changed_pair q x fs)) b
          ∙ ap (λ (x : TableChanges). over.aux_at_source (changed_pair q near x)) c
          ∙ ap (λ (x : PairState). over.aux_at_source (changed_pair x near far)) d
          ∙ ap (λ (x : PairState). over.aux_at_source x) changed_is

      -- and their changes are those of the crossing
      pub aux_read : (aux : Tables) (cs : TableChanges) → AreDifferences aux (m.aux_at_source (changed_pair q ns fs)) cs → AreAuxChanges meaning old made p aux cs
      aux_read aux cs are = subst (λ (ts : Tables). AreDifferences aux ts cs) made_is are

-- ---- how many steps it takes

-- the identifiers of one side's changes after those of another are those of both
touched_append : (some more : TableChanges) (ids : List ℕ) → touched_over more (touched_over some ids) ≡ touched_over (some ++ more) ids
touched_append [] more ids = refl
touched_append (c ∷ cs) more ids = touched_append cs more (touched_in c ids)

-- a test that all changes of one side and of another pass
each_append : (P : ℕ → Bool) (some more : TableChanges) → EachPass P some → EachPass P more → EachPass P (some ++ more)
each_append P [] more first second = second
each_append P (c ∷ cs) more first second = (first.0, each_append P cs more first.1 second)

-- changes of both sides that name some identifiers alone name no more of them
few_both : (ids : List ℕ) (some more : TableChanges) → IdsRise 0 ids → EachPass (has_id ids) some → EachPass (has_id ids) more → length (touched_both some more) ≤ length ids
few_both ids some more rise first second =
    subst (λ (l : List ℕ). length l ≤ length ids) (sym (touched_append some more [])) (few_touched ids (some ++ more) rise (each_append (has_id ids) some more first second))

-- THE STEPS
pub aux_steps : {O : Type 0} (meaning : O → Meaning) (made : Changing) (p : Crossing O) (ns fs : TableChanges) (s e : ℕ) → ns ≡ changes_at made p.near → fs ≡ changes_at made p.far → AuxWithin ns fs s e → AuxTakes meaning p made s e
aux_steps meaning made p ns fs s e a b within ids rise local named =
    let first = subst (λ (x : TableChanges). EachPass (has_id ids) x) (sym a) (side_names ids made.tables p.near named) in
    let second = subst (λ (x : TableChanges). EachPass (has_id ids) x) (sym b) (side_names ids made.tables p.far named) in
    let most = few_both ids ns fs rise first second in
    omega (arith, most, within)
