-- Changes are mapped by what stands in a footprint of them.
use Rattle.std.proofs.Common.{◌≡◌, ℕ, ◌+◌, ◌*◌, ◌<◌, ◌≤◌, List, [], ◌∷◌, Bool, true, false, not, length, Option, Some, None, IsSome, Ok, Err, refl, ap, sym, ◌∙◌, subst, arith}
use Rattle.std.specs.Prelude.{◌-◌}
use Rattle.std.proofs.lemmas.Bool.{false≢true}
use mathlib.Core.Logic.{inl, inr}
use Rattle.row_store.specs.declared.change.Change.{Change}
use Rattle.row_store.specs.Rows.{row_of}
use Rattle.par_base.specs.declared.fault.Fault.{Fault}
use Rattle.par_base.specs.declared.fault.Fault.TheVariants.{Refused, Memory as OutOfMemory}
use Rattle.par_base.specs.declared.refusal.IdsSpent.{IdsSpent}
use Rattle.id_memory.specs.Pairs.{Pairs}
use Rattle.id_memory.specs.States.{CounterState}
use Rattle.op_law.specs.Tables.{Tables}
use Rattle.op_law.specs.Sound.{HasRow, TablesSound}
use Rattle.op_law.proofs.SoundLaws.{tables_more}
use Rattle.op_law.specs.Identifiers.{ids_over}
use Rattle.op_law.specs.Local.{HalfLocal, only, rows_only}
use Rattle.op_law.specs.Laws.{HalfLaws, Laws}
use Rattle.op_law.specs.Calls.{first_refused, IsMapped, IsSpent, MapsWithin}
use Rattle.op_law.specs.declared.pair.Far.{Far}
use Rattle.op_law.specs.Meaning.{Meaning, Mapped, PairState}
use Rattle.op_law.specs.Premises.{SomeMap}
use Rattle.op_law.proofs.IdentifierLaws.{has_over}
use Rattle.op_rows.specs.inner.CellLemmas.{has_id, rise_ids, IdsRise, AllRise}
use Rattle.op_rows.specs.inner.Tabulated.{all_rise, tables_long}
use Rattle.op_law.proofs.OnlyLaws.{by_test, first_table, other_tables, row_in, row_out, same_rows}
use Rattle.operator_changes.specs.Calls.{toward, IsChangedTo, MayChange}
use Rattle.row_changes.specs.Changed.{TableChanges, AreChangesOf, changed_tables}
use Rattle.row_changes.specs.Differences.{AreDifferences}
use Rattle.pair_changes.specs.declared.change.PairChange.{PairChange}
use Rattle.pair_changes.specs.MemoryChanges.{IsMemoryDifference}
use Rattle.pair_parts.specs.Parts.{memory_only, part_of_pair}
use Rattle.pair_parts.proofs.MemoryLaws.{memory_same}
use Rattle.operator_changes.specs.Parts.{part_of, pair_part}
use Rattle.row_changes.specs.Picked.{PicksEach}
use Rattle.operator_changes.specs.Footprint.{IsFootprint, passes, with_drawn}
use Rattle.row_changes.specs.Touched.{AllPass, EachPass}
use Rattle.operator_changes.proofs.DrawnLemmas.{only_same, under_passes, with_has, with_rise}
use Rattle.operator_changes.proofs.MemoryLaws.{whole_difference}
use Rattle.operator_changes.proofs.PartLemmas.{parts_are}
use Rattle.row_changes.proofs.ChangedLaws.{only_changes, only_fit}
use Rattle.row_changes.proofs.PickLaws.{picks_difference}
use Rattle.op_law.proofs.IdentifierLaws.{no_more}

-- THE CHANGES THAT ARE PICKED OF BOTH PARTS ARE THE DIFFERENCE OF BOTH SIDES
pub differences : (ids : List ℕ) (ts us : Tables) (cs : TableChanges) → IdsRise 0 ids → AllRise ts → AllRise us → only (λ q. not (has_id ids q)) us ≡ only (λ q. not (has_id ids q)) ts
    → PicksEach ids (only (has_id ids) ts) (only (has_id ids) us) cs → AreDifferences ts us cs
differences ids [] [] [] rise rt ru same p = tt
differences ids [] [] (c ∷ cs) rise rt ru same p = absurd p
differences ids [] (u ∷ us) cs rise rt ru same p = absurd p
differences ids (t ∷ ts) [] cs rise rt ru same p = absurd p
differences ids (t ∷ ts) (u ∷ us) [] rise rt ru same p = absurd p
differences ids (t ∷ ts) (u ∷ us) (c ∷ cs) rise rt ru same p =
    let P = has_id ids in
    let Q : ℕ → Bool = λ q. not (has_id ids q) in
    let head : rows_only Q u ≡ rows_only Q t = ap first_table same in
    let tail : only Q us ≡ only Q ts = ap other_tables same in (
      picks_difference (row_of (rows_only P t)) (row_of (rows_only P u)) t u ids c rt.0 ru.0 rise (λ id e. row_in P t id e) (λ id e. row_in P u id e)
          (λ id e. same_rows Q u t id (ap not e) head) p.0,
      differences ids ts us cs rise rt.1 ru.1 tail p.1,
    )

some_none : {A : Type 0} (o : Option A) → IsSome o → o ≡ None → ⊥
some_none None h e = absurd (false≢true h)
some_none (Some x) h e = absurd (cc)

-- a restricted table has rows of identifiers that pass alone
pub has_passed : (P : ℕ → Bool) (ts : Tables) (id : ℕ) → HasRow id (only P ts) → P id ≡ true
has_passed P [] id has = absurd has
has_passed P (t ∷ ts) id (inl own) = by_test (P id) (λ e. e) (λ e. let none = row_out P t id e in absurd (some_none (row_of (rows_only P t) id) own none))
has_passed P (t ∷ ts) id (inr other) = has_passed P ts id other

pass_more : (P Q : ℕ → Bool) (cs : List Change) → ((q : ℕ) → P q ≡ true → Q q ≡ true) → AllPass P cs → AllPass Q cs
pass_more P Q [] h pass = tt
pass_more P Q (c ∷ cs) h pass = (h c.id pass.0, pass_more P Q cs h pass.1)

pub each_more : (P Q : ℕ → Bool) (changes : TableChanges) → ((q : ℕ) → P q ≡ true → Q q ≡ true) → EachPass P changes → EachPass Q changes
each_more P Q [] h pass = tt
each_more P Q (c ∷ cs) h pass = (pass_more P Q c h pass.0, each_more P Q cs h pass.1)

pub has_passes : (ids : List ℕ) (n q : ℕ) → has_id ids q ≡ true → passes ids n q ≡ true
has_passes ids n q e = rw e refl

module _ (m : Meaning) (laws : HalfLaws m) (near : TableChanges) (p : PairState) (n : ℕ) (may : MayChange m near p n) (ids : List ℕ) (foot : IsFootprint m near p n ids) where
  abbrev P : ℕ → Bool
  P = passes ids n

  abbrev whole : Tables
  whole = changed_tables p.source near

  abbrev to : Mapped
  to = m.forward (changed_tables p.source near) p n

  -- the old pair at these identifiers
  abbrev pub small : PairState
  small = pair_part ids p

  source_rise : AllRise p.source
  source_rise = all_rise may.hs p.source may.may.sound.pair.source_of

  target_rise : AllRise p.target
  target_rise = all_rise may.ht p.target may.may.sound.pair.target_of

  source_is : part_of ids p.source ≡ only P p.source
  source_is = parts_are ids p.source foot.rise source_rise ∙ only_same (has_id ids) P n p.source (under_passes ids n) may.may.sound.source

  target_is : part_of ids p.target ≡ only P p.target
  target_is = parts_are ids p.target foot.rise target_rise ∙ only_same (has_id ids) P n p.target (under_passes ids n) may.may.sound.target

  memory_is : memory_only (has_id ids) p.memory ≡ memory_only P p.memory
  memory_is = memory_same (has_id ids) P n p.memory (under_passes ids n) may.may.sound.memory

  small_is : small ≡ part_of_pair P p
  small_is = let a = source_is in let b = target_is in let c = memory_is in cc

  near_pass : EachPass P near
  near_pass = each_more (has_id ids) P near (has_passes ids n) foot.touches

  near_is : changed_tables (part_of ids p.source) near ≡ only P whole
  near_is = ap (λ (ts : Tables). changed_tables ts near) source_is ∙ sym (only_changes P p.source near source_rise near_pass)

  pub fit_small : AreChangesOf (part_of ids p.source) near
  fit_small = subst (λ (ts : Tables). AreChangesOf ts near) (sym source_is) (only_fit P p.source near near_pass may.fit)

  -- THE PART MAY BE MAPPED
  pub may_small : SomeMap m (changed_tables (part_of ids p.source) near) small n
  may_small =
      subst (λ (x : PairState). SomeMap m (changed_tables (part_of ids p.source) near) x n) (sym small_is)
      (subst (λ (ts : Tables). SomeMap m ts (part_of_pair P p) n) (sym near_is) foot.may)

  small_forward : m.forward (changed_tables (part_of ids p.source) near) small n ≡ m.forward (only P whole) (part_of_pair P p) n
  small_forward = ap (λ (x : PairState). m.forward (changed_tables (part_of ids p.source) near) x n) small_is ∙ ap (λ (ts : Tables). m.forward ts (part_of_pair P p) n) near_is

  pub small_next : (m.forward (changed_tables (part_of ids p.source) near) small n).next ≡ to.next
  small_next = ap (λ (x : Mapped). x.next) small_forward ∙ foot.next

  far_is : (m.forward (changed_tables (part_of ids p.source) near) small n).far ≡ only P to.far
  far_is = ap (λ (x : Mapped). x.far) small_forward ∙ foot.far

  far_memory_is : (m.forward (changed_tables (part_of ids p.source) near) small n).memory ≡ memory_only P to.memory
  far_memory_is = ap (λ (x : Mapped). x.memory) small_forward ∙ foot.memory

  rises : n ≤ to.next
  rises = (laws.below may.hs may.ht whole p n may.may).rises

  far_sound : TablesSound to.next to.far
  far_sound = (laws.below may.hs may.ht whole p n may.may).far

  old_sound : TablesSound to.next p.target
  old_sound = tables_more n to.next rises p.target may.may.sound.target

  far_rise : AllRise to.far
  far_rise = all_rise may.ht to.far (laws.kept may.hs may.ht whole p n may.may).target_of

  -- the identifiers of the footprint and those that were drawn
  abbrev pub seen_ids : List ℕ
  seen_ids = with_drawn ids n (m.forward (changed_tables p.source near) p n).next

  agree : (q : ℕ) → q < to.next → P q ≡ has_id seen_ids q
  agree q h = sym (with_has ids n to.next q rises h)

  agree_not : (q : ℕ) → q < to.next → not (P q) ≡ not (has_id seen_ids q)
  agree_not q h = ap not (agree q h)

  rest_is : only (λ q. not (has_id seen_ids q)) to.far ≡ only (λ q. not (has_id seen_ids q)) p.target
  rest_is =
      sym (only_same (λ q. not (P q)) (λ q. not (has_id seen_ids q)) to.next to.far agree_not far_sound) ∙ foot.rest
      ∙ only_same (λ q. not (P q)) (λ q. not (has_id seen_ids q)) to.next p.target agree_not old_sound

  -- THE CHANGES OF THE FAR SIDE
  pub side_is : (far : Tables) (cs : TableChanges) → far ≡ (m.forward (changed_tables (part_of ids p.source) near) small n).far → PicksEach seen_ids (part_of ids p.target) far cs → AreDifferences p.target to.far cs
  side_is far cs is picks =
      let far_same = is ∙ far_is ∙ only_same P (has_id seen_ids) to.next to.far agree far_sound in
      let old_same = target_is ∙ only_same P (has_id seen_ids) to.next p.target agree old_sound in
      differences seen_ids p.target to.far cs (with_rise 0 n (to.next - n) ids (omega arith) foot.rise) target_rise far_rise rest_is
      (subst (λ (ts : Tables). PicksEach seen_ids (only (has_id seen_ids) p.target) ts cs) far_same
      (subst (λ (ts : Tables). PicksEach seen_ids ts far cs) old_same picks))

  -- AND OF THE MEMORY
  pub memory_changes : (now : Pairs) (cs : List PairChange) → now ≡ (m.forward (changed_tables (part_of ids p.source) near) small n).memory → IsMemoryDifference (memory_only (has_id ids) p.memory) now cs → IsMemoryDifference p.memory to.memory cs
  memory_changes now cs is differ =
      whole_difference P p.memory to.memory cs foot.memory_rest
      (subst (λ (es : Pairs). IsMemoryDifference (memory_only P p.memory) es cs) (is ∙ far_memory_is)
      (subst (λ (es : Pairs). IsMemoryDifference es now cs) memory_is differ))

  -- in a restricted table that may stand there are the identifiers of the footprint alone
  in_foot : (ts : Tables) (id : ℕ) → TablesSound n ts → HasRow id (only P ts) → has_id ids id ≡ true
  in_foot ts id sound has = has_passed (has_id ids) ts id (subst (λ (us : Tables). HasRow id us) (sym (only_same (has_id ids) P n ts (under_passes ids n) sound)) has)

  -- THE STEPS: no identifier is seen but those of the footprint
  pub few : length (ids_over (changed_tables (part_of ids p.source) near) (ids_over small.source (ids_over small.target []))) ≤ length ids
  few =
      let list : List ℕ = ids_over (only P whole) (ids_over (only P p.source) (ids_over (only P p.target) [])) in
      let same : ids_over (changed_tables (part_of ids p.source) near) (ids_over small.source (ids_over small.target [])) ≡ list =
      let a = near_is in let b = source_is in let c = target_is in cc in
      let some = foot.may in
      let pair = some.may.sound.pair in
      let rise : IdsRise 0 list =
      rise_ids (only P whole) _ (all_rise some.hs (only P whole) some.may.near_of)
      (rise_ids (only P p.source) _ (all_rise some.hs (only P p.source) pair.source_of) (rise_ids (only P p.target) [] (all_rise some.ht (only P p.target) pair.target_of) tt)) in
      let within : (id : ℕ) → has_id list id ≡ true → has_id ids id ≡ true =
      λ id has. elim (has_over (only P whole) (ids_over (only P p.source) (ids_over (only P p.target) [])) id has) [
        | inl own ↦ in_foot whole id may.may.near_sound own
        | inr rest ↦ elim (has_over (only P p.source) (ids_over (only P p.target) []) id rest) [
          | inl own ↦ in_foot p.source id may.may.sound.source own
          | inr last ↦ elim (has_over (only P p.target) [] id last) [ inl own ↦ in_foot p.target id may.may.sound.target own | inr none ↦ absurd (false≢true none) ]
        ]
      ] in
      rw same (no_more 0 0 list ids rise foot.rise within)

-- both far sides have as many tables
pub far_many : (m : Meaning) → HalfLaws m → (near : Tables) (x : PairState) (n : ℕ) → SomeMap m near x n → length x.target ≡ length (m.forward near x n).far
far_many m laws near x n some = tables_long some.ht x.target some.may.sound.pair.target_of ∙ sym (tables_long some.ht (m.forward near x n).far (laws.kept some.hs some.ht near x n some.may).target_of)

-- ---- either way

pub toward_laws : (b : Bool) (m : Meaning) → Laws m → HalfLaws (toward b m)
toward_laws false m laws = laws.0
toward_laws true m laws = laws.1

pub toward_local : (b : Bool) (m : Meaning) → m.is_local ≡ true → (toward b m).is_local ≡ true
toward_local false m e = e
toward_local true m e = e

pub local_of : (b : Bool) (m : Meaning) → Laws m → m.is_local ≡ true → HalfLocal (toward b m)
local_of b m laws e = (toward_laws b m laws).local (toward_local b m e)

module _ (m : Meaning) (laws : HalfLaws m) (near : TableChanges) (p : PairState) (n : ℕ) (may : MayChange m near p n) (ids : List ℕ) (foot : IsFootprint m near p n ids) where
  abbrev part : PairState
  part = small m laws near p n may ids foot

  pub part_fits : (x : PairState) → x ≡ part → AreChangesOf x.source near
  part_fits x is = subst (λ (y : PairState). AreChangesOf y.source near) (sym is) (fit_small m laws near p n may ids foot)

  pub part_may : (x : PairState) → x ≡ part → SomeMap m (changed_tables x.source near) x n
  part_may x is = subst (λ (y : PairState). SomeMap m (changed_tables y.source near) y n) (sym is) (may_small m laws near p n may ids foot)

  pub part_next : (x : PairState) → x ≡ part → (m.forward (changed_tables x.source near) x n).next ≡ (m.forward (changed_tables p.source near) p n).next
  part_next x is = ap (λ (y : PairState). (m.forward (changed_tables y.source near) y n).next) is ∙ small_next m laws near p n may ids foot

  -- THE ANSWER, where the part was mapped
  pub answered : (x : PairState) → x ≡ part → (old new : CounterState) → (far : Far) (cs : TableChanges) (pairs : List PairChange) → IsMapped (m.forward (changed_tables x.source near) x n) old new (Ok far)
      → PicksEach (seen_ids m laws near p n may ids foot) x.target far.side cs → IsMemoryDifference x.memory far.memory.entries pairs
      → IsChangedTo p (m.forward (changed_tables p.source near) p n) old new (Ok (record { side = record { tables = cs }; memory = pairs }))
  answered x is old new far cs pairs mapped picks differ =
      let next = part_next x is in
      let far_was = mapped.1.0 ∙ ap (λ (y : PairState). (m.forward (changed_tables y.source near) y n).far) is in
      let memory_was = mapped.1.1 ∙ ap (λ (y : PairState). (m.forward (changed_tables y.source near) y n).memory) is in (
        subst (λ (k : ℕ). k ≤ first_refused old) next mapped.0,
        record {
          side = side_is m laws near p n may ids foot far.side cs far_was (subst (λ (y : PairState). PicksEach (seen_ids m laws near p n may ids foot) y.target far.side cs) is picks);
          memory = memory_changes m laws near p n may ids foot far.memory.entries pairs memory_was (subst (λ (y : PairState). IsMemoryDifference y.memory far.memory.entries pairs) is differ);
        },
        mapped.2 ∙ ap (λ (k : ℕ). record old { next = k }) next,
      )

  -- where it was refused, the whole is
  pub spent : (x : PairState) → x ≡ part → (old new : CounterState) (fault : Fault IdsSpent) → IsMapped (m.forward (changed_tables x.source near) x n) old new (Err fault) → IsChangedTo p (m.forward (changed_tables p.source near) p n) old old (Err fault)
  spent x is old new (Refused s) mapped = subst (λ (k : ℕ). IsSpent k old old s) (part_next x is) (mapped.0, mapped.1, mapped.2, refl)
  spent x is old new (OutOfMemory memory) mapped = refl

  pub part_rises : (x : PairState) → x ≡ part → n ≤ (m.forward (changed_tables x.source near) x n).next
  part_rises x is = subst (λ (k : ℕ). n ≤ k) (sym (part_next x is)) (laws.below may.hs may.ht (changed_tables p.source near) p n may.may).rises

  -- the steps of mapping the part
  pub part_steps : (x : PairState) → x ≡ part → (before after : ℕ) → MapsWithin m (changed_tables x.source near) x before after → m.is_local ≡ true → after ≤ before + 6 * length ids
  part_steps x is before after within local =
      let most = few m laws near p n may ids foot in
      let own = subst (λ (y : PairState). after ≤ before + 6 * length (ids_over (changed_tables y.source near) (ids_over y.source (ids_over y.target [])))) is (within local) in
      omega (arith, most, own)
