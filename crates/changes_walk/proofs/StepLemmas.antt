-- One crossing, told by changes.
use Rattle.std.proofs.Common.{◌≡◌, ℕ, ◌≤◌, List, [], ◌∷◌, Bool, true, false, Result, Ok, Err, map, length, refl, ap, sym, ◌∙◌, subst}
use Rattle.std.proofs.Math.Path.{fun_ext}
use Rattle.par_base.specs.declared.fault.Fault.{Fault}
use Rattle.par_base.specs.declared.fault.Fault.TheVariants.{Refused, Memory as OutOfMemory}
use Rattle.par_base.specs.declared.refusal.IdsSpent.{IdsSpent}
use Rattle.row_store.specs.declared.change.Change.{Change}
use Rattle.id_memory.specs.Pairs.{Pairs}
use Rattle.id_memory.specs.States.{CounterState, MemoryState}
use Rattle.op_law.specs.Tables.{Tables}
use Rattle.op_law.specs.Meaning.{Mapped, Meaning, PairState}
use Rattle.op_law.specs.Laws.{HalfLaws, Laws}
use Rattle.op_law.specs.Local.{HalfLocal}
use Rattle.op_law.specs.Premises.{SomeMap, pair_after}
use Rattle.op_law.specs.Calls.{first_refused, IsSpent}
use Rattle.version_graph.specs.Forest.{Crossing}
use Rattle.row_changes.specs.Changed.{TableChanges, AreChangesOf, changed, changed_tables}
use Rattle.row_changes.specs.Differences.{AreDifferences}
use Rattle.operator_changes.specs.Calls.{toward, mapped_changes, IsChangedTo, MayChange}
use Rattle.operator_changes.specs.declared.change.FarChanges.{FarChanges}
use Rattle.version_model.specs.Put.{put}
use Rattle.version_model.specs.States.{State}
use Rattle.version_model.specs.Steps.{directed, mapped, pair_in}
use Rattle.version_model.proofs.BoundLaws.{way_local}
use Rattle.version_model.proofs.ProgressLaws.{far_long, state_is}
use Rattle.version_model.proofs.RunLaws.{way_laws}
use Rattle.version_model.specs.declared.numbered.Numbered.{Numbered}
use Rattle.changes_walk.specs.Calls.{CrossesBy, MayCrossBy}
use Rattle.changes_walk.specs.Changing.{changing_state, latest_changes, latest_pairs}
use Rattle.changes_walk.specs.Whole.{IsWholeTo}
use Rattle.changes_walk.specs.declared.progress.Changing.{Changing}
use Rattle.changes_walk.specs.declared.whole.WholeFar.{WholeFar}
use Rattle.changes_walk.proofs.SideLemmas.{changed_map, differences_fit, differences_put, fits_map, put_same}

pub toward_is : (b : Bool) (m : Meaning) → toward b m ≡ directed b m
toward_is false m = refl
toward_is true m = refl

-- a local operator either way
pub way_half : (b : Bool) (m : Meaning) → Laws m → m.is_local ≡ true → HalfLocal (directed b m)
way_half b m laws local = (way_laws b m laws).local (way_local b m local)

-- both far sides have as many tables
pub far_even : (m : Meaning) → HalfLaws m → (near new far : Tables) (p : PairState) (n : ℕ) → new ≡ near → far ≡ (m.forward new p n).far → SomeMap m near p n → length p.target ≡ length far
far_even m laws near new far p n is made some = sym (ap (λ (ts : Tables). length ts) (made ∙ ap (λ (ts : Tables). (m.forward ts p n).far) is) ∙ far_long m laws near p n some)

module _ {O : Type 0} (meaning : O → Meaning) (old : State) (made : Changing) (p : Crossing O) (may : MayCrossBy meaning old made p) where
  abbrev now : State
  now = changing_state old made

  abbrev pub over : Meaning
  over = directed p.backward (meaning p.operator)

  abbrev pub near : TableChanges
  near = map (latest_changes made.tables) p.near

  abbrev pub pair : PairState
  pair = pair_in old p

  near_is : changed_tables pair.source near ≡ map now.tables p.near
  near_is = changed_map old.tables (latest_changes made.tables) p.near

  -- the old rows are there
  pub near_fits : AreChangesOf (pair_in old p).source (map (latest_changes made.tables) p.near)
  near_fits = fits_map old made.tables p.near may.fit

  some : SomeMap over (changed_tables pair.source near) pair made.ids.next
  some = subst (λ (ts : Tables). SomeMap over ts pair made.ids.next) (sym near_is) may.may

  -- THE CHANGES MAY BE MAPPED
  pub may_change : MayChange over near pair made.ids.next
  may_change = record { hs = some.hs; ht = some.ht; fit = near_fits; may = some.may }

  abbrev pub to : Mapped
  to = mapped_changes over near pair made.ids.next

  to_is : to ≡ mapped meaning old now p
  to_is = ap (λ (ts : Tables). over.forward ts pair made.ids.next) near_is

  -- what was read is the crossing's
  pub may_read : (m : Meaning) (cs : TableChanges) (q : PairState) → m ≡ over → cs ≡ near → q ≡ pair → MayChange m cs q made.ids.next
  may_read m cs q a b c =
      subst (λ (x : Meaning). MayChange x cs q made.ids.next) (sym a)
      (subst (λ (x : TableChanges). MayChange over x q made.ids.next) (sym b)
      (subst (λ (x : PairState). MayChange over near x made.ids.next) (sym c) may_change))

  pub fits_read : (cs : TableChanges) (q : PairState) → cs ≡ near → q ≡ pair → AreChangesOf q.source cs
  fits_read cs q b c = (may_read over cs q refl b c).fit

  pub some_read : (cs : TableChanges) (q : PairState) → cs ≡ near → q ≡ pair → SomeMap over (changed_tables q.source cs) q made.ids.next
  some_read cs q b c = let all = may_read over cs q refl b c in record { hs = all.hs; ht = all.ht; may = all.may }

  to_read : (m : Meaning) (cs : TableChanges) (q : PairState) → m ≡ over → cs ≡ near → q ≡ pair → mapped_changes m cs q made.ids.next ≡ to
  to_read m cs q a b c =
      ap (λ (x : Meaning). mapped_changes x cs q made.ids.next) a
      ∙ ap (λ (x : TableChanges). mapped_changes over x q made.ids.next) b
      ∙ ap (λ (x : PairState). mapped_changes over near x made.ids.next) c

  pub local_read : (m : Meaning) (cs : TableChanges) (q : PairState) → m ≡ over → cs ≡ near → q ≡ pair → (ids : CounterState) (result : Result FarChanges (Fault IdsSpent)) → IsChangedTo q (mapped_changes m cs q made.ids.next) made.ids ids result → IsChangedTo pair to made.ids ids result
  local_read m cs q a b c ids result answer =
      subst (λ (x : Mapped). IsChangedTo pair x made.ids ids result) (to_read m cs q a b c)
      (subst (λ (x : PairState). IsChangedTo x (mapped_changes m cs q made.ids.next) made.ids ids result) c answer)

  pub whole_read : (cs : TableChanges) (q : PairState) → cs ≡ near → q ≡ pair → (ids : CounterState) (result : Result WholeFar (Fault IdsSpent)) → IsWholeTo q (mapped_changes over cs q made.ids.next) made.ids ids result → IsWholeTo pair to made.ids ids result
  whole_read cs q b c ids result answer =
      subst (λ (x : Mapped). IsWholeTo pair x made.ids ids result) (to_read over cs q refl b c)
      (subst (λ (x : PairState). IsWholeTo x (mapped_changes over cs q made.ids.next) made.ids ids result) c answer)

  module _ (cs : TableChanges) (items : List (Numbered (List Change))) (memories : List (Numbered MemoryState)) (ids : CounterState)
      (within : to.next ≤ first_refused made.ids) (side : AreDifferences pair.target to.far cs) (counts : ids ≡ record made.ids { next = to.next })
      (puts : latest_changes items ≡ put (latest_changes made.tables) p.far cs)
      (kept : latest_pairs old.memory memories ≡ put now.memory (p.number ∷ []) (to.memory ∷ [])) where
    tables_are : (λ t. changed (old.tables t) (latest_changes items t)) ≡ put now.tables p.far to.far
    tables_are = fun_ext (λ t. ap (λ (g : ℕ → List Change). changed (old.tables t) (g t)) puts ∙ differences_put old.tables (latest_changes made.tables) p.far to.far cs side t)

    -- THE CROSSING WAS MADE
    pub crossed : CrossesBy meaning old p made (record { tables = items; memories = memories; ids = ids }) (Ok tt)
    crossed = (
      subst (λ (x : Mapped). x.next ≤ first_refused made.ids) to_is within,
      state_is _ _ _ _ _ _
          (tables_are ∙ ap (λ (x : Mapped). put now.tables p.far x.far) to_is)
          (kept ∙ ap (λ (x : Mapped). put now.memory (p.number ∷ []) (x.memory ∷ [])) to_is)
          (ap (λ (x : CounterState). x.next) counts ∙ ap (λ (x : Mapped). x.next) to_is),
      differences_fit old.tables (latest_changes made.tables) (latest_changes items) p.far to.far cs side puts may.fit,
      ap (λ (x : CounterState). x.limit) counts,
    )

  -- IT WAS REFUSED
  pub refused : (new : CounterState) (left : Changing) (spent : IdsSpent) → IsSpent to.next made.ids new spent → CrossesBy meaning old p made left (Err (Refused spent))
  refused new left spent answer = subst (λ (x : Mapped). IsSpent x.next made.ids made.ids spent) to_is (answer.0, answer.1, answer.2, refl)

  module _ (laws : Laws (meaning p.operator)) where
    half : HalfLaws over
    half = way_laws p.backward (meaning p.operator) laws

    -- ---- over a local operator

    module _ (local : (meaning p.operator).is_local ≡ true) where
      here : HalfLocal over
      here = way_half p.backward (meaning p.operator) laws local

      -- the memory stays: there is none
      memory_stays : now.memory ≡ put now.memory (p.number ∷ []) (to.memory ∷ [])
      memory_stays =
          let c = may_change in
          sym (put_same now.memory p.number to.memory
          (here.no_memory c.hs c.ht (pair_after over (changed_tables pair.source near) pair made.ids.next) (half.kept c.hs c.ht (changed_tables pair.source near) pair made.ids.next c.may)
          ∙ sym (here.no_memory c.hs c.ht pair c.may.sound.pair) ∙ sym may.memory))

      pub crossed_local : (far : FarChanges) (ids : CounterState) (items : List (Numbered (List Change))) → IsChangedTo pair to made.ids ids (Ok far) → latest_changes items ≡ put (latest_changes made.tables) p.far far.side.tables → CrossesBy meaning old p made (record { tables = items; memories = made.memories; ids = ids }) (Ok tt)
      crossed_local far ids items answer puts = crossed far.side.tables items made.memories ids answer.0 answer.1.side answer.2 puts memory_stays

    pub refused_local : (ids : CounterState) (left : Changing) (fault : Fault IdsSpent) → IsChangedTo pair to made.ids ids (Err fault) → CrossesBy meaning old p made left (Err fault)
    refused_local ids left (Refused spent) answer = refused ids left spent answer
    refused_local ids left (OutOfMemory memory) answer = tt

  -- ---- over any operator

  pub crossed_whole : (far : WholeFar) (ids : CounterState) (items : List (Numbered (List Change))) (memories : List (Numbered MemoryState)) → IsWholeTo pair to made.ids ids (Ok far)
      → latest_changes items ≡ put (latest_changes made.tables) p.far far.side.tables
      → ((f : ℕ → Pairs) → latest_pairs f memories ≡ put (latest_pairs f made.memories) (p.number ∷ []) (far.memory.entries ∷ []))
      → CrossesBy meaning old p made (record { tables = items; memories = memories; ids = ids }) (Ok tt)
  crossed_whole far ids items memories answer puts kept =
      crossed far.side.tables items memories ids answer.0 answer.1 answer.3 puts (kept old.memory ∙ ap (λ (x : Pairs). put now.memory (p.number ∷ []) (x ∷ [])) answer.2)

  pub refused_whole : (ids : CounterState) (left : Changing) (fault : Fault IdsSpent) → IsWholeTo pair to made.ids ids (Err fault) → CrossesBy meaning old p made left (Err fault)
  refused_whole ids left (Refused spent) answer = refused ids left spent answer
  refused_whole ids left (OutOfMemory memory) answer = tt
