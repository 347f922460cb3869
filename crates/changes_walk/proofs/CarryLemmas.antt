-- A write carried along the walk by its changes.
use Rattle.std.proofs.Common.{Ok, Err, inl, inr, Bool, false, zero, suc, ◌≡◌, ℕ, ◌+◌, ◌<◌, ◌≤◌, List, [], ◌∷◌, map, length, take, get_or, refl, sym, ap, ◌∙◌, subst, arith}
use Rattle.version_graph.specs.Forest.{Crossing, step_told}
use Rattle.version_graph.specs.Laws.{Leaves, Ordered}
use Rattle.version_graph.specs.declared.parts.Placed.{Placed}
use Rattle.version_graph.specs.declared.parts.Step.{Step}
use Rattle.std.proofs.lemmas.Bool.{false≢true}
use Rattle.std.proofs.lemmas.List.{take_all}
use Rattle.par_base.specs.declared.fault.Fault.{Fault}
use Rattle.par_base.specs.declared.fault.Fault.TheVariants.{Refused, Memory as OutOfMemory}
use Rattle.par_base.specs.declared.refusal.IdsSpent.{IdsSpent}
use Rattle.id_memory.specs.States.{CounterState}
use Rattle.version_graph.specs.Edges.{is_in}
use Rattle.version_graph.specs.Sets.{Each}
use Rattle.version_graph.specs.Forest.{Link, forest, walk}
use Rattle.version_graph.proofs.SetLaws.{each_more, each_at, is_in_true}
use Rattle.version_graph.proofs.WalkLaws.{walk_in_order}
use Rattle.version_graph.proofs.WalkStepLaws.{in_at}
use Rattle.op_law.specs.Meaning.{Meaning}
use Rattle.op_law.specs.Laws.{Laws}
use Rattle.op_law.specs.Premises.{SomeMap}
use Rattle.op_law.specs.Calls.{first_refused}
use Rattle.version_model.specs.States.{State, headings}
use Rattle.version_model.specs.Steps.{directed, pair_in, after, run}
use Rattle.version_model.specs.Writes.{written, write}
use Rattle.version_model.specs.Kept.{HasSides}
use Rattle.version_model.specs.Calls.{IsCrossing}
use Rattle.changes_walk.specs.Calls.{CarriesBy, CrossesBy, MayCarryBy, MayStepBy}
use Rattle.changes_walk.specs.Changing.{AreOfState, changing_state}
use Rattle.changes_walk.specs.declared.progress.Changing.{Changing}
use Rattle.changes_walk.proofs.PlaceLaws.{no_more_told, told_at}
use Rattle.changes_walk.proofs.ReachLaws.{IsOutside, IsParted, Keeps, after_outside, run_keeps, start_keeps, walk_parted}
use Rattle.version_model.proofs.RunLaws.{IsReady, may_call, run_memory, run_more, run_rises}
use Rattle.version_model.proofs.CrossingLaws.{walk_each, walk_crosses_edges}
use Rattle.version_model.proofs.WriteLaws.{write_so_far, write_at, write_rises, walk_is_ready, written_well}

each_take : {X : Type 0} (P : X → Type 0) (i : ℕ) (xs : List X) → Each P xs → Each P (take i xs)
each_take P zero xs h = tt
each_take P (suc i) [] h = tt
each_take P (suc i) (x ∷ xs) h = (h.0, each_take P i xs h.1)

-- the crossings before one are over other operators
others_before : {O : Type 0} (ps : List (Crossing O)) (i : ℕ) (d : Crossing O) → i < length ps → Ordered ps → Each (λ q. (get_or ps i d).number ≡ q.number → ⊥) (take i ps)
others_before [] i d h o = absurd (omega arith)
others_before (p ∷ ps) zero d h o = tt
others_before (p ∷ ps) (suc i) d h o = (
  (λ same. (each_at (Leaves p) ps (get_or ps i d) (in_at ps i d (omega arith)) o.2).memory (sym same)),
  others_before ps i d (omega arith) o.3,
)

-- a counter that has drawn only what it gives refuses first what it refused first before
pub same_refused : (old now : CounterState) → old.next ≤ now.next → now.next ≤ first_refused old → now.limit ≡ old.limit → first_refused now ≡ first_refused old
same_refused old now more within limit = omega (arith, more, within, limit)

module _ {O : Type 0} (meaning : O → Meaning) (laws : (o : O) → Laws (meaning o)) (es : List (Placed O)) (before : State) (made : Changing) (set : ℕ) (operators : List ℕ) (may : MayCarryBy meaning es before made set operators) where
  abbrev path : List (Crossing O)
  path = walk (forest es) set

  abbrev pub carried : ℕ → State
  carried i = run meaning before (changing_state before made) (take i path)

  written_so_far : (i : ℕ) → carried i ≡ write_so_far meaning es before set may.table may.rows may.next i
  written_so_far i = ap (λ (s : State). run meaning before s (take i path)) may.start

  abbrev pub all_carried : State
  all_carried = run meaning before (changing_state before made) path

  written_all : all_carried ≡ write meaning es before set may.table may.rows may.next
  written_all = ap (λ (s : State). run meaning before s path) may.start

  few : Each (λ (p : Crossing O). (length p.near ≤ 2) × (length p.far ≤ 2)) path
  few = walk_each (λ (p : Crossing O). (length p.near ≤ 2) × (length p.far ≤ 2)) (forest es) set
      (each_more HasSides (λ (e : Link O). ((length e.targets ≤ 2) × (length e.sources ≤ 2)) × ((length e.sources ≤ 2) × (length e.targets ≤ 2))) (λ e h. ((h.1, h.0), h)) (forest es) may.sides)

  -- the memory of the next crossing is the old one
  memory_was : (i : ℕ) (d : Crossing O) → i < length path → (carried i).memory (get_or path i d).number ≡ before.memory (get_or path i d).number
  memory_was i d within =
      let n = (get_or path i d).number in
      run_memory meaning before (take i path) (changing_state before made) n (others_before path i d within (walk_in_order es may.edges set))
      ∙ ap (λ (s : State). s.memory n) may.start

  -- a step may be made
  pub may_step : (now : Changing) (i : ℕ) (d : Crossing O) (step : Step) → i < length path → changing_state before now ≡ carried i → AreOfState before now.tables → step ≡ step_told (get_or path i d) → MayStepBy meaning es before now step
  may_step now i d step within so_far fit is =
      let p = get_or path i d in
      let listed = in_at path i d within in
      let sides = each_at (λ (p : Crossing O). (length p.near ≤ 2) × (length p.far ≤ 2)) path p listed few in
      let call = may_call meaning (headings es) before (write_so_far meaning es before set may.table may.rows may.next i) p (write_at meaning es before may.sound set may.table may.rows may.next may.may laws may.edges i d within) in
      record {
        over = p;
        crosses = each_at (IsCrossing es) path p listed (walk_crosses_edges es may.edges set);
        tells = sym is;
        may = record {
          near = sides.0;
          far = sides.1;
          fit = fit;
          memory = ap (λ (s : State). s.memory p.number) so_far ∙ memory_was i d within;
          may = subst (λ (s : State). SomeMap (directed p.backward (meaning p.operator)) (map s.tables p.near) (pair_in before p) s.next) (sym (so_far ∙ written_so_far i)) call;
        };
      }

  start_rises : (i : ℕ) → made.ids.next ≤ (carried i).next
  start_rises i =
      let well = written_well meaning es before may.sound set may.table may.rows may.next may.may in
      let rises = run_rises meaning laws (headings es) before may.sound.well (take i path) (written before may.table may.rows may.next) well may.may.more (each_take (IsReady meaning (headings es) before) i path (walk_is_ready meaning es before may.sound set)) in
      subst (λ (s : State). s.next ≤ (carried i).next) (sym may.start) (subst (λ (s : State). may.next ≤ s.next) (sym (written_so_far i)) rises)

  end_rises : (i : ℕ) → (carried i).next ≤ all_carried.next
  end_rises i =
      let rises = write_rises meaning es before may.sound set may.table may.rows may.next may.may laws may.edges i in
      subst (λ (s : State). s.next ≤ all_carried.next) (sym (written_so_far i)) (subst (λ (s : State). (write_so_far meaning es before set may.table may.rows may.next i).next ≤ s.next) (sym written_all) rises)

  pub one_more : (i : ℕ) (d : Crossing O) → i < length path → carried (i + 1) ≡ after meaning before (carried i) (get_or path i d)
  one_more i d within = run_more meaning before path i d (changing_state before made) within

  refuses_same : (i : ℕ) (now : Changing) → changing_state before now ≡ carried i → now.ids.next ≤ first_refused made.ids → now.ids.limit ≡ made.ids.limit → first_refused now.ids ≡ first_refused made.ids
  refuses_same i now so_far within limit =
      same_refused made.ids now.ids (subst (λ (s : State). made.ids.next ≤ s.next) (sym so_far) (start_rises i)) within limit

  -- a step was made
  pub step_made : (now new : Changing) (i : ℕ) (d : Crossing O) → i < length path → changing_state before now ≡ carried i → now.ids.next ≤ first_refused made.ids → now.ids.limit ≡ made.ids.limit
      → CrossesBy meaning before (get_or path i d) now new (Ok tt)
      → (changing_state before new ≡ carried (i + 1)) × (new.ids.next ≤ first_refused made.ids) × (new.ids.limit ≡ made.ids.limit) × AreOfState before new.tables
  step_made now new i d inside so_far within limit c =
      let p = get_or path i d in
      let first = refuses_same i now so_far within limit in (
        c.1 ∙ ap (λ (s : State). after meaning before s p) so_far ∙ sym (one_more i d inside),
        subst (λ (n : ℕ). new.ids.next ≤ n) first (subst (λ (s : State). s.next ≤ first_refused now.ids) (sym c.1) c.0),
        c.3 ∙ limit,
        c.2,
      )

  -- the tables and memories that can't be reached are the old ones
  keeps_so_far : (i : ℕ) → Keeps operators may.tables before (write_so_far meaning es before set may.table may.rows may.next i)
  keeps_so_far i =
      run_keeps meaning operators may.tables before laws (headings es) may.sound.well (take i path) (written before may.table may.rows may.next) (start_keeps es set may.table operators may.tables may.reach meaning before may.rows may.next)
      (written_well meaning es before may.sound set may.table may.rows may.next may.may) may.may.more
      (each_take (IsReady meaning (headings es) before) i path (walk_is_ready meaning es before may.sound set)) (each_take (IsParted operators may.tables) i path (walk_parted es set may.table operators may.tables may.reach))

  -- a step over another operator changes nothing
  pub step_passed : (now : Changing) (i : ℕ) (d : Crossing O) → i < length path → is_in (get_or path i d).number operators ≡ false → changing_state before now ≡ carried i → changing_state before now ≡ carried (i + 1)
  step_passed now i d within other so_far =
      let p = get_or path i d in
      let here = each_at (IsParted operators may.tables) path p (in_at path i d within) (walk_parted es set may.table operators may.tables may.reach) in
      let out : IsOutside operators may.tables p = elim here as (λ _. IsOutside operators may.tables p) [ inl inside ↦ absurd (false≢true (sym other ∙ is_in_true p.number operators inside.number)) | inr out ↦ out ] in
      let may_cross = write_at meaning es before may.sound set may.table may.rows may.next may.may laws may.edges i d within in
      so_far ∙ written_so_far i
      ∙ sym (after_outside meaning operators may.tables before laws (headings es) (write_so_far meaning es before set may.table may.rows may.next i) p (keeps_so_far i) out may_cross)
      ∙ ap (λ (s : State). after meaning before s p) (sym (written_so_far i)) ∙ sym (one_more i d within)

  -- a step is refused, and so is the write
  pub step_refused : (now new : Changing) (i : ℕ) (d : Crossing O) (fault : Fault IdsSpent) → i < length path → changing_state before now ≡ carried i → now.ids.next ≤ first_refused made.ids → now.ids.limit ≡ made.ids.limit
      → CrossesBy meaning before (get_or path i d) now new (Err fault)
      → CarriesBy meaning es before set made new (Err fault)
  step_refused now new i d (Refused spent) inside so_far within limit c =
      let p = get_or path i d in
      let first = refuses_same i now so_far within limit in
      let next : (after meaning before (changing_state before now) p).next ≡ (carried (i + 1)).next = ap (λ (s : State). (after meaning before s p).next) so_far ∙ sym (ap (λ (s : State). s.next) (one_more i d inside)) in
      let less = subst (λ (n : ℕ). first_refused now.ids < n) next c.0 in
      let end = end_rises (i + 1) in (
        subst (λ (n : ℕ). n < all_carried.next) first (omega (arith, less, end)),
        c.1 ∙ first,
        c.2 ∙ limit,
        refl,
      )
  step_refused now new i d (OutOfMemory memory) inside so_far within limit c = tt

  -- the whole walk
  pub walk_made : (new : Changing) (i : ℕ) → length path ≤ i → changing_state before new ≡ carried i → changing_state before new ≡ all_carried
  walk_made new i all so_far = so_far ∙ ap (λ (l : List (Crossing O)). run meaning before (changing_state before made) l) (take_all i path all)

  -- the step at a place tells of the crossing there
  pub step_at : (shown steps : List Step) (i : ℕ) (e : Step) → shown ≡ steps → steps ≡ map step_told path → i < length shown → (d : Crossing O) × (i < length path) × (get_or shown i e ≡ step_told (get_or path i d))
  step_at shown steps i e same is within = told_at shown path i e (same ∙ is) within

  -- a step is over an operator of these exactly where its crossing is
  pub own_at : (shown : List Step) (i : ℕ) (e : Step) (d : Crossing O) (b : Bool) → get_or shown i e ≡ step_told (get_or path i d) → is_in (get_or shown i e).operator operators ≡ b → is_in (get_or path i d).number operators ≡ b
  own_at shown i e d b is h = sym (ap (λ (s : Step). is_in s.operator operators) is) ∙ h

  pub crosses_at : (i : ℕ) (d : Crossing O) → i < length path → IsCrossing es (get_or path i d)
  crosses_at i d inside = each_at (IsCrossing es) path (get_or path i d) (in_at path i d inside) (walk_crosses_edges es may.edges set)

  pub no_more : (shown steps : List Step) (i : ℕ) → shown ≡ steps → steps ≡ map step_told path → length shown ≤ i → length path ≤ i
  no_more shown steps i same is all = no_more_told shown path i (same ∙ is) all
