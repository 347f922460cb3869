-- What the mapping from a new target may suppose, and that its entries are a memory.
use Rattle.std.proofs.Common.{◌≡◌, ℕ, ◌+◌, ◌≤◌, ◌==◌, [], ◌∷◌, filter, count_by, Bool, not, ◌&&◌, Err, refl, ap, sym, ◌∙◌, subst, arith}
use Rattle.par_base.specs.declared.fault.Fault.{Fault}
use Rattle.par_base.specs.declared.fault.Fault.TheVariants.{Refused, Memory as OutOfMemory}
use Rattle.par_base.specs.declared.refusal.IdsSpent.{IdsSpent}
use Rattle.row_store.specs.Rows.{Rows, RiseFrom, AreBelow}
use Rattle.id_memory.specs.Pairs.{Pairs, RiseFrom as PairsRise, has_pair}
use Rattle.id_memory.specs.States.{CounterState}
use Rattle.op_law.specs.Calls.{first_refused, IsMapped}
use Rattle.op_law.specs.Tables.{Tables}
use Rattle.op_law.specs.Sound.{RowsSound}
use Rattle.op_law.specs.Meaning.{Mapped, PairState, flip, exchanged}
use Rattle.op_law.specs.Premises.{SomeMap}
use Rattle.op_law.proofs.SoundLaws.{below_sound}
use Rattle.row_parts.specs.RowCells.{by_test}
use Rattle.pair_rows.specs.Halves.{first_of, second_of}
use Rattle.pair_rows.specs.Stays.{stands}
use Rattle.pair_rows.specs.Shown.{Joining}
use Rattle.pair_rows.specs.Sides.{table_at, JoinFits}
use Rattle.pair_rows.specs.Given.{kept_in}
use Rattle.pair_rows.specs.inner.Lookups.{filter_sound}
use Rattle.pair_rows.specs.inner.Numbers.{count_cons}
use Rattle.pair_rows.specs.inner.PairLemmas.{pairs_rise_more}
use Rattle.pair_rows.specs.inner.TwoSides.{one_table, table_sound}
use Rattle.outer_law.specs.Entries.{IsOuter}
use Rattle.outer_law.specs.Placed.{Placing, beginning, placed, ending, full, standing}
use Rattle.outer_law.specs.OuterOn.{outer_on, outer_backward}
use Rattle.outer_law.proofs.SubsetLaws.{sub_count, kept_rise, kept_paired}
use Rattle.outer_law.proofs.BackwardLaws.{backward_half}
use Rattle.outer_entries.specs.Placings.{placing_of, Knows, AreReady, IsReady}
use Rattle.op_outer_cond.specs.inner.Mappings.{mapped_from}
use Rattle.outer_entries.specs.declared.half_rows.HalfRows.{HalfRows}
use Rattle.pair_rows.specs.inner.Draws.{WasRefused}
use Rattle.pair_rows.specs.inner.Knowing.{IsIndexed}
use Rattle.outer_entries.specs.declared.placing.Placing.{Placing as State}
use Rattle.op_outer_cond.proofs.MappingLemmas.{AreEntries}

-- some entries rise
some_rise : (test : ℕ × ℕ × ℕ → Bool) (n : ℕ) (es : Pairs) → PairsRise n es → PairsRise n (filter test es)
some_rise test n [] rise = tt
some_rise test n (e ∷ es) rise =
    by_test (test e)
    (λ q. rw q (rise.0, some_rise test (e.0 + 1) es rise.1))
    (λ q. rw q (pairs_rise_more n (e.0 + 1) (filter test es) (let low = rise.0 in omega (arith, low)) (some_rise test (e.0 + 1) es rise.1)))

-- and no more of them are counted
some_fewer : (test f : ℕ × ℕ × ℕ → Bool) (es : Pairs) → count_by f (filter test es) ≤ count_by f es
some_fewer test f [] = omega arith
some_fewer test f (e ∷ es) =
    let rest = some_fewer test f es in
    let all = count_cons f e es in
    by_test (test e)
    (λ q. let here = count_cons f e (filter test es) in rw q (omega (arith, rest, all, here)))
    (λ q. rw q (omega (arith, rest, all)))

-- the kept entries with both halves are a memory
pub kept_entries : (j : Joining) (near : Tables) (old : PairState) (n : ℕ) (r new : Rows) → SomeMap (flip (outer_on j)) near (exchanged old) n → r ≡ table_at 0 old.target → new ≡ table_at 0 near
    → AreEntries (full (kept_in r old.memory new))
kept_entries j near old n r new some target rows =
    let fits : JoinFits j some.ht some.hs = some.may.sound.pair.fits in
    let is : IsOuter j (table_at 0 old.source) (table_at 1 old.source) (table_at 0 old.target) old.memory = some.may.sound.pair.related in
    let one = one_table _ some.hs near fits.target some.may.near_of in
    let rise : RiseFrom 0 new = subst (λ (all : Rows). RiseFrom 0 all) (sym rows) one.rise in
    let kept = kept_rise r old.memory 0 new rise in
    record {
      rises = some_rise (λ e. not (e.1 == 0) && not (e.2 == 0)) 0 (kept_in r old.memory new) kept;
      one = λ a b.
          let fewer = some_fewer (λ e. not (e.1 == 0) && not (e.2 == 0)) (has_pair a b) (kept_in r old.memory new) in
          let most = sub_count (has_pair a b) 0 old.memory (kept_in r old.memory new) is.joined.rises kept (kept_paired r old.memory new) in
          let once = is.joined.one a b in
          omega (arith, fewer, most, once);
    }

-- the rows of one half are ready
half_ready : (pick : ℕ × ℕ × ℕ → ℕ) (es : Pairs) (n : ℕ) (rows : Rows) (it : HalfRows) → RowsSound n rows → it.all.rows ≡ rows → it.shared.table.rows ≡ standing pick es rows → IsIndexed it.shared → AreReady it n
half_ready pick es n rows it sound all shared indexed = record {
  all = subst (λ (rs : Rows). AreBelow rs n) (sym all) (below_sound n rows sound);
  shared = subst (λ (rs : Rows). AreBelow rs n) (sym shared) (below_sound n (standing pick es rows) (filter_sound (λ id. stands pick es id) n rows sound));
  indexed = indexed;
}

-- all is ready before rows are placed
pub start_ready : (j : Joining) (near : Tables) (old : PairState) (n : ℕ) (s t r new : Rows) (it : State) → SomeMap (flip (outer_on j)) near (exchanged old) n → s ≡ table_at 0 old.source → t ≡ table_at 1 old.source
    → ((k : ℕ) → placing_of it k ≡ beginning s t r old.memory new k) → Knows it → IsReady it n
start_ready j near old n s t r new it some first second is knows =
    let sound = some.may.sound.target in
    let start = is n in
    let es = full (kept_in r old.memory new) in
    record {
      first = half_ready first_of es n s it.first (subst (λ (rs : Rows). RowsSound n rs) (sym first) (table_sound n 0 old.source sound)) (ap (λ (d : Placing). d.first) start) (ap (λ (d : Placing). d.first_shared) start) knows.first;
      second = half_ready second_of es n t it.second (subst (λ (rs : Rows). RowsSound n rs) (sym second) (table_sound n 1 old.source sound)) (ap (λ (d : Placing). d.second) start) (ap (λ (d : Placing). d.second_shared) start) knows.second;
      taken = knows.taken;
    }

-- what is there at the start
pub start_is : (old : PairState) (near : Tables) (n : ℕ) (s t r new : Rows) (d : Placing) → s ≡ table_at 0 old.source → t ≡ table_at 1 old.source → r ≡ table_at 0 old.target → new ≡ table_at 0 near → d ≡ beginning s t r old.memory new n
    → d ≡ beginning (table_at 0 old.source) (table_at 1 old.source) (table_at 0 old.target) old.memory (table_at 0 near) n
start_is old near n s t r new d first second target rows is =
    is ∙ ap (λ (all : Rows). beginning all t r old.memory new n) first
    ∙ ap (λ (all : Rows). beginning (table_at 0 old.source) all r old.memory new n) second
    ∙ ap (λ (all : Rows). beginning (table_at 0 old.source) (table_at 1 old.source) all old.memory new n) target
    ∙ ap (λ (all : Rows). beginning (table_at 0 old.source) (table_at 1 old.source) (table_at 0 old.target) old.memory all n) rows

-- the new entries are a memory
pub backward_entries : (j : Joining) (near : Tables) (old : PairState) (n : ℕ) (d : Placing) (r new : Rows) (es : Pairs) → SomeMap (flip (outer_on j)) near (exchanged old) n
    → d ≡ beginning (table_at 0 old.source) (table_at 1 old.source) (table_at 0 old.target) old.memory (table_at 0 near) n → r ≡ table_at 0 old.target → new ≡ table_at 0 near
    → es ≡ placed j r old.memory d new → AreEntries es
backward_entries j near old n d r new es some start target rows is =
    let kept = backward_half j in
    let pair = kept.kept some.hs some.ht near (exchanged old) n some.may in
    let related : IsOuter j _ _ (table_at 0 near) (placed j (table_at 0 old.target) old.memory (beginning (table_at 0 old.source) (table_at 1 old.source) (table_at 0 old.target) old.memory (table_at 0 near) n) (table_at 0 near)) = pair.related in
    let all : es ≡ placed j (table_at 0 old.target) old.memory (beginning (table_at 0 old.source) (table_at 1 old.source) (table_at 0 old.target) old.memory (table_at 0 near) n) (table_at 0 near) =
    is ∙ ap (λ (e : Placing). placed j r old.memory e new) start
    ∙ ap (λ (all : Rows). placed j all old.memory (beginning (table_at 0 old.source) (table_at 1 old.source) (table_at 0 old.target) old.memory (table_at 0 near) n) new) target
    ∙ ap (λ (all : Rows). placed j (table_at 0 old.target) old.memory (beginning (table_at 0 old.source) (table_at 1 old.source) (table_at 0 old.target) old.memory (table_at 0 near) n) all) rows in
    subst (λ (ps : Pairs). AreEntries ps) (sym all) (record { rises = related.joined.rises; one = related.joined.one })

-- so the mapping gives what it should
pub placed_mapped : (j : Joining) (r new : Rows) (m : Pairs) (d begun : Placing) (counter copy now : CounterState) (state : Placing) (es memory : Pairs) (first second : Rows) (side : Tables)
    → copy ≡ counter → begun ≡ d → (ending j r m begun new).next ≤ first_refused copy → es ≡ placed j r m begun new → state ≡ ending j r m begun new → now ≡ record copy { next = (ending j r m begun new).next }
    → memory ≡ es → first ≡ standing first_of memory state.first → second ≡ standing second_of memory state.second → side ≡ first ∷ second ∷ []
    → ((mapped_from j r m d new).next ≤ first_refused counter) × ((side ≡ (mapped_from j r m d new).far) × (memory ≡ (mapped_from j r m d new).memory)) × (now ≡ record counter { next = (mapped_from j r m d new).next })
placed_mapped j r new m d begun counter copy now state es memory first second side same start low is ended raised memory_is first_is second_is side_is =
    let all = placed j r m d new in
    let end = ending j r m d new in
    let entries : memory ≡ all = memory_is ∙ is ∙ ap (λ (e : Placing). placed j r m e new) start in
    let last : ending j r m begun new ≡ end = ap (λ (e : Placing). ending j r m e new) start in
    let at_end : state ≡ end = ended ∙ last in (
      subst (λ (c : CounterState). end.next ≤ first_refused c) same (subst (λ (e : Placing). e.next ≤ first_refused copy) last low),
      (
        side_is ∙ ap (λ (rs : Rows). rs ∷ second ∷ []) first_is ∙ ap (λ (rs : Rows). standing first_of memory state.first ∷ rs ∷ []) second_is
            ∙ ap (λ (ps : Pairs). standing first_of ps state.first ∷ standing second_of ps state.second ∷ []) entries
            ∙ ap (λ (e : Placing). standing first_of all e.first ∷ standing second_of all e.second ∷ []) at_end,
        entries,
      ),
      raised ∙ ap (λ (c : CounterState). record c { next = (ending j r m begun new).next }) same ∙ ap (λ (e : Placing). record counter { next = e.next }) last,
    )

-- and it is refused where placing the rows is
pub placed_refused : (to : Mapped) (n : ℕ) (counter copy : CounterState) (fault : Fault IdsSpent) → copy ≡ counter → n ≡ to.next → WasRefused n copy fault → IsMapped to counter counter (Err fault)
placed_refused to n counter copy (Refused spent) same next was =
    let here : WasRefused to.next counter (Refused spent) = subst (λ (k : ℕ). WasRefused k counter (Refused spent)) next (subst (λ (c : CounterState). WasRefused n c (Refused spent)) same was) in
    (here.0, here.1, here.2, refl)
placed_refused to n counter copy (OutOfMemory memory) same next was = refl

-- from the old pair and the new target
pub mapped_is : (j : Joining) (near : Tables) (old : PairState) (n : ℕ) (d : Placing) (r new : Rows)
    → d ≡ beginning (table_at 0 old.source) (table_at 1 old.source) (table_at 0 old.target) old.memory (table_at 0 near) n → r ≡ table_at 0 old.target → new ≡ table_at 0 near
    → mapped_from j r old.memory d new ≡ outer_backward j near old n
mapped_is j near old n d r new start target rows =
    let begun = beginning (table_at 0 old.source) (table_at 1 old.source) (table_at 0 old.target) old.memory (table_at 0 near) n in
    ap (λ (e : Placing). mapped_from j r old.memory e new) start
    ∙ ap (λ (rs : Rows). mapped_from j rs old.memory begun new) target
    ∙ ap (λ (rs : Rows). mapped_from j (table_at 0 old.target) old.memory begun rs) rows
