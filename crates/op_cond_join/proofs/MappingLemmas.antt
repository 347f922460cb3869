-- What the mappings may suppose, and that their entries are a memory.
use Rattle.std.proofs.Common.{◌≡◌, ℕ, ◌≤◌, [], ◌∷◌, Err, refl, ap, sym, ◌∙◌, subst}
use Rattle.par_base.specs.declared.fault.Fault.{Fault}
use Rattle.par_base.specs.declared.fault.Fault.TheVariants.{Refused, Memory as OutOfMemory}
use Rattle.par_base.specs.declared.refusal.IdsSpent.{IdsSpent}
use Rattle.row_store.specs.Rows.{Rows}
use Rattle.id_memory.specs.Pairs.{Pairs, RiseFrom, IsOneToOne}
use Rattle.id_memory.specs.States.{CounterState}
use Rattle.op_law.specs.Calls.{first_refused, IsMapped}
use Rattle.op_law.specs.Tables.{Tables}
use Rattle.op_law.specs.Meaning.{PairState, Mapped, flip, exchanged}
use Rattle.op_law.specs.Premises.{SomeMap}
use Rattle.op_law.proofs.SoundLaws.{below_sound}
use Rattle.pair_rows.specs.Shown.{Joining, IsJoined, shown_pairs}
use Rattle.pair_rows.specs.inner.TwoSides.{table_sound}
use Rattle.pair_rows.specs.inner.Draws.{WasRefused}
use Rattle.pair_rows.specs.Given.{kept_in}
use Rattle.op_cond_join.specs.Assigned.{Assigning, beginning, assigned, ending}
use Rattle.pair_rows.specs.Stays.{staying}
use Rattle.op_cond_join.specs.inner.Assignings.{AreBelowNext, mapped_from}
use Rattle.pair_rows.specs.Sides.{table_at}
use Rattle.op_cond_join.specs.JoinOn.{join_on, join_backward}
use Rattle.pair_rows.specs.Halves.{first_of, second_of}
use Rattle.op_cond_join.specs.inner.JoinOnLaws.{forward_half, backward_half}

-- entries that are a memory
pub record AreEntries (pairs : Pairs) : Type 0 where
  pub rises : RiseFrom 0 pairs
  pub one : IsOneToOne pairs

-- the new entries forward are one
pub forward_entries : (j : Joining) (near : Tables) (old : PairState) (n k : ℕ) (s t ns nt : Rows) (pairs : Pairs) → SomeMap (join_on j) near old n
    → k ≡ n → s ≡ table_at 0 old.source → t ≡ table_at 1 old.source → ns ≡ table_at 0 near → nt ≡ table_at 1 near
    → pairs ≡ shown_pairs j s t old.memory ns nt k → AreEntries pairs
forward_entries j near old n k s t ns nt pairs some same first second new_first new_second is =
    let kept = forward_half j in
    let pair = kept.kept some.hs some.ht near old n some.may in
    let related : IsJoined j (table_at 0 near) (table_at 1 near) _ (shown_pairs j (table_at 0 old.source) (table_at 1 old.source) old.memory (table_at 0 near) (table_at 1 near) n) = pair.related in
    let all : pairs ≡ shown_pairs j (table_at 0 old.source) (table_at 1 old.source) old.memory (table_at 0 near) (table_at 1 near) n =
    is ∙ ap (λ (rows : Rows). shown_pairs j rows t old.memory ns nt k) first
    ∙ ap (λ (rows : Rows). shown_pairs j (table_at 0 old.source) rows old.memory ns nt k) second
    ∙ ap (λ (rows : Rows). shown_pairs j (table_at 0 old.source) (table_at 1 old.source) old.memory rows nt k) new_first
    ∙ ap (λ (rows : Rows). shown_pairs j (table_at 0 old.source) (table_at 1 old.source) old.memory (table_at 0 near) rows k) new_second
    ∙ ap (λ (i : ℕ). shown_pairs j (table_at 0 old.source) (table_at 1 old.source) old.memory (table_at 0 near) (table_at 1 near) i) same in
    subst (λ (es : Pairs). AreEntries es) (sym all) (record { rises = related.rises; one = related.one })

-- at the start of a mapping backward
pub start_is : (n k : ℕ) (s t r new : Rows) (m taken : Pairs) (old : PairState) (near : Tables) → k ≡ n → s ≡ table_at 0 old.source → t ≡ table_at 1 old.source → r ≡ table_at 0 old.target → new ≡ table_at 0 near → taken ≡ kept_in r m new
    → ◌≡◌ {A = Assigning} (record { first = s; second = t; taken = taken; next = k }) (beginning (table_at 0 old.source) (table_at 1 old.source) (table_at 0 old.target) m (table_at 0 near) n)
start_is n k s t r new m taken old near same first second target rows kept =
    ap (λ (es : Pairs). record { first = s; second = t; taken = es; next = k }) (kept ∙ ap (λ (all : Rows). kept_in all m new) target ∙ ap (λ (all : Rows). kept_in (table_at 0 old.target) m all) rows)
    ∙ ap (λ (all : Rows). record { first = all; second = t; taken = kept_in (table_at 0 old.target) m (table_at 0 near); next = k }) first
    ∙ ap (λ (all : Rows). record { first = table_at 0 old.source; second = all; taken = kept_in (table_at 0 old.target) m (table_at 0 near); next = k }) second
    ∙ ap (λ (i : ℕ). record { first = table_at 0 old.source; second = table_at 1 old.source; taken = kept_in (table_at 0 old.target) m (table_at 0 near); next = i }) same

-- the rows of both tables are below the next identifier
pub start_below : (j : Joining) (near : Tables) (old : PairState) (n : ℕ) (d : Assigning) → SomeMap (flip (join_on j)) near (exchanged old) n → d ≡ beginning (table_at 0 old.source) (table_at 1 old.source) (table_at 0 old.target) old.memory (table_at 0 near) n → AreBelowNext d
start_below j near old n d some is =
    let sound = some.may.sound.target in
    subst (λ (e : Assigning). AreBelowNext e) (sym is)
    (below_sound n (table_at 0 old.source) (table_sound n 0 old.source sound), below_sound n (table_at 1 old.source) (table_sound n 1 old.source sound))

-- the new entries backward are a memory
pub backward_entries : (j : Joining) (near : Tables) (old : PairState) (n : ℕ) (d : Assigning) (r new : Rows) (pairs : Pairs) → SomeMap (flip (join_on j)) near (exchanged old) n
    → d ≡ beginning (table_at 0 old.source) (table_at 1 old.source) (table_at 0 old.target) old.memory (table_at 0 near) n → r ≡ table_at 0 old.target → new ≡ table_at 0 near
    → pairs ≡ assigned j r old.memory d new → AreEntries pairs
backward_entries j near old n d r new pairs some start target rows is =
    let kept = backward_half j in
    let pair = kept.kept some.hs some.ht near (exchanged old) n some.may in
    let related : IsJoined j _ _ (table_at 0 near) (assigned j (table_at 0 old.target) old.memory (beginning (table_at 0 old.source) (table_at 1 old.source) (table_at 0 old.target) old.memory (table_at 0 near) n) (table_at 0 near)) = pair.related in
    let all : pairs ≡ assigned j (table_at 0 old.target) old.memory (beginning (table_at 0 old.source) (table_at 1 old.source) (table_at 0 old.target) old.memory (table_at 0 near) n) (table_at 0 near) =
    is ∙ ap (λ (e : Assigning). assigned j r old.memory e new) start
    ∙ ap (λ (all : Rows). assigned j all old.memory (beginning (table_at 0 old.source) (table_at 1 old.source) (table_at 0 old.target) old.memory (table_at 0 near) n) new) target
    ∙ ap (λ (all : Rows). assigned j (table_at 0 old.target) old.memory (beginning (table_at 0 old.source) (table_at 1 old.source) (table_at 0 old.target) old.memory (table_at 0 near) n) all) rows in
    subst (λ (es : Pairs). AreEntries es) (sym all) (record { rises = related.rises; one = related.one })

-- the new source and memory are those of the pairs that are given
pub given_mapped : (j : Joining) (r new : Rows) (m : Pairs) (d begun : Assigning) (counter copy now : CounterState) (state : Assigning) (es memory : Pairs) (first second : Rows) (side : Tables)
    → copy ≡ counter → begun ≡ d → (ending j r m begun new).next ≤ first_refused copy → es ≡ assigned j r m begun new → state ≡ ending j r m begun new → now ≡ record copy { next = (ending j r m begun new).next }
    → memory ≡ es → first ≡ staying first_of m memory state.first → second ≡ staying second_of m memory state.second → side ≡ first ∷ second ∷ []
    → ((mapped_from j r m d new).next ≤ first_refused counter) × ((side ≡ (mapped_from j r m d new).far) × (memory ≡ (mapped_from j r m d new).memory)) × (now ≡ record counter { next = (mapped_from j r m d new).next })
given_mapped j r new m d begun counter copy now state es memory first second side same start low is ended raised memory_is first_is second_is side_is =
    let all = assigned j r m d new in
    let end = ending j r m d new in
    let entries : memory ≡ all = memory_is ∙ is ∙ ap (λ (e : Assigning). assigned j r m e new) start in
    let last : ending j r m begun new ≡ end = ap (λ (e : Assigning). ending j r m e new) start in
    let at_end : state ≡ end = ended ∙ last in (
      subst (λ (c : CounterState). end.next ≤ first_refused c) same (subst (λ (e : Assigning). e.next ≤ first_refused copy) last low),
      (
        side_is ∙ ap (λ (rs : Rows). rs ∷ second ∷ []) first_is ∙ ap (λ (rs : Rows). staying first_of m memory state.first ∷ rs ∷ []) second_is
            ∙ ap (λ (ps : Pairs). staying first_of m ps state.first ∷ staying second_of m ps state.second ∷ []) entries
            ∙ ap (λ (e : Assigning). staying first_of m all e.first ∷ staying second_of m all e.second ∷ []) at_end,
        entries,
      ),
      raised ∙ ap (λ (c : CounterState). record c { next = (ending j r m begun new).next }) same ∙ ap (λ (e : Assigning). record counter { next = e.next }) last,
    )

-- and it is refused where giving the pairs is
pub given_refused : (to : Mapped) (n : ℕ) (counter copy : CounterState) (fault : Fault IdsSpent) → copy ≡ counter → n ≡ to.next → WasRefused n copy fault → IsMapped to counter counter (Err fault)
given_refused to n counter copy (Refused spent) same next was =
    let here : WasRefused to.next counter (Refused spent) = subst (λ (k : ℕ). WasRefused k counter (Refused spent)) next (subst (λ (c : CounterState). WasRefused n c (Refused spent)) same was) in
    (here.0, here.1, here.2, refl)
given_refused to n counter copy (OutOfMemory memory) same next was = refl

-- from the old pair and the new target
pub mapped_is : (j : Joining) (near : Tables) (old : PairState) (n : ℕ) (d : Assigning) (r new : Rows)
    → d ≡ beginning (table_at 0 old.source) (table_at 1 old.source) (table_at 0 old.target) old.memory (table_at 0 near) n → r ≡ table_at 0 old.target → new ≡ table_at 0 near
    → mapped_from j r old.memory d new ≡ join_backward j near old n
mapped_is j near old n d r new start target rows =
    let begun = beginning (table_at 0 old.source) (table_at 1 old.source) (table_at 0 old.target) old.memory (table_at 0 near) n in
    ap (λ (e : Assigning). mapped_from j r old.memory e new) start
    ∙ ap (λ (rs : Rows). mapped_from j rs old.memory begun new) target
    ∙ ap (λ (rs : Rows). mapped_from j (table_at 0 old.target) old.memory begun rs) rows
