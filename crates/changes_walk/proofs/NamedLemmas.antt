-- Over operators that treat each identifier by itself the changes name no identifier more, and take few steps.
use Rattle.std.proofs.Common.{◌≡◌, ℕ, ◌+◌, ◌*◌, ◌<◌, ◌≤◌, ◌==◌, List, [], ◌∷◌, Bool, true, false, not, cond, length, map, get_or, take, Option, refl, ap, sym, ◌∙◌, subst, arith}
use Rattle.std.proofs.lemmas.Bool.{eqb-true, false≢true, not-true}
use Rattle.std.proofs.lemmas.Bool.Decides.{nat_tests}
use Rattle.std.proofs.lemmas.List.{length_push}
use Rattle.par_base.specs.declared.value.Value.{Value}
use Rattle.row_store.specs.declared.change.Change.{Change}
use Rattle.row_store.specs.Rows.{Rows, RiseFrom, row_of}
use Rattle.row_store.specs.Changes.{ChangesRise, AreOld, after as row_after}
use Rattle.op_law.specs.Tables.{Tables, Heading, AllRise}
use Rattle.op_law.specs.Sound.{RowsSound, TablesSound}
use Rattle.op_law.specs.Identifiers.{IdsRise, has_id}
use Rattle.op_law.specs.Local.{HalfLocal, only, pair_only, rows_only}
use Rattle.op_law.specs.Laws.{HalfLaws, Laws}
use Rattle.op_law.specs.Meaning.{Meaning, Mapped, PairState}
use Rattle.op_law.specs.Premises.{MayMap}
use Rattle.op_law.proofs.IdentifierLaws.{has_put, no_more}
use Rattle.op_law.proofs.OnlyLaws.{first_table, other_tables, same_rows}
use Rattle.op_rows.specs.inner.Tabulated.{all_rise}
use Rattle.op_rows.specs.inner.RowwiseLocal.{well_only}
use Rattle.row_changes.specs.Changed.{TableChanges, changed_tables}
use Rattle.row_changes.specs.Differences.{AllDiffer, AreDifferences, IsDifference}
use Rattle.row_changes.specs.Touched.{AllPass, EachPass, touched, touched_in, touched_over}
use Rattle.row_changes.proofs.ChangedLaws.{changed_at, other_changes}
use Rattle.row_changes.proofs.TouchedLaws.{rise_over}
use Rattle.operator_changes.specs.Calls.{toward, mapped_changes, ChangesWithin, MayChange}
use Rattle.version_graph.specs.Forest.{Crossing}
use Rattle.version_graph.proofs.SetLaws.{each_at}
use Rattle.version_graph.proofs.WalkStepLaws.{in_at}
use Rattle.version_graph.specs.Edges.{is_in}
use Rattle.version_model.specs.Bounds.{AreLocal}
use Rattle.version_model.specs.Put.{put}
use Rattle.version_model.specs.States.{State}
use Rattle.version_model.specs.Steps.{directed, pair_in}
use Rattle.version_model.specs.declared.numbered.Numbered.{Numbered}
use Rattle.version_model.proofs.BoundLaws.{one_step_more, some_steps}
use Rattle.version_model.proofs.PutLaws.{EachAt, put_holds}
use Rattle.version_model.proofs.RunLaws.{way_laws}
use Rattle.changes_walk.specs.Bounds.{CarriesWithinBy, CrossesOnly, CrossesWithin, NamesOnly}
use Rattle.changes_walk.specs.Calls.{MayCrossBy}
use Rattle.changes_walk.specs.Changing.{latest_changes}
use Rattle.changes_walk.specs.Reach.{reached}
use Rattle.changes_walk.specs.declared.progress.Changing.{Changing}
use Rattle.changes_walk.proofs.ReachLaws.{in_reached, reached_first, reached_more, reached_rises}
use Rattle.changes_walk.proofs.StepLemmas.{may_change, to, way_half}

-- ---- which identifiers a difference names

first_after : (c : Change) (cs : List Change) (row : Option (List Value)) → row_after (c ∷ cs) c.id row ≡ c.new
first_after c cs row = let own : (c.id == c.id) ≡ true = grind (arith, nat_tests) in rw own refl

later_after : (c : Change) (cs : List Change) (q : ℕ) (row : Option (List Value)) → c.id < q → row_after (c ∷ cs) q row ≡ row_after cs q row
later_after c cs q row h = let other : (c.id == q) ≡ false = grind (arith, nat_tests) in rw other refl

-- a test either passes or fails
by_value : {A : Type 0} (b : Bool) → (b ≡ true → A) → (b ≡ false → A) → A
by_value true f g = f refl
by_value false f g = g refl

names_from : (P : ℕ → Bool) (before now : Rows) (n : ℕ) (cs : List Change) → ChangesRise n cs → AreOld before cs → AllDiffer cs
    → ((q : ℕ) → n ≤ q → row_of now q ≡ row_after cs q (row_of before q)) → ((q : ℕ) → P q ≡ false → row_of before q ≡ row_of now q) → AllPass P cs
names_from P before now n [] rise old differ made same = tt
names_from P before now n (c ∷ cs) rise old differ made same = (
  by_value (P c.id) (λ e. e) (λ e. absurd (differ.0 (old.0 ∙ same c.id e ∙ made c.id rise.0 ∙ first_after c cs (row_of before c.id)))),
  names_from P before now (c.id + 1) cs rise.1 old.1 differ.1
      (λ q h. made q (omega (arith, rise.0)) ∙ later_after c cs q (row_of before q) (omega arith)) same,
)

-- where two tables are the same at all identifiers that fail a test, their difference names those that pass it alone
difference_names : (P : ℕ → Bool) (before now : Rows) (cs : List Change) → RiseFrom 0 before → rows_only (λ q. not (P q)) now ≡ rows_only (λ q. not (P q)) before → IsDifference before now cs → AllPass P cs
difference_names P before now cs rise same is =
    names_from P before now 0 cs is.rise is.old is.differ
    (λ q h. ap (λ (rows : Rows). row_of rows q) (sym is.new) ∙ changed_at before cs q rise)
    (λ q e. sym (same_rows (λ q. not (P q)) now before q (ap not e) same))

differences_name : (P : ℕ → Bool) (ts us : Tables) (cs : TableChanges) → AllRise ts → only (λ q. not (P q)) us ≡ only (λ q. not (P q)) ts → AreDifferences ts us cs → EachPass P cs
differences_name P [] [] [] rise same are = tt
differences_name P [] [] (c ∷ cs) rise same are = absurd are
differences_name P [] (u ∷ us) cs rise same are = absurd are
differences_name P (t ∷ ts) [] cs rise same are = absurd are
differences_name P (t ∷ ts) (u ∷ us) [] rise same are = absurd are
differences_name P (t ∷ ts) (u ∷ us) (c ∷ cs) rise same are = (
  difference_names P t u c rise.0 (ap first_table same) are.0,
  differences_name P ts us cs rise.1 (ap other_tables same) are.1,
)

-- ---- over a local operator

rows_sound : (P : ℕ → Bool) (n : ℕ) (rows : Rows) → RowsSound n rows → RowsSound n (rows_only P rows)
rows_sound P n [] h = tt
rows_sound P n (r ∷ rs) h =
    let rest = rows_sound P n rs h.1 in
    elim (P r.0) as (λ b. RowsSound n (cond b (r ∷ rows_only P rs) (rows_only P rs))) [ true ↦ (h.0, rest) | false ↦ rest ]

tables_sound : (P : ℕ → Bool) (n : ℕ) (ts : Tables) → TablesSound n ts → TablesSound n (only P ts)
tables_sound P n [] h = tt
tables_sound P n (t ∷ ts) h = (rows_sound P n t h.0, tables_sound P n ts h.1)

module _ (m : Meaning) (laws : HalfLaws m) (here : HalfLocal m) where
  may_only : (P : ℕ → Bool) (hs ht : List Heading) (near : Tables) (old : PairState) (n : ℕ) → MayMap m hs ht near old n → MayMap m hs ht (only P near) (pair_only P old) n
  may_only P hs ht near old n may = record {
    sound = record {
      pair = here.related P hs ht old may.sound.pair;
      source = tables_sound P n old.source may.sound.source;
      target = tables_sound P n old.target may.sound.target;
      memory = may.sound.memory;
    };
    closed = may.closed;
    near_of = well_only P hs near may.near_of;
    near_sound = tables_sound P n near may.near_sound;
  }

  module _ (P : ℕ → Bool) (near : TableChanges) (p : PairState) (n : ℕ) (may : MayChange m near p n) (pass : EachPass P near) where
    abbrev Q : ℕ → Bool
    Q = λ q. not (P q)

    abbrev whole : Tables
    whole = changed_tables p.source near

    -- elsewhere nothing is changed
    rest_is : only Q (mapped_changes m near p n).far ≡ only Q p.target
    rest_is =
        let rise : AllRise p.source = all_rise may.hs p.source may.may.sound.pair.source_of in
        let same : only Q whole ≡ only Q p.source = other_changes P Q p.source near rise pass (λ q e. not-true (P q) e) in
        let rest : MayMap m may.hs may.ht (only Q p.source) (pair_only Q p) n = subst (λ (ts : Tables). MayMap m may.hs may.ht ts (pair_only Q p) n) same (may_only Q may.hs may.ht whole p n may.may) in
        sym (here.forward Q may.hs may.ht whole p n may.may)
        ∙ ap (λ (ts : Tables). (m.forward ts (pair_only Q p) n).far) same
        ∙ ap (λ (x : Mapped). x.far) (laws.still may.hs may.ht (pair_only Q p) n rest)

    -- THE FAR CHANGES NAME WHAT THE NEAR ONES NAME
    pub far_pass : (cs : TableChanges) → AreDifferences p.target (mapped_changes m near p n).far cs → EachPass P cs
    far_pass cs are = differences_name P p.target (mapped_changes m near p n).far cs (all_rise may.ht p.target may.may.sound.pair.target_of) rest_is are

-- ---- how many identifiers are named

is_among : (a b : ℕ) (ids xs : List ℕ) (t : Bool) → (a == b) ≡ t → has_id ids a ≡ true → (has_id xs b ≡ true → has_id ids b ≡ true) → cond t true (has_id xs b) ≡ true → has_id ids b ≡ true
is_among a b ids xs true e own rest h = ap (has_id ids) (sym (eqb-true a b e)) ∙ own
is_among a b ids xs false e own rest h = rest h

touched_among : (ids : List ℕ) (cs : List Change) (xs : List ℕ) → AllPass (has_id ids) cs → ((id : ℕ) → has_id xs id ≡ true → has_id ids id ≡ true) → (id : ℕ) → has_id (touched_in cs xs) id ≡ true → has_id ids id ≡ true
touched_among ids [] xs pass among id has = among id has
touched_among ids (c ∷ cs) xs pass among id has =
    is_among c.id id ids (touched_in cs xs) (c.id == id) refl pass.0 (touched_among ids cs xs pass.1 among id) (sym (has_put c.id (touched_in cs xs) id) ∙ has)

over_among : (ids : List ℕ) (changes : TableChanges) (xs : List ℕ) → EachPass (has_id ids) changes → ((id : ℕ) → has_id xs id ≡ true → has_id ids id ≡ true) → (id : ℕ) → has_id (touched_over changes xs) id ≡ true → has_id ids id ≡ true
over_among ids [] xs pass among id has = among id has
over_among ids (c ∷ cs) xs pass among id has = over_among ids cs (touched_in c xs) pass.1 (touched_among ids c xs pass.0 among) id has

-- changes that name some identifiers alone name no more of them
pub few_touched : (ids : List ℕ) (changes : TableChanges) → IdsRise 0 ids → EachPass (has_id ids) changes → length (touched changes) ≤ length ids
few_touched ids changes rise pass =
    no_more 0 0 (touched changes) ids (rise_over changes [] tt) rise (over_among ids changes [] pass (λ id has. absurd (false≢true has)))

-- ---- changes under numbers

pub side_names : (ids : List ℕ) (items : List (Numbered (List Change))) (ns : List ℕ) → NamesOnly ids items → EachPass (has_id ids) (map (latest_changes items) ns)
side_names ids items [] named = tt
side_names ids items (n ∷ ns) named = (named n, side_names ids items ns named)

each_names : (P : ℕ → Bool) (ns : List ℕ) (cs : TableChanges) → EachPass P cs → EachAt (λ t c. AllPass P c) ns cs
each_names P [] cs pass = tt
each_names P (n ∷ ns) [] pass = tt
each_names P (n ∷ ns) (c ∷ cs) pass = (pass.0, each_names P ns cs pass.1)

pub put_names : (ids : List ℕ) (old items : List (Numbered (List Change))) (ns : List ℕ) (cs : TableChanges) → NamesOnly ids old → latest_changes items ≡ put (latest_changes old) ns cs → EachPass (has_id ids) cs → NamesOnly ids items
put_names ids old items ns cs named puts pass t =
    subst (λ (c : List Change). AllPass (has_id ids) c) (sym (ap (λ (f : ℕ → List Change). f t) puts))
    (put_holds (λ t c. AllPass (has_id ids) c) (latest_changes old) ns cs (each_names (has_id ids) ns cs pass) named t)

-- ---- one crossing

toward_local : (b : Bool) (m : Meaning) → m.is_local ≡ true → (toward b m).is_local ≡ true
toward_local false m e = e
toward_local true m e = e

-- it takes few steps
pub local_steps : {O : Type 0} (meaning : O → Meaning) (made : Changing) (p : Crossing O) (cs : TableChanges) (s e : ℕ) → cs ≡ map (latest_changes made.tables) p.near → ChangesWithin (toward p.backward (meaning p.operator)) cs s e → CrossesWithin meaning p made s e
local_steps meaning made p cs s e near within ids rise local named =
    let pass = subst (λ (x : TableChanges). EachPass (has_id ids) x) (sym near) (side_names ids made.tables p.near named) in
    let most = few_touched ids cs rise pass in
    let own = within (toward_local p.backward (meaning p.operator) local) in
    omega (arith, most, own)

-- and names no identifier more
pub local_names : {O : Type 0} (meaning : O → Meaning) (old : State) (made new : Changing) (p : Crossing O) (may : MayCrossBy meaning old made p) → Laws (meaning p.operator) → (cs : TableChanges)
    → AreDifferences (pair_in old p).target (to meaning old made p may).far cs → latest_changes new.tables ≡ put (latest_changes made.tables) p.far cs → CrossesOnly meaning p made new
local_names meaning old made new p may laws cs side puts ids local named =
    let half = way_laws p.backward (meaning p.operator) laws in
    let here = way_half p.backward (meaning p.operator) laws local in
    put_names ids made.tables new.tables p.far cs named puts
    (far_pass (directed p.backward (meaning p.operator)) half here (has_id ids) (map (latest_changes made.tables) p.near) (pair_in old p) made.ids.next (may_change meaning old made p may) (side_names ids made.tables p.near named) cs side)

-- ---- along a walk

-- after some crossings of a path the changes name these identifiers alone, and each crossing that is reached took few steps
abbrev pub NamedSoFar : {O : Type 0} → (O → Meaning) → List ℕ → List (Crossing O) → Changing → Changing → ℕ → ℕ → ℕ → Type 0
NamedSoFar meaning operators path start now i old s =
    ((ids : List ℕ) → AreLocal meaning (reached operators path) → NamesOnly ids start.tables → NamesOnly ids now.tables)
    × ((ids : List ℕ) → IdsRise 0 ids → AreLocal meaning (reached operators path) → NamesOnly ids start.tables → s ≤ old + 6 * (length ids * length (reached operators (take i path))))

module _ {O : Type 0} (meaning : O → Meaning) (operators : List ℕ) (path : List (Crossing O)) (start now : Changing) (i : ℕ) (old s : ℕ) (so_far : NamedSoFar meaning operators path start now i old s) where
  -- a crossing that is passed by
  pub named_passed : NamedSoFar meaning operators path start now (i + 1) old s
  named_passed = (so_far.0, λ ids rise local first. some_steps old (length ids) (length (reached operators (take i path))) (length (reached operators (take (i + 1) path))) s (so_far.1 ids rise local first) (reached_rises operators path i (i + 1) (omega arith)))

  -- all crossings
  pub all_within : CarriesWithinBy meaning (reached operators path) start old s
  all_within ids rise local first = some_steps old (length ids) (length (reached operators (take i path))) (length (reached operators path)) s (so_far.1 ids rise local first) (reached_first operators path i)

  module _ (d : Crossing O) (inside : i < length path) (own : is_in (get_or path i d).number operators ≡ true) (e : ℕ) (took : CrossesWithin meaning (get_or path i d) now s e) where
    local_at : AreLocal meaning (reached operators path) → (meaning (get_or path i d).operator).is_local ≡ true
    local_at local =
        each_at (λ (q : Crossing O). (meaning q.operator).is_local ≡ true) (reached operators path) (get_or path i d) (in_reached operators (get_or path i d) path (in_at path i d inside) own) local

    one_longer : length (reached operators (take (i + 1) path)) ≡ length (reached operators (take i path)) + 1
    one_longer = ap (λ (l : List (Crossing O)). length l) (reached_more operators path i d inside own) ∙ length_push (reached operators (take i path)) (get_or path i d)

    steps_more : (ids : List ℕ) → IdsRise 0 ids → AreLocal meaning (reached operators path) → NamesOnly ids start.tables → e ≤ old + 6 * (length ids * length (reached operators (take (i + 1) path)))
    steps_more ids rise local first =
        subst (λ (n : ℕ). e ≤ old + 6 * (length ids * n)) (sym one_longer)
        (one_step_more old (length ids) (length (reached operators (take i path))) s e (took ids rise (local_at local) (so_far.0 ids local first)) (so_far.1 ids rise local first))

    -- one crossing more
    pub named_more : (new : Changing) → CrossesOnly meaning (get_or path i d) now new → NamedSoFar meaning operators path start new (i + 1) old e
    named_more new names = (λ ids local first. names ids (local_at local) (so_far.0 ids local first), steps_more)

    -- a crossing that is refused is the last
    pub named_within : CarriesWithinBy meaning (reached operators path) start old e
    named_within ids rise local first = some_steps old (length ids) (length (reached operators (take (i + 1) path))) (length (reached operators path)) e (steps_more ids rise local first) (reached_first operators path (i + 1))
