-- One operator of a pass, by its place.
use Rattle.std.specs.Prelude.{◌<◌, ◌≤◌, slice_get}
use Rattle.std.proofs.Common.{◌≡◌, ℕ, ◌+◌, List, [], ◌++◌, Bool, true, false, not, cond, drop, length, take, Option, Some, None, refl, sym, ap, ◌∙◌, subst, arith}
use Rattle.std.proofs.lemmas.Bool.{and_from, and_parts, cond-false, cond-true, false≢true}
use Rattle.std.proofs.lemmas.List.{reverse-append, reverse-reverse, take-append-drop}
use mathlib.Core.List.{reverse}
use Rattle.row_store.specs.Rows.{Rows}
use Rattle.version_graph.specs.Sets.{In}
use Rattle.version_graph.specs.Edges.{AreEdges, Drawn, is_in}
use Rattle.version_graph.specs.Forest.{Link, crossing, forest}
use Rattle.version_graph.specs.declared.parts.Placed.{Placed}
use Rattle.version_graph.proofs.SetLaws.{in_of_test, is_in_true}
use Rattle.version_graph.proofs.WalkLaws.{is_forest}
use Rattle.layout_rules.specs.declared.layout.Layout.{Layout}
use Rattle.layout_rules.proofs.DownLaws.{below, below_all, below_next, below_past, link_listed}
use Rattle.layout_rules.proofs.LookupLaws.{not_off, not_on}
use Rattle.op_law.specs.Local.{rows_only}
use Rattle.op_law.specs.Meaning.{Meaning}
use Rattle.row_store.specs.States.{TableState}
use Rattle.version_model.specs.Kept.{rows_now}
use Rattle.version_model.specs.Making.{ascending}
use Rattle.version_model.specs.declared.numbered.Numbered.{Numbered}
use Rattle.version_model.proofs.AscendingLaws.{edge_there, some_there}
use Rattle.version_model.proofs.ToldLaws.{some_is}
use Rattle.version_model.proofs.CrossingLaws.{targets_linked}
use Rattle.version_model.proofs.MakingLaws.{stands_at}
use Rattle.storage_law.proofs.OrderLaws.{link_at, newer, next, split_at}
use Rattle.db_state.specs.Fields.{IsDatabase, state_for}
use Rattle.db_state.specs.declared.parts.Parts.{Parts}
use Rattle.db_state.specs.declared.read.Pass.{Pass}
use Rattle.db_state.specs.Covered.{CoversItself}
use Rattle.db_state.specs.Parts.{SeenWithin, passes, seen_of}
use Rattle.db_state.specs.declared.sight.Sight.{Sight}
use Rattle.db_state.specs.inner.Passes.{AreRead, PassesOver, IsDown, IsDownTo, IsUpTo, MayCross, MayPass, PassTakes, Passes, Settles, is_passed, passed_in}
use Rattle.db_state.proofs.BoundLaws.{passed_append, seen_fewer, seen_more}
use Rattle.db_state.proofs.PartLaws.{ascends_of, sees_of}
use Rattle.db_state.proofs.PassLaws.{all_right, down_step, near_down, near_up, up_step}
use Rattle.db_state.proofs.FoundLaws.{crosses}

module _ {O : Type 0} (es : List (Placed O)) (edges : AreEdges es) (layout ns : List ℕ) (covers : CoversItself (forest es) layout ns) (tables : ℕ → Rows) where
  -- it lives
  listed : (i : ℕ) (f : Link O) → slice_get (ascending es) i ≡ Some f → In f (forest es)
  listed i f here = link_listed es i f (sym here)

  -- ---- what a pass does with an operator

  -- its far tables were read, where the pass goes over it
  abbrev Goes : Bool → ℕ → (ℕ → Rows) → (ℕ → Rows) → Type 0
  Goes back i rows new = (f : Link O) → slice_get (ascending es) i ≡ Some f → Settles tables (cond (is_passed layout ns back f.number) (crossing back f).far []) rows new

  -- its near tables are right, where the pass goes over it
  abbrev MayGo : Bool → ℕ → (ℕ → Rows) → Type 0
  MayGo back i rows = (f : Link O) → slice_get (ascending es) i ≡ Some f → is_passed layout ns back f.number ≡ true → (t : ℕ) → In t (crossing back f).near → rows t ≡ tables t

  -- the pass down may go over the next operator
  pub may_down : (i : ℕ) (rows : ℕ → Rows) → IsDownTo (forest es) layout ns tables (below es (i + 1)) rows → MayGo true i rows
  may_down i rows down f here passed t j =
      let tests = and_parts (is_in f.number ns) (is_in f.number layout) passed in
      near_down (forest es) (is_forest es edges) layout ns covers tables (newer es (i + 1)) f (below es i) (split_at es i f here) rows (subst (λ (l : List (Link O)). IsDownTo (forest es) layout ns tables l rows) (next es i f here) down)
      (listed i f here) (in_of_test f.number layout tests.1) (in_of_test f.number ns tests.0) t j

  -- and then fewer are left
  pub goes_down : (i : ℕ) → i < length (ascending es) → (rows new : ℕ → Rows) → IsDownTo (forest es) layout ns tables (below es (i + 1)) rows → Goes true i rows new → IsDownTo (forest es) layout ns tables (below es i) new
  goes_down i within rows new down goes =
      let got = stands_at (ascending es) i within in
      let f = got.0 in
      down_step (forest es) (is_forest es edges) layout ns covers tables f (below es i) rows new (cond (is_passed layout ns true f.number) f.sources []) (listed i f got.1) (subst (λ (l : List (Link O)). IsDownTo (forest es) layout ns tables l rows) (next es i f got.1) down)
      (goes f got.1) (λ has mine. cond-true (is_passed layout ns true f.number) f.sources [] (and_from (is_in f.number ns) (is_in f.number layout) (is_in_true f.number ns mine) (is_in_true f.number layout has)))

  -- the pass up may go over the next operator
  pub may_up : (i : ℕ) (rows : ℕ → Rows) → IsUpTo (forest es) layout ns tables (below es i) rows → MayGo false i rows
  may_up i rows up f here passed t j =
      let tests = and_parts (is_in f.number ns) (not (is_in f.number layout)) passed in
      near_up (forest es) (is_forest es edges) layout ns covers tables (newer es (i + 1)) f (below es i) (split_at es i f here) rows up (listed i f here) (λ has. not_off (is_in f.number layout) tests.1 (is_in_true f.number layout has)) (in_of_test f.number ns tests.0) t j

  -- and then more are behind
  pub goes_up : (i : ℕ) → i < length (ascending es) → (rows new : ℕ → Rows) → IsUpTo (forest es) layout ns tables (below es i) rows → Goes false i rows new → IsUpTo (forest es) layout ns tables (below es (i + 1)) new
  goes_up i within rows new up goes =
      let got = stands_at (ascending es) i within in
      let f = got.0 in
      subst (λ (l : List (Link O)). IsUpTo (forest es) layout ns tables l new) (sym (next es i f got.1))
      (up_step (forest es) (is_forest es edges) layout ns covers tables f (below es i) rows new (cond (is_passed layout ns false f.number) f.targets []) up (goes f got.1)
      (λ off mine. cond-true (is_passed layout ns false f.number) f.targets [] (and_from (is_in f.number ns) (not (is_in f.number layout)) (is_in_true f.number ns mine) (not_on (is_in f.number layout) (λ is. off (in_of_test f.number layout is))))))

-- ---- what the call at a place supposes and ensures

-- the stored side of an operator is that from which its pass comes
stored_side : (b back : Bool) → cond back b (not b) ≡ true → b ≡ back
stored_side true true h = refl
stored_side false false h = refl
stored_side true false h = absurd (false≢true h)
stored_side false true h = absurd (false≢true h)

-- an edge is found in a graph that is the same
pub found_in : {O : Type 0} (g h : Drawn O) → g ≡ h → (i : ℕ) (o : Option (Placed O)) → o ≡ slice_get (reverse g.edges) i → o ≡ slice_get (reverse h.edges) i
found_in {O} g h same i o found = found ∙ ap (λ (d : Drawn O). slice_get (reverse d.edges) i) same

-- the test is that in a layout that is the same
pub tested : (l layout : Layout) → l ≡ layout → (operators : List ℕ) → operators ≡ l.operators → (pass : Pass) (n : ℕ) (result b : Bool) → result ≡ is_passed operators pass.operators.now pass.backward n → result ≡ b → is_passed layout.operators pass.operators.now pass.backward n ≡ b
tested l layout same operators stays pass n result b is gives =
    let there : operators ≡ layout.operators = stays ∙ ap (λ (x : Layout). x.operators) same in
    ap (λ (ks : List ℕ). is_passed ks pass.operators.now pass.backward n) (sym there) ∙ sym is ∙ gives

module _ {O : Type 0} (meaning : O → Meaning) (p : Parts O) (is : IsDatabase meaning p) (pass : Pass) (i : ℕ) (made : List (Numbered TableState)) where
  abbrev test : ℕ → Bool
  test n = is_passed p.layout.operators pass.operators.now pass.backward n

  -- nothing stands at the place
  pub passes_nothing : None ≡ slice_get (reverse p.graph.edges) i → Passes meaning p pass i made made
  passes_nothing none f here = absurd (some_there p.graph.edges i f here none)

  module _ (e : Placed O) (found : Some e ≡ slice_get (reverse p.graph.edges) i) where
    -- the link at the place has the edge's number
    same_number : (f : Link O) → slice_get (ascending p.graph.edges) i ≡ Some f → e.number ≡ f.number
    same_number f here =
        let there = edge_there p.graph.edges i f (Some e) here found in
        let same : e ≡ there.0 = some_is e there.0 there.1 in
        ap (λ (x : Placed O). x.number) same ∙ there.2

    -- the operator may be crossed
    pub may_cross : MayPass meaning p pass i made → test e.number ≡ true → MayCross meaning p pass.sight made (record { operator = e.number; backward = pass.backward })
    may_cross may passed =
        let l = link_at p.graph.edges i e found in
        let f = l.0 in
        let mine : test f.number ≡ true = subst (λ (n : ℕ). test n ≡ true) l.2 passed in
        let has = is_in f.number p.layout.operators in
        let tests = and_parts (is_in f.number pass.operators.now) (cond pass.backward has (not has)) mine in
        let back : has ≡ pass.backward = stored_side has pass.backward tests.1 in
        let at = link_listed p.graph.edges i f (sym l.1) in
        record {
          over = f;
          lives = at;
          crosses = crosses p.graph.edges is.graph.edges f at has;
          tells = ap (λ (n : ℕ). record { operator = n; backward = has }) (sym l.2) ∙ ap (λ (b : Bool). record { operator = e.number; backward = b }) back;
          near = λ t j. may.near f l.1 mine t (subst (λ (b : Bool). In t (crossing b f).near) back j);
          ascends = ascends_of meaning p.graph.edges (state_for meaning p) pass.operators.now pass.sight may.may;
          sees = sees_of meaning p.graph.edges (state_for meaning p) pass.operators.now pass.sight may.may f at (in_of_test f.number pass.operators.now tests.0);
        }

    -- the pass went over it
    pub passes_over : (new : List (Numbered TableState)) → test e.number ≡ true → PassesOver meaning p pass.sight made new (record { operator = e.number; backward = pass.backward }) → Passes meaning p pass i made new
    passes_over new passed crossed f here =
        let number = same_number f here in
        let at = link_listed p.graph.edges i f (sym here) in
        subst (λ (l : List ℕ). Settles (seen_of pass.sight (state_for meaning p).tables) l (seen_of pass.sight (rows_now p.stored made)) (seen_of pass.sight (rows_now p.stored new))) (sym (cond-true (test f.number) (crossing pass.backward f).far [] (subst (λ (n : ℕ). test n ≡ true) number passed)))
        (crossed (crossing pass.backward f) (crosses p.graph.edges is.graph.edges f at pass.backward) (ap (λ (n : ℕ). record { operator = n; backward = pass.backward }) (sym number)))

    -- what it took
    pub takes_over : (s t : ℕ) → test e.number ≡ true → SeenWithin 2 pass.sight 1 s t → PassTakes p pass i s t
    takes_over s t passed within f here =
        subst (λ (n : ℕ). SeenWithin 2 pass.sight n s t) (sym (cond-true (test f.number) 1 0 (subst (λ (n : ℕ). test n ≡ true) (same_number f here) passed))) within

    -- the pass leaves it
    pub passes_by : test e.number ≡ false → Passes meaning p pass i made made
    passes_by off f here =
        subst (λ (l : List ℕ). Settles (seen_of pass.sight (state_for meaning p).tables) l (seen_of pass.sight (rows_now p.stored made)) (seen_of pass.sight (rows_now p.stored made))) (sym (cond-false (test f.number) (crossing pass.backward f).far [] (subst (λ (n : ℕ). test n ≡ false) (same_number f here) off)))
        (record { kept = λ t h. h; right = λ t j. absurd j })

-- ---- the ends of the passes

module _ {O : Type 0} (meaning : O → Meaning) (p : Parts O) (is : IsDatabase meaning p) (ns : List ℕ) (sight : Sight) where
  abbrev state : ℕ → Rows
  state = seen_of sight (state_for meaning p).tables

  abbrev now : List (Numbered TableState) → ℕ → Rows
  now made = seen_of sight (rows_now p.stored made)

  -- nothing was read yet
  pub down_start : (left : ℕ) → left ≡ length p.graph.edges → (made : List (Numbered TableState)) → made ≡ [] → IsDownTo (forest p.graph.edges) p.layout.operators ns state (below p.graph.edges left) (now made)
  down_start left count made none =
      let start : IsDownTo (forest p.graph.edges) p.layout.operators ns state (forest p.graph.edges) (now []) = record {
        stored = λ t k. ap (λ (rows : Rows). rows_only (passes sight) rows) (is.stands.stored t k);
        sources = λ f i out. absurd (out i);
      } in
      subst (λ (l : List (Link O)). IsDownTo (forest p.graph.edges) p.layout.operators ns state l (now made)) (sym (below_all p.graph.edges left count))
      (subst (λ (m : List (Numbered TableState)). IsDownTo (forest p.graph.edges) p.layout.operators ns state (forest p.graph.edges) (now m)) (sym none) start)

  -- no operator is left
  pub down_end : (left : ℕ) → left ≤ 0 → (made : List (Numbered TableState)) → IsDownTo (forest p.graph.edges) p.layout.operators ns state (below p.graph.edges left) (now made) → IsDown meaning p ns sight made
  down_end left none made down =
      let zero_left : left ≡ 0 = omega (arith, none) in
      subst (λ (n : ℕ). IsDownTo (forest p.graph.edges) p.layout.operators ns state (below p.graph.edges n) (now made)) zero_left down

  -- all operators were passed
  pub up_end : (i count : ℕ) → count ≡ length p.graph.edges → count ≤ i → (made : List (Numbered TableState)) → IsUpTo (forest p.graph.edges) p.layout.operators ns state (below p.graph.edges i) (now made) → AreRead meaning p ns sight made
  up_end i count is_count past made up t j covered =
      let all = subst (λ (l : List (Link O)). IsUpTo (forest p.graph.edges) p.layout.operators ns state l (now made)) (below_past p.graph.edges i count is_count past) up in
      all_right (forest p.graph.edges) p.layout.operators ns state (now made) all t (subst (λ (l : List ℕ). In t l) (sym (targets_linked p.graph.edges is.graph.edges)) j) covered

-- ---- the steps of the passes

module _ {O : Type 0} (es : List (Placed O)) (layout ns : List ℕ) (back : Bool) where
  abbrev passed : List (Link O) → ℕ
  passed = passed_in layout ns back

  abbrev one : Link O → ℕ
  one f = cond (is_passed layout ns back f.number) 1 0

  -- those below a place are some of all
  below_few : (i : ℕ) → passed (below es i) ≤ passed (forest es)
  below_few i =
      let parts : forest es ≡ reverse (drop i (ascending es)) ++ below es i =
      sym (reverse-reverse (forest es)) ∙ sym (ap (λ (l : List (Link O)). reverse l) (take-append-drop i (ascending es))) ∙ reverse-append (take i (ascending es)) (drop i (ascending es)) in
      let sum = passed_append layout ns back (reverse (drop i (ascending es))) (below es i) in
      let all = ap passed parts in
      omega (arith, sum, all)

  below_more : (i : ℕ) (f : Link O) → slice_get (ascending es) i ≡ Some f → passed (below es (i + 1)) ≡ one f + passed (below es i)
  below_more i f here = ap passed (below_next es i (Some f) (sym here))

  -- on the way down, with those below a place left
  pub record WentDown (sight : Sight) (left s t : ℕ) : Type 0 where
    pub count : ℕ
    pub rest : count + passed (below es left) ≡ passed (forest es)
    pub within : SeenWithin 2 sight count s t

  pub down_more : (sight : Sight) (i s t u : ℕ) → i < length (ascending es) → WentDown sight (i + 1) s t
      → ((f : Link O) → slice_get (ascending es) i ≡ Some f → SeenWithin 2 sight (one f) t u) → WentDown sight i s u
  down_more sight i s t u within went takes =
      let got = stands_at (ascending es) i within in
      let f = got.0 in
      let rest = went.rest in
      let next = below_more i f got.1 in
      record {
        count = went.count + one f;
        rest = omega (arith, rest, next);
        within = seen_more 2 sight went.count (one f) s t u went.within (takes f got.1);
      }

  pub down_most : (sight : Sight) (left s t : ℕ) → WentDown sight left s t → SeenWithin 2 sight (passed (forest es)) s t
  down_most sight left s t went =
      let rest = went.rest in
      seen_fewer 2 sight went.count (passed (forest es)) s t (omega (arith, rest)) went.within

  -- on the way up
  pub up_more : (sight : Sight) (i s t u : ℕ) → i < length (ascending es) → SeenWithin 2 sight (passed (below es i)) s t
      → ((f : Link O) → slice_get (ascending es) i ≡ Some f → SeenWithin 2 sight (one f) t u) → SeenWithin 2 sight (passed (below es (i + 1))) s u
  up_more sight i s t u within went takes =
      let got = stands_at (ascending es) i within in
      let f = got.0 in
      let next = below_more i f got.1 in
      let sum = seen_more 2 sight (passed (below es i)) (one f) s t u went (takes f got.1) in
      seen_fewer 2 sight (passed (below es i) + one f) (passed (below es (i + 1))) s u (omega (arith, next)) sum

  pub up_most : (sight : Sight) (i s t : ℕ) → SeenWithin 2 sight (passed (below es i)) s t → SeenWithin 2 sight (passed (forest es)) s t
  up_most sight i s t went = seen_fewer 2 sight (passed (below es i)) (passed (forest es)) s t (below_few i) went
